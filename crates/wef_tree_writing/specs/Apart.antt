-- Namespaces that are told apart from those to which prefixes are bound: each is found by its digest where it is long.
use Rattle.std.specs.Prelude.{◌≡◌, ℕ, Bool, true, List, Option}
use Rattle.std.specs.List.{All}
use Rattle.wef_base.specs.declared.tree.Attribute.{Attribute}
use Rattle.wef_base.specs.declared.tree.Element.{Element}
use Rattle.wef_base.specs.declared.tree.Node.{Node}
use Rattle.wef_xml.specs.Told.{AreAttributesIn, IsElementIn, IsFound, IsNodeIn}
use Rattle.wef_xml.specs.declared.bindings.Binding.{Binding}

-- The namespaces of bindings have a property.
abbrev pub AreBoundIn : (List ℕ → Type 0) → List Binding → Type 0
AreBoundIn P bs = All (λ b. P b.space) bs

-- the same of bindings by levels
abbrev pub AreLevelsIn : (List ℕ → Type 0) → List (List Binding) → Type 0
AreLevelsIn P levels = All (λ level. AreBoundIn P level) levels

-- One function finds these namespaces and this one by their digests.
abbrev pub IsFoundBeside : List (List ℕ) → List ℕ → Type 0
IsFoundBeside spaces space = (find : List ℕ → Option (List ℕ)) × All (IsFound find) spaces × IsFound find space

abbrev pub IsToldBeside : Bool → List (List ℕ) → List ℕ → Type 0
IsToldBeside told spaces space = told ≡ true → IsFoundBeside spaces space

-- One function finds the namespaces of these bindings, and this one.
abbrev pub IsFoundAmong : List Binding → List ℕ → Type 0
IsFoundAmong bs space = (find : List ℕ → Option (List ℕ)) × AreBoundIn (IsFound find) bs × IsFound find space

abbrev pub IsToldAmong : Bool → List Binding → List ℕ → Type 0
IsToldAmong told bs space = told ≡ true → IsFoundAmong bs space

-- Where they are told: one function finds the namespaces of all levels, and this one.
abbrev pub IsToldIn : Bool → List (List Binding) → List ℕ → Type 0
IsToldIn told levels space = told ≡ true → (find : List ℕ → Option (List ℕ)) × AreLevelsIn (IsFound find) levels × IsFound find space

-- The same, and these other namespaces.
abbrev pub IsNewTold : Bool → List (List Binding) → List (List ℕ) → List ℕ → Type 0
IsNewTold told levels spaces space =
    told ≡ true → (find : List ℕ → Option (List ℕ)) × AreLevelsIn (IsFound find) levels × All (IsFound find) spaces × IsFound find space

-- the same of the namespaces of attributes
abbrev pub AreToldIn : Bool → List (List Binding) → List Attribute → Type 0
AreToldIn told levels attributes =
    told ≡ true → (find : List ℕ → Option (List ℕ)) × AreLevelsIn (IsFound find) levels × AreAttributesIn (IsFound find) attributes

-- the same of those of a node inside a default namespace, and of this one
abbrev pub IsNodeTold : Bool → List (List Binding) → List ℕ → Node → Type 0
IsNodeTold told levels default node =
    told ≡ true → (find : List ℕ → Option (List ℕ)) × AreLevelsIn (IsFound find) levels × IsFound find default × IsNodeIn (IsFound find) node

abbrev pub IsElementTold : Bool → List (List Binding) → List ℕ → Element → Type 0
IsElementTold told levels default e =
    told ≡ true → (find : List ℕ → Option (List ℕ)) × AreLevelsIn (IsFound find) levels × IsFound find default × IsElementIn (IsFound find) e
