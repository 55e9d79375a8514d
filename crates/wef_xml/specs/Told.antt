-- Trees whose namespaces are told apart by their digests.
use Rattle.std.specs.Prelude.{◌≡◌, ℕ, Bool, true, List, [], ◌∷◌, Option, Some}
use Rattle.std.specs.List.{All}
use Rattle.wef_base.specs.Digests.{digest_of, is_long}
use Rattle.wef_base.specs.declared.tree.Attribute.{Attribute}
use Rattle.wef_base.specs.declared.tree.Element.{Element}
use Rattle.wef_base.specs.declared.tree.Node.{Node, Chars, Element', Row_of-Node, end_of-Node, more_of-Node}

-- The namespaces of attributes have a property.
abbrev pub AreAttributesIn : (List ℕ → Type 0) → List Attribute → Type 0
AreAttributesIn P attributes = All (λ a. P a.space) attributes

-- The namespaces of a node and of all elements in it, and of their attributes, have a property.
abbrev mutual
  pub IsNodeIn : (List ℕ → Type 0) → Node → Type 0
  IsNodeIn P (Chars text) = Unit {0}
  IsNodeIn P (Element' space name attributes shape row) = P space × AreAttributesIn P attributes × IsRowIn P row

  pub IsRowIn : (List ℕ → Type 0) → {m : _} → Row_of-Node m → Type 0
  IsRowIn P end_of-Node = Unit {0}
  IsRowIn P (more_of-Node n rest) = IsNodeIn P n × IsRowIn P rest

abbrev pub AreNodesIn : (List ℕ → Type 0) → List Node → Type 0
AreNodesIn P [] = Unit {0}
AreNodesIn P (n ∷ ns) = IsNodeIn P n × AreNodesIn P ns

abbrev pub IsElementIn : (List ℕ → Type 0) → Element → Type 0
IsElementIn P e = P e.space × AreAttributesIn P e.attributes × AreNodesIn P e.children

-- A long namespace is the one that is found by its digest.
abbrev pub IsFound : (List ℕ → Option (List ℕ)) → List ℕ → Type 0
IsFound find space = is_long space ≡ true → find (digest_of space) ≡ Some space

-- Where a tree is told, no two long namespaces in it have one digest.
abbrev pub IsTold : Bool → Element → Type 0
IsTold told root = told ≡ true → (find : List ℕ → Option (List ℕ)) × IsElementIn (IsFound find) root

-- Where they are told apart, two long namespaces of one digest are the same.
abbrev pub AreTold : Bool → List ℕ → List ℕ → Type 0
AreTold told x y = told ≡ true → is_long x ≡ true → is_long y ≡ true → digest_of x ≡ digest_of y → x ≡ y
