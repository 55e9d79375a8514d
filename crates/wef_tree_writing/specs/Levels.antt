-- Bindings by levels: a level has those that one element makes, in their order; the innermost level comes first.
use Rattle.std.specs.Prelude.{◌≡◌, ℕ, Bool, false, ◌&&◌, is_some, List, [], ◌∷◌, Option, Some, None, if◌then◌else◌}
use Rattle.std.specs.Ordering.{nat_cmp}
use Rattle.std.specs.Cmp.Lexicographic.{slice_cmp}
use Rattle.std.specs.List.{list_any}
use Rattle.std.specs.BTreeMap.{BTreeMap, get}
use Rattle.std.specs.BTreeSet.{BTreeSet, contains}
use Rattle.std.specs.FinMap as map
use Rattle.wef_base.specs.Digests.{digest_of, is_long}
use Rattle.wef_base.specs.Names.{same}
use Rattle.wef_xml.specs.Prefixes.{bound_by, unless_bound}
use Rattle.wef_xml.specs.declared.bindings.Binding.{Binding}

-- the bindings of all levels, the innermost first
abbrev pub all_of : List (List Binding) → List Binding
all_of [] = []
all_of (level ∷ outer) = bound_by (all_of outer) level

-- texts by texts
abbrev pub Texts : Type 0
Texts = map.FinMap (slice_cmp nat_cmp) (List ℕ)

-- the prefix of the innermost binding of a namespace, whether or not it is bound again further in
abbrev pub innermost : List Binding → List ℕ → Option (List ℕ)
innermost [] space = None
innermost (b ∷ bs) space = if same b.space space then Some b.prefix else innermost bs space

-- whether a namespace is long, and has this digest
abbrev pub has_digest : List ℕ → List ℕ → Bool
has_digest digest space = is_long space && same (digest_of space) digest

-- the prefix of the innermost binding of a long namespace with this digest
abbrev pub innermost_long : List Binding → List ℕ → Option (List ℕ)
innermost_long [] digest = None
innermost_long (b ∷ bs) digest = if has_digest digest b.space then Some b.prefix else innermost_long bs digest

-- the namespace that a prefix stands for
abbrev pub bound_to : List Binding → List ℕ → Option (List ℕ)
bound_to [] prefix = None
bound_to (b ∷ bs) prefix = if same b.prefix prefix then Some b.space else bound_to bs prefix

-- A map has the innermost prefix of each namespace; another has it of each long one, by its digest; a third has what each
-- prefix stands for.
abbrev pub HasPrefixes : Texts → List Binding → Type 0
HasPrefixes prefixes bs = (space : List ℕ) → map.get prefixes space ≡ innermost bs space

abbrev pub HasDigests : BTreeMap (List ℕ) (List ℕ) → List Binding → Type 0
HasDigests digests bs = (digest : List ℕ) → get (slice_cmp nat_cmp) digests digest ≡ innermost_long bs digest

abbrev pub HasSpaces : Texts → List Binding → Type 0
HasSpaces spaces bs = (prefix : List ℕ) → map.get spaces prefix ≡ bound_to bs prefix

-- the prefix of a namespace in bindings around which it has a prefix or none
abbrev pub prefix_around : Option (List ℕ) → List Binding → List ℕ → Option (List ℕ)
prefix_around outside [] space = outside
prefix_around outside (b ∷ bs) space = if same b.space space then Some b.prefix else unless_bound b.prefix (prefix_around outside bs space)

-- whether what a prefix stands for is this namespace
abbrev pub is_space : Option (List ℕ) → List ℕ → Bool
is_space None space = false
is_space (Some found) space = same found space

-- a prefix that stands for this namespace in these bindings
abbrev pub if_bound_to : List Binding → List ℕ → List ℕ → Option (List ℕ)
if_bound_to bs space prefix = if is_space (bound_to bs prefix) space then Some prefix else None

-- a prefix that none of these bindings binds
abbrev pub unless_any_binds : List Binding → Option (List ℕ) → Option (List ℕ)
unless_any_binds bs None = None
unless_any_binds bs (Some prefix) = if is_some (bound_to bs prefix) then None else Some prefix

-- a set holds these texts, and no other
abbrev pub HasTexts : BTreeSet (List ℕ) → List (List ℕ) → Type 0
HasTexts set texts = (text : List ℕ) → contains (slice_cmp nat_cmp) set text ≡ list_any (same text) texts

-- a set holds the digests of the long ones among these namespaces, and no other
abbrev pub HasDigestsOf : BTreeSet (List ℕ) → List (List ℕ) → Type 0
HasDigestsOf set spaces = (digest : List ℕ) → contains (slice_cmp nat_cmp) set digest ≡ list_any (has_digest digest) spaces
