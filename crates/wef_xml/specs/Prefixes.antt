-- Which prefixes a written tree uses. A root of the SOAP namespace declares nine, which elements and attributes of their
-- namespaces use; other elements have no prefix, and declare a default namespace where another is in force. An attribute
-- whose namespace has no prefix in scope gets `p1`, `p2` and so on, anew on each element. The prefix `xml` is never
-- declared.
use Rattle.std.specs.Prelude.{ℕ, zero, suc, Bool, false, ◌&&◌, not, is_some, List, [], ◌∷◌, ◌++◌, length, Option, Some, None, codes, if◌then◌else◌}
use Rattle.std.specs.Fmt.{digits_onto}
use Rattle.std.specs.List.{list_any}
use Rattle.std.specs.Option.{option_to_list}
use Rattle.wef_base.specs.Names.{same}
use Rattle.wef_base.specs.declared.tree.Attribute.{Attribute}
use Rattle.wef_xml.specs.Spaces.{is_empty, is_xml_space}
use Rattle.wef_xml.specs.declared.bindings.Binding.{Binding}
use Rattle.wef_xml.specs.declared.messages.TheConstants.{SOAP, ADDRESSING, EVENTING, ENUMERATION, MANAGEMENT, WINDOWS, SUBSCRIPTION, MACHINE, PROFILE}

-- What is in force where an element is written: the default namespace, whether the root declared the nine prefixes, and
-- the prefixes that stand for a namespace, the innermost first.
pub record Scope : Type 0 where
  pub default : List ℕ
  pub soap : Bool
  pub bound : List Binding

unfoldable pub soap_space : List ℕ
soap_space = SOAP.now

unfoldable pub is_soap : List ℕ → Bool
is_soap space = same space soap_space

-- the nine prefixes, in the order in which the root declares them
unfoldable pub nine : List Binding
nine =
    record { prefix = codes "s"; space = soap_space } ∷
    record { prefix = codes "a"; space = ADDRESSING.now } ∷
    record { prefix = codes "e"; space = EVENTING.now } ∷
    record { prefix = codes "n"; space = ENUMERATION.now } ∷
    record { prefix = codes "w"; space = MANAGEMENT.now } ∷
    record { prefix = codes "p"; space = WINDOWS.now } ∷
    record { prefix = codes "m"; space = SUBSCRIPTION.now } ∷
    record { prefix = codes "i"; space = MACHINE.now } ∷
    record { prefix = codes "u"; space = PROFILE.now } ∷ []

-- what the root declares besides its own needs
abbrev pub root_bindings : List ℕ → List Binding
root_bindings space = if is_soap space then nine else []

-- bindings further in than those so far
abbrev pub bound_by : List Binding → List Binding → List Binding
bound_by bound [] = bound
bound_by bound (b ∷ bs) = bound_by (b ∷ bound) bs

-- around the root
abbrev pub outermost : List ℕ → Scope
outermost space = record { default = []; soap = is_soap space; bound = bound_by [] (root_bindings space) }

-- a prefix, unless it is bound further in to another namespace
abbrev pub unless_bound : List ℕ → Option (List ℕ) → Option (List ℕ)
unless_bound prefix None = None
unless_bound prefix (Some found) = if same prefix found then None else Some found

-- the innermost prefix that is bound to a namespace
abbrev pub prefix_of : List Binding → List ℕ → Option (List ℕ)
prefix_of [] space = None
prefix_of (b ∷ bs) space = if same b.space space then Some b.prefix else unless_bound b.prefix (prefix_of bs space)

-- the prefix of an element, if it has one
abbrev pub element_prefix : Bool → List ℕ → Option (List ℕ)
element_prefix soap space =
    if is_xml_space space then Some (codes "xml")
    else (if soap then prefix_of nine space else None)

-- the prefix of an attribute, if it has one
abbrev pub attribute_prefix : List Binding → List ℕ → Option (List ℕ)
attribute_prefix bound space =
    if is_empty space then None
    else (if is_xml_space space then Some (codes "xml") else prefix_of bound space)

-- whether an attribute of a namespace needs a prefix that isn't there yet
abbrev pub needs_prefix : List Binding → List ℕ → Bool
needs_prefix bound space = not (is_empty space) && not (is_xml_space space) && not (is_some (prefix_of bound space))

-- some namespaces, each once, with one more that needs a prefix
abbrev pub with_space : List Binding → List (List ℕ) → List ℕ → List (List ℕ)
with_space bound spaces space = if needs_prefix bound space && not (list_any (same space) spaces) then spaces ++ space ∷ [] else spaces

-- the namespaces that the attributes of an element need prefixes for, each once, in their order, behind those so far
abbrev pub new_spaces : List Binding → List (List ℕ) → List Attribute → List (List ℕ)
new_spaces bound spaces [] = spaces
new_spaces bound spaces (a ∷ more) = new_spaces bound (with_space bound spaces a.space) more

-- the prefixes that the attributes of an element take from outside
abbrev pub outer_prefixes : List Binding → List Attribute → List (List ℕ)
outer_prefixes bound [] = []
outer_prefixes bound (a ∷ more) = option_to_list (prefix_of bound a.space) ++ outer_prefixes bound more

-- a number in decimal digits, however many
unfoldable pub in_digits : ℕ → List ℕ
in_digits n = digits_onto (suc n) 10 false n []

-- p1, p2 and so on
abbrev pub numbered_prefix : ℕ → List ℕ
numbered_prefix n = 112 ∷ in_digits n

-- the first number from n on whose prefix isn't taken, of so many more
abbrev pub next_free : ℕ → List (List ℕ) → ℕ → ℕ
next_free zero taken n = n
next_free (suc more) taken n = if list_any (same (numbered_prefix n)) taken then next_free more taken (suc n) else n

-- a binding of each namespace, numbered from n on
abbrev pub bindings_from : List (List ℕ) → ℕ → List (List ℕ) → List Binding
bindings_from taken n [] = []
bindings_from taken n (space ∷ spaces) =
    let free = next_free (length taken) taken n in
    record { prefix = numbered_prefix free; space = space } ∷ bindings_from taken (suc free) spaces

-- what an element declares for its attributes
abbrev pub new_bindings : List Binding → List Attribute → List Binding
new_bindings bound attributes = bindings_from (outer_prefixes bound attributes) 1 (new_spaces bound [] attributes)

-- what is in force inside an element
abbrev pub inside : Scope → List ℕ → List Attribute → Scope
inside scope space attributes = record {
  default = (if is_some (element_prefix scope.soap space) then scope.default else space);
  soap = scope.soap;
  bound = bound_by scope.bound (new_bindings scope.bound attributes);
}
