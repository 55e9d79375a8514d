-- The expanded names of attributes: a local name and a namespace (Namespaces in XML 1.0, 2.1).
use Rattle.std.specs.Prelude.{◌≡◌, ℕ, List}
use Rattle.std.specs.declared.cmp.Ordering.{Ordering}
use Rattle.std.specs.Ordering.{nat_cmp, ordering_then}
use Rattle.std.specs.Cmp.Lexicographic.{slice_cmp}
use Rattle.std.specs.List.{list_any}
use Rattle.std.specs.BTreeSet.{BTreeSet, contains}
use Rattle.wef_base.specs.declared.tree.Attribute.{Attribute}
use Rattle.wef_xml.specs.Digests.{digest_cmp}
use Rattle.wef_xml.specs.Spaces.{is_attribute}

-- the order of expanded names: by local names, then by digests of the namespaces, and then by these
abbrev pub name_cmp : List ℕ × List ℕ → List ℕ × List ℕ → Ordering
name_cmp x y = ordering_then (slice_cmp nat_cmp x.0 y.0) (digest_cmp x.1 y.1)

-- a set holds the expanded names of these attributes, and no other
abbrev pub HasNamesOf : BTreeSet (List ℕ × List ℕ) → List Attribute → Type 0
HasNamesOf names attributes = (space name : List ℕ) → contains name_cmp names (name, space) ≡ list_any (is_attribute space name) attributes
