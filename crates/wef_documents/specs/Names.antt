-- A set of names beside the sources that they are of.
use Rattle.std.specs.Prelude.{◌≡◌, ℕ, List}
use Rattle.std.specs.BTreeSet.{BTreeSet, contains}
use Rattle.std.specs.Cmp.Lexicographic.{slice_cmp}
use Rattle.std.specs.Ordering.{nat_cmp}
use Rattle.std.specs.declared.cmp.Ordering.{Ordering}
use Rattle.wef_eventing.specs.declared.subscriptions.SourceAt.{SourceAt}
use Rattle.wef_documents.specs.Sources.{has_source}

-- the order of names
abbrev pub name_cmp : List ℕ → List ℕ → Ordering
name_cmp = slice_cmp nat_cmp

-- a set holds the names of these sources, and no other
abbrev pub HasNamesOf : BTreeSet (List ℕ) → List SourceAt → Type 0
HasNamesOf names sources = (name : List ℕ) → contains name_cmp names name ≡ has_source name sources
