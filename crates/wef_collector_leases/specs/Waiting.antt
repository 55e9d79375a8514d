-- Requests that wait for their answers, at most one for a subscription and a source.
use Rattle.std.specs.Prelude.{ℕ, ◌==◌, cond, Bool, ◌&&◌, List, [], ◌∷◌, Option}
use Rattle.std.specs.Cmp.Lexicographic.{slice_cmp}
use Rattle.std.specs.List.{AllByRecursion, find, list_any}
use Rattle.std.specs.List.Sorted.{IsStrictlySortedBy}
use Rattle.std.specs.Ordering.{nat_cmp, on, then_cmp, is_le}
use Rattle.std.specs.declared.cmp.Ordering.{Ordering}
use Rattle.std.specs.declared.cmp.Ordering.TheVariants.{Less, Equal, Greater}
use Rattle.wef_base.specs.Names.{same}
use Rattle.wef_collector_leases.specs.Leases.{IsXmlWish}
use Rattle.wef_collector_leases.specs.declared.waiting.Waiting.{Waiting}

-- requests go by the bytes of the subscription's name, and then by those of the source's
abbrev pub pair_cmp : Waiting → Waiting → Ordering
pair_cmp = then_cmp (on (λ w. w.sub) (slice_cmp nat_cmp)) (on (λ w. w.source) (slice_cmp nat_cmp))

-- each wish has an identifier that XML allows
abbrev pub AreXmlWishes : List Waiting → Type 0
AreXmlWishes waiting = AllByRecursion (λ (w : Waiting). IsXmlWish w.wants) waiting

-- each pair of a subscription and a source is below the next one
abbrev pub AreInOrder : List Waiting → Type 0
AreInOrder waiting = IsStrictlySortedBy pair_cmp waiting

abbrev pub is_of : List ℕ → List ℕ → Waiting → Bool
is_of u s w = same w.sub u && same w.source s

-- whether one waits for a subscription and a source
abbrev pub is_waiting : List Waiting → List ℕ → List ℕ → Bool
is_waiting waiting u s = list_any (is_of u s) waiting

-- whether a request's place is that of another, or in front of it
abbrev pub stands_at : Waiting → Waiting → Bool
stands_at new w = is_le (pair_cmp new w)

-- a request at its place: before the first of these, in its place, or behind it
abbrev pub placed : Ordering → Waiting → Waiting → List Waiting → List Waiting → List Waiting
placed Less new w ws rest = new ∷ w ∷ ws
placed Equal new w ws rest = new ∷ ws
placed Greater new w ws rest = w ∷ rest

-- with one more at its place, in place of one for its subscription and source
abbrev pub with_waiting : List Waiting → Waiting → List Waiting
with_waiting [] new = new ∷ []
with_waiting (w ∷ ws) new = placed (pair_cmp new w) new w ws (with_waiting ws new)

abbrev pub has_id : ℕ → Waiting → Bool
has_id id w = w.id == id

-- the first that has an id; several may have it once an end has drawn its last
abbrev pub first_of : ℕ → List Waiting → Option Waiting
first_of id waiting = find (has_id id) waiting

-- without that one
abbrev pub without_first : ℕ → List Waiting → List Waiting
without_first id [] = []
without_first id (w ∷ ws) = cond (has_id id w) ws (w ∷ without_first id ws)
