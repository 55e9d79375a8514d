-- Rows as a finite map from keys to cells: their order, how changes act on them, and what stands behind a key.
use Rattle.std.specs.Prelude.{◌≡◌, refl, ◌||◌, Bool, false, cond, List, [], ◌∷◌, map, Option, Some, None}
use Rattle.std.specs.Cmp.{IsTotalOrder, on_total, then_total, nat_cmp_total}
use Rattle.std.specs.Cmp.Lexicographic.{slice_cmp, nat_list_cmp_total}
use Rattle.std.specs.FinMap as finite
use Rattle.std.specs.FinMap.{FinMap, IsAntisymmetric, nat_cmp-IsAntisymmetric, slice_cmp-IsAntisymmetric}
use Rattle.std.specs.List.{filter}
use Rattle.std.specs.Ordering.{nat_cmp, on, then_cmp, ordering_then, is_lt, eq_by_cmp}
use Rattle.std.specs.declared.cmp.Ordering.{Ordering}
use Rattle.std.specs.declared.cmp.Ordering.TheVariants.{Less, Equal, Greater}
use Rattle.wef_keeper.specs.declared.keys.Cell.{Cell}
use Rattle.wef_keeper.specs.declared.keys.Change.{Change}
use Rattle.wef_keeper.specs.declared.keys.Change.TheVariants.{Put, Delete}
use Rattle.wef_keeper.specs.declared.keys.Key.{Key}
use Rattle.wef_keeper.specs.declared.keys.Row.{Row}

-- keys go by kind, then by the bytes of subscription, source and channel, then by number
abbrev pub key_cmp : Key → Key → Ordering
key_cmp =
    then_cmp (on (λ k. k.kind) nat_cmp)
    (then_cmp (on (λ k. k.sub) (slice_cmp nat_cmp))
    (then_cmp (on (λ k. k.source) (slice_cmp nat_cmp))
    (then_cmp (on (λ k. k.channel) (slice_cmp nat_cmp)) (on (λ k. k.number) nat_cmp))))

-- the rows as a value: what stands at each key
abbrev pub Rows : Type 0
Rows = FinMap key_cmp Cell

-- what stands at a row's key where the row stands
abbrev pub cell_of_row : Row → Cell
cell_of_row row = record { value = row.value; body = row.body }

-- the row of a key and what stands at it
abbrev pub row_of : Key × Cell → Row
row_of entry = record { key = entry.0; value = entry.1.value; body = entry.1.body }

-- the rows after one change
abbrev pub changed : Change → Rows → Rows
changed (Put row) rows = finite.insert rows row.key (cell_of_row row)
changed (Delete key) rows = finite.remove rows key

-- the rows after all changes, the first change first
abbrev pub applied : List Change → Rows → Rows
applied [] rows = rows
applied (change ∷ changes) rows = applied changes (changed change rows)

-- whether a key is greater than another
abbrev pub is_after : Key → Key → Bool
is_after after key = is_lt (key_cmp after key)

-- the rows behind a key, in the order of their keys
abbrev pub rows_after : Key → Rows → List Row
rows_after after rows = map row_of (filter (λ entry. is_after after entry.0) (finite.entries rows))

-- the key that a change names
abbrev pub key_of : Change → Key
key_of (Put row) = row.key
key_of (Delete key) = key

-- what a change puts at its key
abbrev pub cell_of : Change → Option Cell
cell_of (Put row) = Some (cell_of_row row)
cell_of (Delete key) = None

-- whether a change of the list names a key
abbrev pub is_named : List Change → Key → Bool
is_named [] key = false
is_named (change ∷ changes) key = eq_by_cmp key_cmp (key_of change) key || is_named changes key

-- what stands at a key after all changes, where `cell` stood there before: the last change that names the key decides
abbrev pub found_after : List Change → Key → Option Cell → Option Cell
found_after [] key cell = cell
found_after (change ∷ changes) key cell = found_after changes key (cond (eq_by_cmp key_cmp (key_of change) key) (cell_of change) cell)

pub key_cmp_total : IsTotalOrder key_cmp
key_cmp_total =
    then_total (on_total (λ k. k.kind) nat_cmp_total)
    (then_total (on_total (λ k. k.sub) nat_list_cmp_total)
    (then_total (on_total (λ k. k.source) nat_list_cmp_total)
    (then_total (on_total (λ k. k.channel) nat_list_cmp_total) (on_total (λ k. k.number) nat_cmp_total))))

-- where an order and then another tie two things, each of them does
both_tie : (r s : Ordering) → ordering_then r s ≡ Equal → (r ≡ Equal) × (s ≡ Equal)
both_tie Less s e = cc
both_tie Equal s e = (refl, e)
both_tie Greater s e = cc

-- only equal keys tie
pub key_cmp_exact : IsAntisymmetric key_cmp
key_cmp_exact x y e =
    let kind = both_tie (nat_cmp x.kind y.kind) _ e in
    let sub = both_tie (slice_cmp nat_cmp x.sub y.sub) _ kind.1 in
    let source = both_tie (slice_cmp nat_cmp x.source y.source) _ sub.1 in
    let channel = both_tie (slice_cmp nat_cmp x.channel y.channel) (nat_cmp x.number y.number) source.1 in
    λ i. record {
      kind = nat_cmp-IsAntisymmetric x.kind y.kind kind.0 i;
      sub = slice_cmp-IsAntisymmetric nat_cmp-IsAntisymmetric x.sub y.sub sub.0 i;
      source = slice_cmp-IsAntisymmetric nat_cmp-IsAntisymmetric x.source y.source source.0 i;
      channel = slice_cmp-IsAntisymmetric nat_cmp-IsAntisymmetric x.channel y.channel channel.0 i;
      number = nat_cmp-IsAntisymmetric x.number y.number channel.1 i;
    }
