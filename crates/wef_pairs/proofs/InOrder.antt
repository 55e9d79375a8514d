-- Well-formed batches: each of their channels is in order, and ends by the batch's reach.
use Rattle.std.proofs.Common.{◌≡◌, ℕ, true, false, ◌&&◌, cond, List, [], ◌∷◌, ap, sym, ◌∙◌, Some, None, nat_le}
use Rattle.std.proofs.lemmas.Bool.{and_parts}
use Rattle.std.specs.FinMap as finite
use Rattle.std.specs.List.{list_all}
use Rattle.wef_base.specs.Names.{same}
use Rattle.wef_batch.specs.Reach.{last_in, loose_sum, reach, span_in}
use Rattle.wef_batch.specs.WellFormed.{ends_by, is_at_least, is_in, is_in_order, is_listed, is_well_formed, rises}
use Rattle.wef_batch.specs.declared.items.Batch.{Batch}
use Rattle.wef_batch.specs.declared.items.Item.{Item}
use Rattle.wef_batch.specs.declared.items.Item.TheVariants.{Event, Dropped, Loose}
use Rattle.wef_batch.proofs.Reached.{holds_in, items_are_reached}
use Rattle.wef_building.specs.Fits.{ranges_in}
use Rattle.wef_building.specs.Wanted.{EndBy}
use Rattle.wef_pairs.proofs.Numbered.{le_is}

pub in_order : (channels : List (List ℕ)) (batch : Batch) (c : List ℕ) → is_well_formed channels batch ≡ true → is_in channels c ≡ true → rises c None batch.items ≡ true
in_order channels batch c formed here =
    let first = and_parts (list_all (is_listed channels) batch.items && list_all (is_in_order batch) channels) (nat_le (loose_sum batch.items) 9223372036854775807) formed in
    let second = and_parts (list_all (is_listed channels) batch.items) (list_all (is_in_order batch) channels) first.0 in
    (and_parts (rises c None batch.items) (is_at_least (finite.get batch.to c) (last_in c batch.items)) (holds_in (is_in_order batch) channels c second.1 here)).0

ranges_end : (c : List ℕ) (t : ℕ) (items : List Item) → list_all (λ item. ends_by (Some t) (span_in c item)) items ≡ true → EndBy t (ranges_in c items)
ranges_end c t [] all = tt
ranges_end c t (Event e ∷ items) all = ranges_end c t items (and_parts (ends_by (Some t) (span_in c (Event e))) (list_all (λ item. ends_by (Some t) (span_in c item)) items) all).1
ranges_end c t (Dropped channel first last ∷ items) all =
    let parts = and_parts (ends_by (Some t) (span_in c (Dropped channel first last))) (list_all (λ item. ends_by (Some t) (span_in c item)) items) all in
    elim (same channel c) as (λ b. ends_by (Some t) (cond b (Some (first, last)) None) ≡ true → EndBy t (cond b ((first, last) ∷ ranges_in c items) (ranges_in c items))) [
      | true ↦ λ ends. (le_is last t ends, ranges_end c t items parts.1)
      | false ↦ λ ends. ranges_end c t items parts.1
    ] parts.0
ranges_end c t (Loose count ∷ items) all = ranges_end c t items all

-- the dropped ranges of a channel end at the batch's reach or before
pub ranges_reached : (channels : List (List ℕ)) (batch : Batch) (c : List ℕ) (t : ℕ) → is_well_formed channels batch ≡ true → is_in channels c ≡ true → reach c batch ≡ Some t →
    EndBy t (ranges_in c batch.items)
ranges_reached channels batch c t formed here is =
    ranges_end c t batch.items (ap (λ reached. list_all (λ item. ends_by reached (span_in c item)) batch.items) (sym is) ∙ items_are_reached channels batch c formed here)
