-- A front part of what is to be said of a channel fits up to where it goes.
use Rattle.std.proofs.Common.{◌≡◌, ℕ, ◌<◌, ◌≤◌, Bool, true, false, not, ◌&&◌, ◌||◌, cond, List, ◌++◌, length, refl, ap, sym, ◌∙◌, None, arith, nat_le, nat_lt}
use Rattle.std.proofs.lemmas.Bool.Decides.{nat_tests}
use Rattle.std.specs.Prelude.{Option}
use Rattle.wef_batch.specs.declared.items.Item.{Item}
use Rattle.wef_query.specs.declared.QueryList.{QueryList}
use Rattle.wef_source_log.specs.Histories.{History}
use Rattle.wef_building.specs.Fits.{FitsUpTo, event_at, ranges_in}
use Rattle.wef_building.specs.Wanted.{IsLost, in_ranges, selected_at}
use Rattle.wef_building.proofs.Cases.{by_test, le_fails, le_holds}
use Rattle.wef_building.proofs.Items.{ItemsEndBy, Ordered, event_in_front, in_ranges-append, no_event_above, no_event_below, no_range_below}

-- what items have of a number that a query selects, but for ranges
abbrev pub unless_dropped : Bool → Option (List ℕ) → Option (List ℕ)
unless_dropped dropped text = cond dropped None text

-- Items say of a channel's history, above a position, all that a query selects, and drop only what is lost.
pub record Says (query : QueryList) (max_bytes : ℕ) (c : List ℕ) (records : History) (capacity p : ℕ) (items : List Item) : Type 0 where
  pub ordered : Ordered c p items
  pub ends : ItemsEndBy (length records) items
  pub exact : (n : ℕ) → p < n → event_at c n items ≡ unless_dropped (in_ranges (ranges_in c items) n) (selected_at query c records n)
  pub lost : (n : ℕ) → in_ranges (ranges_in c items) n ≡ true → IsLost query max_bytes c records capacity n

turned : (dropped : Bool) (text : Option (List ℕ)) → cond dropped None text ≡ cond (not dropped) text None
turned true text = refl
turned false text = refl

or_first : (a b : Bool) → a ≡ true → (a || b) ≡ true
or_first true b e = refl
or_first false b e = cc

or_none : (a b : Bool) → b ≡ false → (a || b) ≡ a
or_none true b e = refl
or_none false b e = e

is_above : (b n : ℕ) → b < n → nat_lt b n ≡ true
is_above b n over = grind (arith, nat_tests)

-- items that a row begins with fit up to a number that they don't pass, and that the rest of the row is above
pub cut_fits : (query : QueryList) (max_bytes : ℕ) (c : List ℕ) (records : History) (capacity p b t : ℕ) (front back : List Item)
    → Says query max_bytes c records capacity p (front ++ back) → ItemsEndBy t front → Ordered c t back → t ≤ length records → p ≤ b
    → FitsUpTo query max_bytes c records capacity b front t
cut_fits query max_bytes c records capacity p b t front back says ends above within up = record {
  within = within;
  exact = λ n over.
      by_test (λ x. nat_le n t ≡ x → event_at c n front ≡ cond (x && not (in_ranges (ranges_in c front) n)) (selected_at query c records n) None) (nat_le n t)
      (λ _ here.
      let reached = le_holds n t here in
      sym (event_in_front c n front back (no_event_below c t n back above reached))
      ∙ says.exact n (omega arith)
      ∙ ap (λ x. cond x None (selected_at query c records n)) (in_ranges-append c n front back ∙ or_none _ _ (no_range_below c t n back above reached))
      ∙ turned (in_ranges (ranges_in c front) n) (selected_at query c records n))
      (λ _ past. no_event_above c t n front ends (le_fails n t past))
      refl
      ∙ ap (λ x. cond (x && nat_le n t && not (in_ranges (ranges_in c front) n)) (selected_at query c records n) None) (sym (is_above b n over));
  lost = λ n dropped. says.lost n (in_ranges-append c n front back ∙ or_first _ _ dropped);
}
