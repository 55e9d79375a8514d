-- What is read of channels above positions, channel by channel.
use Rattle.std.proofs.Common.{◌≡◌, ℕ, zero, suc, drop, ◌<◌, true, cond, List, [], ◌∷◌, max, refl, sym, subst, Some, nat_lt, arith}
use Rattle.std.specs.Prelude.{Option, IfSome}
use Rattle.std.specs.Cmp.Lexicographic.{nat_list_eq_equiv, slice_cmp}
use Rattle.std.specs.FinMap as map
use Rattle.std.specs.Ordering.{nat_cmp}
use Rattle.wef_base.specs.Names.{same}
use Rattle.wef_batch.specs.WellFormed.{is_in}
use Rattle.wef_bookmark.specs.Order.{Marks, number_at, raised}
use Rattle.wef_building.specs.Building.{with_reach}
use Rattle.wef_building.specs.Reading.{IsReadAbove, ReadsAbove}
use Rattle.wef_building.proofs.Cases.{by_test, either, lt_holds, one_name, or_true}
use Rattle.wef_building.proofs.Reaches.{get-raised_one}

pub reads_nothing : (positions : Marks) (channels : List (List ℕ)) → ReadsAbove positions channels map.empty
reads_nothing positions channels c = subst (λ (o : Option ℕ). IfSome o (IsReadAbove positions channels c)) (sym (map.get-empty (slice_cmp nat_cmp) c)) tt

-- a channel's reach more, where it is above the position
pub reads_further : (positions to : Marks) (channels : List (List ℕ)) (c : List ℕ) (n : ℕ) → is_in channels c ≡ true → ReadsAbove positions channels to → ReadsAbove positions channels (with_reach positions to (c, n))
reads_further positions to channels c n listed reads d =
    by_test (λ t. nat_lt (number_at positions c) n ≡ t → IfSome (map.get (cond t (raised to c n) to) d) (IsReadAbove positions channels d)) (nat_lt (number_at positions c) n)
    (λ _ over.
    subst (λ (o : Option ℕ). IfSome o (IsReadAbove positions channels d)) (sym (get-raised_one to c n d))
    (by_test (λ t. same d c ≡ t → IfSome (cond t (Some (max (number_at to c) n)) (map.get to d)) (IsReadAbove positions channels d)) (same d c)
    (λ _ is. subst (λ (x : List ℕ). IsReadAbove positions channels x (max (number_at to c) n)) (sym (one_name d c is)) (listed, higher (lt_holds (number_at positions c) n over)))
    (λ _ _. reads d)
    refl))
    (λ _ _. reads d)
    refl
  where
    higher : number_at positions c < n → number_at positions c < max (number_at to c) n
    higher over = omega arith

-- a channel of a list is in it
pub item_in : (channels rest : List (List ℕ)) (index : ℕ) (c : List ℕ) → drop index channels ≡ c ∷ rest → is_in channels c ≡ true
item_in [] rest zero c e = cc
item_in [] rest (suc index) c e = cc
item_in (d ∷ channels) rest zero c e = let same_one : d ≡ c = cc in either (same d c) (is_in channels c) (subst (λ (x : List ℕ). same x c ≡ true) (sym same_one) (nat_list_eq_equiv.refl c))
item_in (d ∷ channels) rest (suc index) c e = or_true (same d c) (is_in channels c) (item_in channels rest index c e)
