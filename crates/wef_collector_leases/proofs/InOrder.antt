-- Requests that wait stay in order.
use Rattle.std.proofs.Common.{◌≡◌, ℕ, cond, true, false, List, [], ◌∷◌, refl, ap, ◌∙◌, sym, subst}
use Rattle.std.specs.Prelude.{Option, Some, IfSome}
use Rattle.std.specs.Cmp.{IsTotalOrder, on_total, then_total}
use Rattle.std.specs.Cmp.Lexicographic.{nat_list_cmp_total}
use Rattle.std.specs.List.{AllByRecursion}
use Rattle.std.specs.List.Sorted.{IsStrictlySortedBy}
use Rattle.std.specs.Ordering.{ordering_reverse}
use Rattle.std.specs.declared.cmp.Ordering.TheVariants.{Less, Equal, Greater}
use Rattle.wef_collector_leases.specs.Leases.{IsXmlWish}
use Rattle.wef_collector_leases.specs.Waiting.{AreInOrder, AreXmlWishes, first_of, has_id, pair_cmp, placed, with_waiting, without_first}
use Rattle.wef_collector_leases.specs.declared.waiting.Waiting.{Waiting}

pair_total : IsTotalOrder pair_cmp
pair_total = then_total (on_total (λ w. w.sub) nat_list_cmp_total) (on_total (λ w. w.source) nat_list_cmp_total)

pub none_in_order : AreInOrder []
unfolding IsStrictlySortedBy
none_in_order = tt

abbrev AllAbove : Waiting → List Waiting → Type 0
AllAbove x ws = AllByRecursion (λ y. pair_cmp x y ≡ Less) ws

-- below each, if below the first of these in order, or tied with what is below them
below_rest : (x w : Waiting) (ws : List Waiting) → pair_cmp x w ≡ Less → AllAbove w ws → AllAbove x ws
below_rest x w [] e above = tt
below_rest x w (y ∷ ws) e above = (pair_total.trans x w y e above.0, below_rest x w ws e above.1)

tied_rest : (x w : Waiting) (ws : List Waiting) → pair_cmp x w ≡ Equal → AllAbove w ws → AllAbove x ws
tied_rest x w [] e above = tt
tied_rest x w (y ∷ ws) e above = (pair_total.congr x w y e ∙ above.0, tied_rest x w ws e above.1)

put_above : (x new : Waiting) (ws : List Waiting) → AllAbove x ws → pair_cmp x new ≡ Less → AllAbove x (with_waiting ws new)
put_above x new [] above e = (e, tt)
put_above x new (w ∷ ws) above e =
    elim (pair_cmp new w) as (λ r. AllAbove x (placed r new w ws (with_waiting ws new))) [
      | Less ↦ (e, above)
      | Equal ↦ (e, above.1)
      | Greater ↦ (above.0, put_above x new ws above.1 e)
    ]

pub put_in_order : (new : Waiting) (ws : List Waiting) → AreInOrder ws → AreInOrder (with_waiting ws new)
unfolding IsStrictlySortedBy
put_in_order new [] sorted = (tt, tt)
put_in_order new (w ∷ ws) sorted =
    elim (pair_cmp new w) as (λ r. pair_cmp new w ≡ r → AreInOrder (placed r new w ws (with_waiting ws new))) [
      | Less ↦ λ e. ((e, below_rest new w ws e sorted.0), sorted)
      | Equal ↦ λ e. (tied_rest new w ws e sorted.0, sorted.1)
      | Greater ↦ λ e. (put_above w new ws sorted.0 (pair_total.antisymm w new ∙ ap ordering_reverse e), put_in_order new ws sorted.1)
    ] refl

left_above : (id : ℕ) (x : Waiting) (ws : List Waiting) → AllAbove x ws → AllAbove x (without_first id ws)
left_above id x [] above = tt
left_above id x (w ∷ ws) above =
    elim (has_id id w) as (λ t. AllAbove x (cond t ws (w ∷ without_first id ws))) [
      | true ↦ above.1
      | false ↦ (above.0, left_above id x ws above.1)
    ]

pub left_in_order : (id : ℕ) (ws : List Waiting) → AreInOrder ws → AreInOrder (without_first id ws)
unfolding IsStrictlySortedBy
left_in_order id [] sorted = tt
left_in_order id (w ∷ ws) sorted =
    elim (has_id id w) as (λ t. AreInOrder (cond t ws (w ∷ without_first id ws))) [
      | true ↦ sorted.1
      | false ↦ (left_above id w ws sorted.0, left_in_order id ws sorted.1)
    ]

-- ---- the wishes of those that wait

pub put_wishes : (new : Waiting) (ws : List Waiting) → IsXmlWish new.wants → AreXmlWishes ws → AreXmlWishes (with_waiting ws new)
put_wishes new [] wish wishes = (wish, tt)
put_wishes new (w ∷ ws) wish wishes =
    elim (pair_cmp new w) as (λ r. AreXmlWishes (placed r new w ws (with_waiting ws new))) [
      | Less ↦ (wish, wishes)
      | Equal ↦ (wish, wishes.1)
      | Greater ↦ (wishes.0, put_wishes new ws wish wishes.1)
    ]

pub left_wishes : (id : ℕ) (ws : List Waiting) → AreXmlWishes ws → AreXmlWishes (without_first id ws)
left_wishes id [] wishes = tt
left_wishes id (w ∷ ws) wishes =
    elim (has_id id w) as (λ t. AreXmlWishes (cond t ws (w ∷ without_first id ws))) [
      | true ↦ wishes.1
      | false ↦ (wishes.0, left_wishes id ws wishes.1)
    ]

pub first_wish : (id : ℕ) (ws : List Waiting) (found : Option Waiting) → found ≡ first_of id ws → AreXmlWishes ws → IfSome found (λ (w : Waiting). IsXmlWish w.wants)
first_wish id ws found is wishes = subst (λ (o : Option Waiting). IfSome o (λ (w : Waiting). IsXmlWish w.wants)) (sym is) (by ws wishes)
  where
    by : (ws : List Waiting) → AreXmlWishes ws → IfSome (first_of id ws) (λ (w : Waiting). IsXmlWish w.wants)
    by [] wishes = tt
    by (w ∷ ws) wishes =
        elim (has_id id w) as (λ t. IfSome (cond t (Some w) (first_of id ws)) (λ (w : Waiting). IsXmlWish w.wants)) [
          | true ↦ wishes.0
          | false ↦ by ws wishes.1
        ]
