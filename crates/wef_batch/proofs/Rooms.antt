-- A room for costs is one for bytes.
use Rattle.std.proofs.Common.{◌≡◌, ℕ, ◌+◌, ◌<◌, ◌≤◌, List, [], ◌∷◌, min, refl, sym, ◌∙◌, subst, arith}
use Rattle.std.specs.Prelude.{sum_by}
use Rattle.std.proofs.lemmas.List.Sums.{sum_by-cons}
use Rattle.wef_batch.specs.Cost.{cost, most}
use Rattle.wef_batch.specs.Envelopes.{RoomsAreOfBytes, size_of}
use Rattle.wef_batch.specs.declared.items.Item.{Item}
use Rattle.wef_batch.proofs.CostTexts.{costs_are_of_texts}

-- two sums of which one takes at most so much of each number
one_more : (c s cs ss : ℕ) → c ≡ min s most → (cs < most → ss ≡ cs) → c + cs < most → s + ss ≡ c + cs
one_more c s cs ss is rest small = let same = rest (omega arith) in omega arith

-- costs that sum to less than the greatest are the lengths
same_sum : (items : List Item) → sum_by cost items < most → sum_by size_of items ≡ sum_by cost items
same_sum [] small = refl
same_sum (item ∷ items) small =
    let whole = one_more (cost item) (size_of item) (sum_by cost items) (sum_by size_of items) (costs_are_of_texts item) (same_sum items) (subst (λ n. n < most) (sum_by-cons cost item items) small) in
    sum_by-cons size_of item items ∙ whole ∙ sym (sum_by-cons cost item items)

one_less : (c s cs ss : ℕ) → c ≡ min s most → cs ≤ ss → c + cs ≤ s + ss
one_less c s cs ss is rest = omega arith

-- costs are never more than the lengths
at_most : (items : List Item) → sum_by cost items ≤ sum_by size_of items
at_most [] = omega arith
at_most (item ∷ items) =
    let whole = one_less (cost item) (size_of item) (sum_by cost items) (sum_by size_of items) (costs_are_of_texts item) (at_most items) in
    rw (sum_by-cons cost item items, sum_by-cons size_of item items) whole

kept : (c s room : ℕ) → room < most → (c < most → s ≡ c) → c ≤ room → s ≤ room
kept c s room small same keeps = let is = same (omega arith) in omega arith

passed : (c s room : ℕ) → c ≤ s → room < c → room < s
passed c s room most_of passes = omega arith

pub rooms_are_of_bytes : RoomsAreOfBytes
rooms_are_of_bytes items room small = (
  kept (sum_by cost items) (sum_by size_of items) room small (same_sum items),
  passed (sum_by cost items) (sum_by size_of items) room (at_most items),
)
