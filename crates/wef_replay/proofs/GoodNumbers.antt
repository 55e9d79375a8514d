-- Numbers that words give are within their limits.
use Rattle.std.proofs.Common.{◌≡◌, ◌≤◌, ℕ, true, ◌&&◌, List, arith, max, nat_le}
use Rattle.std.specs.Prelude.{None, not}
use Rattle.std.proofs.lemmas.Bool.{and_from, and_parts}
use Rattle.std.proofs.lemmas.Bool.Decides.{nat_tests}
use Rattle.wef_base.specs.Numbers.{has_leading_zero, is_numeral, number_within, plain_number, value_from}
use Rattle.wef_base.specs.declared.numbers.TheConstants.{MAX}
use Rattle.wef_replay_values.specs.Values.{at_least, number_word}
use Rattle.wef_replay.specs.Good.{is_between, is_count, is_number}
use Rattle.wef_replay.proofs.Gifts.{AllOf, all_of-if, all_of-tested, all_of-then}

within_greatest : (greatest : ℕ) (word : List ℕ) → AllOf (λ n. nat_le n greatest ≡ true) (plain_number greatest word)
unfolding plain_number
within_greatest greatest word =
    all_of-if (λ n. nat_le n greatest ≡ true) (is_numeral word && not (has_leading_zero word)) (number_within greatest word) None
    (all_of-tested (λ n. nat_le n greatest ≡ true) (nat_le (value_from 0 word) greatest) (value_from 0 word) (λ e. e)) tt

pub good-number : (least greatest : ℕ) (word : List ℕ) → AllOf (λ n. is_between least greatest n ≡ true) (number_word least greatest word)
good-number least greatest word =
    all_of-then (λ n. nat_le n greatest ≡ true) (λ n. is_between least greatest n ≡ true) (at_least least) (plain_number greatest word) (within_greatest greatest word)
    (λ n most. all_of-tested (λ n. is_between least greatest n ≡ true) (nat_le least n) n (λ e. and_from (nat_le least n) (nat_le n greatest) e most))

pub most : (n : ℕ) → is_count n ≡ true → n ≤ MAX
most n h = grind (arith, nat_tests, h)

-- the number of a record is within its limits
pub of_record : (n : ℕ) → is_number n ≡ true → (1 ≤ n) × (n ≤ MAX)
of_record n h = (least n h, most n (and_parts (nat_le 1 n) (is_count n) h).1)
  where
    least : (n : ℕ) → is_number n ≡ true → 1 ≤ n
    least n h = grind (arith, nat_tests, h)

-- a number from 0 on has no least
pub count_from_between : (n : ℕ) → is_between 0 MAX n ≡ true → is_count n ≡ true
count_from_between n h = (and_parts (nat_le 0 n) (is_count n) h).1

pub is_count-max : (m n : ℕ) → is_count m ≡ true → is_count n ≡ true → is_count (max m n) ≡ true
is_count-max m n h k = grind (arith, nat_tests, h, k)
