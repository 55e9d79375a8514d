use Rattle.std.proofs.Common.{◌≡◌, ◌<◌, ◌≤◌, ◌+◌, ◌/◌, ◌%◌, ◌^◌, ◌∷◌, [], ◌∙◌, ℕ, length, ap, arith, length-append}
use Rattle.std.specs.Fmt.{decimal}
use Rattle.std.proofs.lemmas.Fmt.{decimal_digit, decimal_step, length-decimal-le}
use Rattle.wef_event.proofs.lengths.decimal_length.Goals as goal

-- a number has one digit more than its tenth
one_more : (n : ℕ) → 10 ≤ n → n < 2 ^ 64 → length (decimal n) ≡ length (decimal (n / 10)) + 1
one_more n h small = ap length (decimal_step n h small) ∙ length-append (decimal (n / 10)) ((48 + n % 10) ∷ [])

one : (n : ℕ) → n < 10 → length (decimal n) ≡ 1
one n h = ap length (decimal_digit n h)

at_most : (n : ℕ) → n < 2 ^ 64 → length (decimal n) ≤ 20
at_most n small = length-decimal-le 20 n (omega arith) (omega arith) small

pub overflow_add-length : goal.overflow_add-length
overflow_add-length c = let most = at_most c.args.number (omega arith) in omega arith

pub loop-rest-preserved : goal.loop-rest-preserved
loop-rest-preserved c = let more = one_more c.loop-rest.rest (omega arith) (omega arith) in omega arith

pub returns-clause-value : goal.returns-clause-value
returns-clause-value c = let last = one c.loop-rest.rest (omega arith) in omega arith

pub returns-clause-small : goal.returns-clause-small
returns-clause-small c =
    let last = one c.loop-rest.rest (omega arith) in
    let most = at_most c.args.number (omega arith) in
    omega arith
