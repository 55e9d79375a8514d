use Rattle.std.proofs.Common.{rules, ◌≡◌, true, false}
use Rattle.wef_base.specs.Numbers.{plain_number, is_numeral, has_leading_zero}
use Rattle.wef_base.proofs.numbers.read_plain_number.Goals as goal

pub returns-clause-value : goal.returns-clause-value
unfolding plain_number
returns-clause-value c =
    let digits : is_numeral c.args.word.now ≡ true = search rules in
    let plain : has_leading_zero c.args.word.now ≡ false = search rules in
    rw (digits, plain) c.value_within.ensures.value
