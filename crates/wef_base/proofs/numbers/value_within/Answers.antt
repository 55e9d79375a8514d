use Rattle.std.proofs.Common.{◌+◌, ◌*◌, ◌-◌, ◌<◌, drop, get_or, suc, sym, arith, length}
use Rattle.std.proofs.Math.Seq.{drop-cons}
use Rattle.wef_base.proofs.Values.{too_large}
use Rattle.wef_base.proofs.numbers.value_within.Goals as goal

pub returns-then-value-from-clause-value : goal.returns-then-value-from-clause-value
returns-then-value-from-clause-value c =
    let digits = c.args.digits.now in
    let at = c.loop-digit.digit-index in
    let inside : at < length digits = omega arith in
    let first = drop-cons digits at 0 inside in
    let rest = rw first at c.loop-digit.invariant.so_far in
    let digit = get_or digits at 0 in
    let past : c.args.limit < c.loop-digit.value * 10 + (digit - 48) = omega arith in
    sym (too_large c.args.limit (c.loop-digit.value * 10 + (digit - 48)) digits (drop (suc at) digits) past rest)
