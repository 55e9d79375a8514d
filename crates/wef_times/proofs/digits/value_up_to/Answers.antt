use Rattle.std.proofs.Common.{rules, ◌≡◌, ◌+◌, ◌*◌, ◌-◌, ◌<◌, ◌∷◌, ap, arith, drop, get_or, length, min, suc, ◌∙◌}
use Rattle.std.proofs.Math.Seq.{drop-cons}
use Rattle.wef_base.specs.Numbers.{value_from}
use Rattle.wef_times.proofs.Caps.{stopped}
use Rattle.wef_times.proofs.digits.value_up_to.Goals as goal

pub loop-digit-preserved : goal.loop-digit-preserved
loop-digit-preserved c =
    let digits = c.args.digits.now in
    let at = c.loop-digit.digit-index in
    let limit = c.args.limit in
    let inside : at < length digits = omega arith in
    let digit = get_or digits at 0 in
    let next = c.loop-digit.value * 10 + (digit - 48) in
    let rest = drop (at + 1) digits in
    let step : suc at ≡ at + 1 = omega arith in
    let split : drop at digits ≡ digit ∷ rest = drop-cons digits at 0 inside ∙ ap (λ k. digit ∷ drop k digits) step in
    let given : c.min-value.result ≡ min next limit = search rules in
    record {
      so_far = ap (λ n. min (value_from n rest) limit) given ∙ stopped limit next rest ∙ rw split at c.loop-digit.invariant.so_far;
      within = omega arith;
    }
