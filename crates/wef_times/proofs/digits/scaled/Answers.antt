use Rattle.std.proofs.Common.{rules, ◌≡◌, ◌*◌, ◌-◌, ◌^◌, ◌≤◌, arith, length}
use Rattle.wef_base.specs.Numbers.{value_from}
use Rattle.wef_times.proofs.Fronts.{value_up_to_nine}
use Rattle.wef_times.proofs.digits.scaled.Goals as goal

pub returns : goal.returns
returns c =
    let decimals = c.args.decimals.now in
    let small : value_from 0 decimals ≤ 999999999 = value_up_to_nine decimals c.requires.digits (omega arith) in
    let value : c.value_up_to.result ≡ value_from 0 decimals = omega arith in
    let power : c.pow.result ≡ 10 ^ (c.args.places - length decimals) = search rules in
    λ i. value i * power i
