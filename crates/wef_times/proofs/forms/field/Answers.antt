use Rattle.std.proofs.Common.{rules, ◌≡◌, ◌^◌, ◌<◌, ◌≤◌, arith, drop, min}
use Rattle.std.proofs.Math.Nat.{pow-le-pow_right}
use Rattle.wef_times.specs.Forms.{field}
use Rattle.wef_times.proofs.Fronts.{value_below_count}
use Rattle.wef_times.proofs.forms.field.Goals as goal

pub returns-clause-value : goal.returns-clause-value
returns-clause-value c =
    let digits = c.args.digits in
    let below : field c.args.at digits c.args.text.now < 10 ^ digits = value_below_count digits (drop c.args.at c.args.text.now) c.requires.digits.1 in
    let most : 10 ^ digits ≤ 10 ^ 4 = pow-le-pow_right {n = 10} (omega arith) c.requires.few in
    let given : c.value_up_to.result ≡ min (field c.args.at digits c.args.text.now) 9999 = search rules in
    omega arith

pub returns-clause-within : goal.returns-clause-within
returns-clause-within c =
    let digits = c.args.digits in
    let below : field c.args.at digits c.args.text.now < 10 ^ digits = value_below_count digits (drop c.args.at c.args.text.now) c.requires.digits.1 in
    let given : c.value_up_to.result ≡ min (field c.args.at digits c.args.text.now) 9999 = search rules in
    omega arith
