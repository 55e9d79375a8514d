use Rattle.std.proofs.Common.{rules, ◌≡◌, ◌≤◌, drop, length, arith}
use Rattle.wef_base.proofs.Reading.{given_first}
use Rattle.wef_base.proofs.memory.give.Goals as goal

pub returns-clause-left : goal.returns-clause-left
returns-clause-left c =
    let rest : c.after-rest.result.now ≡ drop c.args.at c.args.bytes.now = search rules in
    let within : c.min-count.result ≤ length c.after-rest.result.now = omega arith in
    given_first c.args.at c.min-count.result c.args.bytes.now c.after-rest.result.now c.copy_from_slice.new.self (drop c.min-count.result c.args.buf.now) rest c.copy_from_slice.ensures.after within
