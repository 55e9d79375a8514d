use Rattle.std.proofs.Common.{arith}
use Rattle.wef_batch.proofs.Costs.{few_digits, one_digit, one_digit_less}
use Rattle.wef_batch.proofs.costing.decimal_len.Goals as goal

pub overflow_add-len : goal.overflow_add-len
overflow_add-len c =
    let few = few_digits c.args.number (omega arith) in
    omega arith

pub loop-rest-preserved : goal.loop-rest-preserved
loop-rest-preserved c =
    let less = one_digit_less c.loop-rest.rest (omega arith) (omega arith) in
    omega arith

pub returns-clause-value : goal.returns-clause-value
returns-clause-value c =
    let last = one_digit c.loop-rest.rest (omega arith) in
    omega arith

pub returns-clause-small : goal.returns-clause-small
returns-clause-small c =
    let few = few_digits c.args.number (omega arith) in
    let last = one_digit c.loop-rest.rest (omega arith) in
    omega arith
