use Rattle.wef_cli.proofs.TooLong.{too_long_told}
use Rattle.wef_cli.proofs.top.read_lines.Goals as goal

pub returns-in-Err-TooLong-clause-err : goal.returns-in-Err-TooLong-clause-err
returns-in-Err-TooLong-clause-err g c = too_long_told (g.I.Source.left c.args.input.now) (rw c.in-Err-TooLong.field-0-is at c.in-Err-TooLong.ensures.reads)
