use Rattle.std.proofs.Common.{sym}
use Rattle.wef_base.proofs.Utf8.{is_text, is_no_text}
use Rattle.wef_base.proofs.words.is_text.Goals as goal

pub returns-in-Ok : goal.returns-in-Ok
returns-in-Ok c = sym (is_text c.args.bytes.now c.in-Ok.ensures.cases.1)

pub returns-in-Err : goal.returns-in-Err
returns-in-Err c = sym (is_no_text c.args.bytes.now c.in-Err.ensures.cases.0)
