use Rattle.std.proofs.Common.{sym}
use Rattle.wef_ids.specs.IdTexts.{id_value}
use Rattle.wef_ids.proofs.IdTexts.{refused}
use Rattle.wef_ids.proofs.texts.value_of.Goals as goal

pub returns-in-Err : goal.returns-in-Err
unfolding id_value
returns-in-Err c = sym (rw (c.behind-2.ensures, c.behind.ensures) at (refused c.behind-2.result.now c.try_parse_ascii.result c.in-Err.field-0 c.in-Err.is c.try_parse_ascii.ensures.ok))
