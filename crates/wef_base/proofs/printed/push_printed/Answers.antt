use Rattle.wef_base.proofs.PrintedBack.{encoded_is}
use Rattle.wef_base.proofs.printed.push_printed.Goals as goal

pub returns-clause-ok : goal.returns-clause-ok
returns-clause-ok c = rw (← encoded_is c.args.name.now, ← c.utf8_percent_encode.ensures.text) c.append_to.ensures.ok
