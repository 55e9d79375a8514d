use Rattle.std.proofs.lemmas.Iterator.{YieldsList-from_chars}
use Rattle.std.proofs.lemmas.Iterator.Consumers.{YieldsList-end}
use Rattle.wef_event.specs.Characters.{escape}
use Rattle.wef_batch.proofs.Costs.{all_of_them}
use Rattle.wef_batch.proofs.costing.escaped_len.Goals as goal

pub returns : goal.returns
returns c =
    let end = YieldsList-end (YieldsList-from_chars c.args.text.now c.utf8.text cc) c.loop-character.yielded _ c.loop-character.yielded_by _ _ c.in-None.is c.next.ensures.steps in
    all_of_them escape c.loop-character.yielded _ c.loop-character.len _ c.loop-character.invariant end.0
