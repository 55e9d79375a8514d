use Rattle.wef_envelope.proofs.FaultsAreRead.{where_none}
use Rattle.wef_envelope.proofs.faults.behind_last.Goals as goal

pub loop-character-init : goal.loop-character-init
loop-character-init c = where_none c.args.characters.now
