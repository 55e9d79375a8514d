use Rattle.wef_documents.proofs.Ports.{where_none}
use Rattle.wef_documents.proofs.addresses.behind_last.Goals as goal

pub loop-rest-init : goal.loop-rest-init
loop-rest-init c = where_none c.args.characters.now
