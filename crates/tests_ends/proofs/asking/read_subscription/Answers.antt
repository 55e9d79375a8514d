use Rattle.wef_documents.proofs.KeptBack.{kept_again}
use Rattle.wef_documents.proofs.SaysPlain.{document_keeps}
use Rattle.tests_ends.proofs.asking.read_subscription.Goals as goal

pub returns-in-Ok : goal.returns-in-Ok
returns-in-Ok c =
    let s = c.in-Ok.subscription in
    kept_again s (document_keeps _ s c.in-Ok.ensures.found) c.in-Ok.ensures.texts c.in-Ok.ensures.plain
