use Rattle.wef_documents.proofs.KeptBack.{kept_again}
use Rattle.wef_documents.proofs.SaysPlain.{document_keeps}
use Rattle.wef_commands.proofs.adding.subscription_in.Goals as goal

pub returns-in-Ok-clause-kept : goal.returns-in-Ok-clause-kept
returns-in-Ok-clause-kept c =
    let s = c.in-Ok.subscription in
    kept_again s (document_keeps c.args.bytes.now s c.in-Ok.ensures.found) c.in-Ok.ensures.texts c.in-Ok.ensures.plain
