use Rattle.std.proofs.Common.{◌∙◌, ap}
use Rattle.wef_documents.specs.Bytes.{document_in}
use Rattle.wef_documents.proofs.DocumentsAgain.{text_read_again}
use Rattle.wef_documents.proofs.writing.write_document.Goals as goal

pub returns-clause-reads_back : goal.returns-clause-reads_back
returns-clause-reads_back c is =
    ap document_in c.in_ok-text.ensures ∙ text_read_again c.args.subscription.now c.names_are_kept.ensures c.requires is
