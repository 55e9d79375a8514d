use Rattle.wef_documents.proofs.DocumentsAgain.{subscription_again, text_read_again}
use Rattle.wef_documents.proofs.GoodDocuments.{document_good}
use Rattle.wef_documents.proofs.laws.written_is_read_again.Goals as goal

pub returns-clause-says : goal.returns-clause-says
returns-clause-says c = record { tree = subscription_again; text = text_read_again }

pub returns-clause-good : goal.returns-clause-good
returns-clause-good c = document_good
