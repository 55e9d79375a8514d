use Rattle.std.proofs.Common.{sym, subst}
use Rattle.wef_base.specs.declared.tree.Element.{Element}
use Rattle.wef_xml.specs.Good.{IsGoodTree}
use Rattle.wef_documents.proofs.GoodDocuments.{document_good}
use Rattle.wef_documents.proofs.writing.document_text.Goals as goal

pub text_of-requires : goal.text_of-requires
text_of-requires c =
    subst (λ (e : Element). IsGoodTree e) (sym c.in_ok-root.ensures) (document_good c.args.subscription.now c.requires.names c.requires.texts)
