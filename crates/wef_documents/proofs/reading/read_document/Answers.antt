use Rattle.std.proofs.Common.{◌∙◌, sym, ap, subst}
use Rattle.std.specs.Prelude.{Err}
use Rattle.wef_base.specs.declared.tree.Charset.{Charset}
use Rattle.wef_tree_reading.specs.Documents.{GivesTree, tree_of}
use Rattle.wef_tree_reading.specs.Spelling.{ReadsTree}
use Rattle.wef_documents.specs.Bytes.{Finds, ReadsDocument, charset_of, document_in}
use Rattle.wef_documents.specs.declared.faults.DocumentFault.{DocumentFault}
use Rattle.wef_documents.proofs.Found.{by_root, no_root}
use Rattle.wef_documents.proofs.reading.read_document.Goals as goal

pub returns-in-Ok-clause-found : goal.returns-in-Ok-clause-found
returns-in-Ok-clause-found c =
    let bytes = c.args.bytes.now in
    by_root bytes c.in-Ok.root c.sound_subscription.result (ap (λ charset. tree_of charset bytes) (sym c.charset_of.ensures) ∙ c.in-Ok.ensures.tree) c.sound_subscription.ensures.read

pub returns-in-Err : goal.returns-in-Err
returns-in-Err c =
    let bytes = c.args.bytes.now in
    let fault = c.in-Err.fault in
    let read : ReadsTree (charset_of bytes) bytes (Err fault) = subst (λ (charset : Charset). ReadsTree charset bytes (Err fault)) c.charset_of.ensures c.in-Err.ensures.read in
    let gives : GivesTree (Err fault) (tree_of (charset_of bytes) bytes) = subst (λ (charset : Charset). GivesTree (Err fault) (tree_of charset bytes)) c.charset_of.ensures c.in-Err.ensures.tree in
    let both = no_root bytes fault read gives in
    let is = sym c.fault_of.ensures in
    record {
      read = subst (λ (f : DocumentFault). ReadsDocument bytes (Err f)) is both.0;
      found = subst (λ (f : DocumentFault). Finds (Err f) (document_in bytes)) is both.1;
      plain = tt;
      texts = tt;
    }
