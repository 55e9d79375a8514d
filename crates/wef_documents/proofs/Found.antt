-- What reading a document answers, by what reading its tree does.
use Rattle.std.proofs.Common.{◌≡◌, ℕ, List, ap, ◌∙◌}
use Rattle.std.specs.Prelude.{Some, None, Result, Ok, Err}
use Rattle.std.specs.Option.{option_and_then}
use Rattle.wef_base.specs.declared.tree.Element.{Element}
use Rattle.wef_eventing.specs.declared.subscriptions.Subscription.{Subscription}
use Rattle.wef_tree_reading.specs.Documents.{GivesTree, tree_of}
use Rattle.wef_tree_reading.specs.Spelling.{ReadsTree}
use Rattle.wef_xml.specs.declared.faults.TreeFault.{TreeFault}
use Rattle.wef_xml.specs.declared.faults.TreeFault.TheVariants as tree
use Rattle.wef_documents.specs.Bytes.{Finds, ReadsDocument, charset_of, document_in, fault_of, subscription_or_none}
use Rattle.wef_documents.specs.Reading.{subscription_in}
use Rattle.wef_documents.specs.Steps.{Reads}
use Rattle.wef_documents.specs.declared.faults.DocumentFault.{DocumentFault}
use Rattle.wef_documents.specs.declared.faults.DocumentFault.TheVariants.{NoMemory, Tree, BadDocument}

-- what the root says is what the bytes say
pub by_root : (bytes : List ℕ) (root : Element) (result : Result Subscription DocumentFault) → tree_of (charset_of bytes) bytes ≡ Some root
    → Reads result (subscription_in root) → Finds result (document_in bytes)
unfolding document_in
by_root bytes root (Ok s) is said = ap (option_and_then (λ r. subscription_or_none (subscription_in r))) is ∙ ap subscription_or_none said
by_root bytes root (Err NoMemory) is said = tt
by_root bytes root (Err (Tree fault)) is said = absurd said
by_root bytes root (Err (BadDocument part)) is said = ap (option_and_then (λ r. subscription_or_none (subscription_in r))) is ∙ ap subscription_or_none said

-- where there is no root there is no subscription
none_found : (bytes : List ℕ) → tree_of (charset_of bytes) bytes ≡ None → document_in bytes ≡ None
unfolding document_in
none_found bytes is = ap (option_and_then (λ r. subscription_or_none (subscription_in r))) is

pub no_root : (bytes : List ℕ) (fault : TreeFault) → ReadsTree (charset_of bytes) bytes (Err fault) → GivesTree (Err fault) (tree_of (charset_of bytes) bytes)
    → ReadsDocument bytes (Err (fault_of fault)) × Finds (Err (fault_of fault)) (document_in bytes)
no_root bytes tree.NoMemory read gives = (tt, tt)
no_root bytes (tree.BadCharset at) read gives = (read, none_found bytes gives)
no_root bytes (tree.BadXml at) read gives = (read, none_found bytes gives)
no_root bytes (tree.TooDeep at) read gives = (read, none_found bytes gives)
no_root bytes (tree.Refused at) read gives = (read, none_found bytes gives)
