-- Subscription documents as bytes: UTF-16 where they begin with its byte order mark, and else UTF-8.
use Rattle.std.specs.Prelude.{◌≡◌, ℕ, ◌==◌, Bool, false, ◌&&◌, ◌||◌, List, [], ◌∷◌, Option, Some, None, Result, if◌then◌else◌}
use Rattle.std.specs.Option.{option_and_then}
use Rattle.std.specs.declared.result.Result.TheVariants.{Ok, Err}
use Rattle.wef_base.specs.declared.tree.Charset.{Charset}
use Rattle.wef_base.specs.declared.tree.Charset.TheVariants.{Utf8, Utf16}
use Rattle.wef_base.specs.declared.tree.Element.{Element}
use Rattle.wef_eventing.specs.declared.subscriptions.Subscription.{Subscription}
use Rattle.wef_tree_reading.specs.Documents.{tree_of}
use Rattle.wef_tree_reading.specs.Spelling.{ReadsTree, Spells}
use Rattle.wef_xml.specs.declared.faults.TreeFault.{TreeFault}
use Rattle.wef_xml.specs.declared.faults.TreeFault.TheVariants as tree
use Rattle.wef_documents.specs.Reading.{subscription_in}
use Rattle.wef_documents.specs.declared.faults.DocumentFault.{DocumentFault}
use Rattle.wef_documents.specs.declared.faults.DocumentFault.TheVariants.{NoMemory, Tree, BadDocument}

-- whether bytes begin with a byte order mark of UTF-16, in either order
abbrev pub has_wide_mark : List ℕ → Bool
has_wide_mark [] = false
has_wide_mark (a ∷ []) = false
has_wide_mark (a ∷ b ∷ rest) = (a == 0xFF && b == 0xFE) || (a == 0xFE && b == 0xFF)

abbrev pub charset_of : List ℕ → Charset
charset_of bytes = if has_wide_mark bytes then Utf16 else Utf8

-- the bytes are a document of a root that says this
abbrev pub Says : List ℕ → Result Subscription DocumentFault → Type 0
Says bytes said = (root : Element) × Spells (charset_of bytes) bytes root × (subscription_in root ≡ said)

-- why bytes that are no document of XML are no subscription document
abbrev pub fault_of : TreeFault → DocumentFault
fault_of tree.NoMemory = NoMemory
fault_of fault = Tree fault

-- What reading answers: the subscription that the document says, the first of its parts that isn't good, or why the bytes are
-- no document at all, and where.
abbrev pub ReadsDocument : List ℕ → Result Subscription DocumentFault → Type 0
ReadsDocument bytes (Ok s) = Says bytes (Ok s)
ReadsDocument bytes (Err NoMemory) = Unit {0}
ReadsDocument bytes (Err (Tree tree.NoMemory)) = ⊥
ReadsDocument bytes (Err (Tree fault)) = ReadsTree (charset_of bytes) bytes (Err fault)
ReadsDocument bytes (Err (BadDocument part)) = Says bytes (Err (BadDocument part))

-- ---- the same as a function

abbrev pub subscription_or_none : Result Subscription DocumentFault → Option Subscription
subscription_or_none (Ok s) = Some s
subscription_or_none (Err fault) = None

-- the subscription that bytes are a document of
unfoldable pub document_in : List ℕ → Option Subscription
document_in bytes = option_and_then (λ root. subscription_or_none (subscription_in root)) (tree_of (charset_of bytes) bytes)

-- A reader gives the subscription that there is, and a fault where there is none, but for want of memory.
abbrev pub Finds : Result Subscription DocumentFault → Option Subscription → Type 0
Finds (Ok s) given = given ≡ Some s
Finds (Err NoMemory) given = Unit {0}
Finds (Err (Tree fault)) given = given ≡ None
Finds (Err (BadDocument part)) given = given ≡ None
