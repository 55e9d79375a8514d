-- An event with a number: the number in digits is the one child of the field EventRecordID, or a new one, last in System.
use Rattle.std.specs.Prelude.{◌≡◌, ℕ, ◌≤◌, true, List, [], ◌∷◌, ◌++◌, Option, Some, None, Result, codes, is_some, if◌then◌else◌}
use Rattle.std.specs.Fmt.{decimal}
use Rattle.std.specs.declared.result.Result.TheVariants.{Err}
use Rattle.wef_base.specs.declared.numbers.TheConstants.{MAX}
use Rattle.wef_base.specs.declared.tree.Charset.TheVariants.{Utf8}
use Rattle.wef_base.specs.declared.tree.Element.{Element}
use Rattle.wef_base.specs.declared.tree.Node.{Node, Chars, out-Node, Node-F}
use Rattle.wef_base.specs.declared.tree.Node.TheVariants.{Element as Child}
use Rattle.wef_tree_reading.specs.Documents.{tree_of}
use Rattle.wef_event.specs.Events.{Event, IsEventOf, event_of, event_or_none, is_event}
use Rattle.wef_event.specs.Paths.{first_child, named}
use Rattle.wef_event.specs.declared.records.EventFault.{EventFault}
use Rattle.wef_event.specs.declared.records.EventFault.TheVariants.{BadEvent}

-- a node and those behind it, where the node is an element that changes; else the node and what becomes of those
abbrev pub changed_here : (Element → Element) → Option Element → Node → List Node → List Node → List Node
changed_here f (Some e) n behind changed = Child (f e) ∷ behind
changed_here f None n behind changed = n ∷ changed

-- the nodes with the first element of a name changed
abbrev pub with_first_changed : List ℕ → (Element → Element) → List Node → List Node
with_first_changed name f [] = []
with_first_changed name f (n ∷ ns) = changed_here f (named name n) n ns (with_first_changed name f ns)

-- a node, changed where it is an element
abbrev pub changed_node : (Element → Element) → Node → Node
changed_node f n = elim (out-Node n) [ Node-F.Element e ↦ Child (f e) | Node-F.Chars text ↦ n ]

-- the name of the field for the number
abbrev pub record_id : List ℕ
record_id = codes "EventRecordID"

-- an element with a text as its one child
abbrev pub with_only : List ℕ → Element → Element
with_only text e = record e { children = Chars text ∷ [] }

-- a new field for the digits of a number, in a namespace
abbrev pub new_field : List ℕ → List ℕ → Element
new_field space digits = record { space = space; name = record_id; attributes = []; children = Chars digits ∷ [] }

-- the children of System, with the digits of a number: the first of the fields for it has them as its one child, and where
-- there is none, one more comes last
abbrev pub numbered_children : List ℕ → List ℕ → List Node → List Node
numbered_children space digits children =
    if is_some (first_child record_id children) then with_first_changed record_id (with_only digits) children
    else children ++ Child (new_field space digits) ∷ []

-- System with the digits of a number
abbrev pub numbered_system : List ℕ → Element → Element
numbered_system digits system = record system { children = numbered_children system.space digits system.children }

-- the root of an event with the digits of a number
abbrev pub numbered_root : List ℕ → Element → Element
numbered_root digits root = record root { children = with_first_changed (codes "System") (numbered_system digits) root.children }

-- the event of a root with a number
abbrev pub numbered_by : ℕ → Option Element → Result Event EventFault
numbered_by n (Some root) = event_of true (numbered_root (decimal n) root)
numbered_by n None = Err (BadEvent 0)

-- an event with a number, or TooLong where its text then is too long
unfoldable pub with_number : Event → ℕ → Result Event EventFault
with_number event n = numbered_by n (tree_of Utf8 event.text)

-- the event, where there is one
unfoldable pub numbered : Event → ℕ → Option Event
numbered event n = event_or_none (with_number event n)

-- the text of an event, or nothing where there is none
abbrev pub text_or_nothing : Option Event → List ℕ
text_or_nothing (Some event) = event.text
text_or_nothing None = []

-- its text with a number
abbrev pub numbered_text : Event → ℕ → List ℕ
numbered_text event n = text_or_nothing (numbered event n)

-- With a number, the event of a tree is the one that its text says, and has the channel and this number.
abbrev pub NumberedEventsAreRead : Type 0
NumberedEventsAreRead = (event made : Event) (node : Element) (number : ℕ) → IsEventOf event node → 1 ≤ number → number ≤ MAX →
    numbered event number ≡ Some made → (is_event made ≡ true) × (made.channel ≡ event.channel) × (made.number ≡ number)
