-- A bookmark as a tree. The header Bookmark of WS-Management holds a BookmarkList, or says that nothing was read yet; a
-- BookmarkList holds an element Bookmark for each channel, with the attributes Channel and RecordId. In lists names are local
-- names, whatever the namespace; other elements and other attributes don't matter.
use Rattle.std.specs.Prelude.{◌≡◌, ℕ, suc, Bool, true, List, [], ◌∷◌, codes, map, Option, Some, None, Result, if◌then◌else◌}
use Rattle.std.specs.Fmt.{decimal}
use Rattle.std.specs.FinMap as map
use Rattle.std.specs.List.{filter}
use Rattle.std.specs.Option.{option_and_then}
use Rattle.std.specs.Str.{is_utf8}
use Rattle.std.specs.declared.result.Result.TheVariants.{Ok, Err}
use Rattle.wef_base.specs.Names.{channel_name, same}
use Rattle.wef_base.specs.declared.tree.Attribute.{Attribute}
use Rattle.wef_base.specs.declared.tree.Element.{Element}
use Rattle.wef_base.specs.declared.tree.Node.{Node, out-Node, Node-F}
use Rattle.wef_elements.specs.Children.{elements_in, has_words, is_called, with_attributes, with_elements, with_text}
use Rattle.wef_elements.specs.Spaces.{management}
use Rattle.wef_elements.specs.Texts.{said_in}
use Rattle.wef_elements.specs.Values.{number_said, value_of}
use Rattle.wef_xml.specs.Good.{IsGoodElement}
use Rattle.wef_bookmark.specs.Entries.{AreEntries}
use Rattle.wef_bookmark.specs.Order.{Marks, raised}
use Rattle.wef_bookmark.specs.declared.marking.BookmarkFault.{BookmarkFault}
use Rattle.wef_bookmark.specs.declared.marking.BookmarkFault.TheVariants.{NoMemory, BadBookmark}
use Rattle.wef_bookmark.specs.declared.nodes.TheConstants.{EARLIEST}

-- what a header says that has no list: that nothing was read yet
unfoldable pub earliest : List ℕ
earliest = EARLIEST.now

-- ---- reading

-- the channel that an entry is of, and its number
abbrev pub channel_of : Element → Option (List ℕ)
channel_of e = option_and_then channel_name (value_of [] (codes "Channel") e.attributes)

abbrev pub number_of : Element → Option ℕ
number_of e = option_and_then number_said (value_of [] (codes "RecordId") e.attributes)

-- a bookmark raised by an entry that has both; an entry without one of them is no entry
abbrev pub raised_where : Marks → Option (List ℕ) → Option ℕ → Option Marks
raised_where b (Some c) (Some n) = Some (raised b c n)
raised_where b (Some c) None = None
raised_where b None n = None

-- an element of a list, which is an entry or doesn't matter
abbrev pub is_entry : Element → Bool
is_entry e = same e.name (codes "Bookmark")

abbrev pub raised_entry : Marks → Element → Option Marks
raised_entry b e = if is_entry e then raised_where b (channel_of e) (number_of e) else Some b

abbrev pub raised_node : Marks → Node → Option Marks
raised_node b n = elim (out-Node n) [ Node-F.Element e ↦ raised_entry b e | Node-F.Chars text ↦ Some b ]

-- a bookmark raised by each entry among the nodes of a list, so a channel given twice has the greater number
abbrev pub raised_nodes : Marks → List Node → Option Marks
raised_nodes b [] = Some b
raised_nodes b (n ∷ ns) = option_and_then (λ (m : Marks). raised_nodes m ns) (raised_node b n)

abbrev pub is_list : Element → Bool
is_list e = same e.name (codes "BookmarkList")

-- the bookmark of a list
abbrev pub in_list : Element → Option Marks
in_list e = raised_nodes map.empty e.children

-- that of a header without a list
unfoldable pub of_text : List ℕ → Option Marks
of_text text = if same text earliest then Some map.empty else None

-- that of a header with these lists: one list, and no text beside it
abbrev pub by_lists : Element → List Element → Option Marks
by_lists e [] = of_text (said_in e)
by_lists e (list ∷ []) = if has_words e.children then None else in_list list
by_lists e (list ∷ other ∷ more) = None

abbrev pub lists_in : List Node → List Element
lists_in nodes = filter is_list (elements_in nodes)

abbrev pub in_header : Element → Option Marks
in_header e = by_lists e (lists_in e.children)

abbrev pub is_header : Element → Bool
is_header e = is_called management (codes "Bookmark") e

-- the bookmark that a header or a list says
abbrev pub bookmark_in : Element → Option Marks
bookmark_in e = if is_header e then in_header e else if is_list e then in_list e else None

-- A reader gives the bookmark that there is, and BadBookmark exactly where there is none.
abbrev pub Reads : Result Marks BookmarkFault → Option Marks → Type 0
Reads (Ok b) given = given ≡ Some b
Reads (Err NoMemory) given = Unit {0}
Reads (Err BadBookmark) given = given ≡ None

-- The same of a call that changes a bookmark in place: what it is now, where it was done.
abbrev pub Takes : {A : Type 0} → Result A BookmarkFault → Option Marks → Marks → Type 0
Takes (Ok a) given now = given ≡ Some now
Takes (Err NoMemory) given now = Unit {0}
Takes (Err BadBookmark) given now = given ≡ None

-- ---- writing

-- an attribute without a namespace
abbrev pub marked : List ℕ → List ℕ → Attribute
marked name value = record { space = []; name = name; value = value }

-- the element of an entry, and the list of all
abbrev pub entry_element : (List ℕ × ℕ) → Element
entry_element e = with_attributes [] (codes "Bookmark") (marked (codes "Channel") e.0 ∷ marked (codes "RecordId") (decimal e.1) ∷ []) []

abbrev pub list_element : List (List ℕ × ℕ) → Element
list_element entries = with_elements [] (codes "BookmarkList") (map (λ e. entry_element e) entries)

-- the header of entries
abbrev pub header_of : List (List ℕ × ℕ) → Element
header_of [] = with_text management (codes "Bookmark") earliest
header_of (e ∷ es) = with_elements management (codes "Bookmark") (list_element (e ∷ es) ∷ [])

-- the header of a bookmark
abbrev pub bookmark_element : Marks → Element
bookmark_element b = header_of (map.entries b)

-- What is written for a bookmark is read as it.
abbrev pub WrittenIsRead : Type 0
WrittenIsRead = (b : Marks) → AreEntries b → bookmark_in (bookmark_element b) ≡ Some b

-- each channel's name is UTF-8
abbrev pub AreTexts : Marks → Type 0
AreTexts b = (c : List ℕ) (n : ℕ) → map.get b c ≡ Some n → is_utf8 c ≡ true

-- What is written for a bookmark of such names is a good tree, which has room for the header, its list and an entry.
abbrev pub WrittenIsGood : Type 0
WrittenIsGood = (b : Marks) (room : ℕ) → AreEntries b → AreTexts b → IsGoodElement (bookmark_element b) (suc (suc (suc room)))
