-- What a tree says as a list of queries (Windows' query schema). A QueryList holds elements Query, one or more; a Query holds
-- elements Select and Suppress, one or more, in any order. Names are local names, whatever the namespace; text between
-- elements and other attributes don't matter.
use Rattle.std.specs.Prelude.{◌≡◌, ℕ, ◌+◌, Bool, ◌||◌, List, [], ◌∷◌, ◌++◌, length, codes, Option, Some, None, Result, if◌then◌else◌}
use Rattle.std.specs.List.{find, flat_map}
use Rattle.std.specs.Option.{option_and_then, option_map}
use Rattle.std.specs.declared.result.Result.TheVariants.{Ok, Err}
use Rattle.wef_base.specs.Names.{channel_name, same, trimmed}
use Rattle.wef_base.specs.declared.tree.Attribute.{Attribute}
use Rattle.wef_base.specs.declared.tree.Element.{Element}
use Rattle.wef_base.specs.declared.tree.Node.{Node, out-Node, Node-F}
use Rattle.wef_elements.specs.Children.{elements_in}
use Rattle.wef_query_paths.specs.Stops.{path_or_fault}
use Rattle.wef_query_paths.specs.declared.faults.PathFault.{PathFault}
use Rattle.wef_query_paths.specs.declared.faults.PathFault.TheVariants as faults
use Rattle.wef_query.specs.Items.{QueryItem}
use Rattle.wef_query.specs.declared.QueryList.{QueryList}
use Rattle.wef_query_paths.specs.declared.path.Path.{Path}
use Rattle.wef_query.specs.declared.reading.QueryFault.{QueryFault}
use Rattle.wef_query.specs.declared.reading.QueryFault.TheVariants.{NoMemory, BadQuery, Unsupported, TooDeepQuery}

-- ---- an item

-- the value of the first attribute Path, in whatever namespace
abbrev pub path_said : List Attribute → Option (List ℕ)
path_said attributes = option_map (λ (a : Attribute). a.value) (find (λ (a : Attribute). same a.name (codes "Path")) attributes)

-- the channel that the attribute Path of an element names
abbrev pub channel_of : Element → Option (List ℕ)
channel_of e = option_and_then channel_name (path_said e.attributes)

-- an item's channel: what its own attribute Path names, or, where it has none, the one of the Query around it
abbrev pub channel_by : Option (List ℕ) → Option (List ℕ) → Option (List ℕ)
channel_by (Some own) around = channel_name own
channel_by None around = around

-- the characters that a node is, without those of elements
abbrev pub characters_of : Node → List ℕ
characters_of n = elim (out-Node n) [ Node-F.Element e ↦ [] | Node-F.Chars text ↦ text ]

-- an item's text: the characters in it, but not those of elements in it, without the spaces at both ends
abbrev pub text_of : Element → List ℕ
text_of e = trimmed (flat_map characters_of e.children)

-- what is wrong with an item's text, behind so many items, at its place
abbrev pub fault_in : ℕ → PathFault → QueryFault
fault_in before faults.NoMemory = NoMemory
fault_in before (faults.BadPath at) = BadQuery before at
fault_in before (faults.Unsupported at) = Unsupported before at
fault_in before (faults.TooDeep at) = TooDeepQuery before at

-- the item of a channel and a text, where the text says a path; it stands behind so many others
abbrev pub with_path : ℕ → ℕ → Bool → List ℕ → List ℕ → Result Path PathFault → Result QueryItem QueryFault
with_path before group suppress channel text (Ok path) = Ok (record { group = group; suppress = suppress; channel = channel; text = text })
with_path before group suppress channel text (Err fault) = Err (fault_in before fault)

-- the item of a text, where it has a channel
abbrev pub with_channel : ℕ → ℕ → Bool → Option (List ℕ) → List ℕ → Result QueryItem QueryFault
with_channel before group suppress (Some channel) text = with_path before group suppress channel text (path_or_fault text)
with_channel before group suppress None text = Err (BadQuery before 0)

abbrev pub is_select : Element → Bool
is_select e = same e.name (codes "Select")

abbrev pub is_suppress : Element → Bool
is_suppress e = same e.name (codes "Suppress")

-- the item that an element of a Query says, behind so many others; `around`: the Query's channel
abbrev pub item_of : ℕ → ℕ → Option (List ℕ) → Element → Result QueryItem QueryFault
item_of before group around e =
    if is_select e || is_suppress e
    then with_channel before group (is_suppress e) (channel_by (path_said e.attributes) around) (text_of e)
    else Err (BadQuery before 0)

-- ---- lists

-- what is read goes on where there was no fault
abbrev pub then_on : {A B : Type 0} → Result A QueryFault → (A → Result B QueryFault) → Result B QueryFault
then_on (Ok a) more = more a
then_on (Err fault) more = Err fault

-- items with that of an element of a Query
abbrev pub with_item : ℕ → Option (List ℕ) → List QueryItem → Element → Result (List QueryItem) QueryFault
with_item group around items e = then_on (item_of (length items) group around e) (λ item. Ok (items ++ item ∷ []))

-- items with those of elements of a Query
abbrev pub items_from : ℕ → Option (List ℕ) → List QueryItem → List Element → Result (List QueryItem) QueryFault
items_from group around items [] = Ok items
items_from group around items (e ∷ es) = then_on (with_item group around items e) (λ more. items_from group around more es)

-- the same of a Query with these elements, which are one or more
abbrev pub some_items : ℕ → Option (List ℕ) → List QueryItem → List Element → Result (List QueryItem) QueryFault
some_items group around items [] = Err (BadQuery (length items) 0)
some_items group around items (e ∷ es) = items_from group around items (e ∷ es)

abbrev pub is_query : Element → Bool
is_query e = same e.name (codes "Query")

-- items with those of an element of a QueryList
abbrev pub with_query : ℕ → List QueryItem → Element → Result (List QueryItem) QueryFault
with_query group items e = if is_query e then some_items group (channel_of e) items (elements_in e.children) else Err (BadQuery (length items) 0)

-- items with those of elements of a QueryList, each of which is a group, counted from the first
abbrev pub queries_from : ℕ → List QueryItem → List Element → Result (List QueryItem) QueryFault
queries_from group items [] = Ok items
queries_from group items (e ∷ es) = then_on (with_query group items e) (λ more. queries_from (group + 1) more es)

-- the items of a QueryList with these elements, which are one or more
abbrev pub items_in : List Element → Result (List QueryItem) QueryFault
items_in [] = Err (BadQuery 0 0)
items_in (e ∷ es) = queries_from 0 [] (e ∷ es)

abbrev pub is_query_list : Element → Bool
is_query_list e = same e.name (codes "QueryList")

-- The list of queries that an element says, or the first fault in the order of the document: how many items stand before
-- it, and where in the item's text it is.
unfoldable pub query_in : Element → Result QueryList QueryFault
query_in e = if is_query_list e then then_on (items_in (elements_in e.children)) (λ items. Ok (record { items = items })) else Err (BadQuery 0 0)

-- A reader answers what the definition gives, but for want of memory.
abbrev pub Reads : {A : Type 0} → Result A QueryFault → Result A QueryFault → Type 0
Reads (Ok a) given = given ≡ Ok a
Reads (Err NoMemory) given = Unit {0}
Reads (Err (BadQuery item at)) given = given ≡ Err (BadQuery item at)
Reads (Err (Unsupported item at)) given = given ≡ Err (Unsupported item at)
Reads (Err (TooDeepQuery item at)) given = given ≡ Err (TooDeepQuery item at)

-- The same of a call that changes items in place: what they are now, where it was done.
abbrev pub Takes : Result (Unit {0}) QueryFault → Result (List QueryItem) QueryFault → List QueryItem → Type 0
Takes (Ok done) given now = given ≡ Ok now
Takes (Err NoMemory) given now = Unit {0}
Takes (Err (BadQuery item at)) given now = given ≡ Err (BadQuery item at)
Takes (Err (Unsupported item at)) given now = given ≡ Err (Unsupported item at)
Takes (Err (TooDeepQuery item at)) given now = given ≡ Err (TooDeepQuery item at)
