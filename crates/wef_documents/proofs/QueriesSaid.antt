-- The channels in the queries that a good element says are such as their reader gives, so these queries can be written and
-- read again.
use Rattle.std.proofs.Common.{ℕ, zero, suc, ◌+◌, Bool, true, false, ◌||◌, cond, List, [], ◌∷◌, ◌++◌, length}
use Rattle.std.specs.Prelude.{Option, Some, None, Result, Ok, Err, IfOk, IfSome, codes}
use Rattle.std.specs.List.{AllByRecursion, find}
use Rattle.std.specs.Option.{option_and_then, option_map}
use Rattle.wef_base.specs.Names.{channel_name, same}
use Rattle.wef_base.specs.declared.names.Letters.TheVariants.{Small}
use Rattle.wef_base.specs.declared.tree.Attribute.{Attribute}
use Rattle.wef_base.specs.declared.tree.Element.{Element}
use Rattle.wef_elements.specs.Children.{elements_in}
use Rattle.wef_elements.specs.Good.{AreGoodElements}
use Rattle.wef_elements.proofs.InnerTrees.{inner_good}
use Rattle.wef_eventing.specs.Kept.{HasKeptName}
use Rattle.wef_query_paths.specs.Stops.{path_or_fault}
use Rattle.wef_query_paths.specs.declared.faults.PathFault.{PathFault}
use Rattle.wef_query.specs.Reading.{channel_by, channel_of, is_query, is_query_list, is_select, is_suppress, item_of, items_from, items_in, path_said, queries_from, query_in, some_items, text_of, then_on, with_channel, with_item, with_path, with_query}
use Rattle.wef_query.specs.Items.{QueryItem}
use Rattle.wef_query.specs.declared.QueryList.{QueryList}
use Rattle.wef_query_paths.specs.declared.path.Path.{Path}
use Rattle.wef_query.specs.declared.reading.QueryFault.{QueryFault}
use Rattle.wef_query.specs.declared.reading.QueryFault.TheVariants.{BadQuery}
use Rattle.wef_xml.specs.Good.{AreGoodAttributes, IsGoodElement, IsXmlText}
use Rattle.wef_documents.proofs.NamesSaid.{IsReadName, channel_is_read}

-- a channel as its reader gives it
abbrev IsReadChannel : List ℕ → Type 0
IsReadChannel = IsReadName Small 256

-- all items have such a channel
abbrev AreKept : List QueryItem → Type 0
AreKept items = AllByRecursion HasKeptName items

-- ---- good elements, with room for some number in one another

abbrev pub IsGood : Element → Type 0
IsGood e = (room : ℕ) × IsGoodElement e room

abbrev pub AreGood : List Element → Type 0
AreGood es = AllByRecursion IsGood es

all_good : (es : List Element) (room : ℕ) → AreGoodElements es room → AreGood es
all_good [] room good = tt
all_good (e ∷ es) room good = ((room, good.0), all_good es room good.1)

good_inside : (e : Element) (room : ℕ) → IsGoodElement e room → AreGood (elements_in e.children)
good_inside e zero good = absurd good
good_inside e (suc room) good = all_good (elements_in e.children) room (inner_good e.children room good.2)

pub elements_good : (e : Element) → IsGood e → AreGood (elements_in e.children)
elements_good e good = good_inside e good.0 good.1

-- ---- channels

path_text : (attributes : List Attribute) → AreGoodAttributes attributes → IfSome (path_said attributes) IsXmlText
path_text [] good = tt
path_text (a ∷ more) good = by (same a.name (codes "Path")) (path_text more good.1)
  where
    by : (b : Bool) → IfSome (path_said more) IsXmlText → IfSome (option_map (λ (x : Attribute). x.value) (cond b (Some a) (find (λ (x : Attribute). same x.name (codes "Path")) more))) IsXmlText
    by true rest = good.0.value
    by false rest = rest

path_good : (e : Element) (room : ℕ) → IsGoodElement e room → IfSome (path_said e.attributes) IsXmlText
path_good e zero good = absurd good
path_good e (suc room) good = path_text e.attributes good.0.attributed

around_by : (path : Option (List ℕ)) → IfSome path IsXmlText → IfSome (option_and_then channel_name path) IsReadChannel
around_by None good = tt
around_by (Some path) good = channel_is_read path good

around_good : (e : Element) → IsGood e → IfSome (channel_of e) IsReadChannel
around_good e good = around_by (path_said e.attributes) (path_good e good.0 good.1)

channel_good : (path around : Option (List ℕ)) → IfSome path IsXmlText → IfSome around IsReadChannel → IfSome (channel_by path around) IsReadChannel
channel_good None around own outer = outer
channel_good (Some path) around own outer = channel_is_read path own

-- ---- an item

path_item : (before group : ℕ) (suppress : Bool) (channel text : List ℕ) (read : Result Path PathFault) → IsReadChannel channel → IfOk (with_path before group suppress channel text read) HasKeptName
unfolding channel_name
path_item before group suppress channel text (Ok path) named = record { utf8 = named.utf8; reads_back = named.reads_back }
path_item before group suppress channel text (Err fault) named = tt

channel_item : (before group : ℕ) (suppress : Bool) (channel : Option (List ℕ)) (text : List ℕ) → IfSome channel IsReadChannel
    → IfOk (with_channel before group suppress channel text) HasKeptName
channel_item before group suppress (Some channel) text named = path_item before group suppress channel text (path_or_fault text) named
channel_item before group suppress None text named = tt

item_said : (before group : ℕ) (around : Option (List ℕ)) (e : Element) → IfSome around IsReadChannel → IsGood e → IfOk (item_of before group around e) HasKeptName
item_said before group around e outer good =
    by (is_select e || is_suppress e)
    (channel_item before group (is_suppress e) (channel_by (path_said e.attributes) around) (text_of e)
    (channel_good (path_said e.attributes) around (path_good e good.0 good.1) outer))
  where
    by : (b : Bool) → IfOk (with_channel before group (is_suppress e) (channel_by (path_said e.attributes) around) (text_of e)) HasKeptName
        → IfOk (cond b (with_channel before group (is_suppress e) (channel_by (path_said e.attributes) around) (text_of e)) (Err (BadQuery before 0))) HasKeptName
    by true item = item
    by false item = tt

-- ---- lists

with_last : (items : List QueryItem) (item : QueryItem) → AreKept items → HasKeptName item → AreKept (items ++ item ∷ [])
with_last [] item each last = (last, tt)
with_last (x ∷ items) item each last = (each.0, with_last items item each.1 last)

-- what is read goes on
goes_on : {A B : Type 0} (P : A → Type 0) (Q : B → Type 0) (r : Result A QueryFault) (more : A → Result B QueryFault) → IfOk r P → ((a : A) → P a → IfOk (more a) Q) → IfOk (then_on r more) Q
goes_on P Q (Ok a) more said step = step a said
goes_on P Q (Err fault) more said step = tt

items_said : (group : ℕ) (around : Option (List ℕ)) (done : List QueryItem) (es : List Element) → IfSome around IsReadChannel → AreGood es → AreKept done
    → IfOk (items_from group around done es) AreKept
items_said group around done [] outer good are = are
items_said group around done (e ∷ es) outer good are =
    goes_on AreKept AreKept (with_item group around done e) (λ more. items_from group around more es)
    (goes_on HasKeptName AreKept (item_of (length done) group around e) (λ item. Ok (done ++ item ∷ [])) (item_said (length done) group around e outer good.0)
    (λ item is. with_last done item are is))
    (λ more so. items_said group around more es outer good.1 so)

some_said : (group : ℕ) (around : Option (List ℕ)) (done : List QueryItem) (es : List Element) → IfSome around IsReadChannel → AreGood es → AreKept done
    → IfOk (some_items group around done es) AreKept
some_said group around done [] outer good are = tt
some_said group around done (e ∷ es) outer good are = items_said group around done (e ∷ es) outer good are

with_query_said : (group : ℕ) (done : List QueryItem) (e : Element) → IsGood e → AreKept done → IfOk (with_query group done e) AreKept
with_query_said group done e good are =
    by (is_query e) (some_said group (channel_of e) done (elements_in e.children) (around_good e good) (elements_good e good) are)
  where
    by : (b : Bool) → IfOk (some_items group (channel_of e) done (elements_in e.children)) AreKept
        → IfOk (cond b (some_items group (channel_of e) done (elements_in e.children)) (Err (BadQuery (length done) 0))) AreKept
    by true items = items
    by false items = tt

queries_said : (group : ℕ) (done : List QueryItem) (es : List Element) → AreGood es → AreKept done → IfOk (queries_from group done es) AreKept
queries_said group done [] good are = are
queries_said group done (e ∷ es) good are =
    goes_on AreKept AreKept (with_query group done e) (λ more. queries_from (group + 1) more es) (with_query_said group done e good.0 are)
    (λ more so. queries_said (group + 1) more es good.1 so)

list_said : (es : List Element) → AreGood es → IfOk (items_in es) AreKept
list_said [] good = tt
list_said (e ∷ es) good = queries_said 0 [] (e ∷ es) good tt

-- the channels of what a good element says
pub query_said : (e : Element) → IsGood e → IfOk (query_in e) (λ list. AllByRecursion HasKeptName list.items)
unfolding query_in
query_said e good =
    by (is_query_list e)
    (goes_on AreKept (λ (list : QueryList). AreKept list.items) (items_in (elements_in e.children)) (λ items. Ok (record { items = items }))
    (list_said (elements_in e.children) (elements_good e good)) (λ items are. are))
  where
    by : (b : Bool) → IfOk (then_on (items_in (elements_in e.children)) (λ items. Ok (record { items = items }))) (λ (list : QueryList). AreKept list.items)
        → IfOk (cond b (then_on (items_in (elements_in e.children)) (λ items. Ok (record { items = items }))) (Err (BadQuery 0 0))) (λ (list : QueryList). AreKept list.items)
    by true list = list
    by false list = tt

-- ---- what a good element says as a list of queries
