-- A batch that is read of good trees is sound, whoever sent it: its events are those that their texts say, and its numbers are such as
-- records have.
use Rattle.std.proofs.Common.{◌≡◌, ℕ, ◌≤◌, ◌==◌, ◌&&◌, ◌||◌, Bool, true, false, cond, List, [], ◌∷◌, ◌++◌, max, refl, ap, sym, subst, ◌∙◌, arith}
use Rattle.std.proofs.lemmas.Bool.Decides.{nat_tests}
use Rattle.std.specs.Cmp.Lexicographic.{nat_list_eq_equiv}
use Rattle.std.specs.FinMap.{empty, get}
use Rattle.std.specs.List.{AllByRecursion}
use Rattle.std.specs.Option.{option_and_then, option_map}
use Rattle.std.specs.Ordering.{eq_by_cmp}
use Rattle.std.specs.Prelude.{IfOk, IfSome, Option, Some, None, Result, Ok, Err, codes, is_some, slice_get, unwrap_or}
use Rattle.wef_base.specs.Names.{channel_name, same, trimmed}
use Rattle.wef_base.specs.Numbers.{is_numeral, number_within}
use Rattle.wef_base.specs.declared.numbers.TheConstants.{MAX}
use Rattle.wef_base.specs.declared.tree.Charset.TheVariants.{Utf8}
use Rattle.wef_base.specs.declared.tree.Element.{Element}
use Rattle.wef_base.specs.declared.tree.Node.{Node, Node-F, out-Node}
use Rattle.wef_batch.proofs.InnerTrees.{only_good, root_good}
use Rattle.wef_batch.proofs.Sound.{read_items_are_sound}
use Rattle.wef_batch.specs.Laws.{IsSound}
use Rattle.wef_batch.specs.Reading as reading
use Rattle.wef_batch.specs.Reading.{AreGoodTrees, batch_of, by_head, event_at, event_by, gone_at, gone_by, gone_in, is_range, item_of, items_from, mark, only_events, range_by, range_in, range_said, read_to, then_items, with_item, with_node}
use Rattle.wef_batch.specs.declared.items.Batch.{Batch}
use Rattle.wef_batch.specs.declared.items.Item.{Item}
use Rattle.wef_batch.specs.declared.items.Item.TheVariants.{Event, Dropped, Loose}
use Rattle.wef_batch.specs.declared.reading.BatchFault.{BatchFault}
use Rattle.wef_bookmark.proofs.Joining.{get-raised, order}
use Rattle.wef_bookmark.proofs.Kept.{empty_kept}
use Rattle.wef_bookmark.specs.Nodes.{bookmark_in, by_lists, channel_of, earliest, in_header, in_list, is_entry, is_header, is_list, lists_in, number_of, of_text, raised_entry, raised_node, raised_nodes, raised_where}
use Rattle.wef_bookmark.specs.Order.{Marks, number_at, raised}
use Rattle.wef_collector.specs.FormsStay.{IsSoundBatch, IsSoundItem}
use Rattle.wef_elements.proofs.DigitsRead.{within_greatest}
use Rattle.wef_elements.proofs.InnerTrees.{good_element}
use Rattle.wef_elements.specs.Children.{element_of, elements_in, has_words, is_called, is_words}
use Rattle.wef_elements.specs.Spaces.{management}
use Rattle.wef_elements.specs.Texts.{said_in, text_inside}
use Rattle.wef_elements.specs.Values.{number_said, value_of}
use Rattle.wef_event.proofs.KeptEvents.{kept_number}
use Rattle.wef_event.proofs.Made.{made, said}
use Rattle.wef_event.specs.Events as events
use Rattle.wef_event.specs.Events.{HasTree, event_in, event_of, event_or_none, is_event, is_event_root, is_found, number_or, with_number_found}
use Rattle.wef_event.specs.Paths.{channel_in, number_in}
use Rattle.wef_event.specs.declared.records.EventFault.{EventFault}
use Rattle.wef_event.specs.declared.records.EventFault.TheVariants as event_fault
use Rattle.wef_tree_reading.proofs.Functions.{is_spelt_by}
use Rattle.wef_tree_reading.proofs.GoodTrees.{spells_good}
use Rattle.wef_tree_reading.specs.Documents.{tree_of}
use Rattle.wef_xml.specs.Good.{AreGoodNodes, IsGoodElement, IsGoodTree}

-- ---- events

-- an event has a number of a record, and is the one that its text says
abbrev IsRightEvent : events.Event → Type 0
IsRightEvent event = (event.number ≤ MAX) × (is_event event ≡ true)

err_is_ok : (fault : EventFault) (event : events.Event) → ◌≡◌ {A = Result events.Event EventFault} (Err fault) (Ok event) → ⊥
err_is_ok fault event e = cc

-- the event of a root that must have a number is that of the root all the same
with_number_or_none : (root : Element) (event : events.Event) → event_of true root ≡ Ok event → event_of false root ≡ Ok event
unfolding event_of
with_number_or_none root event e = by (is_event_root root) (channel_in root) (number_in root) e
  where
    by : (b : Bool) (o : Option (List ℕ)) (m : Option ℕ)
        → ◌≡◌ {A = Result events.Event EventFault} (cond b (elim o [ Some c ↦ with_number_found root c (number_or true m) | None ↦ Err event_fault.NoChannel ]) (Err (event_fault.BadEvent 0))) (Ok event)
        → ◌≡◌ {A = Result events.Event EventFault} (cond b (elim o [ Some c ↦ with_number_found root c (number_or false m) | None ↦ Err event_fault.NoChannel ]) (Err (event_fault.BadEvent 0))) (Ok event)
    by false o m e = absurd (err_is_ok _ event e)
    by true None m e = absurd (err_is_ok _ event e)
    by true (Some c) None e = absurd (err_is_ok _ event e)
    by true (Some c) (Some n) e = e

number_self : (n : ℕ) → (n == n) ≡ true
number_self n = grind (arith, nat_tests)

event_right : (root : Element) (event : events.Event) → IsGoodTree root → event_of true root ≡ Ok event → IsRightEvent event
unfolding is_event
event_right root event good is =
    let plain = with_number_or_none root event is in (
      kept_number event (root, record { good = good; event_is = plain }),
      ap (is_found event) (said event root good (made event root plain) ∙ ap event_or_none is)
          ∙ (λ i. nat_list_eq_equiv.refl event.channel i && number_self event.number i && nat_list_eq_equiv.refl event.text i),
    )

root_right : (root : Element) → IsGoodTree root → IfSome (event_or_none (event_of true root)) IsRightEvent
root_right root good = by (event_of true root) refl
  where
    by : (r : Result events.Event EventFault) → event_of true root ≡ r → IfSome (event_or_none r) IsRightEvent
    by (Ok event) is = event_right root event good is
    by (Err fault) is = tt

text_right : (text : List ℕ) → IfSome (event_in text) IsRightEvent
unfolding event_in
text_right text = by (tree_of Utf8 text) refl
  where
    by : (o : Option Element) → tree_of Utf8 text ≡ o → IfSome (option_and_then (λ root. event_or_none (event_of true root)) o) IsRightEvent
    by None is = tt
    by (Some root) is = root_right root (spells_good Utf8 text root (is_spelt_by Utf8 text root is))

at_right : (e : Element) → IsGoodElement e 63 → IfSome (event_at e) IsRightEvent
unfolding event_at
at_right e good = by (elements_in e.children) refl
  where
    unless_words : (words : Bool) (o : Option events.Event) → IfSome o IsRightEvent → IfSome (cond words None o) IsRightEvent
    unless_words true o right = tt
    unless_words false o right = right

    by : (es : List Element) → elements_in e.children ≡ es → IfSome (event_by es e) IsRightEvent
    by [] is = text_right (text_inside e)
    by (root ∷ []) is = unless_words (has_words e.children) (event_or_none (event_of true root)) (root_right root (root_good e root good (ap (λ es. slice_get es 0) is)))
    by (root ∷ other ∷ more) is = tt

-- ---- items

abbrev IsRight : Item → Type 0
IsRight (Event event) = IsRightEvent event
IsRight (Dropped channel first last) = Unit {0}
IsRight (Loose count) = Unit {0}

abbrev AreRight : List Item → Type 0
AreRight items = AllByRecursion IsRight items

range_right : (channel : Option (List ℕ)) (first last count : ℕ) → IfSome (range_in channel first last count) IsRight
range_right channel first last count = by (is_range first last count) channel
  where
    by : (t : Bool) (o : Option (List ℕ)) → IfSome (cond t (option_map (λ c. Dropped c first last) o) None) IsRight
    by true (Some c) = tt
    by true None = tt
    by false o = tt

by_right : (channel : Option (List ℕ)) (first last : Option ℕ) (count : ℕ) → IfSome (range_by channel first last count) IsRight
by_right channel None last count = tt
by_right channel (Some first) None count = tt
by_right channel (Some first) (Some last) count = range_right channel first last count

said_right : (channel : List ℕ) (first last : Option (List ℕ)) (count : ℕ) → IfSome (range_said channel first last count) IsRight
said_right channel None last count = tt
said_right channel (Some first) None count = tt
said_right channel (Some first) (Some last) count = by_right (channel_name channel) (number_said first) (number_said last) count

gone_by_right : (channel first last : Option (List ℕ)) (count : ℕ) → IfSome (gone_by channel first last count) IsRight
gone_by_right (Some channel) first last count = said_right channel first last count
gone_by_right None first last count = by (is_some first || is_some last)
  where
    by : (b : Bool) → IfSome (cond b None (Some (Loose count))) IsRight
    by true = tt
    by false = tt

gone_right : (e : Element) → IfSome (gone_at e) IsRight
unfolding gone_at
gone_right e = by (number_said (text_inside e))
  where
    by : (o : Option ℕ) → IfSome (option_and_then (gone_in e) o) IsRight
    by None = tt
    by (Some count) = gone_by_right (mark (codes "Channel") e) (mark (codes "First") e) (mark (codes "Last") e) count

item_right : (e : Element) → IsGoodElement e 63 → IfSome (item_of e) IsRight
unfolding item_of
item_right e good = by (is_called management (codes "Event") e) (is_called management (codes "DroppedEvents") e) (event_at e) (at_right e good)
  where
    by : (b c : Bool) (o : Option events.Event) → IfSome o IsRightEvent → IfSome (cond b (option_map (λ event. Event event) o) (cond c (gone_at e) None)) IsRight
    by true c (Some event) right = right
    by true c None right = tt
    by false true o right = gone_right e
    by false false o right = tt

one_more : (items : List Item) (item : Item) → AreRight items → IsRight item → AreRight (items ++ item ∷ [])
one_more [] item right more = (more, tt)
one_more (i ∷ is) item right more = (right.0, one_more is item right.1 more)

all_right : (items : List Item) (ns : List Node) → AreRight items → AreGoodNodes ns 63 → IfOk (items_from items ns) AreRight
all_right items [] right good = right
all_right items (n ∷ ns) right good = by (element_of n) refl (is_words n) (λ more is. all_right more ns is good.1)
  where
    then_right : (r : Result (List Item) BatchFault) → IfOk r AreRight → ((more : List Item) → AreRight more → IfOk (items_from more ns) AreRight) → IfOk (then_items r (λ more. items_from more ns)) AreRight
    then_right (Ok more) is behind = behind more is
    then_right (Err fault) is behind = tt

    with_right : (o : Option Item) → IfSome o IsRight → IfOk (with_item items o) AreRight
    with_right (Some item) is = one_more items item right is
    with_right None is = tt

    by : (o : Option Element) → element_of n ≡ o → (words : Bool) → ((more : List Item) → AreRight more → IfOk (items_from more ns) AreRight) → IfOk (then_items (with_node items o words) (λ more. items_from more ns)) AreRight
    by (Some e) is words behind = then_right (with_item items (item_of e)) (with_right (item_of e) (item_right e (good_element n e 63 is good.0))) behind
    by None is true behind = tt
    by None is false behind = behind items right

-- ---- how far it reads

small_number : (text : List ℕ) (n : ℕ) → number_said text ≡ Some n → n ≤ MAX
unfolding number_said
small_number text n is = by (is_numeral (trimmed text)) is
  where
    by : (b : Bool) → cond b (number_within MAX (trimmed text)) None ≡ Some n → n ≤ MAX
    by true e = within_greatest (trimmed text) n e
    by false e = let bad : ⊥ = cc in absurd bad

abbrev AreWithin : Marks → Type 0
AreWithin b = (c : List ℕ) (n : ℕ) → get b c ≡ Some n → n ≤ MAX

at_within : (b : Marks) (c : List ℕ) → AreWithin b → number_at b c ≤ MAX
at_within b c within = by (get b c) refl
  where
    by : (o : Option ℕ) → get b c ≡ o → unwrap_or o 0 ≤ MAX
    by None is = omega arith
    by (Some n) is = within c n is

raised_within : (b : Marks) (c : List ℕ) (to : ℕ) → to ≤ MAX → AreWithin b → AreWithin (raised b c to)
raised_within b c to most within q n is = by (eq_by_cmp order q c) (sym (get-raised b c to q) ∙ is)
  where
    by : (t : Bool) → cond t (Some (max (number_at b c) to)) (get b q) ≡ Some n → n ≤ MAX
    by true e =
        let there = at_within b c within in
        let number : n ≡ max (number_at b c) to = cc in
        subst (λ x. x ≤ MAX) (sym number) (omega arith)
    by false e = within q n e

entry_within : (b : Marks) (e : Element) → AreWithin b → IfSome (raised_entry b e) AreWithin
entry_within b e within = by (is_entry e) (channel_of e) (number_of e) (number_small (value_of [] (codes "RecordId") e.attributes))
  where
    number_small : (o : Option (List ℕ)) → IfSome (option_and_then number_said o) (λ n. n ≤ MAX)
    number_small None = tt
    number_small (Some text) = said_small (number_said text) refl
      where
        said_small : (o : Option ℕ) → number_said text ≡ o → IfSome o (λ n. n ≤ MAX)
        said_small None is = tt
        said_small (Some n) is = small_number text n is

    by : (entry : Bool) (c : Option (List ℕ)) (m : Option ℕ) → IfSome m (λ n. n ≤ MAX) → IfSome (cond entry (raised_where b c m) (Some b)) AreWithin
    by true (Some c) (Some n) small = raised_within b c n small within
    by true (Some c) None small = tt
    by true None m small = tt
    by false c m small = within

node_within : (b : Marks) (n : Node) → AreWithin b → IfSome (raised_node b n) AreWithin
node_within b n within = by (out-Node n)
  where
    by : (x : Node-F Node Element) → IfSome (elim x [ Node-F.Element e ↦ raised_entry b e | Node-F.Chars text ↦ Some b ]) AreWithin
    by (Node-F.Element e) = entry_within b e within
    by (Node-F.Chars text) = within

nodes_within : (ns : List Node) (b : Marks) → AreWithin b → IfSome (raised_nodes b ns) AreWithin
nodes_within [] b within = within
nodes_within (n ∷ ns) b within = by (raised_node b n) (node_within b n within) (λ m is. nodes_within ns m is)
  where
    by : (o : Option Marks) → IfSome o AreWithin → ((m : Marks) → AreWithin m → IfSome (raised_nodes m ns) AreWithin) → IfSome (option_and_then (λ (m : Marks). raised_nodes m ns) o) AreWithin
    by None is behind = tt
    by (Some m) is behind = behind m is

nothing_within : AreWithin empty
nothing_within c n is = (empty_kept c n is).1

text_within : (text : List ℕ) → IfSome (of_text text) AreWithin
unfolding of_text
text_within text = by (same text earliest)
  where
    by : (b : Bool) → IfSome (cond b (Some empty) None) AreWithin
    by true = nothing_within
    by false = tt

list_within : (e : Element) → IfSome (in_list e) AreWithin
list_within e = nodes_within e.children empty nothing_within

lists_within : (e : Element) (lists : List Element) → IfSome (by_lists e lists) AreWithin
lists_within e [] = text_within (said_in e)
lists_within e (list ∷ []) = by (has_words e.children)
  where
    by : (words : Bool) → IfSome (cond words None (in_list list)) AreWithin
    by true = tt
    by false = list_within list
lists_within e (list ∷ other ∷ more) = tt

bookmark_within : (e : Element) → IfSome (bookmark_in e) AreWithin
bookmark_within e = by (is_header e) (is_list e)
  where
    by : (header list : Bool) → IfSome (cond header (in_header e) (cond list (in_list e) None)) AreWithin
    by true list = lists_within e (lists_in e.children)
    by false true = list_within e
    by false false = tt

to_within : (header : Option Element) → IfSome (read_to header) AreWithin
to_within None = nothing_within
to_within (Some header) = bookmark_within header

-- ---- batches

-- the numbers of items that are read are such as records have, and so are their events
item_sound : (item : Item) → IsSound item → IsRight item → IsSoundItem item
item_sound (Event event) sound right = right
item_sound (Dropped channel first last) sound right = sound.2
item_sound (Loose count) sound right = tt

all_sound : (items : List Item) → AllByRecursion IsSound items → AreRight items → AllByRecursion IsSoundItem items
all_sound [] sound right = tt
all_sound (item ∷ items) sound right = (item_sound item sound.0 right.0, all_sound items sound.1 right.1)

abbrev IsRightBatch : Batch → Type 0
IsRightBatch batch = AreRight batch.items × AreWithin batch.to

head_right : (ack : Bool) (o : Option Element) (to : Option Marks) → IfSome o IsGoodTree → IfSome to AreWithin → IfOk (by_head ack o to) IsRightBatch
head_right ack None to good within = tt
head_right ack (Some e) None good within = tt
head_right ack (Some e) (Some to) good within = by (items_from [] e.children) (all_right [] e.children tt good.2)
  where
    by : (r : Result (List Item) BatchFault) → IfOk r AreRight → IfOk (reading.made to ack r) IsRightBatch
    by (Ok items) right = (right, within)
    by (Err fault) right = tt

only_is_good : (body : List Element) → AreGoodTrees body → (o : Option Element) → only_events body ≡ o → IfSome o IsGoodTree
only_is_good body good None is = tt
only_is_good body good (Some e) is = only_good body e good is

pub read_sound : (header : Option Element) (ack : Bool) (body : List Element) → AreGoodTrees body → IfOk (batch_of header ack body) IsSoundBatch
read_sound header ack body good = by (batch_of header ack body) refl (head_right ack (only_events body) (read_to header) (only_is_good body good (only_events body) refl) (to_within header))
  where
    by : (r : Result Batch BatchFault) → batch_of header ack body ≡ r → IfOk r IsRightBatch → IfOk r IsSoundBatch
    by (Ok batch) is right = record { items = all_sound batch.items (read_items_are_sound header ack body batch is) right.0; to = right.1 }
    by (Err fault) is right = tt
