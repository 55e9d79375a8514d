-- What is written for a batch is read as it.
use Rattle.std.proofs.Common.{◌≡◌, ℕ, ◌+◌, ◌-◌, ◌==◌, ◌≤◌, true, false, ◌&&◌, cond, List, [], ◌∷◌, ◌++◌, map, refl, ap, sym, ◌∙◌, append_assoc, append-nil, arith}
use Rattle.std.specs.Prelude.{Option, Some, None, codes}
use Rattle.std.specs.Fmt.{decimal}
use Rattle.std.specs.List.{AllByRecursion}
use Rattle.std.specs.Option.{option_and_then, option_map}
use Rattle.std.specs.Cmp.Lexicographic.{nat_list_eq_equiv}
use Rattle.std.specs.declared.result.Result.TheVariants.{Ok}
use Rattle.std.proofs.lemmas.Bool.{and_parts}
use Rattle.std.proofs.lemmas.Bool.Decides.{nat_tests}
use Rattle.wef_base.specs.Names.{channel_name, same}
use Rattle.wef_base.specs.declared.numbers.TheConstants.{MAX}
use Rattle.wef_base.specs.declared.tree.Attribute.{Attribute}
use Rattle.wef_base.specs.declared.tree.Element.{Element}
use Rattle.wef_base.specs.declared.tree.Node.TheVariants.{Element as Child}
use Rattle.wef_elements.specs.Children.{as_nodes, is_called, is_words}
use Rattle.wef_elements.specs.Spaces.{management, profile}
use Rattle.wef_elements.specs.Values.{number_said}
use Rattle.wef_elements.proofs.Again.{child_is, none_inside, text_again}
use Rattle.wef_elements.proofs.DigitsRead.{digits_say}
use Rattle.wef_bookmark.proofs.WrittenRead as bookmarks
use Rattle.wef_event.specs.Events as events
use Rattle.wef_event.specs.Events.{event_in, is_event, is_found}
use Rattle.wef_batch.specs.Elements.{batch_element, event_element, gone_element, item_element, range_attributes, range_element}
use Rattle.wef_batch.specs.Laws.{IsPlain, WrittenIsRead}
use Rattle.wef_batch.specs.Reading.{by_head, event_at, event_by, gone_at, gone_in, is_range, item_of, items_from, made, only_events, range_by, then_items, with_item, with_node}
use Rattle.wef_batch.specs.declared.items.Item.{Item}
use Rattle.wef_batch.specs.declared.items.Item.TheVariants.{Event, Dropped, Loose}
use Rattle.wef_batch.proofs.Reached.{one_name}

same_self : (text : List ℕ) → same text text ≡ true
same_self text = nat_list_eq_equiv.refl text

-- ---- events

one_number : (a b : ℕ) → (a == b) ≡ true → a ≡ b
one_number a b e = grind (arith, nat_tests, e)

-- an event that is the one its text says is found there
event_again : (event : events.Event) → is_event event ≡ true → event_in event.text ≡ Some event
unfolding is_event
event_again event is = by (event_in event.text) is
  where
    by : (o : Option events.Event) → is_found event o ≡ true → o ≡ Some event
    by None found = let bad : ⊥ = cc in absurd bad
    by (Some other) found =
        let outer = and_parts (same event.channel other.channel && event.number == other.number) (same event.text other.text) found in
        let inner = and_parts (same event.channel other.channel) (event.number == other.number) outer.0 in
        λ i. Some (record {
          channel = sym (one_name event.channel other.channel inner.0) i;
          number = sym (one_number event.number other.number inner.1) i;
          text = sym (one_name event.text other.text outer.1) i;
        })

-- an element Event is an item by its event
as_event : (e : Element) → is_called management (codes "Event") e ≡ true → item_of e ≡ option_map (λ event. Event event) (event_at e)
unfolding item_of
as_event e is = ap (λ b. cond b (option_map (λ event. Event event) (event_at e)) (cond (is_called management (codes "DroppedEvents") e) (gone_at e) None)) is

text_read : (text : List ℕ) → event_at (event_element text) ≡ event_in text
unfolding event_at
text_read text = ap (λ es. event_by es (event_element text)) (none_inside text) ∙ ap event_in (text_again text)

event_item_again : (event : events.Event) → is_event event ≡ true → item_of (event_element event.text) ≡ Some (Event event)
event_item_again event is =
    as_event (event_element event.text) (same_self management)
    ∙ ap (option_map (λ x. Event x)) (text_read event.text ∙ event_again event is)

-- ---- what is gone

-- an element DroppedEvents is an item by what it says is gone
as_gone : (e : Element) → is_called management (codes "Event") e ≡ false → is_called management (codes "DroppedEvents") e ≡ true → item_of e ≡ gone_at e
unfolding item_of
as_gone e other is = λ i. cond (other i) (option_map (λ event. Event event) (event_at e)) (cond (is i) (gone_at e) None)

gone_read : (attributes : List Attribute) (count : ℕ) → count ≤ MAX → gone_at (gone_element attributes count) ≡ gone_in (gone_element attributes count) count
unfolding gone_at
gone_read attributes count small =
    ap (option_and_then (gone_in (gone_element attributes count))) (ap number_said (text_again (decimal count)) ∙ digits_say count small)

gone_item : (attributes : List Attribute) (count : ℕ) → count ≤ MAX → item_of (gone_element attributes count) ≡ gone_in (gone_element attributes count) count
gone_item attributes count small = as_gone (gone_element attributes count) refl (same_self management) ∙ gone_read attributes count small

-- the attributes of a range say it
marked : (c : List ℕ) (first last count : ℕ) →
    gone_in (gone_element (range_attributes c first last) count) count ≡ range_by (channel_name c) (number_said (decimal first)) (number_said (decimal last)) count
unfolding profile
marked c first last count = refl

range_is : (first last : ℕ) → 1 ≤ first → first ≤ last → is_range first last (last - first + 1) ≡ true
range_is first last some ordered = grind (arith, nat_tests)

below_last : (first last : ℕ) → first ≤ last → last ≤ MAX → first ≤ MAX
below_last first last ordered small = omega arith

counted : (first last : ℕ) → 1 ≤ first → first ≤ last → last ≤ MAX → last - first + 1 ≤ MAX
counted first last some ordered small = omega arith

range_again : (c : List ℕ) (first last : ℕ) → IsPlain (Dropped c first last) → item_of (range_element c first last) ≡ Some (Dropped c first last)
range_again c first last (named, some, ordered, small) =
    let count = last - first + 1 in
    gone_item (range_attributes c first last) count (counted first last some ordered small)
    ∙ marked c first last count
    ∙ (λ i. range_by (named i) (digits_say first (below_last first last ordered small) i) (digits_say last small i) count)
    ∙ ap (λ b. cond b (Some (Dropped c first last)) None) (range_is first last some ordered)

loose_again : (count : ℕ) → count ≤ MAX → item_of (gone_element [] count) ≡ Some (Loose count)
loose_again count small = gone_item [] count small

-- ---- batches

item_again : (item : Item) → IsPlain item → item_of (item_element item) ≡ Some item
unfolding item_element
item_again (Event event) plain = event_item_again event plain
item_again (Dropped channel first last) plain = range_again channel first last plain
item_again (Loose count) plain = loose_again count plain

items_again : (done items : List Item) → AllByRecursion IsPlain items → items_from done (as_nodes (map (λ item. item_element item) items)) ≡ Ok (done ++ items)
items_again done [] plain = ap Ok (sym (append-nil done))
items_again done (item ∷ items) plain =
    let e = item_element item in
    let more = as_nodes (map (λ x. item_element x) items) in
    ap (λ o. then_items (with_node done o (is_words (Child e))) (λ have. items_from have more)) (child_is e)
    ∙ ap (λ o. then_items (with_item done o) (λ have. items_from have more)) (item_again item plain.0)
    ∙ items_again (done ++ item ∷ []) items plain.1
    ∙ ap Ok (append_assoc done (item ∷ []) items)

one_element : (items : List Item) → only_events (batch_element items ∷ []) ≡ Some (batch_element items)
one_element items = ap (λ b. cond b (Some (batch_element items)) None) (same_self management)

pub written_is_read : WrittenIsRead
written_is_read batch plain kept =
    (λ i. by_head batch.ack_wanted (one_element batch.items i) (bookmarks.written_is_read batch.to kept i))
    ∙ ap (made batch.to batch.ack_wanted) (items_again [] batch.items plain)
