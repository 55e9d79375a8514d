-- What is read has numbers of records.
use Rattle.std.proofs.Common.{◌≡◌, ℕ, ◌+◌, ◌-◌, ◌==◌, ◌≤◌, Bool, true, false, ◌&&◌, ◌||◌, cond, List, [], ◌∷◌, ◌++◌, nat_le, refl, subst, arith}
use Rattle.std.specs.Prelude.{Option, Some, None, Result, codes, is_some}
use Rattle.std.specs.List.{AllByRecursion}
use Rattle.std.specs.Option.{option_and_then, option_map}
use Rattle.std.specs.declared.result.Result.TheVariants.{Ok, Err}
use Rattle.std.proofs.lemmas.Bool.{and_parts}
use Rattle.std.proofs.lemmas.Bool.Decides.{nat_tests}
use Rattle.wef_base.specs.Names.{channel_name, trimmed}
use Rattle.wef_base.specs.Numbers.{is_numeral, number_within}
use Rattle.wef_base.specs.declared.numbers.TheConstants.{MAX}
use Rattle.wef_base.specs.declared.tree.Element.{Element}
use Rattle.wef_base.specs.declared.tree.Node.{Node}
use Rattle.wef_elements.specs.Children.{element_of, is_called, is_words}
use Rattle.wef_elements.specs.Spaces.{management}
use Rattle.wef_elements.specs.Texts.{text_inside}
use Rattle.wef_elements.specs.Values.{number_said}
use Rattle.wef_elements.proofs.DigitsRead.{within_greatest}
use Rattle.wef_bookmark.specs.Order.{Marks}
use Rattle.wef_event.specs.Events as events
use Rattle.wef_batch.specs.Laws.{IsSound, ReadItemsAreSound}
use Rattle.wef_batch.specs.Reading.{by_head, event_at, gone_at, gone_by, gone_in, is_range, item_of, items_from, made, mark, only_events, range_by, range_in, range_said, read_to, then_items, with_item, with_node}
use Rattle.wef_batch.specs.declared.items.Batch.{Batch}
use Rattle.wef_batch.specs.declared.items.Item.{Item}
use Rattle.wef_batch.specs.declared.items.Item.TheVariants.{Event, Dropped, Loose}
use Rattle.wef_batch.specs.declared.reading.BatchFault.{BatchFault}

some_is : (a b : Item) → Some a ≡ Some b → a ≡ b
some_is a b e = cc

none_is : (b : Item) → ◌≡◌ {A = Option Item} None (Some b) → ⊥
none_is b e = cc

sound_as : (a b : Item) → IsSound a → Some a ≡ Some b → IsSound b
sound_as a b sound e = subst IsSound (some_is a b e) sound

-- ---- numbers

small_number : (text : List ℕ) (n : ℕ) → number_said text ≡ Some n → n ≤ MAX
unfolding number_said
small_number text n is = by (is_numeral (trimmed text)) is
  where
    by : (b : Bool) → cond b (number_within MAX (trimmed text)) None ≡ Some n → n ≤ MAX
    by true e = within_greatest (trimmed text) n e
    by false e = let bad : ⊥ = cc in absurd bad

le_holds : (m n : ℕ) → nat_le m n ≡ true → m ≤ n
le_holds m n e = grind (arith, nat_tests, e)

-- ---- ranges

range_sound : (channel : Option (List ℕ)) (first last count : ℕ) (item : Item) → last ≤ MAX → range_in channel first last count ≡ Some item → IsSound item
range_sound channel first last count item small is = by (is_range first last count) refl channel is
  where
    by : (b : Bool) → is_range first last count ≡ b → (o : Option (List ℕ)) → cond b (option_map (λ c. Dropped c first last) o) None ≡ Some item → IsSound item
    by false test o e = absurd (none_is item e)
    by true test None e = absurd (none_is item e)
    by true test (Some c) e =
        let outer = and_parts (nat_le 1 first && nat_le first last) (count == last - first + 1) test in
        let inner = and_parts (nat_le 1 first) (nat_le first last) outer.0 in
        sound_as (Dropped c first last) item (le_holds 1 first inner.0, le_holds first last inner.1, small) e

by_sound : (channel : Option (List ℕ)) (first : Option ℕ) (last : List ℕ) (count : ℕ) (item : Item) → range_by channel first (number_said last) count ≡ Some item → IsSound item
by_sound channel first last count item is = by first (number_said last) refl is
  where
    by : (f l : Option ℕ) → number_said last ≡ l → range_by channel f l count ≡ Some item → IsSound item
    by None l said e = absurd (none_is item e)
    by (Some f) None said e = absurd (none_is item e)
    by (Some f) (Some l) said e = range_sound channel f l count item (small_number last l said) e

said_sound : (channel : List ℕ) (first last : Option (List ℕ)) (count : ℕ) (item : Item) → range_said channel first last count ≡ Some item → IsSound item
said_sound channel None last count item e = absurd (none_is item e)
said_sound channel (Some first) None count item e = absurd (none_is item e)
said_sound channel (Some first) (Some last) count item e = by_sound (channel_name channel) (number_said first) last count item e

gone_sound : (channel first last : Option (List ℕ)) (count : ℕ) (item : Item) → count ≤ MAX → gone_by channel first last count ≡ Some item → IsSound item
gone_sound (Some channel) first last count item small e = said_sound channel first last count item e
gone_sound None first last count item small e = by (is_some first || is_some last) e
  where
    by : (b : Bool) → cond b None (Some (Loose count)) ≡ Some item → IsSound item
    by true e = absurd (none_is item e)
    by false e = sound_as (Loose count) item small e

gone_at_sound : (e : Element) (item : Item) → gone_at e ≡ Some item → IsSound item
unfolding gone_at
gone_at_sound e item is = by (number_said (text_inside e)) refl is
  where
    by : (o : Option ℕ) → number_said (text_inside e) ≡ o → option_and_then (gone_in e) o ≡ Some item → IsSound item
    by None said is = absurd (none_is item is)
    by (Some count) said is =
        gone_sound (mark (codes "Channel") e) (mark (codes "First") e) (mark (codes "Last") e) count item (small_number (text_inside e) count said) is

-- ---- items

event_sound : (o : Option events.Event) (item : Item) → option_map (λ event. Event event) o ≡ Some item → IsSound item
event_sound None item e = absurd (none_is item e)
event_sound (Some event) item e = sound_as (Event event) item tt e

item_sound : (e : Element) (item : Item) → item_of e ≡ Some item → IsSound item
unfolding item_of
item_sound e item is = by (is_called management (codes "Event") e) (is_called management (codes "DroppedEvents") e) is
  where
    by : (b c : Bool) → cond b (option_map (λ event. Event event) (event_at e)) (cond c (gone_at e) None) ≡ Some item → IsSound item
    by true c is = event_sound (event_at e) item is
    by false true is = gone_at_sound e item is
    by false false is = absurd (none_is item is)

abbrev AreSound : List Item → Type 0
AreSound items = AllByRecursion IsSound items

one_more : (items : List Item) (item : Item) → AreSound items → IsSound item → AreSound (items ++ item ∷ [])
one_more [] item sound more = (more, tt)
one_more (i ∷ is) item sound more = (sound.0, one_more is item sound.1 more)

ok_is : (a b : List Item) → ◌≡◌ {A = Result (List Item) BatchFault} (Ok a) (Ok b) → a ≡ b
ok_is a b e = cc

err_is : (fault : BatchFault) (b : List Item) → ◌≡◌ {A = Result (List Item) BatchFault} (Err fault) (Ok b) → ⊥
err_is fault b e = cc

all_sound : (items : List Item) (ns : List Node) (out : List Item) → AreSound items → items_from items ns ≡ Ok out → AreSound out
all_sound items [] out sound is = subst AreSound (ok_is items out is) sound
all_sound items (n ∷ ns) out sound is = by (element_of n) (is_words n) is (λ more sound is. all_sound more ns out sound is)
  where
    by_item :
        (e : Element) (o : Option Item) → item_of e ≡ o → then_items (with_item items o) (λ more. items_from more ns) ≡ Ok out →
        ((more : List Item) → AreSound more → items_from more ns ≡ Ok out → AreSound out) → AreSound out
    by_item e None said is behind = absurd (err_is _ out is)
    by_item e (Some item) said is behind = behind (items ++ item ∷ []) (one_more items item sound (item_sound e item said)) is

    by :
        (o : Option Element) (words : Bool) → then_items (with_node items o words) (λ more. items_from more ns) ≡ Ok out →
        ((more : List Item) → AreSound more → items_from more ns ≡ Ok out → AreSound out) → AreSound out
    by (Some e) words is behind = by_item e (item_of e) refl is behind
    by None true is behind = absurd (err_is _ out is)
    by None false is behind = behind items sound is

-- ---- batches

batch_is : (a b : Batch) → ◌≡◌ {A = Result Batch BatchFault} (Ok a) (Ok b) → a ≡ b
batch_is a b e = cc

no_batch : (fault : BatchFault) (b : Batch) → ◌≡◌ {A = Result Batch BatchFault} (Err fault) (Ok b) → ⊥
no_batch fault b e = cc

made_sound : (to : Marks) (ack : Bool) (r : Result (List Item) BatchFault) (batch : Batch) → ((items : List Item) → r ≡ Ok items → AreSound items) → made to ack r ≡ Ok batch → AreSound batch.items
made_sound to ack (Err fault) batch sound is = absurd (no_batch fault batch is)
made_sound to ack (Ok items) batch sound is = subst (λ (b : Batch). AreSound b.items) (batch_is _ batch is) (sound items refl)

head_sound : (ack : Bool) (events : Option Element) (to : Option Marks) (batch : Batch) → by_head ack events to ≡ Ok batch → AreSound batch.items
head_sound ack None to batch is = absurd (no_batch _ batch is)
head_sound ack (Some e) None batch is = absurd (no_batch _ batch is)
head_sound ack (Some e) (Some to) batch is = made_sound to ack (items_from [] e.children) batch (λ items said. all_sound [] e.children items tt said) is

pub read_items_are_sound : ReadItemsAreSound
read_items_are_sound header ack body batch is = head_sound ack (only_events body) (read_to header) batch is
