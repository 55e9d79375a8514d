-- The tree of an event with a number: it is good, and says the channel as before and the number.
use Rattle.std.proofs.Common.{◌≡◌, ℕ, zero, suc, ◌≤◌, ◌==◌, nat_lt, cond, Bool, true, false, List, [], ◌∷◌, ◌++◌, length, refl, ap, sym, subst, ◌∙◌, arith, append-nil}
use Rattle.std.specs.Prelude.{Option, Some, None, Result, IfOk, codes, is_some}
use Rattle.std.specs.Fmt.{decimal}
use Rattle.std.specs.List.{list_all}
use Rattle.std.specs.Option.{option_and_then, option_or}
use Rattle.std.specs.declared.result.Result.TheVariants.{Ok, Err}
use Rattle.std.proofs.lemmas.Bool.{and_parts}
use Rattle.std.proofs.lemmas.Bool.Decides.{nat_tests}
use Rattle.wef_base.specs.Names.{channel_name, trimmed}
use Rattle.wef_base.specs.Numbers.{is_digit}
use Rattle.wef_base.specs.declared.numbers.TheConstants.{MAX}
use Rattle.wef_base.specs.declared.tree.Element.{Element}
use Rattle.wef_base.specs.declared.tree.Node.{Node, Chars}
use Rattle.wef_base.specs.declared.tree.Node.TheVariants.{Element as Child}
use Rattle.wef_xml.specs.Good.{AreGoodNodes, IsGoodElement, IsGoodText, IsGoodTree, IsXmlText}
use Rattle.wef_xml.proofs.Ascii.{plain_name}
use Rattle.wef_tree_reading.proofs.GoodOpens.{AreGoodChildren, with_good_child}
use Rattle.wef_event.specs.Events.{Event, Gives, IsEventOf, event_limit, event_of, event_or_none, number_or, text_of_tree, unless_long, with_number_found}
use Rattle.wef_event.specs.Numbering.{NumberedEventsAreRead, new_field, numbered, numbered_by, numbered_children, numbered_root, numbered_system, record_id, with_first_changed, with_number, with_only}
use Rattle.wef_elements.specs.Texts.{text_inside}
use Rattle.wef_event.specs.Paths.{channel_in, field_in, first_child, number_in, number_of_digits}
use Rattle.wef_event.specs.PlainEvent.{MakesEvent}
use Rattle.wef_event.specs.declared.records.EventFault.{EventFault}
use Rattle.wef_event.proofs.Children.{KeepsGood, changed_apart, changed_good, first_changed, first_more, first_other, named_otherwise, named_so}
use Rattle.wef_elements.proofs.DecimalDigits.{number_text}
use Rattle.wef_elements.proofs.DigitsRead.{decimal_parts}
use Rattle.wef_event.proofs.Digits.{digits_read}
use Rattle.wef_event.proofs.Made.{event_tree, is_read, made}

abbrev system_name : List ℕ
system_name = codes "System"

abbrev channel_field : List ℕ
channel_field = codes "Channel"

-- ---- it is good

not_empty : (n : ℕ) → nat_lt 0 n ≡ true → (n == 0) ≡ false
not_empty n h = grind (arith, nat_tests)

-- the digits of a number are a text of an element
pub good_digits : (n : ℕ) → n ≤ MAX → IsGoodText (decimal n)
good_digits n small = record {
  allowed = number_text n;
  some = not_empty (length (decimal n)) (and_parts (nat_lt 0 (length (decimal n))) (list_all is_digit (decimal n)) (decimal_parts n small).0).0;
}

-- a text alone is good
alone : (text : List ℕ) (room : ℕ) → IsGoodText text → AreGoodNodes (Chars text ∷ []) room
alone text room good = (good, tt)

with_only_good : (text : List ℕ) (room : ℕ) → IsGoodText text → KeepsGood (with_only text) room
with_only_good text zero good e is = is
with_only_good text (suc room) good e is = (is.0, refl, alone text room good)

new_field_good : (space text : List ℕ) (room : ℕ) → IsXmlText space → IsGoodText text → IsGoodElement (new_field space text) (suc room)
new_field_good space text room in_space good = (
  record {
    named = plain_name (codes "EventRecordID") refl;
    in_space = in_space;
    attributed = tt;
    different = refl;
  },
  refl,
  alone text room good,
)

children_good : (space text : List ℕ) (ns : List Node) (room : ℕ) → IsXmlText space → IsGoodText text → AreGoodChildren ns (suc room) → AreGoodChildren (numbered_children space text ns) (suc room)
children_good space text ns room in_space good are = by (is_some (first_child record_id ns))
  where
    by : (b : Bool) → AreGoodChildren (cond b (with_first_changed record_id (with_only text) ns) (ns ++ Child (new_field space text) ∷ [])) (suc room)
    by true = record {
      apart = changed_apart record_id (with_only text) ns false ∙ are.apart;
      good = changed_good record_id (with_only text) ns (suc room) (with_only_good text (suc room) good) are.good;
    }
    by false = with_good_child ns (new_field space text) (suc room) are (new_field_good space text room in_space good)

system_good : (text : List ℕ) (room : ℕ) → IsGoodText text → KeepsGood (numbered_system text) (suc (suc room))
system_good text room good e is =
    let are = children_good e.space text e.children room is.0.in_space good (record { apart = is.1; good = is.2 }) in
    (is.0, are.apart, are.good)

root_good : (text : List ℕ) (room : ℕ) (root : Element) → IsGoodText text → IsGoodElement root (suc (suc (suc room))) → IsGoodElement (numbered_root text root) (suc (suc (suc room)))
root_good text room root good is = (
  is.0,
  changed_apart system_name (numbered_system text) root.children false ∙ is.1,
  changed_good system_name (numbered_system text) root.children (suc (suc room)) (system_good text room good) is.2,
)

pub numbered_good : (n : ℕ) (root : Element) → n ≤ MAX → IsGoodTree root → IsGoodTree (numbered_root (decimal n) root)
numbered_good n root small good = root_good (decimal n) 61 root (good_digits n small) good

-- ---- what it says

-- where the root has a System, its fields are those of System with a number
field_after : (name digits : List ℕ) (root system : Element) → first_child system_name root.children ≡ Some system
    → field_in name (numbered_root digits root) ≡ first_child name (numbered_children system.space digits system.children)
field_after name digits root system is =
    ap (option_and_then (λ (e : Element). first_child name e.children)) (first_changed system_name (numbered_system digits) root.children system (λ e. refl) is)

field_before : (name : List ℕ) (root system : Element) → first_child system_name root.children ≡ Some system → field_in name root ≡ first_child name system.children
field_before name root system is = ap (option_and_then (λ (e : Element). first_child name e.children)) is

-- the field Channel is as before
or_none : (o : Option Element) → option_or o None ≡ o
or_none None = refl
or_none (Some e) = refl

channel_after : (space digits : List ℕ) (ns : List Node) → first_child channel_field (numbered_children space digits ns) ≡ first_child channel_field ns
channel_after space digits ns = by (is_some (first_child record_id ns))
  where
    by : (b : Bool) → first_child channel_field (cond b (with_first_changed record_id (with_only digits) ns) (ns ++ Child (new_field space digits) ∷ [])) ≡ first_child channel_field ns
    by true = first_other record_id channel_field (with_only digits) ns refl (λ e. refl)
    by false =
        first_more channel_field ns (Child (new_field space digits))
        ∙ ap (option_or (first_child channel_field ns)) (named_otherwise channel_field (new_field space digits) refl)
        ∙ or_none (first_child channel_field ns)

-- the field EventRecordID has the digits alone
record HasDigits (digits : List ℕ) (o : Option Element) : Type 0 where
  field : Element
  is : o ≡ Some field
  only : text_inside field ≡ digits

number_after : (space digits : List ℕ) (ns : List Node) → HasDigits digits (first_child record_id (numbered_children space digits ns))
number_after space digits ns = by (first_child record_id ns) refl
  where
    by : (o : Option Element) → first_child record_id ns ≡ o
        → HasDigits digits (first_child record_id (cond (is_some o) (with_first_changed record_id (with_only digits) ns) (ns ++ Child (new_field space digits) ∷ [])))
    by (Some e) found = record {
      field = with_only digits e;
      is = first_changed record_id (with_only digits) ns e (λ x. refl) found;
      only = append-nil digits;
    }
    by None found = record {
      field = new_field space digits;
      is = first_more record_id ns (Child (new_field space digits))
          ∙ (λ i. option_or (found i) (named_so record_id (new_field space digits) refl i));
      only = append-nil digits;
    }

-- a channel is found in a System
has_system : (root : Element) (c : List ℕ) → channel_in root ≡ Some c → is_some (first_child system_name root.children) ≡ true
unfolding channel_in
has_system root c is = by (first_child system_name root.children) is
  where
    by : (o : Option Element) → option_and_then (λ field. channel_name (text_inside field)) (option_and_then (λ (e : Element). first_child channel_field e.children) o) ≡ Some c → is_some o ≡ true
    by (Some e) is = refl
    by None is = let bad : ⊥ = cc in absurd bad

-- what a root with a number says
pub record SaysNumber (n : ℕ) (root : Element) : Type 0 where
  pub channel : channel_in (numbered_root (decimal n) root) ≡ channel_in root
  pub number : number_in (numbered_root (decimal n) root) ≡ Some n

says_number : (n : ℕ) (root system : Element) → 1 ≤ n → n ≤ MAX → first_child system_name root.children ≡ Some system → SaysNumber n root
unfolding channel_in number_in
says_number n root system some small is =
    let found = number_after system.space (decimal n) system.children in
    record {
      channel = ap (option_and_then (λ field. channel_name (text_inside field)))
          (field_after channel_field (decimal n) root system is ∙ channel_after system.space (decimal n) system.children ∙ sym (field_before channel_field root system is));
      number = ap (option_and_then (λ field. number_of_digits (trimmed (text_inside field)))) (field_after record_id (decimal n) root system is ∙ found.is)
          ∙ ap (λ (text : List ℕ). number_of_digits (trimmed text)) found.only
          ∙ digits_read n some small;
    }

-- the channel is found as before, and the number too
pub found_in_numbered : (n : ℕ) (root : Element) (c : List ℕ) → 1 ≤ n → n ≤ MAX → channel_in root ≡ Some c → SaysNumber n root
found_in_numbered n root c some small channel = by (first_child system_name root.children) refl (has_system root c channel)
  where
    by : (o : Option Element) → first_child system_name root.children ≡ o → is_some o ≡ true → SaysNumber n root
    by (Some system) is there = says_number n root system some small is
    by None is there = let bad : ⊥ = cc in absurd bad

-- ---- its event

abbrev pub text_with_number : ℕ → Element → List ℕ
text_with_number n root = text_of_tree (numbered_root (decimal n) root)

either_number : (needed : Bool) (n : ℕ) → number_or needed (Some n) ≡ Ok n
either_number true n = refl
either_number false n = refl

-- it has the channel of the event, the number, and the tree's text, where that isn't too long
pub event_of_numbered : (needed : Bool) (event : Event) (node : Element) (n : ℕ) → IsEventOf event node → 1 ≤ n → n ≤ MAX
    → event_of needed (numbered_root (decimal n) node) ≡ unless_long event.channel n (text_with_number n node)
unfolding event_of
event_of_numbered needed event node n is some small =
    let found = made event node is.event_is in
    let says = found_in_numbered n node event.channel some small found.channel in
    (λ i. cond (found.root i)
    (elim ((says.channel ∙ found.channel) i) [ Some c ↦ with_number_found (numbered_root (decimal n) node) c (number_or needed (says.number i)) | None ↦ Err EventFault.NoChannel ])
    (Err (EventFault.BadEvent 0)))
    ∙ ap (with_number_found (numbered_root (decimal n) node) event.channel) (either_number needed n)

-- an event with a number is that of its tree with the number
with_number_is : (event : Event) (node : Element) (n : ℕ) → IsEventOf event node → with_number event n ≡ event_of true (numbered_root (decimal n) node)
unfolding with_number
with_number_is event node n is = ap (numbered_by n) (event_tree event node is)

-- an event that isn't too long has its channel and its number
record HasBoth (c : List ℕ) (n : ℕ) (event : Event) : Type 0 where
  channel : event.channel ≡ c
  number : event.number ≡ n

short_has : (c : List ℕ) (n : ℕ) (text : List ℕ) (event : Event) → unless_long c n text ≡ Ok event → HasBoth c n event
short_has c n text event e = by (nat_lt event_limit (length text)) e
  where
    by : (b : Bool) → ◌≡◌ {A = Result Event EventFault} (cond b (Err EventFault.TooLong) (Ok (record { channel = c; number = n; text = text }))) (Ok event) → HasBoth c n event
    by true e = let bad : ⊥ = cc in absurd bad
    by false e = let one : record { channel = c; number = n; text = text } ≡ event = cc in record { channel = sym (ap (λ x. x.channel) one); number = sym (ap (λ x. x.number) one) }

-- What a call gave for the tree of an event with a number: it is what the definition gives, with the channel of the event
-- and the number.
pub record IsNumbered (event : Event) (n : ℕ) (result : Result Event EventFault) : Type 0 where
  pub given : Gives result (with_number event n)
  pub made : MakesEvent result (numbered event n)
  pub channel : IfOk result (λ made. made.channel ≡ event.channel)
  pub number : IfOk result (λ made. made.number ≡ n)

-- only its length is wrong with it
too_long : (c : List ℕ) (n : ℕ) (text : List ℕ) (fault : EventFault) → unless_long c n text ≡ Err fault → EventFault.TooLong ≡ fault
too_long c n text fault e = by (nat_lt event_limit (length text)) e
  where
    by : (b : Bool) → ◌≡◌ {A = Result Event EventFault} (cond b (Err EventFault.TooLong) (Ok (record { channel = c; number = n; text = text }))) (Err fault) → EventFault.TooLong ≡ fault
    by true e = cc
    by false e = let bad : ⊥ = cc in absurd bad

-- what a maker gives is what it makes, where only the length may be wrong
made_as_given : (result given : Result Event EventFault) → Gives result given → ((fault : EventFault) → given ≡ Err fault → EventFault.TooLong ≡ fault) → MakesEvent result (event_or_none given)
made_as_given (Ok event) given gives only = ap event_or_none gives
made_as_given (Err EventFault.NoMemory) given gives only = tt
made_as_given (Err EventFault.TooLong) given gives only = ap event_or_none gives
made_as_given (Err (EventFault.BadEvent at)) given gives only = let other = only (EventFault.BadEvent at) gives in let bad : ⊥ = cc in absurd bad
made_as_given (Err EventFault.NoChannel) given gives only = let other = only EventFault.NoChannel gives in let bad : ⊥ = cc in absurd bad
made_as_given (Err EventFault.NoRecordId) given gives only = let other = only EventFault.NoRecordId gives in let bad : ⊥ = cc in absurd bad

-- an event with a number, by the text of its tree with the number
pub by_length : (event : Event) (node : Element) (n : ℕ) → IsEventOf event node → 1 ≤ n → n ≤ MAX → with_number event n ≡ unless_long event.channel n (text_with_number n node)
by_length event node n is some small = with_number_is event node n is ∙ event_of_numbered true event node n is some small

pub is_numbered : (event : Event) (node root : Element) (n : ℕ) (result : Result Event EventFault) → IsEventOf event node → 1 ≤ n → n ≤ MAX
    → root ≡ numbered_root (decimal n) node → Gives result (event_of true root) → IsNumbered event n result
unfolding numbered
is_numbered event node root n result is some small same gives =
    by result (subst (λ given. Gives result given) (ap (event_of true) same ∙ sym (with_number_is event node n is)) gives)
  where
    whole : with_number event n ≡ unless_long event.channel n (text_with_number n node)
    whole = by_length event node n is some small

    made_so : (r : Result Event EventFault) → Gives r (with_number event n) → MakesEvent r (event_or_none (with_number event n))
    made_so r given = made_as_given r (with_number event n) given (λ fault e. too_long event.channel n (text_with_number n node) fault (sym whole ∙ e))

    by : (r : Result Event EventFault) → Gives r (with_number event n) → IsNumbered event n r
    by (Ok made) given =
        let has = short_has event.channel n (text_with_number n node) made (sym whole ∙ given) in
        record { given = given; made = made_so (Ok made) given; channel = has.channel; number = has.number }
    by (Err fault) given = record { given = given; made = made_so (Err fault) given; channel = tt; number = tt }

-- ---- it is read

-- what a maker gave
pub given_ok : (given : Result Event EventFault) (event : Event) → event_or_none given ≡ Some event → given ≡ Ok event
given_ok (Ok other) event e = cc
given_ok (Err fault) event e = let bad : ⊥ = cc in absurd bad

some_number : (n : ℕ) → 1 ≤ n → nat_lt 0 n ≡ true
some_number n h = grind (arith, nat_tests)

pub numbered_is_read : NumberedEventsAreRead
unfolding numbered
numbered_is_read event made node n is some small e =
    let given : unless_long event.channel n (text_with_number n node) ≡ Ok made = sym (by_length event node n is some small) ∙ given_ok (with_number event n) made e in
    let has = short_has event.channel n (text_with_number n node) made given in
    let is_made : IsEventOf made (numbered_root (decimal n) node) = record {
      good = numbered_good n node small is.good;
      event_is = event_of_numbered false event node n is some small ∙ given;
    } in
    (sym (is_read made (numbered_root (decimal n) node) is_made) ∙ ap (nat_lt 0) has.number ∙ some_number n some, has.channel, has.number)
