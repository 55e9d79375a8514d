-- The event that a text says is the event of a tree, so it is the one that its own text says, and its channel is a name.
use Rattle.std.proofs.Common.{◌≡◌, ℕ, ◌==◌, Bool, true, false, ◌&&◌, cond, List, [], ◌∷◌, refl, ap, subst, ◌∙◌, arith}
use Rattle.std.proofs.lemmas.Bool.Decides.{nat_tests}
use Rattle.std.proofs.lemmas.Option.{none-some, same_Some}
use Rattle.std.proofs.lemmas.Str.{is_utf8-from_IsUtf8}
use Rattle.std.specs.Cmp.Lexicographic.{nat_list_eq_equiv}
use Rattle.std.specs.Option.{option_and_then, option_or}
use Rattle.std.specs.Prelude.{Option, Some, None, Result, IfSome, codes}
use Rattle.std.specs.declared.result.Result.TheVariants.{Ok, Err}
use Rattle.wef_base.specs.Names.{channel_name, same}
use Rattle.wef_base.specs.declared.names.Letters.TheVariants.{Small}
use Rattle.wef_base.specs.declared.tree.Charset.TheVariants.{Utf8}
use Rattle.wef_base.specs.declared.tree.Element.{Element}
use Rattle.wef_base.specs.declared.tree.Node.{Node, Node-F, out-Node}
use Rattle.wef_documents.proofs.NamesSaid.{IsReadName, channel_is_read}
use Rattle.wef_elements.proofs.GoodTextsInside.{text_inside_good}
use Rattle.wef_elements.proofs.InnerTrees.{good_element}
use Rattle.wef_elements.specs.Children.{element_of}
use Rattle.wef_elements.specs.Texts.{text_inside}
use Rattle.wef_event.proofs.Made.{event_tree, made}
use Rattle.wef_event.specs.Events.{Event, HasTree, event_of, event_or_none, is_found}
use Rattle.wef_event.specs.Paths.{channel_in, field_in, first_child, if_named, named}
use Rattle.wef_event.specs.Reading.{ReadsEvent}
use Rattle.wef_event.specs.declared.records.EventFault.{EventFault}
use Rattle.wef_event.specs.declared.records.EventFault.TheVariants.{NoMemory, BadEvent, NoChannel, NoRecordId, TooLong}
use Rattle.wef_tree_reading.proofs.Functions.{is_spelt_by}
use Rattle.wef_tree_reading.proofs.GoodTrees.{spells_good}
use Rattle.wef_tree_reading.specs.Documents.{tree_of}
use Rattle.wef_xml.specs.Good.{AreGoodNodes, IsGoodElement, IsGoodNode, IsGoodTree}
use Rattle.wef_replay_values.specs.Reading.{Refuses, event_line_fault}
use Rattle.wef_lines.proofs.SaidEvents.{bad, said}
use Rattle.wef_lines.specs.Documents.{is_new_event, new_event_in}
use Rattle.wef_replay.specs.Good.{is_channel, may_be_written}
use Rattle.wef_replay.proofs.Gifts.{AllOf}
use Rattle.wef_replay.proofs.GoodNames.{kept_is_one}

-- ---- what is read

-- where reading refuses a text, it says no event
pub refused : (text : List ℕ) (fault : EventFault) → ReadsEvent false text (Err fault) → Refuses (event_line_fault fault) (new_event_in text)
refused text NoMemory reads = tt
refused text (BadEvent at) reads = bad text at reads
refused text NoChannel reads = said text (Err NoChannel) reads
refused text NoRecordId reads = said text (Err NoRecordId) reads
refused text TooLong reads = said text (Err TooLong) reads

-- ---- its tree

pub given_is : (r : Result Event EventFault) (event : Event) → event_or_none r ≡ Some event → r ≡ Ok event
given_is (Ok found) event e = ap Ok (same_Some found event e)
given_is (Err fault) event e = absurd (none-some event e)

-- the event that a text says is that of a tree
pub has_tree : (text : List ℕ) (event : Event) → new_event_in text ≡ Some event → HasTree event
unfolding new_event_in
has_tree text event e = by (tree_of Utf8 text) refl e
  where
    by : (o : Option Element) → tree_of Utf8 text ≡ o → option_and_then (λ root. event_or_none (event_of false root)) o ≡ Some event → HasTree event
    by None tree is = absurd (none-some event is)
    by (Some root) tree is = (
      root,
      record { good = spells_good Utf8 text root (is_spelt_by Utf8 text root tree); event_is = given_is (event_of false root) event is },
    )

number_self : (n : ℕ) → (n == n) ≡ true
number_self n = grind (arith, nat_tests)

-- an event of a tree is the one that its text says
pub event_is_new : (event : Event) → HasTree event → is_new_event event ≡ true
unfolding is_new_event new_event_in
event_is_new event has =
    ap (is_found event) (ap (option_and_then (λ root. event_or_none (event_of false root))) (event_tree event has.0 has.1) ∙ ap event_or_none has.1.event_is)
    ∙ (λ i. nat_list_eq_equiv.refl event.channel i && number_self event.number i && nat_list_eq_equiv.refl event.text i)

-- ---- its channel

abbrev IsGoodIn : ℕ → Option Element → Type 0
IsGoodIn room o = IfSome o (λ e. IsGoodElement e room)

named_good : (name : List ℕ) (n : Node) (room : ℕ) → IsGoodNode n room → IsGoodIn room (named name n)
named_good name n room good = by (out-Node n) (inside (element_of n) refl)
  where
    inside : (o : Option Element) → element_of n ≡ o → IsGoodIn room o
    inside None is = tt
    inside (Some e) is = good_element n e room is good

    if_so : (b : Bool) (e : Element) → IsGoodElement e room → IsGoodIn room (cond b (Some e) None)
    if_so true e h = h
    if_so false e h = tt

    by : (x : Node-F Node Element) → IsGoodIn room (elim x [ Node-F.Element e ↦ Some e | Node-F.Chars text ↦ None ]) → IsGoodIn room (elim x [ Node-F.Element e ↦ if_named name e | Node-F.Chars text ↦ None ])
    by (Node-F.Element e) h = if_so (same e.name name) e h
    by (Node-F.Chars text) h = tt

first_good : (name : List ℕ) (ns : List Node) (room : ℕ) → AreGoodNodes ns room → IsGoodIn room (first_child name ns)
first_good name [] room good = tt
first_good name (n ∷ ns) room good = by (named name n) (named_good name n room good.0) (first_good name ns room good.1)
  where
    by : (o : Option Element) → IsGoodIn room o → IsGoodIn room (first_child name ns) → IsGoodIn room (option_or o (first_child name ns))
    by None h rest = rest
    by (Some e) h rest = h

field_good : (name : List ℕ) (root : Element) → IsGoodTree root → IsGoodIn 62 (field_in name root)
field_good name root good = by (first_child (codes "System") root.children) (first_good (codes "System") root.children 63 good.2)
  where
    by : (o : Option Element) → IsGoodIn 63 o → IsGoodIn 62 (option_and_then (λ (system : Element). first_child name system.children) o)
    by None h = tt
    by (Some system) h = first_good name system.children 62 h.2

channel_good : (root : Element) (c : List ℕ) → IsGoodTree root → channel_in root ≡ Some c → is_channel c ≡ true
unfolding channel_in channel_name
channel_good root c good is = by (field_in (codes "Channel") root) (field_good (codes "Channel") root good) is
  where
    by : (o : Option Element) → IsGoodIn 62 o → option_and_then (λ field. channel_name (text_inside field)) o ≡ Some c → is_channel c ≡ true
    by None h e = absurd (none-some c e)
    by (Some field) h e =
        let read = subst (λ (o : Option (List ℕ)). IfSome o (IsReadName Small 256)) e (channel_is_read (text_inside field) (text_inside_good field 62 h)) in
        kept_is_one c (channel_name c) (is_utf8-from_IsUtf8 c read.utf8) read.reads_back

-- ---- a good line's event

pub good-new_event_in : (text : List ℕ) → AllOf (λ event. may_be_written event ≡ true) (new_event_in text)
good-new_event_in text = by (new_event_in text) refl
  where
    by : (o : Option Event) → new_event_in text ≡ o → AllOf (λ event. may_be_written event ≡ true) o
    by None is = tt
    by (Some event) is =
        let tree = has_tree text event is in
        let channel = channel_good tree.0 event.channel tree.1.good (made event tree.0 tree.1.event_is).channel in
        let new = event_is_new event tree in
        λ i. channel i && new i
