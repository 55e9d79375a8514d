-- What an event of a tree is, and that its text says it.
use Rattle.std.proofs.Common.{◌≡◌, ℕ, ◌==◌, ◌&&◌, nat_lt, Bool, true, false, cond, List, length, refl, ap, sym, ◌∙◌, ◌⊎◌, inl, inr, subst, arith}
use Rattle.std.specs.Prelude.{Option, Some, None, Result, codes}
use Rattle.std.specs.Cmp.Lexicographic.{nat_list_eq_equiv}
use Rattle.std.specs.Option.{option_and_then}
use Rattle.std.specs.declared.result.Result.TheVariants.{Ok, Err}
use Rattle.std.proofs.lemmas.Bool.Decides.{nat_tests}
use Rattle.wef_base.specs.Names.{same, trimmed}
use Rattle.wef_base.specs.Numbers.{is_numeral, number_within}
use Rattle.wef_base.specs.declared.numbers.TheConstants.{MAX}
use Rattle.wef_base.specs.declared.tree.Charset.TheVariants.{Utf8}
use Rattle.wef_base.specs.declared.tree.Element.{Element}
use Rattle.wef_tree_reading.specs.Documents.{GivesTree, tree_of}
use Rattle.wef_xml.specs.Good.{IsGoodTree}
use Rattle.wef_xml.specs.declared.faults.TreeFault.{TreeFault}
use Rattle.wef_tree_reading.proofs.Functions.{is_given}
use Rattle.wef_tree.proofs.SpellsAgain.{spells_again}
use Rattle.wef_event.specs.Events.{Event, HasTree, IsEventOf, event_in, event_limit, event_of, event_or_none, is_event, is_event_root, is_found, number_or, text_of_tree, unless_long, with_number_found}
use Rattle.wef_elements.specs.Texts.{text_inside}
use Rattle.wef_event.specs.Paths.{channel_in, field_in, number_in, number_of_digits, unless_zero}
use Rattle.wef_event.specs.declared.records.EventFault.{EventFault}

-- what was found in a tree whose event this is
pub record IsMade (event : Event) (node : Element) : Type 0 where
  pub root : is_event_root node ≡ true
  pub channel : channel_in node ≡ Some event.channel
  pub number : (number_in node ≡ Some event.number) ⊎ ((number_in node ≡ None) × (event.number ≡ 0))
  pub text : event.text ≡ text_of_tree node
  pub short : nat_lt event_limit (length (text_of_tree node)) ≡ false

short_made : (c : List ℕ) (n : ℕ) (text : List ℕ) (event : Event) → unless_long c n text ≡ Ok event → (nat_lt event_limit (length text) ≡ false) × (record { channel = c; number = n; text = text } ≡ event)
short_made c n text event e = by (nat_lt event_limit (length text)) e
  where
    made : Event
    made = record { channel = c; number = n; text = text }

    by : (b : Bool) → ◌≡◌ {A = Result Event EventFault} (cond b (Err EventFault.TooLong) (Ok made)) (Ok event) → (b ≡ false) × (made ≡ event)
    by true e = absurd (err_ok e)
      where
        err_ok : ◌≡◌ {A = Result Event EventFault} (Err EventFault.TooLong) (Ok event) → ⊥
        err_ok e = cc
    by false e = (refl, ok_ok e)
      where
        ok_ok : ◌≡◌ {A = Result Event EventFault} (Ok made) (Ok event) → made ≡ event
        ok_ok e = cc

err_is_ok : (fault : EventFault) (event : Event) → ◌≡◌ {A = Result Event EventFault} (Err fault) (Ok event) → ⊥
err_is_ok fault event e = cc

pub made : (event : Event) (node : Element) → event_of false node ≡ Ok event → IsMade event node
unfolding event_of
made event node e = by (is_event_root node) refl (channel_in node) refl (number_in node) refl e
  where
    done : (c : List ℕ) (n : ℕ) → is_event_root node ≡ true → channel_in node ≡ Some c → (number_in node ≡ Some n) ⊎ ((number_in node ≡ None) × (n ≡ 0)) → unless_long c n (text_of_tree node) ≡ Ok event
        → IsMade event node
    done c n root channel number e =
        let parts = short_made c n (text_of_tree node) event e in
        let P : Event → Type 0 = λ x. IsMade x node in
        subst P parts.1 (record { root = root; channel = channel; number = number; text = refl; short = parts.0 })

    by : (b : Bool) → is_event_root node ≡ b → (o : Option (List ℕ)) → channel_in node ≡ o → (m : Option ℕ) → number_in node ≡ m
        → ◌≡◌ {A = Result Event EventFault} (cond b (elim o [ Some c ↦ with_number_found node c (number_or false m) | None ↦ Err EventFault.NoChannel ]) (Err (EventFault.BadEvent 0))) (Ok event) → IsMade event node
    by false root o channel m number e = absurd (err_is_ok _ event e)
    by true root None channel m number e = absurd (err_is_ok _ event e)
    by true root (Some c) channel None number e = done c 0 root channel (inr (number, refl)) e
    by true root (Some c) channel (Some n) number e = done c n root channel (inl number) e

-- the text of a good tree is read as this tree
pub tree_again : (node : Element) → IsGoodTree node → tree_of Utf8 (text_of_tree node) ≡ Some node
tree_again node good = is_given Utf8 (text_of_tree node) node (spells_again Utf8 node good)

-- the text of an event is read as its tree
pub event_tree : (event : Event) (node : Element) → IsEventOf event node → tree_of Utf8 event.text ≡ Some node
event_tree event node is = ap (tree_of Utf8) (made event node is.event_is).text ∙ tree_again node is.good

-- and as no other
pub the_tree : (event : Event) (root : Element) → HasTree event → tree_of Utf8 event.text ≡ Some root → IsEventOf event root
the_tree event root has read = subst (λ node. IsEventOf event node) (one (sym (event_tree event has.0 has.1) ∙ read)) has.1
  where
    one : ◌≡◌ {A = Option Element} (Some has.0) (Some root) → has.0 ≡ root
    one e = cc

-- so reading finds no fault in it
pub no_fault : (event : Event) (fault : TreeFault) → HasTree event → (fault ≡ TreeFault.NoMemory → ⊥) → GivesTree (Err fault) (tree_of Utf8 event.text) → ⊥
no_fault event fault has memory gives = by fault memory gives
  where
    none : tree_of Utf8 event.text ≡ None → ⊥
    none e = let is = event_tree event has.0 has.1 in cc

    by : (f : TreeFault) → (f ≡ TreeFault.NoMemory → ⊥) → GivesTree (Err f) (tree_of Utf8 event.text) → ⊥
    by TreeFault.NoMemory memory gives = memory refl
    by (TreeFault.BadCharset at) memory gives = none gives
    by (TreeFault.BadXml at) memory gives = none gives
    by (TreeFault.TooDeep at) memory gives = none gives
    by (TreeFault.Refused at) memory gives = none gives

-- the event that the text of an event's tree says
pub said : (event : Event) (node : Element) → IsGoodTree node → IsMade event node → event_in event.text ≡ event_or_none (event_of true node)
unfolding event_in
said event node good made =
    ap (λ text. option_and_then (λ root. event_or_none (event_of true root)) (tree_of Utf8 text)) made.text
    ∙ ap (option_and_then (λ root. event_or_none (event_of true root))) (tree_again node good)

same_self : (text : List ℕ) → same text text ≡ true
same_self text = nat_list_eq_equiv.refl text

number_self : (n : ℕ) → (n == n) ≡ true
number_self n = grind (arith, nat_tests)

found_itself : (event : Event) → is_found event (Some event) ≡ true
found_itself event = λ i. same_self event.channel i && number_self event.number i && same_self event.text i

-- a number that was found isn't 0
above_zero : (n m : ℕ) → unless_zero n ≡ Some m → nat_lt 0 m ≡ true
above_zero n m e = by (nat_lt 0 n) refl e
  where
    by : (b : Bool) → nat_lt 0 n ≡ b → cond b (Some n) None ≡ Some m → nat_lt 0 m ≡ true
    by true above e = let same : n ≡ m = cc in ap (nat_lt 0) (sym same) ∙ above
    by false above e = let bad : ⊥ = cc in absurd bad

digits_above : (digits : List ℕ) (m : ℕ) → number_of_digits digits ≡ Some m → nat_lt 0 m ≡ true
digits_above digits m e = by (is_numeral digits) (number_within MAX digits) e
  where
    by : (b : Bool) (o : Option ℕ) → cond b (option_and_then unless_zero o) None ≡ Some m → nat_lt 0 m ≡ true
    by true (Some n) e = above_zero n m e
    by true None e = let bad : ⊥ = cc in absurd bad
    by false o e = let bad : ⊥ = cc in absurd bad

pub found_above : (node : Element) (m : ℕ) → number_in node ≡ Some m → nat_lt 0 m ≡ true
unfolding number_in
found_above node m e = by (field_in (codes "EventRecordID") node) e
  where
    by : (o : Option Element) → option_and_then (λ field. number_of_digits (trimmed (text_inside field))) o ≡ Some m → nat_lt 0 m ≡ true
    by None e = let bad : ⊥ = cc in absurd bad
    by (Some field) e = digits_above (trimmed (text_inside field)) m e

-- the event of a root whose number is needed, by what was found
pub numbered_made : (event : Event) (node : Element) → IsMade event node → (m : Option ℕ) → number_in node ≡ m
    → event_of true node ≡ with_number_found node event.channel (number_or true m)
unfolding event_of
numbered_made event node made m number =
    λ i. cond (made.root i) (elim (made.channel i) [ Some c ↦ with_number_found node c (number_or true (number i)) | None ↦ Err EventFault.NoChannel ]) (Err (EventFault.BadEvent 0))

pub fits : (c : List ℕ) (n : ℕ) (text : List ℕ) → nat_lt event_limit (length text) ≡ false → unless_long c n text ≡ Ok (record { channel = c; number = n; text = text })
fits c n text short = ap (λ (b : Bool). by b) short
  where
    by : Bool → Result Event EventFault
    by b = cond b (Err EventFault.TooLong) (Ok (record { channel = c; number = n; text = text }))

-- an event with a number is the one that its text says, and only such a one is
pub is_read : (event : Event) (node : Element) → IsEventOf event node → nat_lt 0 event.number ≡ is_event event
unfolding is_event
is_read event node is = by (number_in node) refl
  where
    found : IsMade event node
    found = made event node is.event_is

    whole : (m : Option ℕ) → number_in node ≡ m → event_in event.text ≡ event_or_none (with_number_found node event.channel (number_or true m))
    whole m number = said event node is.good found ∙ ap event_or_none (numbered_made event node found m number)

    other : (n : ℕ) → number_in node ≡ Some n → (number_in node ≡ Some event.number) ⊎ ((number_in node ≡ None) × (event.number ≡ 0)) → n ≡ event.number
    other n number (inl same) = cc
    other n number (inr none) = let bad : ⊥ = cc in absurd bad

    none : number_in node ≡ None → (number_in node ≡ Some event.number) ⊎ ((number_in node ≡ None) × (event.number ≡ 0)) → event.number ≡ 0
    none number (inl same) = let bad : ⊥ = cc in absurd bad
    none number (inr parts) = parts.1

    itself : (n : ℕ) → n ≡ event.number → record { channel = event.channel; number = n; text = text_of_tree node } ≡ event
    itself n same = λ i. record { channel = event.channel; number = same i; text = sym found.text i }

    by : (m : Option ℕ) → number_in node ≡ m → nat_lt 0 event.number ≡ is_found event (event_in event.text)
    by None number = ap (nat_lt 0) (none number found.number) ∙ sym (ap (is_found event) (whole None number))
    by (Some n) number =
        let same = other n number found.number in
        ap (nat_lt 0) (sym same) ∙ found_above node n number
        ∙ sym (ap (is_found event) (whole (Some n) number ∙ ap event_or_none (fits event.channel n (text_of_tree node) found.short) ∙ ap Some (itself n same)) ∙ found_itself event)
