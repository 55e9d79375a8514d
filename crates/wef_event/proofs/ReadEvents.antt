-- What reading a text says of the event that the text has.
use Rattle.std.proofs.Common.{◌≡◌, ℕ, ◌≤◌, ◌==◌, ◌&&◌, true, false, Bool, cond, List, length, nat_lt, refl, ap, sym, ◌∙◌, ◌⊎◌, inl, inr, subst, arith}
use Rattle.std.specs.Prelude.{Option, Some, None, Result, IfErr}
use Rattle.std.specs.Option.{option_and_then}
use Rattle.std.specs.declared.result.Result.TheVariants.{Ok, Err}
use Rattle.wef_base.specs.Names.{same}
use Rattle.wef_base.specs.declared.tree.Charset.TheVariants.{Utf8}
use Rattle.wef_base.specs.declared.tree.Element.{Element}
use Rattle.wef_tree_reading.specs.Documents.{tree_of}
use Rattle.wef_tree_reading.proofs.Functions.{is_given, is_spelt_by}
use Rattle.wef_tree_reading.proofs.Readings.{has_no_fault}
use Rattle.wef_tree_reading.specs.Spelling.{Spells}
use Rattle.wef_tree.proofs.SpellsAgain.{spells_again}
use Rattle.wef_event.specs.Events.{Event, Finds, HasTree, event_in, event_limit, event_of, event_or_none, is_event, is_event_root, is_found, number_or, text_of_tree, with_number_found}
use Rattle.wef_event.specs.Paths.{channel_in, number_in}
use Rattle.wef_event.specs.Reading.{AsksForNoNumber, IsFaulty, ReadsEvent, Says}
use Rattle.wef_event.proofs.Made.{IsMade, fits, made, numbered_made}
use Rattle.wef_event.specs.declared.records.EventFault.{EventFault}
use Rattle.wef_event.specs.declared.records.EventFault.TheVariants.{NoMemory, BadEvent, NoChannel, NoRecordId, TooLong}

-- the event of a text whose root is known
said : (text : List ℕ) (answer : Result Event EventFault) → Says true text answer → event_in text ≡ event_or_none answer
unfolding event_in
said text answer says =
    ap (option_and_then (λ root. event_or_none (event_of true root))) (is_given Utf8 text says.0 says.1) ∙ ap event_or_none says.2

-- a faulty text has none
faulty : (text : List ℕ) (at : ℕ) → IsFaulty text at → event_in text ≡ None
unfolding event_in
faulty text at fault = by (tree_of Utf8 text) refl
  where
    by : (o : Option Element) → tree_of Utf8 text ≡ o → option_and_then (λ root. event_or_none (event_of true root)) o ≡ None
    by None e = refl
    by (Some root) e = absurd (has_no_fault Utf8 text root fault.0 at (is_spelt_by Utf8 text root e) fault.1)

bad : (text : List ℕ) (at : ℕ) → IsFaulty text at ⊎ Says true text (Err (BadEvent at)) → event_in text ≡ None
bad text at (inl fault) = faulty text at fault
bad text at (inr says) = said text (Err (BadEvent at)) says

-- what reading answers is the event that the text says
pub finds : (text : List ℕ) (result : Result Event EventFault) → ReadsEvent true text result → Finds result (event_in text)
finds text (Ok event) reads = said text (Ok event) reads
finds text (Err NoMemory) reads = tt
finds text (Err (BadEvent at)) reads = bad text at reads
finds text (Err NoChannel) reads = said text (Err NoChannel) reads
finds text (Err NoRecordId) reads = said text (Err NoRecordId) reads
finds text (Err TooLong) reads = said text (Err TooLong) reads

-- where reading refuses a text, no event is the one that it says
pub no_event : (event : Event) (fault : EventFault) → (fault ≡ NoMemory → ⊥) → ReadsEvent true event.text (Err fault) → false ≡ is_event event
unfolding is_event
no_event event NoMemory memory read = absurd (memory refl)
no_event event (BadEvent at) memory read = sym (ap (is_found event) (bad event.text at read))
no_event event NoChannel memory read = sym (ap (is_found event) (said event.text (Err NoChannel) read))
no_event event NoRecordId memory read = sym (ap (is_found event) (said event.text (Err NoRecordId) read))
no_event event TooLong memory read = sym (ap (is_found event) (said event.text (Err TooLong) read))

-- where reading gives an event, another is the one that the text says if it is the same
pub other_event : (event other : Event) → Says true event.text (Ok other) → (same event.channel other.channel && event.number == other.number && same event.text other.text) ≡ is_event event
unfolding is_event
other_event event other read = sym (ap (is_found event) (said event.text (Ok other) read))

-- where no number is needed, none is asked for
found_so : (root : Element) → event_of false root ≡ Err NoRecordId → ⊥
unfolding event_of
found_so root e = by (is_event_root root) (channel_in root) (number_in root) e
  where
    long : (b : Bool) (event : Event) → ◌≡◌ {A = Result Event EventFault} (cond b (Err TooLong) (Ok event)) (Err NoRecordId) → ⊥
    long true event e = cc
    long false event e = cc

    by : (b : Bool) (c : Option (List ℕ)) (m : Option ℕ)
        → ◌≡◌ {A = Result Event EventFault} (cond b (elim c [ Some c ↦ with_number_found root c (number_or false m) | None ↦ Err NoChannel ]) (Err (BadEvent 0))) (Err NoRecordId) → ⊥
    by false c m e = cc
    by true None m e = cc
    by true (Some c) None e = long (nat_lt event_limit (length (text_of_tree root))) _ e
    by true (Some c) (Some n) e = long (nat_lt event_limit (length (text_of_tree root))) _ e

pub asks_for_none : (text : List ℕ) (result : Result Event EventFault) → ReadsEvent false text result → IfErr result AsksForNoNumber
asks_for_none text (Ok event) reads = tt
asks_for_none text (Err NoMemory) reads = tt
asks_for_none text (Err (BadEvent at)) reads = tt
asks_for_none text (Err NoChannel) reads = tt
asks_for_none text (Err NoRecordId) reads = absurd (found_so reads.0 reads.2)
asks_for_none text (Err TooLong) reads = tt

-- the text of an event with a number says it, whether this is needed or not
pub says_so : (needed : Bool) (event : Event) → HasTree event → 1 ≤ event.number → Says needed event.text (Ok event)
says_so needed event has some =
    let node = has.0 in
    let is = has.1 in
    let is_made = made event node is.event_is in (
      node,
      subst (λ (text : List ℕ). Spells Utf8 text node) (sym is_made.text) (spells_again Utf8 node is.good),
      by needed is.event_is (numbered is_made.number is_made),
    )
  where
    node : Element
    node = has.0

    numbered : (number_in node ≡ Some event.number) ⊎ ((number_in node ≡ None) × (event.number ≡ 0)) → IsMade event node → event_of true node ≡ Ok event
    numbered (inl number) is_made =
        numbered_made event node is_made (Some event.number) number ∙ fits event.channel event.number (text_of_tree node) is_made.short
        ∙ ap (λ (text : List ℕ). Ok (record { channel = event.channel; number = event.number; text = text })) (sym is_made.text)
    numbered (inr none) is_made = absurd (clash none.1 some)
      where
        clash : event.number ≡ 0 → 1 ≤ event.number → ⊥
        clash zero h = omega arith

    by : (b : Bool) → event_of false node ≡ Ok event → event_of true node ≡ Ok event → event_of b node ≡ Ok event
    by true anyhow so = so
    by false anyhow so = anyhow
