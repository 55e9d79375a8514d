-- An event that is the one that its text says stands for a good tree, and has a number.
use Rattle.std.proofs.Common.{◌≡◌, ℕ, ◌≤◌, ◌==◌, ◌&&◌, nat_lt, Bool, true, false, cond, List, refl, ap, sym, ◌∙◌, arith}
use Rattle.std.proofs.lemmas.Bool.{and_parts, eqb-true}
use Rattle.std.proofs.lemmas.Bool.Decides.{nat_tests}
use Rattle.std.proofs.lemmas.Option.{none-some}
use Rattle.std.specs.Prelude.{Option, Some, None, Result}
use Rattle.std.specs.Option.{option_and_then}
use Rattle.std.specs.declared.result.Result.TheVariants.{Ok, Err}
use Rattle.wef_base.specs.Names.{same}
use Rattle.wef_base.specs.declared.tree.Charset.TheVariants.{Utf8}
use Rattle.wef_base.specs.declared.tree.Element.{Element}
use Rattle.wef_collector.proofs.Hits.{one_name}
use Rattle.wef_event.proofs.Made.{is_read}
use Rattle.wef_event.specs.Events.{Event, HasTree, event_in, event_of, event_or_none, is_event, is_event_root, is_found, number_or, with_number_found}
use Rattle.wef_event.specs.Paths.{channel_in, number_in}
use Rattle.wef_replay.proofs.SaidEvents.{given_is, has_tree}
use Rattle.wef_lines.specs.Documents.{is_new_event, new_event_in}
use Rattle.wef_event.specs.declared.records.EventFault.{EventFault}
use Rattle.wef_tree_reading.proofs.Functions.{is_spelt_by}
use Rattle.wef_tree_reading.proofs.GoodTrees.{spells_good}
use Rattle.wef_tree_reading.specs.Documents.{tree_of}

-- an event is the one that was found
found_is : (event found : Event) → is_found event (Some found) ≡ true → found ≡ event
found_is event found e =
    let outer = and_parts (same event.channel found.channel && event.number == found.number) (same event.text found.text) e in
    let inner = and_parts (same event.channel found.channel) (event.number == found.number) outer.0 in
    let channel = one_name event.channel found.channel inner.0 in
    let number = eqb-true event.number found.number inner.1 in
    let text = one_name event.text found.text outer.1 in
    λ i. record { channel = sym channel i; number = sym number i; text = sym text i }

err_is_ok : (fault : EventFault) (event : Event) → ◌≡◌ {A = Result Event EventFault} (Err fault) (Ok event) → ⊥
err_is_ok fault event e = cc

-- the event of a root whose number is needed is so where it isn't
number_unneeded : (root : Element) (event : Event) → event_of true root ≡ Ok event → event_of false root ≡ Ok event
unfolding event_of
number_unneeded root event e = by (is_event_root root) (channel_in root) (number_in root) e
  where
    by : (b : Bool) (o : Option (List ℕ)) (m : Option ℕ)
        → ◌≡◌ {A = Result Event EventFault} (cond b (elim o [ Some c ↦ with_number_found root c (number_or true m) | None ↦ Err EventFault.NoChannel ]) (Err (EventFault.BadEvent 0))) (Ok event)
        → ◌≡◌ {A = Result Event EventFault} (cond b (elim o [ Some c ↦ with_number_found root c (number_or false m) | None ↦ Err EventFault.NoChannel ]) (Err (EventFault.BadEvent 0))) (Ok event)
    by false o m e = absurd (err_is_ok _ event e)
    by true None m e = absurd (err_is_ok _ event e)
    by true (Some c) None e = absurd (err_is_ok _ event e)
    by true (Some c) (Some n) e = e

-- it is the event of the tree that its text spells
pub said_has_tree : (event : Event) → is_event event ≡ true → HasTree event
unfolding is_event event_in
said_has_tree event e = by_found (event_in event.text) refl e
  where
    by_tree : (o : Option Element) → tree_of Utf8 event.text ≡ o → option_and_then (λ root. event_or_none (event_of true root)) o ≡ Some event → HasTree event
    by_tree None tree is = absurd (none-some event is)
    by_tree (Some root) tree is = (
      root,
      record {
        good = spells_good Utf8 event.text root (is_spelt_by Utf8 event.text root tree);
        event_is = number_unneeded root event (given_is (event_of true root) event is);
      },
    )

    by_found : (o : Option Event) → event_in event.text ≡ o → is_found event o ≡ true → HasTree event
    by_found None there found = absurd cc
    by_found (Some found) there is = by_tree (tree_of Utf8 event.text) refl (there ∙ ap Some (found_is event found is))

-- so is one that may have no number
pub new_has_tree : (event : Event) → is_new_event event ≡ true → HasTree event
unfolding is_new_event
new_has_tree event e = by (new_event_in event.text) refl e
  where
    by : (o : Option Event) → new_event_in event.text ≡ o → is_found event o ≡ true → HasTree event
    by None there is = absurd cc
    by (Some found) there is = has_tree event.text event (there ∙ ap Some (found_is event found is))

above_zero : (n : ℕ) → nat_lt 0 n ≡ true → 1 ≤ n
above_zero n e = grind (arith, nat_tests, e)

-- and its number is one of a record
pub said_has_number : (event : Event) → is_event event ≡ true → 1 ≤ event.number
said_has_number event e = let tree = said_has_tree event e in above_zero event.number (is_read event tree.0 tree.1 ∙ e)
