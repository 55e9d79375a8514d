-- The event that a text says, by what reading the text answers.
use Rattle.std.proofs.Common.{◌≡◌, ℕ, false, List, refl, ap, ◌∙◌, ◌⊎◌, inl, inr}
use Rattle.std.specs.Option.{option_and_then}
use Rattle.std.specs.Prelude.{Option, Some, None, Result}
use Rattle.std.specs.declared.result.Result.TheVariants.{Err}
use Rattle.wef_base.specs.declared.tree.Charset.TheVariants.{Utf8}
use Rattle.wef_base.specs.declared.tree.Element.{Element}
use Rattle.wef_event.specs.Events.{Event, event_of, event_or_none}
use Rattle.wef_event.specs.Reading.{IsFaulty, Says}
use Rattle.wef_event.specs.declared.records.EventFault.{EventFault}
use Rattle.wef_event.specs.declared.records.EventFault.TheVariants.{BadEvent}
use Rattle.wef_tree_reading.proofs.Functions.{is_given, is_spelt_by}
use Rattle.wef_tree_reading.proofs.Readings.{has_no_fault}
use Rattle.wef_tree_reading.specs.Documents.{tree_of}
use Rattle.wef_lines.specs.Documents.{new_event_in}

-- the event of a text whose root is known
pub said : (text : List ℕ) (answer : Result Event EventFault) → Says false text answer → new_event_in text ≡ event_or_none answer
unfolding new_event_in
said text answer says =
    ap (option_and_then (λ root. event_or_none (event_of false root))) (is_given Utf8 text says.0 says.1) ∙ ap event_or_none says.2

-- a faulty text has none, and neither has one whose tree says none
pub bad : (text : List ℕ) (at : ℕ) → IsFaulty text at ⊎ Says false text (Err (BadEvent at)) → new_event_in text ≡ None
unfolding new_event_in
bad text at (inr says) = said text (Err (BadEvent at)) says
bad text at (inl fault) = by (tree_of Utf8 text) refl
  where
    by : (o : Option Element) → tree_of Utf8 text ≡ o → option_and_then (λ root. event_or_none (event_of false root)) o ≡ None
    by None e = refl
    by (Some root) e = absurd (has_no_fault Utf8 text root fault.0 at (is_spelt_by Utf8 text root e) fault.1)
