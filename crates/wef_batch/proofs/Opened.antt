-- What an answer leaves once refusals are none is the event that there is.
use Rattle.std.proofs.Common.{◌≡◌, ap, sym, ◌∙◌}
use Rattle.std.specs.Prelude.{Option, Some, None, Result, IfOk, IsErr}
use Rattle.std.specs.declared.result.Result.TheVariants.{Ok, Err}
use Rattle.wef_event.specs.Events.{Event, Finds, Gives, event_or_none}
use Rattle.wef_event.specs.declared.records.EventFault.{EventFault}
use Rattle.wef_event.specs.declared.records.EventFault.TheVariants.{NoMemory, BadEvent, NoChannel, NoRecordId, TooLong}
use Rattle.wef_batch.specs.Reading.{Opens}

left_is : {F : Type 0} (given o : Option Event) (found : Result (Option Event) F) → given ≡ o → IfOk found (λ f. f ≡ o) → IfOk found (λ f. f ≡ given)
left_is given o (Ok f) is left = left ∙ sym is
left_is given o (Err e) is left = tt

no_answer : {F : Type 0} (given : Option Event) (found : Result (Option Event) F) → IsErr found → IfOk found (λ f. f ≡ given)
no_answer given (Ok f) err = let bad : ⊥ = cc in absurd bad
no_answer given (Err e) err = tt

pub opened :
    {F : Type 0} (answer : Result Event EventFault) (given : Option Event) (found : Result (Option Event) F) → Finds answer given → Opens answer found →
    IfOk found (λ f. f ≡ given)
opened (Ok event) given found is left = left_is given (Some event) found is left
opened (Err NoMemory) given found is left = no_answer given found left
opened (Err (BadEvent at)) given found is left = left_is given None found is left
opened (Err NoChannel) given found is left = left_is given None found is left
opened (Err NoRecordId) given found is left = left_is given None found is left
opened (Err TooLong) given found is left = left_is given None found is left

-- what is given of a tree is what is found there
pub given_is_found : (answer given : Result Event EventFault) → Gives answer given → Finds answer (event_or_none given)
given_is_found (Ok event) given is = ap event_or_none is
given_is_found (Err NoMemory) given is = tt
given_is_found (Err (BadEvent at)) given is = ap event_or_none is
given_is_found (Err NoChannel) given is = ap event_or_none is
given_is_found (Err NoRecordId) given is = ap event_or_none is
given_is_found (Err TooLong) given is = ap event_or_none is
