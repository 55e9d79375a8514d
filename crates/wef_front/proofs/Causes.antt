-- Where the collector says that its store failed, it did.
use Rattle.std.proofs.Common.{◌≡◌, ℕ, Bool, true, false, cond, List, refl, sym, ◌∙◌, subst}
use Rattle.std.specs.Prelude.{Option, Some, None, Result, Ok, Err}
use Rattle.wef_base.specs.declared.tree.Charset.{Charset}
use Rattle.wef_base.specs.declared.tree.Element.{Element}
use Rattle.wef_batch.specs.declared.items.Batch.{Batch}
use Rattle.wef_batch.specs.declared.reading.BatchFault.{BatchFault}
use Rattle.wef_envelope.specs.Envelopes.{said}
use Rattle.wef_envelope.specs.declared.envelopes.Envelope.{Envelope}
use Rattle.wef_envelope.specs.declared.envelopes.EnvelopeFault.{EnvelopeFault}
use Rattle.wef_envelope.specs.declared.envelopes.EnvelopeFault.TheVariants as envelope
use Rattle.wef_ids.specs.declared.FaultName.{FaultName}
use Rattle.wef_ids.specs.declared.FaultName.TheVariants as the
use Rattle.wef_base.specs.Names.{same, source_name, subscription_name}
use Rattle.wef_envelope.specs.declared.actions.TheConstants.{ENUMERATE, EVENTS, HEARTBEAT, SUBSCRIPTION_END}
use Rattle.wef_xml.specs.declared.faults.TreeFault.{TreeFault}
use Rattle.wef_xml.specs.declared.faults.TreeFault.TheVariants as tree
use Rattle.wef_keeper.specs.Access.{HasCause}
use Rattle.wef_keeper.specs.Keeping.{Store}
use Rattle.wef_keeper.specs.Rows.{Rows}
use Rattle.wef_collector_rows.specs.Forms.{AreFormed}
use Rattle.wef_collector_rows.specs.declared.faults.CollectorFault.TheVariants.{NoMemory, NoSubscription, Exists, Ended, NotWellFormed, NotAsked, TooMany, Failed, Full}
use Rattle.wef_collector.specs.Calls.{Effect, no_effect}
use Rattle.wef_collector.specs.Offers.{offers}
use Rattle.wef_collector.specs.declared.memories.Memory.{Memory}
use Rattle.wef_eventing.specs.declared.offers.Offer.{Offer}
use Rattle.wef_bodies.specs.Leases as leases
use Rattle.wef_bodies.specs.Leases.{ended_in}
use Rattle.wef_bodies.specs.Reading.{has_enumerate}
use Rattle.wef_subscribes.specs.declared.faults.BodyFault.{BodyFault}
use Rattle.std.specs.Option.{option_and_then}
use Rattle.wef_replies.specs.Refusals.{is_nameless}
use Rattle.wef_front_collector.specs.Heard.{Hears, asked_at, asked_by, asked_of, batch_in, end_asked, enumerate_asked, events_asked, heard_in, heartbeat_asked, is_elsewhere, manager_asked, named_asked, unheard}
use Rattle.wef_replies.specs.Refusals.{HearsRead}
use Rattle.wef_front_collector.specs.Replies.{IsAnswer}
use Rattle.wef_front_collector.proofs.SaidOfCalls.{offers_answered}
use Rattle.wef_front_collector.specs.Steps.{IsAnswered, SaysFor, Steps, batch_said, done_said, effect_in}
use Rattle.wef_front_collector.specs.declared.hearing.Asked.{Asked}
use Rattle.wef_front_collector.specs.declared.hearing.Asked.TheVariants as asks
use Rattle.wef_front_collector.specs.declared.hearing.Asked.TheVariants.{Refused, Enumerate, Unread, Take, Heartbeat, UnreadEnd}
use Rattle.wef_http_heads.specs.declared.answers.Answer.{Answer}
use Rattle.wef_front_collector.specs.declared.hearing.Heard.{Heard}
use Rattle.wef_front_collector.specs.declared.saying.Said.{Said}
use Rattle.wef_http_heads.specs.declared.targets.Target.{Target}
use Rattle.wef_http_heads.specs.declared.targets.Target.TheVariants.{Manager, Delivery, Root}
use Rattle.wef_front_collector.specs.declared.saying.Said.TheVariants.{Offers, Fault}

abbrev is_internal : FaultName → Bool
is_internal the.InternalError = true
is_internal _ = false

-- ---- no message is refused so by itself

abbrev IsOther : Asked → Type 0
IsOther (Refused name) = is_internal name ≡ false
IsOther (Enumerate s) = Unit {0}
IsOther (Unread u) = Unit {0}
IsOther (Take u s batch) = Unit {0}
IsOther (Heartbeat u s ack) = Unit {0}
IsOther (UnreadEnd u) = Unit {0}
IsOther (asks.Ended u s identifier) = Unit {0}

events_other : (sub source : Option (List ℕ)) (batch : Result Batch BatchFault) → IsOther (events_asked sub source batch)
events_other None source batch = refl
events_other (Some u) None batch = tt
events_other (Some u) (Some s) (Err fault) = tt
events_other (Some u) (Some s) (Ok batch) = tt

heartbeat_other : (sub source : Option (List ℕ)) (ack : Bool) → IsOther (heartbeat_asked sub source ack)
heartbeat_other None source ack = refl
heartbeat_other (Some u) None ack = tt
heartbeat_other (Some u) (Some s) ack = tt

end_other : (sub source : Option (List ℕ)) (end : Result leases.Ended BodyFault) → IsOther (end_asked sub source end)
end_other None source end = refl
end_other (Some u) None end = tt
end_other (Some u) (Some s) (Err fault) = tt
end_other (Some u) (Some s) (Ok end) = tt

named_other : (source : Option (List ℕ)) → IsOther (named_asked source)
named_other None = refl
named_other (Some s) = tt

enumerate_other : (e : Envelope) → IsOther (enumerate_asked e)
enumerate_other e = by (is_elsewhere e.resource) (has_enumerate e.body)
  where
    by : (elsewhere there : Bool) → IsOther (cond elsewhere (Refused the.DestinationUnreachable) (cond there (named_asked (option_and_then source_name e.machine)) (Refused the.InvalidMessage)))
    by true there = refl
    by false true = named_other (option_and_then source_name e.machine)
    by false false = refl

manager_other : (e : Envelope) → IsOther (manager_asked e)
manager_other e = by (same e.action ENUMERATE.now)
  where
    by : (asks : Bool) → IsOther (cond asks (enumerate_asked e) (Refused the.ActionNotSupported))
    by true = enumerate_other e
    by false = refl

at_other : (target : Target) (e : Envelope) → IsOther (asked_at target e)
at_other Manager e = manager_other e
at_other Root e = refl
at_other (Delivery sub source) e = by (same e.action EVENTS.now) (same e.action HEARTBEAT.now) (same e.action SUBSCRIPTION_END.now)
  where
    by : (batch beat end : Bool) → IsOther (cond batch (events_asked (subscription_name sub) (source_name source) (batch_in e))
        (cond beat (heartbeat_asked (subscription_name sub) (source_name source) e.ack_wanted)
        (cond end (end_asked (subscription_name sub) (source_name source) (ended_in e.body)) (Refused the.ActionNotSupported))))
    by true beat end = events_other (subscription_name sub) (source_name source) (batch_in e)
    by false true end = heartbeat_other (subscription_name sub) (source_name source) e.ack_wanted
    by false false true = end_other (subscription_name sub) (source_name source) (ended_in e.body)
    by false false false = refl

by_other : (target : Target) (e : Envelope) → IsOther (asked_by target e)
by_other target e = by (is_nameless e)
  where
    by : (nameless : Bool) → IsOther (cond nameless (Refused the.MessageInformationHeaderRequired) (asked_at target e))
    by true = refl
    by false = at_other target e

of_other : (target : Target) (given : Result Envelope EnvelopeFault) → IsOther (asked_of target given)
of_other target (Ok e) = by_other target e
of_other target (Err envelope.NoMemory) = refl
of_other target (Err envelope.NotSoap) = refl
of_other target (Err (envelope.MustUnderstand name)) = refl
of_other target (Err (envelope.HeaderRequired name)) = refl
of_other target (Err (envelope.RepeatedHeader name)) = refl

read_other : (target : Target) (read : Result Element TreeFault) (heard : Heard) → HearsRead (heard_in target) unheard read heard → IsOther heard.asked
read_other target (Ok root) heard is = let P : Heard → Type 0 = λ h. IsOther h.asked in subst P (sym is) (of_other target (said root))
read_other target (Err tree.NoMemory) heard is = absurd is
read_other target (Err (tree.BadCharset at)) heard is = let P : Heard → Type 0 = λ h. IsOther h.asked in subst P (sym is) refl
read_other target (Err (tree.TooDeep at)) heard is = let P : Heard → Type 0 = λ h. IsOther h.asked in subst P (sym is) refl
read_other target (Err (tree.BadXml at)) heard is = let P : Heard → Type 0 = λ h. IsOther h.asked in subst P (sym is) refl
read_other target (Err (tree.Refused at)) heard is = let P : Heard → Type 0 = λ h. IsOther h.asked in subst P (sym is) refl

-- ---- and each call that is answered so failed

-- what isn't a fault says no such one
abbrev IsNoFault : {T : Type 0} → (T → Said) → Type 0
IsNoFault {T = T} tell = (given : T) → tell given ≡ Fault the.InternalError → ⊥

no_ack : (ack : Bool) → done_said ack ≡ Fault the.InternalError → ⊥
no_ack true is = cc
no_ack false is = cc

no_offers : (list : List Offer) → Offers list ≡ Fault the.InternalError → ⊥
no_offers list is = cc

says_cause : {T : Type 0} (tell : T → Said) (gives : Rows → T) (effect : Rows → Effect) (said : Said) (before now : Store) → IsNoFault tell → SaysFor IsAnswered tell gives effect said before now
    → said ≡ Fault the.InternalError → HasCause AreFormed true before now
says_cause tell gives effect said before now other (Ok done, call, answered, is) internal = absurd (other done (sym is ∙ internal))
says_cause tell gives effect said before now other (Err NoSubscription, call, answered, is) internal = let bad : ⊥ = cc in absurd bad
says_cause tell gives effect said before now other (Err Ended, call, answered, is) internal = let bad : ⊥ = cc in absurd bad
says_cause tell gives effect said before now other (Err NotWellFormed, call, answered, is) internal = let bad : ⊥ = cc in absurd bad
says_cause tell gives effect said before now other (Err Failed, call, answered, is) internal = call.cause
says_cause tell gives effect said before now other (Err NoMemory, call, answered, is) internal = absurd answered
says_cause tell gives effect said before now other (Err Exists, call, answered, is) internal = absurd answered
says_cause tell gives effect said before now other (Err TooMany, call, answered, is) internal = absurd answered
says_cause tell gives effect said before now other (Err NotAsked, call, answered, is) internal = absurd answered
says_cause tell gives effect said before now other (Err Full, call, answered, is) internal = absurd answered

name_internal : (name : FaultName) → is_internal name ≡ false → Fault name ≡ Fault the.InternalError → ⊥
name_internal the.InternalError other is = cc
name_internal the.DeliveryModeRequestedUnavailable other is = cc
name_internal the.FilteringRequestedUnavailable other is = cc
name_internal the.InvalidExpirationTime other is = cc
name_internal the.InvalidMessage other is = cc
name_internal the.UnableToRenew other is = cc
name_internal the.ActionNotSupported other is = cc
name_internal the.DestinationUnreachable other is = cc
name_internal the.MessageInformationHeaderRequired other is = cc
name_internal the.InvalidBookmark other is = cc
name_internal the.EncodingLimit other is = cc
name_internal the.InvalidEnumerationContext other is = cc
name_internal the.MustUnderstand other is = cc
name_internal (the.Other text) other is = cc

steps_cause : (host : List ℕ) (asked : Asked) (moment : ℕ) (said : Said) (before now : Store) → IsOther asked → Steps host asked moment said before now → said ≡ Fault the.InternalError
    → HasCause AreFormed true before now
steps_cause host (Refused name) moment said before now other stepped internal = absurd (name_internal name other (sym stepped.0 ∙ internal))
steps_cause host (Enumerate s) moment said before now other stepped internal =
    says_cause Offers (λ rows. offers rows s host) no_effect said before now no_offers (offers_answered host s said before now stepped) internal
steps_cause host (Unread u) moment said before now other stepped internal =
    says_cause (batch_said false) (λ rows. tt) (effect_in (Unread u) moment) said before now (λ done. no_ack false) stepped.0 internal
steps_cause host (Take u s batch) moment said before now other stepped internal =
    says_cause (batch_said batch.ack_wanted) (λ rows. tt) (effect_in (Take u s batch) moment) said before now (λ done. no_ack batch.ack_wanted) stepped internal
steps_cause host (Heartbeat u s ack) moment said before now other stepped internal =
    says_cause (batch_said ack) (λ rows. tt) (effect_in (Heartbeat u s ack) moment) said before now (λ done. no_ack ack) stepped internal
steps_cause host (UnreadEnd u) moment said before now other stepped internal =
    says_cause (batch_said false) (λ rows. tt) (effect_in (UnreadEnd u) moment) said before now (λ done. no_ack false) stepped.0 internal
steps_cause host (asks.Ended u s identifier) moment said before now other stepped internal =
    says_cause (batch_said false) (λ rows. tt) (effect_in (asks.Ended u s identifier) moment) said before now (λ done. no_ack false) stepped internal

pub internal_errors_have_a_cause :
    (host : List ℕ) (target : Target) (charset charset_of_answer : Charset) (bytes : List ℕ) (heard : Heard) (moment : ℕ) (answer : Answer) (memory memory_now : Memory) (before now : Store) →
    Hears target charset bytes heard → (is : IsAnswer host heard charset_of_answer moment answer memory memory_now before now) → is.said ≡ Fault the.InternalError →
    HasCause AreFormed true before now
internal_errors_have_a_cause host target charset charset_of_answer bytes heard moment answer memory memory_now before now hears is internal =
    steps_cause host heard.asked moment is.said before now (read_other target hears.0 heard hears.2) is.stepped internal
