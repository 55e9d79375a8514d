-- What is heard in a request, whoever sent it: a batch is sound.
use Rattle.std.proofs.Common.{◌≡◌, ℕ, Bool, true, false, cond, List, refl, sym, subst}
use Rattle.std.specs.Option.{option_and_then}
use Rattle.std.specs.Prelude.{IfOk, Option, Some, None, Result, Ok, Err}
use Rattle.wef_base.specs.Names.{same, source_name, subscription_name}
use Rattle.wef_base.specs.declared.tree.Charset.{Charset}
use Rattle.wef_base.specs.declared.tree.Element.{Element}
use Rattle.wef_batch.specs.Reading.{AreGoodTrees}
use Rattle.wef_batch.specs.declared.items.Batch.{Batch}
use Rattle.wef_batch.specs.declared.reading.BatchFault.{BatchFault}
use Rattle.wef_bodies.specs.Leases.{Ended, ended_in}
use Rattle.wef_bodies.specs.Reading.{has_enumerate}
use Rattle.wef_collector.specs.FormsStay.{IsSoundBatch}
use Rattle.wef_envelope.specs.Envelopes.{said}
use Rattle.wef_envelope.specs.declared.actions.TheConstants.{ENUMERATE, EVENTS, HEARTBEAT, SUBSCRIPTION_END}
use Rattle.wef_envelope.specs.declared.envelopes.Envelope.{Envelope}
use Rattle.wef_envelope.specs.declared.envelopes.EnvelopeFault.{EnvelopeFault}
use Rattle.wef_front_collector.specs.Heard.{Hears, asked_at, asked_by, asked_of, batch_in, delivery_asked, end_asked, enumerate_asked, events_asked, heard_in, heartbeat_asked, is_elsewhere, manager_asked, named_asked, unheard}
use Rattle.wef_front_collector.specs.declared.hearing.Asked.{Asked}
use Rattle.wef_front_collector.specs.declared.hearing.Asked.TheVariants.{Refused}
use Rattle.wef_front_collector.specs.declared.hearing.Heard.{Heard}
use Rattle.wef_http_heads.specs.declared.targets.Target.{Target}
use Rattle.wef_http_heads.specs.declared.targets.Target.TheVariants.{Manager, Delivery, Root}
use Rattle.wef_ids.specs.declared.FaultName.{FaultName}
use Rattle.wef_replies.proofs.ReadIsGood.{body_is_good}
use Rattle.wef_replies.specs.Refusals.{HearsRead, HearsRefused, is_nameless, tree_refused}
use Rattle.wef_subscribes.specs.declared.faults.BodyFault.{BodyFault}
use Rattle.wef_tree_reading.proofs.Walks.{good_read}
use Rattle.wef_xml.specs.Good.{IsGoodTree}
use Rattle.wef_xml.specs.declared.faults.TreeFault.{TreeFault}
use Rattle.wef_runs.proofs.BatchesSound.{read_sound}
use Rattle.wef_runs.specs.Deeds.{IsSoundAsked}

chosen : (b : Bool) (one other : Asked) → IsSoundAsked one → IsSoundAsked other → IsSoundAsked (cond b one other)
chosen true one other is more = is
chosen false one other is more = more

-- ---- where a source delivers

events_sound : (u s : Option (List ℕ)) (r : Result Batch BatchFault) → IfOk r IsSoundBatch → IsSoundAsked (events_asked u s r)
events_sound None s r is = tt
events_sound (Some u) None r is = tt
events_sound (Some u) (Some s) (Err fault) is = tt
events_sound (Some u) (Some s) (Ok batch) is = is

heartbeat_sound : (u s : Option (List ℕ)) (ack : Bool) → IsSoundAsked (heartbeat_asked u s ack)
heartbeat_sound None s ack = tt
heartbeat_sound (Some u) None ack = tt
heartbeat_sound (Some u) (Some s) ack = tt

end_sound : (u s : Option (List ℕ)) (end : Result Ended BodyFault) → IsSoundAsked (end_asked u s end)
end_sound None s end = tt
end_sound (Some u) None end = tt
end_sound (Some u) (Some s) (Err fault) = tt
end_sound (Some u) (Some s) (Ok end) = tt

delivery_sound : (sub source : List ℕ) (e : Envelope) → AreGoodTrees e.body → IsSoundAsked (delivery_asked sub source e)
delivery_sound sub source e good =
    chosen (same e.action EVENTS.now) _ _ (events_sound (subscription_name sub) (source_name source) (batch_in e) (read_sound e.bookmark e.ack_wanted e.body good))
    (chosen (same e.action HEARTBEAT.now) _ _ (heartbeat_sound (subscription_name sub) (source_name source) e.ack_wanted)
    (chosen (same e.action SUBSCRIPTION_END.now) _ _ (end_sound (subscription_name sub) (source_name source) (ended_in e.body)) tt))

-- ---- at the collector itself

named_sound : (s : Option (List ℕ)) → IsSoundAsked (named_asked s)
named_sound None = tt
named_sound (Some s) = tt

enumerate_sound : (e : Envelope) → IsSoundAsked (enumerate_asked e)
enumerate_sound e = chosen (is_elsewhere e.resource) _ _ tt (chosen (has_enumerate e.body) _ _ (named_sound (option_and_then source_name e.machine)) tt)

-- ---- at any target

at_sound : (target : Target) (e : Envelope) → AreGoodTrees e.body → IsSoundAsked (asked_at target e)
at_sound Manager e good = chosen (same e.action ENUMERATE.now) _ _ (enumerate_sound e) tt
at_sound (Delivery sub source) e good = delivery_sound sub source e good
at_sound Root e good = tt

tree_sound : (target : Target) (root : Element) → IsGoodTree root → IsSoundAsked (asked_of target (said root))
tree_sound target root good = by (said root) refl
  where
    by : (r : Result Envelope EnvelopeFault) → said root ≡ r → IsSoundAsked (asked_of target r)
    by (Ok e) is = chosen (is_nameless e) _ _ tt (at_sound target e (body_is_good root e good is))
    by (Err fault) is = tt

pub heard_sound : (target : Target) (charset : Charset) (bytes : List ℕ) (heard : Heard) → Hears target charset bytes heard → IsSoundAsked heard.asked
heard_sound target charset bytes heard (read, reads, hears) = by read (good_read charset bytes read reads) hears
  where
    refused : (o : Option FaultName) → HearsRefused unheard o heard → IsSoundAsked heard.asked
    refused None none = absurd none
    refused (Some name) is = subst (λ (h : Heard). IsSoundAsked h.asked) (sym is) tt

    by : (r : Result Element TreeFault) → IfOk r (λ root. IsGoodTree root) → HearsRead (heard_in target) unheard r heard → IsSoundAsked heard.asked
    by (Ok root) good is = subst (λ (h : Heard). IsSoundAsked h.asked) (sym is) (tree_sound target root good)
    by (Err fault) good is = refused (tree_refused fault) is
