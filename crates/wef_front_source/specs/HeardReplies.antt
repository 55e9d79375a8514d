-- What the bytes of a reply say to a source.
use Rattle.std.specs.Prelude.{◌≡◌, ℕ, false, List, Option, Some, None, Result, Ok, Err, if◌then◌else◌}
use Rattle.std.specs.Option.{option_and_then, option_map}
use Rattle.wef_base.specs.Names.{same}
use Rattle.wef_base.specs.declared.tree.Charset.TheVariants.{Utf8}
use Rattle.wef_base.specs.declared.tree.Element.{Element}
use Rattle.wef_envelope.specs.Envelopes.{id_in, said}
use Rattle.wef_envelope.specs.declared.actions.TheConstants.{ACK, ENUMERATE_RESPONSE}
use Rattle.wef_envelope.specs.declared.envelopes.Envelope.{Envelope}
use Rattle.wef_envelope.specs.declared.envelopes.EnvelopeFault.{EnvelopeFault}
use Rattle.wef_ids.specs.Ids.{ids_agree}
use Rattle.wef_ids.specs.declared.MessageId.{MessageId}
use Rattle.wef_bodies.specs.Offers.{offers_in}
use Rattle.wef_eventing.specs.declared.offers.Offer.{Offer}
use Rattle.std.specs.Result.{result_ok}
use Rattle.wef_source.specs.Answers.{Adopts, Answers, waiting_for}
use Rattle.wef_source.specs.Machine.{End}
use Rattle.wef_source.specs.declared.messages.Moved.TheVariants as moved
use Rattle.wef_source.specs.declared.messages.Reply as reply
use Rattle.wef_source.specs.declared.messages.Reply.TheVariants as replies
use Rattle.wef_replies.specs.Faults.{fault_among}
use Rattle.wef_tree_reading.specs.Documents.{tree_of}
use Rattle.wef_front_source.specs.declared.listening.Hears.{Hears}
use Rattle.wef_front_source.specs.declared.listening.Hears.TheVariants.{Adopted, Moved, Refused, NotAsked, Unreadable}

-- the reply that an envelope is: an acknowledgement by its action, or else a fault
abbrev pub reply_in : Envelope → Option reply.Reply
reply_in e = if same e.action ACK.now then Some replies.Ack else option_map replies.Fault (fault_among e.body)

-- what a reply answers, and how
abbrev pub Told : Type 0
Told = MessageId × reply.Reply

abbrev pub told_in : Option MessageId → Option reply.Reply → Option Told
told_in None answer = None
told_in (Some relates) answer = option_map (λ (r : reply.Reply). (relates, r)) answer

-- offers, and what they answer
abbrev pub Offered : Type 0
Offered = MessageId × List Offer

abbrev pub related : Option MessageId → Option (List Offer) → Option Offered
related None offers = None
related (Some relates) offers = option_map (λ (list : List Offer). (relates, list)) offers

abbrev pub told_by : Result Envelope EnvelopeFault → Option Told
told_by (Ok e) = told_in e.relates (reply_in e)
told_by (Err fault) = None

-- what the bytes of a reply tell: they are the document of an envelope that relates to a message, and is a reply that a source
-- knows
abbrev pub told : List ℕ → Option Told
told bytes = option_and_then (λ (root : Element). told_by (said root)) (tree_of Utf8 bytes)

-- the id of the message that bytes say
abbrev pub id_told : List ℕ → Option MessageId
id_told bytes = option_and_then id_in (tree_of Utf8 bytes)

-- the offers of an envelope that answers an Enumerate, and the message that it relates to, at a moment in milliseconds since
-- 1970
abbrev pub offers_told_in : ℕ → Envelope → Option Offered
offers_told_in now e = if same e.action ENUMERATE_RESPONSE.now then related e.relates (result_ok (offers_in now e.body)) else None

abbrev pub offers_told_by : ℕ → Result Envelope EnvelopeFault → Option Offered
offers_told_by now (Ok e) = offers_told_in now e
offers_told_by now (Err fault) = None

-- the offers that bytes tell
abbrev pub offers_told : ℕ → List ℕ → Option Offered
offers_told now bytes = option_and_then (λ (root : Element). offers_told_by now (said root)) (tree_of Utf8 bytes)

-- What a source makes of a reply: its session goes on behind the batch or stays where it was; or none waits for it.
abbrev pub HearsReply : Hears → MessageId → reply.Reply → End → End → Type 0
HearsReply Moved relates answer end end' = Answers end end' relates answer moved.Moved
HearsReply Refused relates answer end end' = Answers end end' relates answer moved.Refused
HearsReply NotAsked relates answer end end' = (waiting_for end relates.value ≡ None) × (end' ≡ end)
HearsReply (Adopted count) relates answer end end' = ⊥
HearsReply Unreadable relates answer end end' = ⊥

-- What it makes of offers: they are its sessions from now on, or it didn't ask.
abbrev pub HearsOffers : Hears → MessageId → List Offer → ℕ → End → End → Type 0
HearsOffers (Adopted count) relates offers now end end' = Adopts end end' relates offers now count
HearsOffers NotAsked relates offers now end end' = (ids_agree end.ask relates.value ≡ false) × (end' ≡ end)
HearsOffers _ relates offers now end end' = ⊥

-- and of what it is told: a reply, or else offers
abbrev pub HearsTold : Option Told → Option Offered → Hears → ℕ → End → End → Type 0
HearsTold (Some t) o hears now end end' = HearsReply hears t.0 t.1 end end'
HearsTold None (Some o) hears now end end' = HearsOffers hears o.0 o.1 now end end'
HearsTold None None hears now end end' = (hears ≡ Unreadable) × (end' ≡ end)
