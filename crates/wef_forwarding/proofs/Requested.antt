-- What was exchanged for a request, which a session's message or an ask makes.
use Rattle.std.proofs.Common.{◌≡◌, ℕ, List, refl, subst, inl, inr}
use Rattle.std.specs.Prelude.{Option, Result, Ok, Err}
use Rattle.wef_ids.specs.declared.MessageId.{MessageId}
use Rattle.wef_ports.specs.Telling.{Told}
use Rattle.wef_source.specs.Answers.{Asks, RefusesAsk}
use Rattle.wef_source.specs.Machine.{End}
use Rattle.wef_building.specs.declared.faults.SourceFault.{SourceFault}
use Rattle.wef_building.specs.declared.faults.SourceFault.TheVariants as faults
use Rattle.wef_source.specs.declared.messages.Reply.{Reply}
use Rattle.wef_forwarding.specs.Asking.{EndsAsk, Enumerates, HearsEnvelope, enumerate_request}
use Rattle.wef_forwarding.specs.Exchanges.{BrokeOff, Replied, WasMade, refused_by, reply_by}
use Rattle.wef_forwarding.specs.declared.exchanges.FrontFault.{FrontFault}
use Rattle.wef_forwarding.specs.declared.exchanges.FrontFault.TheVariants.{NoMemory, LinkFailed, Source}
use Rattle.wef_forwarding.specs.declared.exchanges.Request.{Request}
use Rattle.wef_forwarding.proofs.Exchanging.{unbegun, unheard}

-- ---- a message of a session

pub replied : (r : Request) (id : MessageId) (before after : Told) (envelope : Option (List ℕ)) (answer : Option Reply) → WasMade r envelope before after → answer ≡ reply_by id envelope
    → Replied r id (Ok answer) before after
replied r id before after envelope answer made same = (envelope, made, same)

-- ---- an ask

-- for want of memory the link isn't used
pub not_sent : (r : Request) (now : ℕ) (end : End) (link : Told) → EndsAsk r now end end link link (Err NoMemory)
not_sent r now end link = (unbegun r link, refl)

module _ (r r' : Request) (now : ℕ) (end end' : End) (before after : Told) (is : r ≡ r') where
  pub heard : (envelope : Option (List ℕ)) (count : Option ℕ) → WasMade r envelope before after → HearsEnvelope envelope now end end' count → EndsAsk r' now end end' before after (Ok count)
  heard envelope count made hears = (envelope, subst (λ (x : Request). WasMade x envelope before after) is made, hears)

  pub not_heard : (envelope : Option (List ℕ)) → WasMade r envelope before after → end' ≡ end → EndsAsk r' now end end' before after (Err NoMemory)
  not_heard envelope made same = (subst (λ (x : Request). BrokeOff x NoMemory before after) is (unheard r envelope before after made), same)

  pub not_made : (fault : FrontFault) → BrokeOff r fault before after → end' ≡ end → EndsAsk r' now end end' before after (Err fault)
  not_made fault broken same = (subst (λ (x : Request). BrokeOff x fault before after) is broken, same)

-- a source that asked, and what became of it
pub asked : (host s s' : List ℕ) (end mid end' : End) (now : ℕ) (before after : Told) (id : MessageId) (result : Result (Option ℕ) FrontFault)
    → s' ≡ s → Asks end mid id → EndsAsk (enumerate_request host s' id) now mid end' before after result → Enumerates host s end end' now before after result
asked host s s' end mid end' now before after id result same asks ends = by result (subst (λ (x : List ℕ). EndsAsk (enumerate_request host x id) now mid end' before after result) same ends)
  where
    by : (r : Result (Option ℕ) FrontFault) → EndsAsk (enumerate_request host s id) now mid end' before after r → Enumerates host s end end' now before after r
    by (Ok count) ends = record { id = id; asking = mid; asks = asks; ends = ends }
    by (Err NoMemory) ends = inr (record { id = id; asking = mid; asks = asks; ends = ends })
    by (Err LinkFailed) ends = record { id = id; asking = mid; asks = asks; ends = ends }
    by (Err (Source refusal)) ends = absurd ends.0.cause

-- a source that refused to ask, as asking answers it
pub not_asked : (host s : List ℕ) (end end' : End) (now : ℕ) (before after : Told) (refusal : SourceFault) → RefusesAsk refusal end → end' ≡ end → after ≡ before
    → Enumerates host s end end' now before after (Err (refused_by refusal))
not_asked host s end end' now before after faults.NoMemory refuses same idle = inl (refuses, same, idle)
not_asked host s end end' now before after faults.Failed refuses same idle = (refuses, same, idle)
not_asked host s end end' now before after faults.Full refuses same idle = (refuses, same, idle)
not_asked host s end end' now before after faults.TooLong refuses same idle = (refuses, same, idle)
not_asked host s end end' now before after faults.NotAsked refuses same idle = (refuses, same, idle)
not_asked host s end end' now before after faults.UnknownSubscription refuses same idle = (refuses, same, idle)
not_asked host s end end' now before after faults.Expired refuses same idle = (refuses, same, idle)
not_asked host s end end' now before after faults.Spent refuses same idle = (refuses, same, idle)
