-- What asking a collector for subscriptions does: the ask, the exchange, and what the source hears in what comes back.
use Rattle.std.specs.Prelude.{◌≡◌, ◌⊎◌, ℕ, List, Option, Some, None, Result, Ok, Err}
use Rattle.wef_forwarding.specs.Exchanges.{BrokeOff, WasMade}
use Rattle.wef_forwarding.specs.declared.exchanges.FrontFault.{FrontFault}
use Rattle.wef_forwarding.specs.declared.exchanges.FrontFault.TheVariants.{NoMemory, Source}
use Rattle.wef_forwarding.specs.declared.exchanges.Request.{Request}
use Rattle.wef_front_source.specs.HeardReplies.{HearsTold, offers_told, told}
use Rattle.wef_front_source.specs.Sending.{enumerate_bytes}
use Rattle.wef_front_source.specs.declared.listening.Hears.{Hears}
use Rattle.wef_front_source.specs.declared.listening.Hears.TheVariants.{Adopted}
use Rattle.wef_http_heads.specs.declared.targets.TheConstants.{MANAGER_PATH}
use Rattle.wef_ids.specs.declared.MessageId.{MessageId}
use Rattle.wef_ports.specs.Telling.{Told}
use Rattle.wef_source.specs.Answers.{Asks, RefusesAsk}
use Rattle.wef_source.specs.Machine.{End}
use Rattle.wef_building.specs.declared.faults.SourceFault.{SourceFault}
use Rattle.wef_building.specs.declared.faults.SourceFault.TheVariants as faults

-- the path at which a collector offers subscriptions
unfoldable pub manager_path : List ℕ
manager_path = MANAGER_PATH.now

-- the request that the ask of a source at a host makes, under an id
abbrev pub enumerate_request : List ℕ → List ℕ → MessageId → Request
enumerate_request host s id = record { host = host; path = manager_path; body = enumerate_bytes host s id }

-- how many sessions there are, where offers were adopted
abbrev pub adopted_in : Hears → Option ℕ
adopted_in (Adopted count) = Some count
adopted_in _ = None

-- What the source hears in the envelope that came back, at a moment; nothing where none came.
abbrev pub HearsEnvelope : Option (List ℕ) → ℕ → End → End → Option ℕ → Type 0
HearsEnvelope None now end end' count = (count ≡ None) × (end' ≡ end)
HearsEnvelope (Some envelope) now end end' count = (hears : Hears) × HearsTold (told envelope) (offers_told now envelope) hears now end end' × (count ≡ adopted_in hears)

-- The request was sent, and the source heard what came back.
abbrev pub IsHeard : Request → ℕ → End → End → Told → Told → Option ℕ → Type 0
IsHeard r now end end' before after count = (envelope : Option (List ℕ)) × WasMade r envelope before after × HearsEnvelope envelope now end end' count

-- What becomes of a source that has asked, and of the link.
abbrev pub EndsAsk : Request → ℕ → End → End → Told → Told → Result (Option ℕ) FrontFault → Type 0
EndsAsk r now end end' before after (Ok count) = IsHeard r now end end' before after count
EndsAsk r now end end' before after (Err fault) = BrokeOff r fault before after × (end' ≡ end)

-- The source asked under the next id, and the ask was exchanged.
pub record AsksOnce (host s : List ℕ) (end end' : End) (now : ℕ) (before after : Told) (result : Result (Option ℕ) FrontFault) : Type 0 where
  pub id : MessageId
  pub asking : End
  pub asks : Asks end asking id
  pub ends : EndsAsk (enumerate_request host s id) now asking end' before after result

-- The source refused to ask.
abbrev pub RefusesToAsk : SourceFault → End → End → Told → Told → Type 0
RefusesToAsk fault end end' before after = RefusesAsk fault end × (end' ≡ end) × (after ≡ before)

-- What asking the collector at a host does to a source of a name and a link, by its answer. Where memory was wanting, the source
-- refused to ask, or it has asked.
abbrev pub Enumerates : List ℕ → List ℕ → End → End → ℕ → Told → Told → Result (Option ℕ) FrontFault → Type 0
Enumerates host s end end' now before after (Err (Source faults.NoMemory)) = ⊥
Enumerates host s end end' now before after (Err (Source refusal)) = RefusesToAsk refusal end end' before after
Enumerates host s end end' now before after (Err NoMemory) = RefusesToAsk faults.NoMemory end end' before after ⊎ AsksOnce host s end end' now before after (Err NoMemory)
Enumerates host s end end' now before after result = AsksOnce host s end end' now before after result
