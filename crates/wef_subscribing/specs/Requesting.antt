-- What `request` sends and prints, and how it ends.
use Rattle.std.specs.Prelude.{◌≡◌, ℕ, ◌-◌, ◌<◌, ◌≤◌, List, [], ◌∷◌, ◌++◌, length, ◌⊎◌, Option, Some, None, Result, Ok, Err, codes}
use Rattle.std.specs.Io.KnownBytes.{Appends}
use Rattle.std.specs.List.{flat_map}
use Rattle.wef_base.specs.Printed.{printed}
use Rattle.wef_bodies.specs.declared.bodies.Body.{Body}
use Rattle.wef_bodies.specs.declared.bodies.Body.TheVariants as body
use Rattle.wef_collector.specs.declared.memories.Memory.{Memory}
use Rattle.wef_collector_rows.specs.declared.faults.CollectorFault.{CollectorFault}
use Rattle.wef_commands.specs.Calling.{Starts}
use Rattle.wef_commands.specs.Endings.{IsUnwritten, Told}
use Rattle.wef_commands.specs.Refusals.{store_ending}
use Rattle.wef_commands.specs.Writing.{IsUntold}
use Rattle.wef_commands.specs.declared.ending.Ending.{Ending}
use Rattle.wef_commands.specs.declared.ending.Ending.TheVariants as ends
use Rattle.wef_keeper.specs.Keeping.{IsLawful, Store}
use Rattle.wef_ports.specs.Telling as ports
use Rattle.wef_requesting.specs.Requesting.{Asking, RequestsOnce}
use Rattle.wef_requesting.specs.declared.requesting.Outcome.{Outcome}
use Rattle.wef_requesting.specs.declared.requesting.Outcome.TheVariants.{Leased, Cleared, Lost}
use Rattle.wef_requesting.specs.declared.requesting.RequestFault.{RequestFault}
use Rattle.wef_requesting.specs.declared.requesting.RequestFault.TheVariants as faults
use Rattle.wef_requesting.specs.declared.requesting.Sent.{Sent}
use Rattle.wef_running.specs.Forwarding.{EndsDone}
use Rattle.wef_serving.specs.Serving.{IsMoment}

-- ---- what is printed

-- what a request asks for
abbrev pub asks_word : Body → List ℕ
asks_word (body.Renew expires) = codes "renew "
asks_word body.Unsubscribe = codes "unsubscribe "
asks_word _ = codes "subscribe "

-- what became of it
abbrev pub outcome_word : Outcome → List ℕ
outcome_word Leased = codes " leased"
outcome_word Cleared = codes " cleared"
outcome_word Lost = codes " lost"

-- `sent KIND NAME SOURCE WORD`
unfoldable pub request_line : Sent → List ℕ
request_line sent = codes "sent " ++ asks_word sent.request.body ++ printed sent.request.sub ++ codes " " ++ printed sent.request.source.name ++ outcome_word sent.outcome ++ 10 ∷ []

-- ---- what is sent

-- The next request that is due is sent, at a moment of the clock. Events come to the host.
pub record IsRequested (clock : Option ℕ) (host : List ℕ) (result : Result (Option Sent) RequestFault) (before now : Asking) : Type 0 where
  pub moment : ℕ
  pub is_moment : IsMoment clock moment
  pub requests : RequestsOnce host moment before now result
  -- the store has the laws of every keeper's
  pub lawful : IsLawful now.store

-- how the next request is sent, by what is answered, from what is known of a collector to what is known then
abbrev pub Requesting : Type 0 → Type 1
Requesting S = Result (Option Sent) RequestFault → S → S → Type 0

-- These were sent, one after the other.
abbrev pub AreRequestedBy : {S : Type 0} → Requesting S → List Sent → S → S → Type 0
AreRequestedBy {S = S} Requested [] before now = now ≡ before
AreRequestedBy {S = S} Requested (x ∷ xs) before now = (mid : S) × Requested (Ok (Some x)) before mid × AreRequestedBy Requested xs mid now

-- ---- how it ends

-- the ending that tells why nothing is known of a request
abbrev pub request_ending : RequestFault → Ending
request_ending faults.NoMemory = ends.NoMemory
request_ending faults.LinkFailed = ends.LinkFailed
request_ending faults.StoreFailed = ends.StoreFailed

-- A request is told once its exchange is over; or why it ends there: it isn't sent, or isn't answered; or it is, but isn't told.
abbrev pub EndsAtBy : {S : Type 0} → Requesting S → List ℕ → Ending → Told → S → S → Type 0
EndsAtBy Requested text ending out before now =
    ((fault : RequestFault) × Requested (Err fault) before now × (ending ≡ request_ending fault) × Appends out.before out.after text)
    ⊎ ((sent : Sent) × Requested (Ok (Some sent)) before now × IsUntold ending out text (request_line sent))

-- Whether there was a request that was due, which then was sent and told; or why it ends at it.
abbrev pub TurnsBy : {S : Type 0} → Requesting S → Result (Option Sent) Ending → Told → S → S → Type 0
TurnsBy Requested (Ok None) out before now = Requested (Ok None) before now × IsUnwritten out
TurnsBy Requested (Ok (Some sent)) out before now = Requested (Ok (Some sent)) before now × Appends out.before out.after (request_line sent)
TurnsBy Requested (Err ending) out before now = EndsAtBy Requested [] ending out before now

-- How it ends where so many requests may still be sent: none may be any more, or none is due, and it tells that it is done; or it ends
-- at the next.
abbrev pub StopsBy : {S : Type 0} → Requesting S → ℕ → List ℕ → Ending → Told → S → S → Type 0
StopsBy Requested left text ending out before now =
    ((((left ≡ 0) × (now ≡ before)) ⊎ ((0 < left) × Requested (Ok None) before now)) × EndsDone text ending out)
    ⊎ ((0 < left) × EndsAtBy Requested text ending out before now)

-- That it is done is told.
abbrev pub TellsDone : Ending → Told → Type 0
TellsDone ending out = EndsDone [] ending out

-- Requests are sent, at most so many, and each is told once its exchange is over, as far as the run came.
pub record RequestsAllBy {S : Type 0} (Requested : Requesting S) (count : ℕ) (ending : Ending) (out : Told) (before now : S) : Type 0 where
  pub sent : List Sent
  -- the collector once these were sent
  pub mid : S
  pub are_sent : AreRequestedBy Requested sent before mid
  pub within : length sent ≤ count
  pub stops : StopsBy Requested (count - length sent) (flat_map request_line sent) ending out mid now

abbrev pub RequestsAll : Option ℕ → List ℕ → ℕ → Ending → Told → Asking → Asking → Type 0
RequestsAll clock host count ending out before now = RequestsAllBy (IsRequested clock host) count ending out before now

-- The collector is started first. Where that is refused, nothing is written, and the link is as it was.
abbrev pub RequestEnds : List ℕ → ℕ → Ending → Told → Option ℕ → ports.Told → ports.Told → Store → Store → Type 0
RequestEnds host count ending out clock link link' before now =
    ((fault : CollectorFault) × Starts (Err fault) before now × (ending ≡ store_ending fault) × IsUnwritten out × (link' ≡ link))
    ⊎ ((mid : Store) × (memory memory_now : Memory) × Starts (Ok memory) before mid
    × RequestsAll clock host count ending out (record { memory = memory; store = mid; link = link }) (record { memory = memory_now; store = now; link = link' }))
