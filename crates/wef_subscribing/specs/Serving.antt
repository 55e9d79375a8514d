-- What `serve` answers, sends and prints, and how it ends: connections are served for a source, one after the other, and behind each
-- its sessions send what they have.
use Rattle.std.specs.Prelude.{◌≡◌, ◌⊎◌, ℕ, suc, ◌<◌, ◌≤◌, List, [], ◌∷◌, ◌++◌, drop, length, slice_get, Option, Some, None, Result, Ok, Err}
use Rattle.std.specs.Io.KnownBytes.{Appends}
use Rattle.std.specs.List.{flat_map}
use Rattle.wef_base.specs.Counts.{Rose}
use Rattle.wef_commands.specs.Calling.{IsUndone}
use Rattle.wef_commands.specs.Endings.{HasFailed, IsUnwritten, Told}
use Rattle.wef_commands.specs.Streams.{WritesPart}
use Rattle.wef_commands.specs.Writing.{IsUntold}
use Rattle.wef_commands.specs.declared.ending.Ending.{Ending}
use Rattle.wef_commands.specs.declared.ending.Ending.TheVariants as ends
use Rattle.wef_connections.specs.Opening.{next_connection, with_address}
use Rattle.wef_forwarding.specs.declared.forwarding.Exchange.{Exchange}
use Rattle.wef_forwarding.specs.declared.forwarding.Exchange.TheVariants.{Nothing, Acked, Heard, Refused, Lost}
use Rattle.wef_keeper.specs.Keeping.{Store}
use Rattle.wef_ports.specs.Telling as ports
use Rattle.wef_running.specs.Collecting.{FrontRefuses, IsTellable, connection_line, listening_line}
use Rattle.wef_running.specs.Forwarding.{EndsAtBy, IsNotStarted, IsSent, Running, Sending, StartsSource, line_of}
use Rattle.wef_serving.specs.declared.ends.ConnectionEnd.{ConnectionEnd}
use Rattle.wef_serving.specs.declared.ends.ConnectionEnd.TheVariants as over
use Rattle.wef_source.specs.Machine.{End, start_of}
use Rattle.wef_source.specs.Sessions.{names_of}
use Rattle.wef_source_serving.specs.Answers.{AnswersInTurn, EndsConnection, KnownSource}

-- What is known of a source that listens: what is told of the front, and the source that runs behind it.
pub record Listening : Type 0 where
  pub front : ports.Told
  pub source : Running

-- what a connection of it may use
abbrev pub known : Running → KnownSource
known source = record { store = source.store; memory = source.memory }

-- ---- what is served

-- The next connection of a front was served for a source, and ended so. Neither its store nor its link is used.
pub record IsServed (clock : Option ℕ) (before now : Listening) (e : ConnectionEnd) : Type 0 where
  pub ends : EndsConnection clock (next_connection before.front) (known before.source) now.front (known now.source) e
  -- whatever came, its requests were answered one after the other
  pub answered : AnswersInTurn clock (known before.source) (known now.source)
  pub around : now.front.around ≡ (next_connection before.front).around
  -- the front's count of faults doesn't fall, and where the connection failed it rose
  pub later : before.front.faults ≤ now.front.faults
  pub fault : e ≡ over.PortFailed → Rose before.front.faults now.front.faults
  pub store : now.source.store ≡ before.source.store
  pub link : now.source.link ≡ before.source.link

-- ---- what is sent behind it

-- the sessions that are left behind an exchange of the first: it goes on where its batch was acknowledged, and is over else
abbrev pub left_by : Exchange → List (List ℕ) → List (List ℕ)
left_by (Acked count) names = names
left_by Nothing names = drop 1 names
left_by Heard names = drop 1 names
left_by Refused names = drop 1 names
left_by Lost names = drop 1 names

-- behind these
abbrev pub left_behind : List (List ℕ × Exchange) → List (List ℕ) → List (List ℕ)
left_behind [] names = names
left_behind (x ∷ xs) names = left_behind xs (left_by x.1 names)

-- These were sent by sessions of these names, one after the other, each by the first that was left.
abbrev pub AreDeliveredBy : Sending → List (List ℕ) → List (List ℕ × Exchange) → Running → Running → Type 0
AreDeliveredBy Sent names [] before now = now ≡ before
AreDeliveredBy Sent names (x ∷ xs) before now =
    (slice_get names 0 ≡ Some x.0) × ((mid : Running) × Sent x.0 (Ok x.1) before mid × AreDeliveredBy Sent (left_by x.1 names) xs mid now)

-- Where no session is left, all is sent; else why it ends at the first that is, behind a text.
abbrev pub DeliveryStopsBy : Sending → Option (List ℕ) → List ℕ → Result Unit Ending → Told → Running → Running → Type 0
DeliveryStopsBy Sent None text (Ok done) out before now = Appends out.before out.after text × (now ≡ before)
DeliveryStopsBy Sent None text (Err ending) out before now = ⊥
DeliveryStopsBy Sent (Some u) text (Ok done) out before now = ⊥
DeliveryStopsBy Sent (Some u) text (Err ending) out before now = EndsAtBy Sent u text ending out before now

-- Sessions of these names send what they have, and each message is told once it is over, behind a text.
pub record DeliversEachBy (Sent : Sending) (names : List (List ℕ)) (text : List ℕ) (done : Result Unit Ending) (out : Told) (before now : Running) : Type 0 where
  pub sent : List (List ℕ × Exchange)
  -- the source once these were sent
  pub mid : Running
  pub are_sent : AreDeliveredBy Sent names sent before mid
  pub stops : DeliveryStopsBy Sent (slice_get (left_behind sent names) 0) (text ++ flat_map line_of sent) done out mid now

-- All sessions do; or there was no memory for their names.
abbrev pub DeliversAllBy : Sending → List ℕ → Result Unit Ending → Told → Running → Running → Type 0
DeliversAllBy Sent text done out before now =
    ((done ≡ Err ends.NoMemory) × Appends out.before out.after text × (now ≡ before))
    ⊎ DeliversEachBy Sent (names_of before.memory.sessions) text done out before now

-- ---- one connection, and what is sent behind it

-- How a connection ended, and what was sent behind it.
pub record Round : Type 0 where
  pub end : ConnectionEnd
  pub sent : List (List ℕ × Exchange)

abbrev pub round_text : ℕ → Round → List ℕ
round_text number r = connection_line number r.end ++ flat_map line_of r.sent

-- the first of them has this number
abbrev pub rounds_text : ℕ → List Round → List ℕ
rounds_text number [] = []
rounds_text number (r ∷ rs) = round_text number r ++ rounds_text (suc number) rs

-- A connection was served and could be told, and then each session had sent all that it had, or its last message wasn't acknowledged
-- as a batch.
pub record IsRound (Sent : Sending) (clock : Option ℕ) (before : Listening) (r : Round) (now : Listening) : Type 0 where
  pub mid : Listening
  pub served : IsServed clock before mid r.end
  pub tellable : IsTellable r.end
  pub sent : AreDeliveredBy Sent (names_of mid.source.memory.sessions) r.sent mid.source now.source
  pub all : slice_get (left_behind r.sent (names_of mid.source.memory.sessions)) 0 ≡ None
  -- sending leaves the front
  pub front : now.front ≡ mid.front

-- Why it ends behind a connection that was served: this isn't told; or it is, and not all is sent and told.
abbrev pub RoundStopsBy : Sending → ℕ → ConnectionEnd → List ℕ → Ending → Told → Listening → Listening → Type 0
RoundStopsBy Sent number e text ending out before now =
    (IsUntold ending out text (connection_line number e) × (now ≡ before))
    ⊎ (IsTellable e × (now.front ≡ before.front) × DeliversAllBy Sent (text ++ connection_line number e) (Err ending) out before.source now.source)

-- A connection of a number is told, and all is sent behind it; or why it ends there.
abbrev pub TellsAndDelivers : Option ℕ → ℕ → ConnectionEnd → Result Unit Ending → Told → Running → Running → Type 0
TellsAndDelivers clock number e done out before now =
    ((ending : Ending) × (done ≡ Err ending) × IsUntold ending out [] (connection_line number e) × (now ≡ before))
    ⊎ (IsTellable e × DeliversAllBy (IsSent clock) (connection_line number e) done out before now)

-- Why it ends at the connection of a number, behind a text: none could be taken; or it was served, and it ends behind it.
abbrev pub RoundFailsBy : Sending → Option ℕ → ℕ → List ℕ → Ending → Told → Listening → Listening → Type 0
RoundFailsBy Sent clock number text ending out before now =
    ((ending ≡ ends.ListeningFailed) × FrontRefuses before.front now.front × (now.source ≡ before.source) × Appends out.before out.after text)
    ⊎ ((e : ConnectionEnd) × (mid : Listening) × IsServed clock before mid e × RoundStopsBy Sent number e text ending out mid now)

-- The connection of a number is served, told, and followed by what is sent; or why it ends there.
abbrev pub RoundEndsBy : Sending → Option ℕ → ℕ → Result Unit Ending → Told → Listening → Listening → Type 0
RoundEndsBy Sent clock number (Ok done) out before now = (r : Round) × IsRound Sent clock before r now × Appends out.before out.after (round_text number r)
RoundEndsBy Sent clock number (Err ending) out before now = RoundFailsBy Sent clock number [] ending out before now

-- ---- connections

-- Connections were served one after the other, each behind what was sent behind the one before it.
pub data AreRounds (Sent : Sending) (clock : Option ℕ) : Listening → List Round → Listening → Type 0 where
  no_round : (x : Listening) → AreRounds Sent clock x [] x
  one_round : (x y z : Listening) (r : Round) (rs : List Round) → IsRound Sent clock x r y → AreRounds Sent clock y rs z → AreRounds Sent clock x (r ∷ rs) z

-- How it ends behind so many of them: they are all; or it ends at the next one.
abbrev pub ServingStopsBy : Sending → Option ℕ → ℕ → List Round → List ℕ → Ending → Told → Listening → Listening → Type 0
ServingStopsBy Sent clock count rounds text ending out before now =
    ((length rounds ≡ count) × (ending ≡ ends.Done) × (now ≡ before) × Appends out.before out.after text)
    ⊎ ((length rounds < count) × RoundFailsBy Sent clock (suc (length rounds)) text ending out before now)

-- So many connections are served, behind a text, as far as the run came.
pub record ServesAllBy (Sent : Sending) (clock : Option ℕ) (told : List ℕ) (count : ℕ) (ending : Ending) (out : Told) (before now : Listening) : Type 0 where
  pub rounds : List Round
  pub mid : Listening
  pub are_served : AreRounds Sent clock before rounds mid
  pub stops : ServingStopsBy Sent clock count rounds (told ++ rounds_text 1 rounds) ending out mid now

-- How it ends once it listens: that it does can't be told; or connections are served.
abbrev pub TellingEndsBy : Sending → Option ℕ → List ℕ → ℕ → Ending → Told → Listening → Listening → Type 0
TellingEndsBy Sent clock told count ending out before now =
    ((ending ≡ ends.OutputFailed) × HasFailed out × WritesPart out.before out.after told × (now ≡ before))
    ⊎ ServesAllBy Sent clock told count ending out before now

-- a source whose front listens at an address
abbrev pub listening_at : List ℕ → Listening → Listening
listening_at address x = record { front = with_address address x.front; source = x.source }

-- How it ends once the source is started: it can't listen at the address; or it does, and tells so.
abbrev pub ListeningEndsBy : Sending → Option ℕ → List ℕ → ℕ → Ending → Told → Listening → Listening → Type 0
ListeningEndsBy Sent clock address count ending out before now =
    ((ending ≡ ends.ListeningFailed) × FrontRefuses before.front now.front × IsUnwritten out × (now.source ≡ before.source))
    ⊎ TellingEndsBy Sent clock (listening_line address) count ending out (listening_at address before) now

-- ---- the run

-- The same of messages that are the source's own, over its store.
abbrev pub ServesAll : Option ℕ → List ℕ → ℕ → Ending → Told → Listening → Listening → Type 0
ServesAll clock told count ending out before now = ServesAllBy (IsSent clock) clock told count ending out before now

abbrev pub RoundEnds : Option ℕ → ℕ → Result Unit Ending → Told → Listening → Listening → Type 0
RoundEnds clock number done out before now = RoundEndsBy (IsSent clock) clock number done out before now

abbrev pub ListeningEnds : Option ℕ → List ℕ → ℕ → Ending → Told → Listening → Listening → Type 0
ListeningEnds clock address count ending out before now = ListeningEndsBy (IsSent clock) clock address count ending out before now

-- The source is started first. Where that is refused, nothing is written, and neither the front nor the link is used.
abbrev pub ServeEnds : List ℕ → ℕ → Ending → Told → Option ℕ → ports.Told → ports.Told → ports.Told → ports.Told → Store → Store → Type 0
ServeEnds address count ending out clock front front' link link' before now =
    (IsUndone ending out before now × (front' ≡ front) × (link' ≡ link))
    ⊎ ((IsNotStarted ending out link link' before now × (front' ≡ front))
    ⊎ ((boot : ℕ) × (mid : Store) × StartsSource (Ok boot) before mid × ((end : End)
    × ListeningEnds clock address count ending out (record { front = front; source = record { memory = start_of boot; store = mid; link = link } })
    (record { front = front'; source = record { memory = end; store = now; link = link' } }))))
