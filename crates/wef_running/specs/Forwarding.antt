-- What `forward` sends and prints, and how it ends.
use Rattle.std.specs.Prelude.{◌≡◌, ℕ, ◌-◌, ◌==◌, List, [], ◌∷◌, ◌++◌, drop, length, slice_get, ◌⊎◌, Option, Some, None, Result, Ok, Err, codes, if◌then◌else◌}
use Rattle.std.specs.Fmt.{decimal}
use Rattle.std.specs.Io.KnownBytes.{Appends}
use Rattle.std.specs.List.{flat_map}
use Rattle.wef_base.specs.Printed.{printed}
use Rattle.wef_forwarding.specs.Asking.{Enumerates}
use Rattle.wef_forwarding.specs.Forwarding.{Forwards, refusal_of}
use Rattle.wef_forwarding.specs.declared.exchanges.FrontFault.{FrontFault}
use Rattle.wef_forwarding.specs.declared.exchanges.FrontFault.TheVariants as fronts
use Rattle.wef_forwarding.specs.declared.forwarding.Exchange.{Exchange}
use Rattle.wef_forwarding.specs.declared.forwarding.Exchange.TheVariants.{Nothing, Acked, Heard, Refused, Lost}
use Rattle.wef_keeper.specs.Access.{OpensAndReads}
use Rattle.wef_keeper.specs.Calls.{IsCall, fails}
use Rattle.wef_keeper.specs.Keeping.{IsLawful, Store}
use Rattle.wef_ports.specs.Telling as ports
use Rattle.wef_serving.specs.Serving.{IsMoment}
use Rattle.wef_source.specs.Answers.{RefusesStart}
use Rattle.wef_source.specs.Calls.{start_effect}
use Rattle.wef_building.specs.Faults.{source_store}
use Rattle.wef_source.specs.Machine.{End, start_of}
use Rattle.wef_source.specs.Sessions.{names_of}
use Rattle.wef_building.specs.declared.faults.SourceFault.{SourceFault}
use Rattle.wef_building.specs.declared.faults.SourceFault.TheVariants as faults
use Rattle.wef_source_log.specs.Answers.{next_boot}
use Rattle.wef_source_log.specs.Forms.{AreFormed}
use Rattle.wef_commands.specs.Endings.{IsUnwritten, Told}
use Rattle.wef_commands.specs.Refusals.{source_ending}
use Rattle.wef_commands.specs.Writing.{IsUntold}
use Rattle.wef_commands.specs.declared.ending.Ending.{Ending}
use Rattle.wef_commands.specs.declared.ending.Ending.TheVariants as ends
use Rattle.wef_commands.specs.declared.writing.TheConstants.{LOG_CAPACITY}

-- ---- what is printed

-- `subscriptions M`
unfoldable pub subscriptions_line : ℕ → List ℕ
subscriptions_line count = codes "subscriptions " ++ decimal count ++ 10 ∷ []

-- what became of a message; a heartbeat has no items
unfoldable pub outcome_word : Exchange → List ℕ
outcome_word Nothing = []
outcome_word (Acked count) = codes " acked " ++ decimal count
outcome_word Heard = codes " acked " ++ decimal 0
outcome_word Refused = codes " refused"
outcome_word Lost = codes " lost"

-- `sent NAME acked COUNT`, `sent NAME refused` or `sent NAME lost`
unfoldable pub sent_line : List ℕ → Exchange → List ℕ
sent_line u exchange = codes "sent " ++ printed u ++ outcome_word exchange ++ 10 ∷ []

-- what is printed of an exchange of the session of a name: nothing where it had nothing to send
abbrev pub line_of : List ℕ × Exchange → List ℕ
line_of (u, Nothing) = []
line_of (u, exchange) = sent_line u exchange

unfoldable pub done_line : List ℕ
done_line = codes "done" ++ 10 ∷ []

-- ---- which session is next

-- The names of the sessions that are left, and how many messages may still be sent.
pub record Plan : Type 0 where
  pub names : List (List ℕ)
  pub left : ℕ

-- the session that is next; none where none is left, or no message may be sent any more
abbrev pub next : Plan → Option (List ℕ)
next plan = if plan.left == 0 then None else slice_get plan.names 0

-- what is left behind an exchange of the next session: it goes on where its batch was acknowledged, and is over else
abbrev pub behind : Exchange → Plan → Plan
behind Nothing plan = record { names = drop 1 plan.names; left = plan.left }
behind (Acked count) plan = record { names = plan.names; left = plan.left - 1 }
behind Heard plan = record { names = drop 1 plan.names; left = plan.left - 1 }
behind Refused plan = record { names = drop 1 plan.names; left = plan.left - 1 }
behind Lost plan = record { names = drop 1 plan.names; left = plan.left - 1 }

-- behind these
abbrev pub behind_all : List (List ℕ × Exchange) → Plan → Plan
behind_all [] plan = plan
behind_all (x ∷ xs) plan = behind_all xs (behind x.1 plan)

-- ---- what is sent

-- What is known of a source that runs: what it remembers, its store, and what is told of the link.
pub record Running : Type 0 where
  pub memory : End
  pub store : Store
  pub link : ports.Told

-- a session that isn't there, or has expired, has nothing to send
abbrev pub unless_gone : Result Exchange FrontFault → Result Exchange FrontFault
unless_gone (Err (fronts.Source faults.UnknownSubscription)) = Ok Nothing
unless_gone (Err (fronts.Source faults.Expired)) = Ok Nothing
unless_gone result = result

-- The next message of the session of a name is forwarded, at a moment of the clock.
pub record IsSent (clock : Option ℕ) (u : List ℕ) (result : Result Exchange FrontFault) (before now : Running) : Type 0 where
  pub moment : ℕ
  pub is_moment : IsMoment clock moment
  pub answer : Result Exchange FrontFault
  pub forwards : Forwards now.store.rows before.memory now.memory u moment before.link now.link answer
  pub reads : OpensAndReads AreFormed (fails source_store (refusal_of answer)) before.store now.store
  pub result_is : result ≡ unless_gone answer
  -- the store has the laws of every keeper's
  pub lawful : IsLawful now.store

-- how the next message of the session of a name is forwarded, by what is answered, from a source that runs to what it is then
abbrev pub Sending : Type 1
Sending = List ℕ → Result Exchange FrontFault → Running → Running → Type 0

-- These were sent, one after the other, each by the session that was next.
abbrev pub AreSentBy : Sending → Plan → List (List ℕ × Exchange) → Running → Running → Type 0
AreSentBy Sent plan [] before now = now ≡ before
AreSentBy Sent plan (x ∷ xs) before now =
    (next plan ≡ Some x.0) × ((mid : Running) × Sent x.0 (Ok x.1) before mid × AreSentBy Sent (behind x.1 plan) xs mid now)

abbrev pub AreSent : Option ℕ → Plan → List (List ℕ × Exchange) → Running → Running → Type 0
AreSent clock plan xs before now = AreSentBy (IsSent clock) plan xs before now

-- ---- how it ends

-- the ending that tells of an exchange that nothing is known of
abbrev pub front_ending : FrontFault → Ending
front_ending fronts.NoMemory = ends.NoMemory
front_ending fronts.LinkFailed = ends.LinkFailed
front_ending (fronts.Source fault) = source_ending fault

-- No session is next: it is done, and tells so.
abbrev pub EndsDone : List ℕ → Ending → Told → Type 0
EndsDone text ends.Done out = Appends out.before out.after (text ++ done_line)
EndsDone text ending out = IsUntold ending out text done_line

-- Why it ends at the session of a name: its message isn't forwarded; or it is, but isn't told.
abbrev pub EndsAtBy : Sending → List ℕ → List ℕ → Ending → Told → Running → Running → Type 0
EndsAtBy Sent u text ending out before now =
    ((fault : FrontFault) × Sent u (Err fault) before now × (ending ≡ front_ending fault) × Appends out.before out.after text)
    ⊎ ((exchange : Exchange) × Sent u (Ok exchange) before now × IsUntold ending out text (line_of (u, exchange)))

abbrev pub EndsAt : Option ℕ → List ℕ → List ℕ → Ending → Told → Running → Running → Type 0
EndsAt clock u text ending out before now = EndsAtBy (IsSent clock) u text ending out before now

-- The next message of the session of a name is forwarded and told, or why it ends there.
abbrev pub TurnsSession : Option ℕ → List ℕ → Result Exchange Ending → Told → Running → Running → Type 0
TurnsSession clock u (Ok exchange) out before now = IsSent clock u (Ok exchange) before now × Appends out.before out.after (line_of (u, exchange))
TurnsSession clock u (Err ending) out before now = EndsAt clock u [] ending out before now

-- How it ends before the next session, if there is one.
abbrev pub EndsBeforeBy : Sending → Option (List ℕ) → List ℕ → Ending → Told → Running → Running → Type 0
EndsBeforeBy Sent None text ending out before now = EndsDone text ending out × (now ≡ before)
EndsBeforeBy Sent (Some u) text ending out before now = EndsAtBy Sent u text ending out before now

abbrev pub EndsBefore : Option ℕ → Option (List ℕ) → List ℕ → Ending → Told → Running → Running → Type 0
EndsBefore clock o text ending out before now = EndsBeforeBy (IsSent clock) o text ending out before now

-- Messages are sent, and each is told once it is over, behind a text, as far as the run came.
pub record SendsAllBy (Sent : Sending) (plan : Plan) (text : List ℕ) (ending : Ending) (out : Told) (before now : Running) : Type 0 where
  pub sent : List (List ℕ × Exchange)
  -- the source once these were sent
  pub mid : Running
  pub are_sent : AreSentBy Sent plan sent before mid
  pub stops : EndsBeforeBy Sent (next (behind_all sent plan)) (text ++ flat_map line_of sent) ending out mid now

abbrev pub SendsAll : Option ℕ → Plan → List ℕ → Ending → Told → Running → Running → Type 0
SendsAll clock plan text ending out before now = SendsAllBy (IsSent clock) plan text ending out before now

-- The number of sessions is told and all is sent, or the number isn't told.
abbrev pub SendsFromBy : Sending → ℕ → Ending → Told → Running → Running → Type 0
SendsFromBy Sent deliveries ending out before now =
    let names : List (List ℕ) = names_of before.memory.sessions in
    (IsUntold ending out [] (subscriptions_line (length names)) × (now ≡ before))
    ⊎ SendsAllBy Sent (record { names = names; left = deliveries }) (subscriptions_line (length names)) ending out before now

abbrev pub SendsFrom : Option ℕ → ℕ → Ending → Told → Running → Running → Type 0
SendsFrom clock deliveries ending out before now = SendsFromBy (IsSent clock) deliveries ending out before now

-- The source of a name asks the collector at an address; the store stays as it is.
pub record IsAsked (clock : Option ℕ) (address s : List ℕ) (result : Result (Option ℕ) FrontFault) (before now : Running) : Type 0 where
  pub moment : ℕ
  pub is_moment : IsMoment clock moment
  pub asked : Enumerates address s before.memory now.memory moment before.link now.link result
  pub store : now.store ≡ before.store

-- It asks, and sends what its sessions have; or it can't ask.
abbrev pub AsksAndSendsBy : Sending → Option ℕ → List ℕ → List ℕ → ℕ → Ending → Told → Running → Running → Type 0
AsksAndSendsBy Sent clock address s deliveries ending out before now =
    ((fault : FrontFault) × IsAsked clock address s (Err fault) before now × (ending ≡ front_ending fault) × IsUnwritten out)
    ⊎ ((count : Option ℕ) × (mid : Running) × IsAsked clock address s (Ok count) before mid × SendsFromBy Sent deliveries ending out mid now)

abbrev pub AsksAndSends : Option ℕ → List ℕ → List ℕ → ℕ → Ending → Told → Running → Running → Type 0
AsksAndSends clock address s deliveries ending out before now = AsksAndSendsBy (IsSent clock) clock address s deliveries ending out before now

-- starting a source, whose first start keeps the capacity; and its store has the laws of every keeper's
abbrev pub StartsSource : Result ℕ SourceFault → Store → Store → Type 0
StartsSource done before now = IsCall source_store AreFormed (λ found. start_effect found LOG_CAPACITY) next_boot done before now × IsLawful now

-- The source can't be started, and the link is as it was.
abbrev pub IsNotStarted : Ending → Told → ports.Told → ports.Told → Store → Store → Type 0
IsNotStarted ending out link link' before now =
    (fault : SourceFault) × StartsSource (Err fault) before now × RefusesStart fault × (ending ≡ source_ending fault) × IsUnwritten out × (link' ≡ link)

-- The source of a name is started over its store, asks the collector at an address, and sends at most so many messages.
abbrev pub ForwardEnds : List ℕ → List ℕ → ℕ → Ending → Told → Option ℕ → ports.Told → ports.Told → Store → Store → Type 0
ForwardEnds address s deliveries ending out clock link link' before now =
    IsNotStarted ending out link link' before now
    ⊎ ((boot : ℕ) × (mid : Store) × StartsSource (Ok boot) before mid × ((end : End)
    × AsksAndSends clock address s deliveries ending out (record { memory = start_of boot; store = mid; link = link }) (record { memory = end; store = now; link = link' })))
