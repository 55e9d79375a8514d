-- How `collect` ends: connections are served for a collector, one after the other, and each has its line.
use Rattle.std.specs.Prelude.{◌≡◌, ◌⊎◌, ℕ, suc, ◌+◌, ◌<◌, ◌≤◌, min, List, [], ◌∷◌, ◌++◌, length, take, Option, Result, OnOk, codes}
use Rattle.std.specs.declared.result.Result.TheVariants.{Ok, Err}
use Rattle.std.specs.Fmt.{decimal}
use Rattle.std.specs.List.{AllByRecursion}
use Rattle.std.specs.Io.KnownBytes.{Appends}
use Rattle.wef_base.specs.Counts.{Rose}
use Rattle.wef_collector_rows.specs.declared.faults.CollectorFault.{CollectorFault}
use Rattle.wef_collector_serving.specs.Answers.{AnswersInTurn, EndsConnection, KnownCollector}
use Rattle.wef_connections.specs.Opening.{OnlyFails, Rises, next_connection, with_address}
use Rattle.wef_collector.specs.declared.memories.Memory.{Memory}
use Rattle.wef_keeper.specs.Keeping.{Store}
use Rattle.wef_ports.specs.Telling as ports
use Rattle.wef_serving.specs.declared.ends.ConnectionEnd.{ConnectionEnd}
use Rattle.wef_serving.specs.declared.ends.ConnectionEnd.TheVariants as over
use Rattle.wef_commands.specs.Calling.{IsUndone, Starts}
use Rattle.wef_commands.specs.Endings.{HasFailed, IsUnwritten, Told}
use Rattle.wef_commands.specs.Refusals.{store_ending}
use Rattle.wef_commands.specs.Streams.{WritesPart}
use Rattle.wef_commands.specs.Writing.{TellsLine}
use Rattle.wef_commands.specs.declared.ending.Ending.{Ending}
use Rattle.wef_commands.specs.declared.ending.Ending.TheVariants as ends

-- ---- what is printed

-- `listening ADDRESS`
unfoldable pub listening_line : List ℕ → List ℕ
listening_line address = codes "listening " ++ address ++ 10 ∷ []

-- how a connection ended; one that wanted memory is never told
abbrev pub end_word : ConnectionEnd → List ℕ
end_word over.End = codes "end"
end_word over.Closed = codes "closed"
end_word (over.Refused status) = codes "refused " ++ decimal status
end_word over.Cut = codes "cut"
end_word over.PortFailed = codes "failed"
end_word over.NoMemory = []

-- `connection I WORD`
unfoldable pub connection_line : ℕ → ConnectionEnd → List ℕ
connection_line number e = codes "connection " ++ decimal number ++ codes " " ++ end_word e ++ 10 ∷ []

-- a line for each connection, the first of which has this number
abbrev pub lines_from : ℕ → List ConnectionEnd → List ℕ
lines_from number [] = []
lines_from number (e ∷ es) = connection_line number e ++ lines_from (suc number) es

-- ---- what is served

-- The next connection of a front was served for a collector, and ended so: the front and the collector before it and behind it.
pub record IsServed (clock : Option ℕ) (f : ports.Told) (s : KnownCollector) (g : ports.Told) (t : KnownCollector) (e : ConnectionEnd) : Type 0 where
  pub ends : EndsConnection clock (next_connection f) s g t e
  -- whatever came, its requests were answered one after the other
  pub answered : AnswersInTurn clock s t
  pub around : g.around ≡ (next_connection f).around
  -- the front's count of faults doesn't fall, and where the connection failed it rose
  pub later : f.faults ≤ g.faults
  pub fault : e ≡ over.PortFailed → Rose f.faults g.faults

-- Connections were served one after the other, each from what the one before it left, and ended so.
pub data AreServed (clock : Option ℕ) : ports.Told → KnownCollector → List ConnectionEnd → ports.Told → KnownCollector → Type 0 where
  none_served : (f : ports.Told) (s : KnownCollector) → AreServed clock f s [] f s
  one_served : (f g h : ports.Told) (s t u : KnownCollector) (e : ConnectionEnd) (es : List ConnectionEnd)
      → IsServed clock f s g t e → AreServed clock g t es h u → AreServed clock f s (e ∷ es) h u

-- how many connections failed
abbrev pub failed_among : List ConnectionEnd → ℕ
failed_among [] = 0
failed_among (over.PortFailed ∷ es) = suc (failed_among es)
failed_among (_ ∷ es) = failed_among es

-- A count rose by so many or more, or it is as great as it gets.
abbrev pub RoseBy : ℕ → ℕ → ℕ → Type 0
RoseBy n before now = min (before + n) 18446744073709551615 ≤ now

-- A front refused to listen or to take a connection, and only that was counted.
abbrev pub FrontRefuses : ports.Told → ports.Told → Type 0
FrontRefuses before now = OnlyFails before now × Rises before.faults now.faults × Rises before.around.refusals now.around.refusals

-- ---- how it ends

-- it didn't end for want of memory
abbrev pub IsTellable : ConnectionEnd → Type 0
IsTellable e = e ≡ over.NoMemory → ⊥

-- The connection of a number has its line, where it can be told; or a part of it; or none.
abbrev pub TellsEnd : ℕ → ConnectionEnd → Result Unit Ending → Told → Type 0
TellsEnd number e done out = TellsLine done out (connection_line number e) × OnOk done (IsTellable e)

-- The connection of a number was served, and told; or none could be taken, and nothing was done.
abbrev pub TurnEnds : Option ℕ → ℕ → Result Unit Ending → Told → ports.Told → KnownCollector → ports.Told → KnownCollector → Type 0
TurnEnds clock number (Err ends.ListeningFailed) out f s g t = FrontRefuses f g × (t ≡ s) × IsUnwritten out
TurnEnds clock number done out f s g t = (e : ConnectionEnd) × IsServed clock f s g t e × TellsEnd number e done out

-- How connections are served: from a front and a collector, those that ended so, to a front and a collector.
abbrev pub Serving : Type 0 → Type 1
Serving S = ports.Told → S → List ConnectionEnd → ports.Told → S → Type 0

-- Connections were served, and a text was written behind what was there: what was told before them, and their lines.
pub record AreTold {S : Type 0} (Served : Serving S) (told : List ℕ) (out : Told) (f : ports.Told) (s : S) (es : List ConnectionEnd) (g : ports.Told) (t : S) : Type 0 where
  pub served : Served f s es g t
  pub tellable : AllByRecursion IsTellable es
  pub lines : Appends out.before out.after (told ++ lines_from 1 es)

-- One more connection was served than is told whole: of its line so many bytes were written.
pub record IsTheLast {S : Type 0} (Served : Serving S) (told : List ℕ) (out : Told) (f : ports.Told) (s : S) (g : ports.Told) (t : S) (count bytes : ℕ) : Type 0 where
  pub told_whole : List ConnectionEnd
  pub last : ConnectionEnd
  pub within : length told_whole < count
  pub served : Served f s (told_whole ++ last ∷ []) g t
  pub lines : Appends out.before out.after (told ++ (lines_from 1 told_whole ++ take bytes (connection_line (suc (length told_whole)) last)))

-- How so many connections are served. Each is told once it is over. A failed one ends nothing but itself. One that wanted memory
-- isn't told, and ends the run; so does one whose line can't be written; and so does a front that takes no further one.
abbrev pub ServingEndsBy : {S : Type 0} → Serving S → List ℕ → ℕ → Ending → Told → ports.Told → S → ports.Told → S → Type 0
ServingEndsBy Served told count ends.Done out f s g t = (es : List ConnectionEnd) × (length es ≡ count) × AreTold Served told out f s es g t
ServingEndsBy Served told count ends.ListeningFailed out f s g t =
    (es : List ConnectionEnd) × (length es < count) × (h : ports.Told) × AreTold Served told out f s es h t × FrontRefuses h g
    × RoseBy (suc (failed_among es)) f.faults g.faults × Rises f.around.refusals g.around.refusals
ServingEndsBy Served told count ends.NoMemory out f s g t = IsTheLast Served told out f s g t count 0
ServingEndsBy Served told count ends.OutputFailed out f s g t = HasFailed out × (bytes : ℕ) × IsTheLast Served told out f s g t count bytes
ServingEndsBy Served told count _ out f s g t = ⊥

-- How it ends once it listens: that it does can't be told; or connections are served.
abbrev pub TellingEndsBy : {S : Type 0} → Serving S → List ℕ → ℕ → Ending → Told → ports.Told → S → ports.Told → S → Type 0
TellingEndsBy Served told count ending out f s g t =
    ((ending ≡ ends.OutputFailed) × HasFailed out × WritesPart out.before out.after told × (g ≡ f) × (t ≡ s))
    ⊎ ServingEndsBy Served told count ending out f s g t

-- How it ends once the collector is started: it can't listen at the address; or it does, and tells so.
abbrev pub ListeningEndsBy : {S : Type 0} → Serving S → List ℕ → ℕ → Ending → Told → ports.Told → S → ports.Told → S → Type 0
ListeningEndsBy Served address count ending out f s g t =
    ((ending ≡ ends.ListeningFailed) × FrontRefuses f g × IsUnwritten out × (t ≡ s))
    ⊎ TellingEndsBy Served (listening_line address) count ending out (with_address address f) s g t

-- The same of connections that are served for a collector over its store.
abbrev pub ServingEnds : Option ℕ → List ℕ → ℕ → Ending → Told → ports.Told → KnownCollector → ports.Told → KnownCollector → Type 0
ServingEnds clock told count ending out f s g t = ServingEndsBy (AreServed clock) told count ending out f s g t

abbrev pub TellingEnds : Option ℕ → List ℕ → ℕ → Ending → Told → ports.Told → KnownCollector → ports.Told → KnownCollector → Type 0
TellingEnds clock told count ending out f s g t = TellingEndsBy (AreServed clock) told count ending out f s g t

abbrev pub ListeningEnds : Option ℕ → List ℕ → ℕ → Ending → Told → ports.Told → KnownCollector → ports.Told → KnownCollector → Type 0
ListeningEnds clock address count ending out f s g t = ListeningEndsBy (AreServed clock) address count ending out f s g t

-- The collector is started first. Where that is refused, nothing is written, and the front isn't asked.
abbrev pub CollectEnds : List ℕ → ℕ → Ending → Told → Option ℕ → ports.Told → ports.Told → Store → Store → Type 0
CollectEnds address count ending out clock f g before now =
    (IsUndone ending out before now × (g ≡ f))
    ⊎ (((fault : CollectorFault) × Starts (Err fault) before now × (ending ≡ store_ending fault) × IsUnwritten out × (g ≡ f))
    ⊎ ((mid : Store) × (memory memory_now : Memory) × Starts (Ok memory) before mid
    × ListeningEnds clock address count ending out f (record { store = mid; memory = memory }) g (record { store = now; memory = memory_now })))
