-- How a command ends that makes one call of the collector, which is started first.
use Rattle.std.specs.Prelude.{◌≡◌, ℕ, List, ◌⊎◌, Result, Ok, Err, IfErr}
use Rattle.std.specs.Io.KnownBytes.{Appends}
use Rattle.wef_collector.specs.Boots.{memory_begun}
use Rattle.wef_collector.specs.Calls.{OfStart, boot_effect}
use Rattle.wef_collector.specs.Judged.{JudgesStart}
use Rattle.wef_collector.specs.declared.memories.Memory.{Memory}
use Rattle.wef_collector_rows.specs.Faults.{collector_store}
use Rattle.wef_collector_rows.specs.Forms.{AreFormed}
use Rattle.wef_collector_rows.specs.declared.faults.CollectorFault.{CollectorFault}
use Rattle.wef_collector_rows.specs.declared.faults.CollectorFault.TheVariants as faults
use Rattle.wef_keeper.specs.Calls.{DoesWith, IsCall}
use Rattle.wef_keeper.specs.Keeping.{IsLawful, Store}
use Rattle.wef_commands.specs.Endings.{HasFailed, IsUnwritten, Told}
use Rattle.wef_commands.specs.Refusals.{store_ending}
use Rattle.wef_commands.specs.Streams.{WritesPart}
use Rattle.wef_commands.specs.declared.ending.Ending.{Ending}
use Rattle.wef_commands.specs.declared.ending.Ending.TheVariants as ends

-- what starting the collector does to its store: its boot number rises; the store has the laws of every keeper's; and the boot row
-- that it has read is of its form, unless its store refuses it
abbrev pub Starts : Result Memory CollectorFault → Store → Store → Type 0
Starts done before now =
    IsCall collector_store AreFormed boot_effect memory_begun done before now × IfErr done OfStart × IsLawful now
    × DoesWith collector_store AreFormed boot_effect memory_begun (λ answer found after. JudgesStart answer found) done before now

-- A call of a collector that was started just before.
pub record Started (Call : Store → Store → Type 0) (before now : Store) : Type 0 where
  pub mid : Store
  pub memory : Memory
  pub start : Starts (Ok memory) before mid
  pub call : Call mid now

-- the same of a call that names a subscription
abbrev pub named_ending : List ℕ → CollectorFault → Ending
named_ending u faults.NoSubscription = ends.Unknown u
named_ending u faults.Ended = ends.Already u
named_ending u faults.Exists = ends.Exists u
named_ending u faults.TooMany = ends.TooMany
named_ending u faults.NoMemory = ends.NoMemory
named_ending u faults.Full = ends.Full
named_ending u faults.Failed = ends.StoreFailed
named_ending u faults.NotWellFormed = ends.StoreFailed
named_ending u faults.NotAsked = ends.StoreFailed

-- the text of what is done is written, or the output failed
abbrev pub WroteOut : List ℕ → Ending → Told → Type 0
WroteOut text ends.Done out = Appends out.before out.after text
WroteOut text ends.OutputFailed out = HasFailed out × WritesPart out.before out.after text
WroteOut text _ out = ⊥

-- nothing is done, for want of memory
abbrev pub IsUndone : Ending → Told → Store → Store → Type 0
IsUndone ending out before now = (ending ≡ ends.NoMemory) × IsUnwritten out × (now ≡ before)

-- What a command says that makes a call: the collector couldn't be started; or the call was refused; or it is done, and told.
-- Nothing is written before that.
abbrev pub CallEnds : {T : Type 0} → (Result T CollectorFault → Store → Store → Type 0) → (CollectorFault → Ending) → (T → Ending → Told → Type 0) → Ending → Told → Store → Store → Type 0
CallEnds {T = T} Call refusal Tells ending out before now =
    ((fault : CollectorFault) × Starts (Err fault) before now × (ending ≡ store_ending fault) × IsUnwritten out)
    ⊎ (((fault : CollectorFault) × Started (Call (Err fault)) before now × (ending ≡ refusal fault) × IsUnwritten out)
    ⊎ ((given : T) × Started (Call (Ok given)) before now × Tells given ending out))
