-- Why a run of `collect` tells the ending that is due, where nothing fails.
use Rattle.std.proofs.Common.{◌≡◌, ◌∙◌, ℕ, suc, true, List, refl, inl, inr, arith}
use Rattle.std.specs.Prelude.{◌⊎◌, Option, Some, Ok, Err}
use Rattle.wef_base.specs.Counts.{Rose}
use Rattle.wef_collector.specs.Boots.{memory_begun}
use Rattle.wef_collector.specs.Calls.{boot_effect}
use Rattle.wef_collector.specs.Laws.{BookmarksRise}
use Rattle.wef_collector.specs.declared.memories.Memory.{Memory}
use Rattle.wef_collector_rows.specs.Faults.{collector_store}
use Rattle.wef_collector_rows.specs.Forms.{AreFormed}
use Rattle.wef_collector_rows.specs.declared.faults.CollectorFault.{CollectorFault}
use Rattle.wef_collector_rows.specs.declared.faults.CollectorFault.TheVariants as faults
use Rattle.wef_collector_serving.proofs.OverRows.{requests_go_by_rows, turns_open}
use Rattle.wef_collector_serving.specs.Answers.{KnownCollector}
use Rattle.wef_keeper.proofs.Going.{calm_rows}
use Rattle.wef_keeper.specs.Calls.{Did}
use Rattle.wef_keeper.specs.Keeping.{MayFind, Store}
use Rattle.wef_keeper.specs.Rows.{Rows}
use Rattle.wef_ports.specs.Telling as ports
use Rattle.wef_serving.specs.declared.ends.ConnectionEnd.{ConnectionEnd}
use Rattle.wef_commands.proofs.ByRows.{boot_full, could_start, from_one}
use Rattle.wef_commands.specs.Calling.{Starts}
use Rattle.wef_commands.specs.Endings.{HasFailed, Told}
use Rattle.wef_commands.specs.Laws.{Stand}
use Rattle.wef_commands.specs.Refusals.{store_ending}
use Rattle.wef_commands.specs.declared.ending.Ending.{Ending}
use Rattle.wef_commands.specs.declared.ending.Ending.TheVariants as ends
use Rattle.wef_connections.specs.Opening.{with_address}
use Rattle.wef_running.proofs.ByRows.{collects_by_rows}
use Rattle.wef_running.specs.ByRows.{CollectSays}
use Rattle.wef_running.specs.Collecting.{AreServed, CollectEnds, RoseBy, ServingEnds, failed_among, listening_line}
use Rattle.wef_running.specs.Collecting.{none_served, one_served}
use Rattle.wef_cli.proofs.TellingDue.{full_due, may_find, start_due, sure, told_due}
use Rattle.wef_cli.specs.Due.{CollectsAsDue, TellsDue, once_started}
use Rattle.wef_command_line.specs.declared.command.Command.TheVariants as the

same_bookmarks : (rows : Rows) → BookmarksRise rows rows
same_bookmarks rows u s c = omega arith

pub rose_by : (n before now : ℕ) → RoseBy (suc n) before now → Rose before now
rose_by n before now rose = grind (arith)

module _ (clock : Option ℕ) where
  -- where an opening may find rows behind connections, it might before them
  found_before : {f : ports.Told} {s : KnownCollector} {es : List ConnectionEnd} {g : ports.Told} {t : KnownCollector} → AreServed clock f s es g t → s.store.opened ≡ true → (last : Rows) → MayFind t.store last
      → (first : Rows) × MayFind s.store first
  found_before (none_served f s) opened last found = (last, found)
  found_before (one_served f g h s t u e es is more) opened last found =
      let later = found_before more (turns_open clock is.answered opened) last found in
      let here = requests_go_by_rows clock s t later.0 later.0 is.answered opened later.1 (same_bookmarks later.0) in
      (here.first, here.found)

module _ (out : Told) (before now : Store) (found after : Rows) (stand : Stand before found) (known : now.rows ≡ Some after) (may : MayFind now after) (writes : HasFailed out → ⊥) where
  abbrev IsDue : Ending → Type 0
  IsDue ending = ending ≡ once_started found ends.Done

  -- the start was refused
  pub unstarted_due : (fault : CollectorFault) (ending : Ending) → (ending ≡ ends.StoreFailed → ⊥) → Starts (Err fault) before now → ending ≡ store_ending fault → IsDue ending ⊎ (ending ≡ ends.NoMemory)
  unstarted_due faults.NoMemory ending sure start is = inr is
  unstarted_due faults.Failed ending sure start is = absurd (sure is)
  unstarted_due faults.Full ending sure start is =
      let did = from_one before now found after (Did collector_store AreFormed boot_effect memory_begun (Err faults.Full) before now) stand known start.0.did in
      inl (is ∙ full_due found ends.Done (boot_full found did.answer.0))
  unstarted_due _ ending sure start is = absurd start.1

  module _ (clock : Option ℕ) (f g : ports.Told) (front : Rose f.faults g.faults → ⊥) (mid : Store) (memory memory_now : Memory) (start : Starts (Ok memory) before mid) where
    served_due : (address told : List ℕ) (count : ℕ) (ending : Ending) → ServingEnds clock told count ending out (with_address address f) (record { store = mid; memory = memory }) g (record { store = now; memory = memory_now })
        → IsDue ending ⊎ (ending ≡ ends.NoMemory)
    served_due address told count ends.Done (es, long, are) =
        let first = found_before clock are.served start.0.ready.0 after may in
        let stood : mid.rows ≡ Some first.0 = calm_rows mid.rows mid.images first.0 start.2.both (start.2.only start.0.ready.1) first.1 in
        inl (start_due found ends.Done ends.Done (could_start before mid memory found first.0 start stand stood) refl)
    served_due address told count ends.ListeningFailed (es, below, h, are, refused, rose, refusals) = absurd (front (rose_by (failed_among es) f.faults g.faults rose))
    served_due address told count ends.NoMemory is = inr refl
    served_due address told count ends.OutputFailed is = absurd (writes is.0)
    served_due address told count _ never = absurd never

  collected_due : (address : List ℕ) (connections : ℕ) (ending : Ending) (clock : Option ℕ) (f g : ports.Told) → (Rose f.faults g.faults → ⊥) → (ending ≡ ends.StoreFailed → ⊥)
      → CollectEnds address connections ending out clock f g before now → IsDue ending ⊎ (ending ≡ ends.NoMemory)
  collected_due address connections ending clock f g front sure (inl ((is, unwritten, same), unasked)) = inr is
  collected_due address connections ending clock f g front sure (inr (inl (fault, start, is, unwritten, unasked))) = unstarted_due fault ending sure start is
  collected_due address connections ending clock f g front sure (inr (inr (mid, memory, memory_now, start, inl (is, refused, unwritten, same)))) = absurd (front refused.1.1)
  collected_due address connections ending clock f g front sure (inr (inr (mid, memory, memory_now, start, inr (inl (is, failed, part, bound, same))))) = absurd (writes failed)
  collected_due address connections ending clock f g front sure (inr (inr (mid, memory, memory_now, start, inr (inr served)))) =
      served_due clock f g front mid memory memory_now start address (listening_line address) connections ending served

pub with_says : (IsDue Says : Ending → Type 0) (ending : Ending) → Says ending → IsDue ending ⊎ (ending ≡ ends.NoMemory) → TellsDue IsDue Says ending
with_says IsDue Says ending says (inl due) = inl (due, says)
with_says IsDue Says ending says (inr wants) = inr wants

pub collects_as_due : CollectsAsDue
collects_as_due address connections ending told input out peers before now found after well front =
    let may = may_find now after well.lawful well.known in
    let ended = well.ends_so.1 in
    let says = collects_by_rows address connections ending out peers.moment peers.front_before peers.front_after before now ended found after well.stand may in
    let IsDue : Ending → Type 0 = λ e. e ≡ once_started found ends.Done in
    let Says : Ending → Type 0 = λ e. CollectSays address connections e out peers.moment peers.front_before peers.front_after before now found after in
    told_due IsDue Says ending told well.told_so
    (with_says IsDue Says ending says
    (collected_due out before now found after well.stand well.known may well.writes address connections ending peers.moment peers.front_before peers.front_after front
    (sure (the.Collect address connections) ending told input out peers before now found after well) ended))
