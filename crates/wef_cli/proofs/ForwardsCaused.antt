-- Why a run of `forward` says that its store failed.
use Rattle.std.proofs.Common.{◌≡◌, ◌∙◌, ℕ, ◌≤◌, true, false, List, [], ◌∷◌, ◌++◌, refl, ap, sym, subst, arith, inl, inr}
use Rattle.std.specs.List.{flat_map}
use Rattle.std.specs.Prelude.{Option, Some, None, Result, Ok, Err}
use Rattle.wef_forwarding.specs.Forwarding.{Forwards, refusal_of}
use Rattle.wef_forwarding.specs.declared.exchanges.FrontFault.{FrontFault}
use Rattle.wef_forwarding.specs.declared.exchanges.FrontFault.TheVariants as fronts
use Rattle.wef_forwarding.specs.declared.forwarding.Exchange.{Exchange}
use Rattle.wef_forwarding.specs.declared.forwarding.Exchange.TheVariants.{Nothing}
use Rattle.wef_keeper.specs.Access.{HasCause, OpensAndReads}
use Rattle.wef_keeper.specs.Calls.{fails}
use Rattle.wef_keeper.specs.Keeping.{Store}
use Rattle.wef_ports.specs.Telling as ports
use Rattle.wef_source.specs.Answers.{RefusesAsk, RefusesStart}
use Rattle.wef_building.specs.Faults.{source_store}
use Rattle.wef_source.specs.Machine.{End}
use Rattle.wef_building.specs.declared.faults.SourceFault.{SourceFault}
use Rattle.wef_building.specs.declared.faults.SourceFault.TheVariants as faults
use Rattle.wef_source_log.specs.Forms.{AreFormed}
use Rattle.wef_commands.specs.Endings.{Told}
use Rattle.wef_commands.specs.Refusals.{source_ending}
use Rattle.wef_commands.specs.Showing.{is_store_failed}
use Rattle.wef_commands.specs.declared.ending.Ending.TheVariants as ends
use Rattle.wef_running.specs.Forwarding.{AreSent, AsksAndSends, EndsBefore, ForwardEnds, IsAsked, IsSent, Plan, Running, SendsAll, SendsFrom, StartsSource, behind, behind_all, front_ending, line_of, next, unless_gone}
use Rattle.wef_cli.proofs.Causes.{later_caused, not_failed}

abbrev Caused : Store → Store → Type 0
Caused before now = HasCause AreFormed true before now

-- ---- a batch

abbrev Answer : Type 0
Answer = Result Exchange FrontFault

abbrev refused : FrontFault → Answer
refused fault = Err fault

abbrev sent_as : Exchange → Answer
sent_as e = Ok e

unlike : (e : Exchange) (fault : FrontFault) → refused fault ≡ sent_as e → ⊥
unlike e fault is = cc

which : (one other : FrontFault) → refused one ≡ refused other → one ≡ other
which one other is = cc

module _ (u : List ℕ) (moment : ℕ) (fault : FrontFault) (before now : Running) (is : ends.StoreFailed ≡ front_ending fault) where
  -- a refusal that is told otherwise
  told_so : (other : FrontFault) → is_store_failed (front_ending other) ≡ false → refused fault ≡ refused other → ⊥
  told_so other differs same = not_failed (front_ending other) differs (is ∙ ap front_ending (which fault other same))

  batch_by : (answer : Answer) → refused fault ≡ unless_gone answer → Forwards now.store.rows before.memory now.memory u moment before.link now.link answer
      → OpensAndReads AreFormed (fails source_store (refusal_of answer)) before.store now.store → Caused before.store now.store
  batch_by (Ok e) same forwards reads = absurd (unlike e fault same)
  batch_by (Err fronts.NoMemory) same forwards reads = absurd (told_so fronts.NoMemory refl same)
  batch_by (Err fronts.LinkFailed) same forwards reads = absurd (told_so fronts.LinkFailed refl same)
  batch_by (Err (fronts.Source faults.NoMemory)) same forwards reads = absurd forwards
  batch_by (Err (fronts.Source faults.Failed)) same forwards reads = reads.1
  batch_by (Err (fronts.Source faults.Full)) same forwards reads = absurd forwards.0
  batch_by (Err (fronts.Source faults.TooLong)) same forwards reads = absurd forwards.0
  batch_by (Err (fronts.Source faults.NotAsked)) same forwards reads = absurd forwards.0
  batch_by (Err (fronts.Source faults.UnknownSubscription)) same forwards reads = absurd (unlike Nothing fault same)
  batch_by (Err (fronts.Source faults.Expired)) same forwards reads = absurd (unlike Nothing fault same)
  batch_by (Err (fronts.Source faults.Spent)) same forwards reads = absurd (told_so (fronts.Source faults.Spent) refl same)

pub batch_caused : (clock : Option ℕ) (u : List ℕ) (fault : FrontFault) (before now : Running) → IsSent clock u (Err fault) before now → ends.StoreFailed ≡ front_ending fault
    → Caused before.store now.store
batch_caused clock u fault before now sent is = batch_by u sent.moment fault before now is sent.answer sent.result_is sent.forwards sent.reads

-- batches that are sent leave no lower count of faults
sent_later : (clock : Option ℕ) (plan : Plan) (xs : List (List ℕ × Exchange)) (before now : Running) → AreSent clock plan xs before now → before.store.faults ≤ now.store.faults
sent_later clock plan [] before now same = subst (λ (s : Running). before.store.faults ≤ s.store.faults) (sym same) (omega arith)
sent_later clock plan (x ∷ xs) before now (next, (mid, sent, more)) =
    let first : before.store.faults ≤ mid.store.faults = sent.reads.0.3 in
    let behind = sent_later clock (behind x.1 plan) xs mid now more in
    omega (arith, first, behind)

stopped_caused : (clock : Option ℕ) (o : Option (List ℕ)) (text : List ℕ) (out : Told) (before now : Running) → EndsBefore clock o text ends.StoreFailed out before now
    → Caused before.store now.store
stopped_caused clock None text out before now (untold, same) = absurd untold
stopped_caused clock (Some u) text out before now (inl (fault, sent, is, told)) = batch_caused clock u fault before now sent is
stopped_caused clock (Some u) text out before now (inr (e, sent, untold)) = absurd untold

all_caused : (clock : Option ℕ) (plan : Plan) (text : List ℕ) (out : Told) (before now : Running) → SendsAll clock plan text ends.StoreFailed out before now
    → Caused before.store now.store
all_caused clock plan text out before now all =
    later_caused AreFormed before.store all.mid.store now.store (sent_later clock plan all.sent before all.mid all.are_sent)
    (stopped_caused clock (next (behind_all all.sent plan)) (text ++ flat_map line_of all.sent) out all.mid now all.stops)

-- ---- the ask

never_asked : (fault : SourceFault) (end : End) → RefusesAsk fault end → ends.StoreFailed ≡ source_ending fault → ⊥
never_asked faults.NoMemory end refuses is = not_failed ends.NoMemory refl is
never_asked faults.Failed end refuses is = refuses
never_asked faults.Full end refuses is = refuses
never_asked faults.TooLong end refuses is = refuses
never_asked faults.NotAsked end refuses is = refuses
never_asked faults.UnknownSubscription end refuses is = refuses
never_asked faults.Expired end refuses is = refuses
never_asked faults.Spent end refuses is = not_failed ends.Spent refl is

-- an ask uses no store
ask_stored : (clock : Option ℕ) (address s : List ℕ) (fault : FrontFault) (before now : Running) → IsAsked clock address s (Err fault) before now → ends.StoreFailed ≡ front_ending fault → ⊥
ask_stored clock address s fronts.NoMemory before now asked is = not_failed ends.NoMemory refl is
ask_stored clock address s fronts.LinkFailed before now asked is = not_failed ends.LinkFailed refl is
ask_stored clock address s (fronts.Source faults.NoMemory) before now asked is = asked.asked
ask_stored clock address s (fronts.Source faults.Failed) before now asked is = never_asked faults.Failed before.memory asked.asked.0 is
ask_stored clock address s (fronts.Source faults.Full) before now asked is = never_asked faults.Full before.memory asked.asked.0 is
ask_stored clock address s (fronts.Source faults.TooLong) before now asked is = never_asked faults.TooLong before.memory asked.asked.0 is
ask_stored clock address s (fronts.Source faults.NotAsked) before now asked is = never_asked faults.NotAsked before.memory asked.asked.0 is
ask_stored clock address s (fronts.Source faults.UnknownSubscription) before now asked is = never_asked faults.UnknownSubscription before.memory asked.asked.0 is
ask_stored clock address s (fronts.Source faults.Expired) before now asked is = never_asked faults.Expired before.memory asked.asked.0 is
ask_stored clock address s (fronts.Source faults.Spent) before now asked is = never_asked faults.Spent before.memory asked.asked.0 is

from_caused : (clock : Option ℕ) (deliveries : ℕ) (out : Told) (before now : Running) → SendsFrom clock deliveries ends.StoreFailed out before now → Caused before.store now.store
from_caused clock deliveries out before now (inl (untold, same)) = absurd untold
from_caused clock deliveries out before now (inr all) = all_caused clock _ _ out before now all

asks_caused : (clock : Option ℕ) (address s : List ℕ) (deliveries : ℕ) (out : Told) (before now : Running) → AsksAndSends clock address s deliveries ends.StoreFailed out before now
    → Caused before.store now.store
asks_caused clock address s deliveries out before now (inl (fault, asked, is, unwritten)) = absurd (ask_stored clock address s fault before now asked is)
asks_caused clock address s deliveries out before now (inr (count, mid, asked, sends)) =
    subst (λ (store : Store). Caused store now.store) asked.store (from_caused clock deliveries out mid now sends)

-- ---- the start

pub start_caused : (before now : Store) (fault : SourceFault) → StartsSource (Err fault) before now → RefusesStart fault → ends.StoreFailed ≡ source_ending fault → Caused before now
start_caused before now faults.Failed start refuses is = start.0.cause
start_caused before now faults.NoMemory start refuses is = absurd (not_failed ends.NoMemory refl is)
start_caused before now faults.Full start refuses is = absurd (not_failed ends.Full refl is)
start_caused before now faults.TooLong start refuses is = absurd refuses
start_caused before now faults.NotAsked start refuses is = absurd refuses
start_caused before now faults.UnknownSubscription start refuses is = absurd refuses
start_caused before now faults.Expired start refuses is = absurd refuses
start_caused before now faults.Spent start refuses is = absurd refuses

pub forwarding_caused : (address s : List ℕ) (deliveries : ℕ) (out : Told) (clock : Option ℕ) (link link' : ports.Told) (before now : Store)
    → ForwardEnds address s deliveries ends.StoreFailed out clock link link' before now → HasCause AreFormed true before now
forwarding_caused address s deliveries out clock link link' before now (inl (fault, start, refuses, is, unwritten, same)) = start_caused before now fault start refuses is
forwarding_caused address s deliveries out clock link link' before now (inr (boot, mid, start, (end, asks))) =
    later_caused AreFormed before mid now start.0.faults (asks_caused clock address s deliveries out _ _ asks)
