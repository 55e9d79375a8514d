-- A call of the collector, by where it ends: it opens the store, reads, and commits what it changes.
use Rattle.std.proofs.Common.{◌≡◌, ℕ, List, subst, sym}
use Rattle.std.specs.Prelude.{Option, Some, None, Result, Ok, Err, IfSome, OnOk}
use Rattle.wef_batch.specs.declared.items.Batch.{Batch}
use Rattle.wef_eventing.specs.declared.subscriptions.Subscription.{Subscription}
use Rattle.wef_keeper.specs.Keeping.{Follows}
use Rattle.wef_keeper.specs.Rows.{Rows, applied}
use Rattle.wef_keeper.specs.declared.access.StoreFault.{StoreFault}
use Rattle.wef_keeper.specs.declared.access.StoreFault.TheVariants.{NoMemory, Failed}
use Rattle.wef_keeper.specs.declared.keys.Change.{Change}
use Rattle.wef_keeper.proofs.Calls.{unless_any}
use Rattle.wef_collector_rows.specs.Answers.{channels_read}
use Rattle.wef_collector_rows.specs.Faults.{collector_fault, collector_store}
use Rattle.wef_collector_rows.specs.Judged.{IsFormedAt}
use Rattle.wef_collector_rows.specs.Keys.{heard_key, subscription_key}
use Rattle.wef_collector_rows.specs.Standing.{standing}
use Rattle.wef_collector_rows.specs.declared.faults.CollectorFault.{CollectorFault}
use Rattle.wef_collector_rows.specs.declared.standings.Standing.{Standing}
use Rattle.wef_collector_rows.specs.declared.standings.Standing.TheVariants.{Live}
use Rattle.wef_collector.specs.Judged.{AreReachedBy, AreReachedFormed, JudgesStart, JudgesTake}
use Rattle.wef_collector.specs.Calling.{IsAllowed, Judges, Stands, effect_of}
use Rattle.wef_collector.specs.declared.memories.Memory.{Memory}
use Rattle.wef_collector.specs.declared.calling.Call.{Call}
use Rattle.wef_collector.specs.declared.calling.Call.TheVariants.{Add, End, Take, TakeUnread, Hear, Respond, Release, SourceEnded, EndUnread}
use Rattle.wef_collector.proofs.Live.{added_lives}

-- nothing is said of the rows that a start has read, where its store refuses it
pub no_start : (kind : StoreFault) (rows : Rows) → JudgesStart {T = Memory} (Err (collector_fault kind)) rows
no_start NoMemory rows = tt
no_start Failed rows = tt

-- and nothing of those that a call has read
pub none_judged : (call : Call) (kind : StoreFault) (rows : Rows) → Judges {T = Unit {0}} call (Err (collector_fault kind)) rows
none_judged (Add subscription) NoMemory rows = (tt, tt)
none_judged (Add subscription) Failed rows = (tt, tt)
none_judged (End sub) NoMemory rows = tt
none_judged (End sub) Failed rows = tt
none_judged (Take sub source batch now) NoMemory rows = (tt, tt)
none_judged (Take sub source batch now) Failed rows = (tt, tt)
none_judged (TakeUnread sub) NoMemory rows = tt
none_judged (TakeUnread sub) Failed rows = tt
none_judged (Hear sub source now) NoMemory rows = (tt, tt)
none_judged (Hear sub source now) Failed rows = (tt, tt)
none_judged (Respond waiting response now) kind rows = tt
none_judged Release kind rows = tt
none_judged (SourceEnded sub source identifier) NoMemory rows = (tt, tt)
none_judged (SourceEnded sub source identifier) Failed rows = (tt, tt)
none_judged (EndUnread sub) NoMemory rows = tt
none_judged (EndUnread sub) Failed rows = tt

-- of one that is refused, the same rows whatever it would have answered
pub refused_judged : (S T : Type 0) (call : Call) (fault : CollectorFault) (told : Option Rows) → IfSome told (λ rows. Judges {T = S} call (Err fault) rows) → IfSome told (λ rows. Judges {T = T} call (Err fault) rows)
refused_judged S T call fault None judged = tt
refused_judged S T (Add subscription) fault (Some rows) judged = judged
refused_judged S T (End sub) fault (Some rows) judged = judged
refused_judged S T (Take sub source batch now) fault (Some rows) judged = judged
refused_judged S T (TakeUnread sub) fault (Some rows) judged = judged
refused_judged S T (Hear sub source now) fault (Some rows) judged = judged
refused_judged S T (Respond waiting response now) fault (Some rows) judged = judged
refused_judged S T Release fault (Some rows) judged = judged
refused_judged S T (SourceEnded sub source identifier) fault (Some rows) judged = judged
refused_judged S T (EndUnread sub) fault (Some rows) judged = judged

-- and of one that is done
pub done_judged : {S T : Type 0} (call : Call) (made : S) (answer : T) (rows : Rows) → Judges call (Ok made) rows → Judges call (Ok answer) rows
done_judged (Add subscription) made answer rows judged = judged
done_judged (End sub) made answer rows judged = judged
done_judged (Take sub source batch now) made answer rows judged = judged
done_judged (TakeUnread sub) made answer rows judged = judged
done_judged (Hear sub source now) made answer rows judged = judged
done_judged (Respond waiting response now) made answer rows judged = judged
done_judged Release made answer rows judged = judged
done_judged (SourceEnded sub source identifier) made answer rows judged = judged
done_judged (EndUnread sub) made answer rows judged = judged

-- what a batch for a live subscription has read
pub take_judged : {T : Type 0} (told : Option Rows) (answer : Result T CollectorFault) (u source : List ℕ) (s : Subscription) (batch : Batch) → IfSome told (λ rows. standing rows u ≡ Live s) → IfSome told (IsFormedAt (subscription_key u))
    → IfSome told (λ rows. OnOk answer (AreReachedFormed rows u source batch (channels_read s) × IsFormedAt (heard_key u source) rows)) → IfSome told (λ rows. JudgesTake answer rows u source batch)
take_judged None answer u source s batch live formed read = tt
take_judged (Some rows) answer u source s batch live formed read = (
  unless_any collector_store answer (IsFormedAt (subscription_key u) rows) formed,
  subst (λ (found : Standing). OnOk answer (AreReachedBy found rows u source batch × IsFormedAt (heard_key u source) rows)) (sym live) read,
)

any_stands : {X : Type 0} (told : Option X) → IfSome told (λ x. Unit {0})
any_stands None = tt
any_stands (Some x) = tt

-- what stands behind a call that is done
pub stands_behind : (call : Call) (mid now : Option Rows) (changes : List Change) → Follows mid now (λ found after. after ≡ applied changes found) → IfSome mid (λ rows. effect_of call rows ≡ Ok changes)
    → IsAllowed call → IfSome now (Stands call)
stands_behind (Add subscription) mid now changes follows made kept = added_lives mid now subscription.now changes follows made kept
stands_behind (End sub) mid now changes follows made kept = any_stands now
stands_behind (Take sub source batch moment) mid now changes follows made kept = any_stands now
stands_behind (TakeUnread sub) mid now changes follows made kept = any_stands now
stands_behind (Hear sub source moment) mid now changes follows made kept = any_stands now
stands_behind (Respond waiting response moment) mid now changes follows made kept = any_stands now
stands_behind Release mid now changes follows made kept = any_stands now
stands_behind (SourceEnded sub source identifier) mid now changes follows made kept = any_stands now
stands_behind (EndUnread sub) mid now changes follows made kept = any_stands now
