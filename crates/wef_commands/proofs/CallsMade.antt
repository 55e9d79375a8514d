-- Calls of a collector that was started just before.
use Rattle.std.proofs.Common.{◌≡◌, List, ℕ, inl, inr, subst}
use Rattle.std.specs.Prelude.{Result, Ok, Err}
use Rattle.wef_collector_rows.specs.declared.faults.CollectorFault.{CollectorFault}
use Rattle.wef_eventing.specs.declared.subscriptions.Subscription.{Subscription}
use Rattle.wef_collector.specs.declared.memories.Memory.{Memory}
use Rattle.wef_keeper.specs.Keeping.{Store}
use Rattle.wef_commands.specs.Adding.{Adds, added_text}
use Rattle.wef_commands.specs.Calling.{CallEnds, Starts, WroteOut, named_ending}
use Rattle.wef_commands.specs.Endings.{IsUnwritten, Told}
use Rattle.wef_commands.specs.declared.ending.Ending.{Ending}

-- a call that is refused
pub call_refused : {T : Type 0} (Call : Result T CollectorFault → Store → Store → Type 0) (refusal : CollectorFault → Ending) (Tells : T → Ending → Told → Type 0)
    (ending : Ending) (out : Told) (before mid now : Store) (memory : Memory) (fault : CollectorFault)
    → Starts (Ok memory) before mid → Call (Err fault) mid now → ending ≡ refusal fault → IsUnwritten out → CallEnds Call refusal Tells ending out before now
call_refused Call refusal Tells ending out before mid now memory fault start call is unwritten =
    inr (inl (fault, record { mid = mid; memory = memory; start = start; call = call }, is, unwritten))

-- a call that is done
pub call_done : {T : Type 0} (Call : Result T CollectorFault → Store → Store → Type 0) (refusal : CollectorFault → Ending) (Tells : T → Ending → Told → Type 0)
    (ending : Ending) (out : Told) (before mid now : Store) (memory : Memory) (given : T)
    → Starts (Ok memory) before mid → Call (Ok given) mid now → Tells given ending out → CallEnds Call refusal Tells ending out before now
call_done Call refusal Tells ending out before mid now memory given start call tells =
    inr (inr (given, record { mid = mid; memory = memory; start = start; call = call }, tells))

-- a subscription that is told by a copy of its name
pub told_by_name : (s : Subscription) (name text : List ℕ) (ending : Ending) (out : Told) (before now : Store) → name ≡ s.name → text ≡ added_text s.name
    → CallEnds (Adds s) (named_ending name) (λ _. WroteOut text) ending out before now
    → CallEnds (Adds s) (named_ending s.name) (λ _. WroteOut (added_text s.name)) ending out before now
told_by_name s name text ending out before now named said call =
    subst (λ (t : List ℕ). CallEnds (Adds s) (named_ending s.name) (λ _. WroteOut t) ending out before now) said
    (subst (λ (u : List ℕ). CallEnds (Adds s) (named_ending u) (λ _. WroteOut text) ending out before now) named call)
