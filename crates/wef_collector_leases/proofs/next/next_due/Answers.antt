use Rattle.std.proofs.Common.{◌≡◌, ℕ, ◌∙◌, ap, List, Option, Some, None}
use Rattle.std.specs.Prelude.{Result, Ok, Err, IfOk, IfSome}
use Rattle.wef_keeper.specs.Keeping.{Stays}
use Rattle.wef_keeper.specs.Rows.{Rows}
use Rattle.wef_keeper.specs.declared.access.StoreFault.{StoreFault}
use Rattle.wef_keeper.specs.declared.keys.Row.{Row}
use Rattle.wef_keeper.proofs.Told.{told_still}
use Rattle.wef_collector_rows.specs.Standing.{subscription_rows}
use Rattle.wef_collector_leases.specs.Next.{first_of_rows, next_due}
use Rattle.wef_collector_leases.specs.declared.next.Due.{Due}
use Rattle.wef_collector_leases.specs.declared.waiting.Waiting.{Waiting}
use Rattle.wef_collector_leases.proofs.FirstDue.{same_first}
use Rattle.wef_collector_leases.proofs.next.next_due.Goals as goal

of_all : (before now : Option Rows) (waiting : List Waiting) (at : ℕ) (found : List Row) (result : Result (Option Due) StoreFault) → Stays before now → IfSome before (λ rows. found ≡ subscription_rows rows)
    → IfSome now (λ rows. IfOk result (λ due. due ≡ first_of_rows rows waiting at found)) → IfSome now (λ rows. IfOk result (λ due. due ≡ next_due rows waiting at))
of_all before None waiting at found result stays is due = tt
of_all before (Some rows) waiting at found (Err fault) stays is due = tt
of_all before (Some rows) waiting at found (Ok answer) stays is due =
    due ∙ ap (first_of_rows rows waiting at) (told_still before (Some rows) (λ rows. found ≡ subscription_rows rows) stays is) ∙ same_first rows waiting at (subscription_rows rows)

pub returns-clause-due : goal.returns-clause-due
returns-clause-due g c =
    let held = rw c.as_slice.ensures at c.first_due.ensures.due in
    of_all (g.K.Keeper.store c.subscription_rows.new.keeper).rows (g.K.Keeper.store c.first_due.new.keeper).rows c.args.waiting.now c.args.now c.in_ok-rows.rows c.first_due.result c.first_due.ensures.reads.0.1 c.in_ok-rows.ensures.rows held
