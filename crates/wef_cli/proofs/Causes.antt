-- That another ending is told, and causes behind a call.
use Rattle.std.proofs.Common.{◌≡◌, ◌∙◌, ◌≤◌, true, false, ap, arith, true≢false}
use Rattle.std.specs.Prelude.{Option, Some, None, IfSome}
use Rattle.wef_base.specs.Counts.{Rose}
use Rattle.wef_keeper.specs.Access.{HasCause}
use Rattle.wef_keeper.specs.Keeping.{Store}
use Rattle.wef_keeper.specs.Rows.{Rows}
use Rattle.wef_commands.specs.Showing.{is_store_failed}
use Rattle.wef_commands.specs.declared.ending.Ending.{Ending}
use Rattle.wef_commands.specs.declared.ending.Ending.TheVariants as ends

-- an ending that tells something else isn't that of a failed store
pub not_failed : (ending : Ending) → is_store_failed ending ≡ false → ends.StoreFailed ≡ ending → ⊥
not_failed ending other is = true≢false (ap is_store_failed is ∙ other)

-- a cause behind a call, whose count of faults doesn't fall
pub later_caused : (Formed : Rows → Type 0) (before mid now : Store) → before.faults ≤ mid.faults → HasCause Formed true mid now → HasCause Formed true before now
later_caused Formed before mid now below cause failed = by now.rows (cause failed)
  where
    rose : Rose mid.faults now.faults → Rose before.faults now.faults
    rose h = grind (arith)

    by : (o : Option Rows) → IfSome o (λ rows. Formed rows → Rose mid.faults now.faults) → IfSome o (λ rows. Formed rows → Rose before.faults now.faults)
    by None h = tt
    by (Some rows) h = λ formed. rose (h formed)
