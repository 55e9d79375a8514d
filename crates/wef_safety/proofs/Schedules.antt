-- The law of what is kept, on the laws of the crates below.
use Rattle.wef_safety.specs.Laws.{SchedulesAreKept, SchedulesAreSafe, StartIsKept, StepsKeep}
use Rattle.wef_safety.proofs.LowerFacts.{lower}
use Rattle.wef_safety.proofs.Steps as steps

pub start_is_kept : StartIsKept
start_is_kept = steps.start_is_kept lower

pub steps_keep : StepsKeep
steps_keep = steps.steps_keep lower

pub schedules_are_kept : SchedulesAreKept
schedules_are_kept = steps.schedules_are_kept lower

pub schedules_are_safe : SchedulesAreSafe
schedules_are_safe = steps.schedules_are_safe lower
