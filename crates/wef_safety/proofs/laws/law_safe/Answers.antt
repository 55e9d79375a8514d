use Rattle.wef_safety.proofs.Schedules.{schedules_are_kept, schedules_are_safe}
use Rattle.wef_safety.proofs.laws.law_safe.Goals as goal

pub returns : goal.returns
returns c = record { kept = schedules_are_kept; safe = schedules_are_safe }
