use Rattle.wef_safety.proofs.Schedules.{start_is_kept, steps_keep}
use Rattle.wef_safety.proofs.Steps.{kept_is_safe}
use Rattle.wef_safety.proofs.laws.steps_keep.Goals as goal

pub returns : goal.returns
returns c = record { start = start_is_kept; steps = steps_keep; safe = kept_is_safe }
