use Rattle.wef_settling.proofs.Ends.{settling_ends, settling_is_kept}
use Rattle.wef_settling.proofs.laws.settling_goes_on.Goals as goal

pub returns : goal.returns
returns c = record { kept = settling_is_kept; ends = settling_ends }
