use Rattle.std.proofs.Common.{take}
use Rattle.wef_commands.proofs.Checked.{HasNoEnd}
use Rattle.wef_commands.proofs.checking.cut.Given as goal

abbrev pub invariant-loop-at : goal.invariant-loop-at
invariant-loop-at l = HasNoEnd (take l.at l.text)
