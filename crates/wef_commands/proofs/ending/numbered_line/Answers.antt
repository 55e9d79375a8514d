use Rattle.std.proofs.Common.{append_assoc}
use Rattle.wef_commands.specs.Endings.{not_understood}
use Rattle.wef_commands.proofs.ending.numbered_line.Goals as goal

pub returns : goal.returns
unfolding not_understood
returns c = rw (c.in_ok-push_str.ensures.ok, c.in_ok-push_number.ensures.ok, c.in_ok-text.ensures) (simp append_assoc)
