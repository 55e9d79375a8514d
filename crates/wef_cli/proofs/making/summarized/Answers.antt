use Rattle.std.proofs.Common.{subst, sym}
use Rattle.wef_machine.specs.States.{State}
use Rattle.wef_machine.specs.Steps.{AreAdmitted}
use Rattle.wef_made.proofs.Goods.{made_schedules_are_good}
use Rattle.wef_made.specs.Made.{schedule}
use Rattle.wef_promises.proofs.Admitted.{good_lines}
use Rattle.wef_cli.proofs.making.summarized.Goals as goal

pub run_made-requires : goal.run_made-requires
run_made-requires c = subst (λ (state : State). AreAdmitted state (schedule c.args.seed c.args.size)) (sym c.before.new-world.ensures.held) (good_lines (schedule c.args.seed c.args.size) (made_schedules_are_good c.args.seed c.args.size))
