use Rattle.std.proofs.Common.{◌≡◌, true, subst, sym}
use Rattle.wef_safety.specs.Kept.{IsHeld}
use Rattle.wef_machine.specs.States.{held}
use Rattle.wef_machine.specs.Steps.{admits}
use Rattle.wef_safety.proofs.Schedules.{start_is_kept, steps_keep}
use Rattle.wef_world.proofs.world.Held.apply.Goals as goal

-- a world that lost its ends is as new
pub invariant_of-self-in-Err : goal.invariant_of-self-in-Err
invariant_of-self-in-Err g c = subst (λ ends. IsHeld (held ends)) (sym c.take.ensures.after) start_is_kept

-- the step of a line that is admitted keeps what is held
pub invariant_of-self-in-Ok : goal.invariant_of-self-in-Ok
invariant_of-self-in-Ok g c =
    let kept : IsHeld c.in-Some.ends = subst (λ ends. IsHeld (held ends)) (sym c.in-Some.ensures.value) c.self.invariant in
    let good : admits (held c.self.inside.ends) c.args.line.now ≡ true = subst (λ state. admits state c.args.line.now ≡ true) (sym c.self.view_is) c.requires in
    let admitted : admits c.in-Some.ends c.args.line.now ≡ true = subst (λ ends. admits (held ends) c.args.line.now ≡ true) (sym c.in-Some.ensures.value) good in
    let keeps : IsHeld c.print_line.new.ends = subst IsHeld (sym c.in-Ok.ensures.state) (steps_keep c.in-Some.ends c.args.line.now kept admitted) in
    subst (λ ends. IsHeld (held ends)) (sym c.replace.ensures.after) keeps
