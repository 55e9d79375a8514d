use Rattle.std.proofs.Common.{◌≡◌, ap, arith, length, ◌∙◌}
use Rattle.std.specs.Prelude.{Option, Some}
use Rattle.wef_replay.specs.Schedule.{meaning_after}
use Rattle.wef_replay.specs.declared.lines.Line.{Line}
use Rattle.wef_replay.proofs.Cuts.{part_count}
use Rattle.wef_replay.proofs.Following.{first_bad_read, lines_read}
use Rattle.wef_replay.proofs.schedule.read_lines.Goals as goal

pub overflow_add-number : goal.overflow_add-number
overflow_add-number c =
    let counted = c.loop-text.invariant.counted in
    let more = ap length c.in-Some.ensures.steps in
    let most = part_count 10 c.args.bytes.now in
    omega arith

pub loop-text-preserved : goal.loop-text-preserved
loop-text-preserved c =
    let held = c.loop-text.invariant in
    let text = c.in-Some.text.now in
    let first = c.in-Some.ensures.steps in
    let means : meaning_after c.loop-text.names text ≡ Some (Some c.in-Ok-Some.line) = c.in-Ok-Some.ensures ∙ ap (λ (act : Option Line). Some act) c.in-Ok-Some.field-0-is in
    let alike = c.in_ok-note-in-Ok-Some.ensures in
    let more = ap length first in
    record {
      read = lines_read c.loop-text.names _ text _ c.in-Ok-Some.line _ _ _ means alike c.in_ok-push-in-Ok-Some.ensures.ok (rw first at held.read);
      good = first_bad_read c.loop-text.names _ _ text _ c.in-Ok-Some.line _ means alike (rw first at held.good);
      counted = omega arith;
    }
