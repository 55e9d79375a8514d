use Rattle.std.proofs.Common.{arith, length-drop}
use Rattle.std.proofs.lemmas.List.{take_rest}
use Rattle.wef_commands.proofs.Written.{next_piece}
use Rattle.wef_commands.proofs.streams.write_whole.Goals as goal

pub loop-at-preserved : goal.loop-at-preserved
loop-at-preserved g c =
    let text = c.args.text.now in
    let at = c.loop-at.at in
    let bytes = rw (take_rest text at) at c.in_ok-at.ensures.bytes in
    let bound = rw (take_rest text at) at c.in_ok-at.ensures.bound in
    record {
      written = next_piece _ _ _ text at c.in_ok-at.field-0 c.loop-at.invariant.written bytes;
      later = omega (arith, c.loop-at.invariant.later, c.write.ensures.cause.0);
      within = omega (arith, bound, length-drop at text);
    }
