use Rattle.std.proofs.Common.{arith, length-drop, rules}
use Rattle.std.proofs.lemmas.List.{take_rest}
use Rattle.wef_http.proofs.Sent.{next_piece}
use Rattle.wef_http.proofs.sending.send.Goals as goal

pub loop-at-preserved : goal.loop-at-preserved
loop-at-preserved g c =
    let text = c.args.text.now in
    let at = c.loop-at.at in
    let bound = rw (take_rest text at) at c.in-Ok.ensures.bound in
    record {
      sent = next_piece _ _ _ text at c.in-Ok.count c.loop-at.invariant.sent (rw (take_rest text at) at c.in-Ok.ensures.bytes);
      rest = search rules;
      later = omega (arith, c.loop-at.invariant.later, c.write.ensures.cause.0);
      within = omega (arith, bound, length-drop at text);
    }
