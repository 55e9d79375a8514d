use Rattle.std.proofs.Common.{ap, ◌∙◌}
use Rattle.wef_places.proofs.Released.{given_up}
use Rattle.wef_places.proofs.collecting.release.Goals as goal
use Rattle.wef_places.specs.Collected.{released_left}

pub returns : goal.returns
returns c = record {
  collector =
      given_up c.open.new.collector c.settle_call.new.self c.in-Some.running.now c.release-released.new.self c.release-released.result c.in_ok-settle_call.field-0
      c.in-Some.ensures.value c.in_ok-open.ensures.planned c.in_ok-open.ensures.formed c.release-released.ensures.call c.release-released.ensures.memory c.in_ok-settle_call.ensures
      ∙ ap released_left c.in_ok-open.ensures.collector;
}
