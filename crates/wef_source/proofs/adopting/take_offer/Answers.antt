use Rattle.std.proofs.Common.{sym, subst}
use Rattle.wef_source.specs.Serving.{CanBeServed}
use Rattle.wef_source.proofs.Served.{begun_served}
use Rattle.wef_source.proofs.adopting.take_offer.Goals as goal

pub put_session-requires-clause-served : goal.put_session-requires-clause-served
put_session-requires-clause-served c =
    subst CanBeServed (sym c.in_ok-session.ensures.ok) (begun_served c.args.now c.args.subscribe.now c.in-Some.name c.requires.servable)
