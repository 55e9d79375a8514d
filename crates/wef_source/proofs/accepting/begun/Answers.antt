use Rattle.std.proofs.Common.{Some, sym, subst}
use Rattle.wef_building.specs.declared.sessions.Session.{Session}
use Rattle.wef_source.specs.Serving.{CanBeServed}
use Rattle.wef_source.proofs.Served.{leased_served}
use Rattle.wef_source.proofs.accepting.begun.Goals as goal

pub returns-clause-served : goal.returns-clause-served
returns-clause-served c =
    subst (λ (s : Session). CanBeServed (record s { lease = Some c.in_ok-lease.lease })) (sym c.in_ok-session.ensures.ok)
    (leased_served c.args.now c.args.subscribe.now c.in_ok-lease.lease c.in-Some.name c.requires.servable c.in_ok-lease.ensures.told)
