use Rattle.std.proofs.Common.{sym, subst}
use Rattle.std.specs.Prelude.{Ok, Err}
use Rattle.wef_ports.specs.Telling.{Told}
use Rattle.wef_forwarding.specs.Exchanges.{Exchanged}
use Rattle.wef_forwarding.proofs.Exchanging.{ended}
use Rattle.wef_forwarding.proofs.exchanges.exchange.Goals as goal

pub returns-clause-exchanged : goal.returns-clause-exchanged
returns-clause-exchanged g c =
    subst (Exchanged c.args.request.now c.ask-envelope.result (g.L.Port.told c.args.link.now)) (sym c.close.ensures)
    (ended c.args.request.now (g.L.Port.told c.args.link.now) (g.L.Port.told c.connect.new.self) (g.L.Port.told c.ask-envelope.new.port) c.in-Ok.ensures.connected c.ask-envelope.ensures.around c.ask-envelope.ensures.later
    c.ask-envelope.result c.ask-envelope.ensures.sent c.ask-envelope.ensures.part c.ask-envelope.ensures.brought c.ask-envelope.ensures.cause)
