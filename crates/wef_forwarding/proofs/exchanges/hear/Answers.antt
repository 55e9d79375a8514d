use Rattle.wef_forwarding.proofs.Exchanging.{nothing_brought}
use Rattle.wef_forwarding.proofs.exchanges.hear.Goals as goal

pub returns-in-Err-clause-brought : goal.returns-in-Err-clause-brought
returns-in-Err-clause-brought g c = nothing_brought c.in-Err.end c.brought_without.result (g.P.Port.told c.args.port.now).coming c.brought_without.ensures c.in-Err.ensures.refused
