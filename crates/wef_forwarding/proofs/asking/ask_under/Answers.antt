use Rattle.std.proofs.Common.{◌≡◌, ◌∙◌, ℕ, List, ap}
use Rattle.wef_forwarding.specs.Asking.{enumerate_request}
use Rattle.wef_forwarding.proofs.Requested.{not_heard}
use Rattle.wef_forwarding.proofs.asking.ask_under.Goals as goal

pub returns-in-Ok-exchange-clause-ends : goal.returns-in-Ok-exchange-clause-ends
returns-in-Ok-exchange-clause-ends g c =
    let made = enumerate_request c.args.host.now c.args.source.now.name c.args.id.now in
    let is : c.in-Ok.request ≡ made = c.in-Ok.ensures ∙ ap (λ (s : List ℕ). enumerate_request c.args.host.now s c.args.id.now) c.name.ensures in
    not_heard c.in-Ok.request made c.args.now c.args.source.now.memory c.hear.new.source.memory (g.L.Port.told c.args.link.now) (g.L.Port.told c.exchange.new.link) is
    c.in-Ok-exchange.envelope c.in-Ok-exchange.ensures.exchanged c.in-Err-hear.ensures.wants_memory
