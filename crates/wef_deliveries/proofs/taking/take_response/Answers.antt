use Rattle.std.proofs.Common.{◌∙◌}
use Rattle.wef_places.specs.Collected.{collector_of}
use Rattle.wef_deliveries.proofs.Takings.{response_said, response_stands}
use Rattle.wef_deliveries.proofs.taking.take_response.Goals as goal

pub returns-clause-word : goal.returns-clause-word
returns-clause-word g c =
    c.in_ok-heard_word.ensures
    ∙ response_said (collector_of c.args.collector.now) c.args.response.now.relates c.args.response.now.answer c.args.now c.in_ok-heard.heard
    (c.in_ok-heard.ensures.came c.args.response.now.relates c.args.response.now.answer (c.bytes.ensures.told c.args.now))

pub returns-clause-moves : goal.returns-clause-moves
returns-clause-moves g c =
    c.leases.ensures
    ∙ response_stands (collector_of c.args.collector.now) c.args.response.now.relates c.args.response.now.answer c.args.now c.in_ok-heard.heard
    (c.in_ok-heard.ensures.came c.args.response.now.relates c.args.response.now.answer (c.bytes.ensures.told c.args.now))
