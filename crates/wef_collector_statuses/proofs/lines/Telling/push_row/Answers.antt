use Rattle.std.specs.List.{flat_map}
use Rattle.wef_heartbeat.specs.Silence.{status_of}
use Rattle.wef_collector_statuses.specs.Lines.{line_at, names_below, never_line}
use Rattle.wef_collector_statuses.proofs.Lengths.{grown, some_line}
use Rattle.wef_collector_statuses.proofs.lines.Telling.push_row.Goals as goal

pub returns-clause-grows : goal.returns-clause-grows
returns-clause-grows c =
    let telling = c.args.self.now in
    let source = c.args.row.now.key.source in
    let heard = c.of.result in
    grown c.args.text.now c.push_below.new.text c.push_line.new.text (flat_map (never_line telling) (names_below source c.args.listed.now)) (line_at telling source heard)
    c.in_ok-left.ensures.text c.in_ok-push_line.ensures (some_line telling.sub source (status_of heard telling.heartbeat telling.moment))
