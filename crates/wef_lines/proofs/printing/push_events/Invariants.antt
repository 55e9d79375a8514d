use Rattle.std.proofs.Common.{◌≡◌, ◌++◌, drop}
use Rattle.std.specs.List.{flat_map}
use Rattle.wef_lines.specs.Printed.{event_line}
use Rattle.wef_lines.proofs.printing.push_events.Given as goal

abbrev pub invariant-loop-event : goal.invariant-loop-event
invariant-loop-event l = l.text ++ flat_map event_line (drop l.event-index l.events) ≡ l.fn.text ++ flat_map event_line l.events
