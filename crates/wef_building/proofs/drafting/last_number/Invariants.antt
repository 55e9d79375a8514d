use Rattle.std.proofs.Common.{◌≡◌, drop}
use Rattle.wef_source_log.specs.LogWindow.{last_number}
use Rattle.wef_building.proofs.drafting.last_number.Given as goal

abbrev pub invariant-loop-event : goal.invariant-loop-event
invariant-loop-event l = last_number l.last (drop l.event-index l.events) ≡ last_number l.before l.events
