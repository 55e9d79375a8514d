use Rattle.std.proofs.Common.{◌≡◌, ◌++◌, length}
use Rattle.std.specs.List.{flat_map}
use Rattle.wef_collector_rows.specs.Held.{held_after}
use Rattle.wef_lines.specs.Printed.{event_line}
use Rattle.wef_printing.proofs.printing.held_text.Given as goal

abbrev pub invariant-loop-text : goal.invariant-loop-text
invariant-loop-text l = record {
  rows : l.collector.keeper.rows ≡ l.initial.collector.keeper.rows;
  memory : l.collector.memory ≡ l.initial.collector.memory;
  done : l.text ++ flat_map event_line (held_after l.collector.keeper.rows l.sub l.source l.channel l.after)
      ≡ flat_map event_line (held_after l.collector.keeper.rows l.sub l.source l.channel 0);
}

abbrev pub decreases-loop-text : goal.decreases-loop-text
decreases-loop-text l = length (held_after l.collector.keeper.rows l.sub l.source l.channel l.after)
