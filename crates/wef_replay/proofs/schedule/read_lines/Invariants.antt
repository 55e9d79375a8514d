use Rattle.std.proofs.Common.{◌≡◌, ◌+◌, ◌++◌, length}
use Rattle.wef_replay.specs.Good.{no_names}
use Rattle.wef_replay.specs.Parts.{parts_left}
use Rattle.wef_replay.specs.Schedule.{first_bad, lines_of, texts_of}
use Rattle.wef_replay.proofs.schedule.read_lines.Given as goal

abbrev pub invariant-loop-text : goal.invariant-loop-text
invariant-loop-text l = record {
  read : l.lines ++ lines_of l.names (parts_left l.text-iterator) ≡ lines_of no_names (texts_of l.bytes);
  good : first_bad l.names (l.number + 1) (parts_left l.text-iterator) ≡ first_bad no_names 1 (texts_of l.bytes);
  counted : l.number + length (parts_left l.text-iterator) ≡ length (texts_of l.bytes);
}
