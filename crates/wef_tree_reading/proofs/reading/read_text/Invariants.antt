-- The pieces so far lead to the builder, and leave the rest; what they declare is known.
use Rattle.std.proofs.Common.{length}
use Rattle.wef_tree_reading.specs.Known.{KnowsBuilder}
use Rattle.wef_tree_reading.specs.Spelling.{Reaches}
use Rattle.wef_tree_reading.proofs.reading.read_text.Given as goal

abbrev pub decreases-loop-rest : goal.decreases-loop-rest
decreases-loop-rest l = length l.rest

abbrev pub invariant-loop-rest : goal.invariant-loop-rest
invariant-loop-rest l = record {
  reached : Reaches l.text l.builder l.rest;
  known : KnowsBuilder l.known l.builder;
}
