use Rattle.std.proofs.Common.{◌≡◌, ◌≤◌, [], drop}
use Rattle.wef_elements.specs.Children.{elements_in}
use Rattle.wef_query.specs.Reading.{queries_from}
use Rattle.wef_query.proofs.reading.groups_in.Given as goal

abbrev pub invariant-loop-node : goal.invariant-loop-node
invariant-loop-node l = record {
  value : queries_from l.group l.items (elements_in (drop l.node-index l.nodes)) ≡ queries_from 0 [] (elements_in l.nodes);
  counted : l.group ≤ l.node-index;
}
