use Rattle.std.proofs.Common.{◌≡◌, [], drop}
use Rattle.wef_elements.specs.Children.{elements_in}
use Rattle.wef_documents.specs.Names.{HasNamesOf}
use Rattle.wef_documents.specs.Sources.{sources_from}
use Rattle.wef_documents.proofs.sources.sources_among.Given as goal

abbrev pub invariant-loop-node : goal.invariant-loop-node
invariant-loop-node l = record {
  value : sources_from l.sources (elements_in (drop l.node-index l.nodes)) ≡ sources_from [] (elements_in l.nodes);
  names : HasNamesOf l.names l.sources;
}
