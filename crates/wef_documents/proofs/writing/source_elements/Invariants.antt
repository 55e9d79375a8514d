use Rattle.std.proofs.Common.{◌≡◌, ◌++◌, drop, map}
use Rattle.wef_documents.specs.Written.{source_element}
use Rattle.wef_documents.proofs.writing.source_elements.Given as goal

abbrev pub invariant-loop-source : goal.invariant-loop-source
invariant-loop-source l = l.elements ++ map source_element (drop l.source-index l.sources) ≡ map source_element l.sources
