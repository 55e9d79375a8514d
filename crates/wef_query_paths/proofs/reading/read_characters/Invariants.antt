use Rattle.std.proofs.Common.{◌≡◌, length}
use Rattle.wef_query_paths.specs.Reading.{start}
use Rattle.wef_query_paths.specs.Stops.{path_from}
use Rattle.wef_query_paths.proofs.reading.read_characters.Given as goal

abbrev pub invariant-loop-rest : goal.invariant-loop-rest
invariant-loop-rest l = path_from l.rest l.reader ≡ path_from l.text start

abbrev pub decreases-loop-rest : goal.decreases-loop-rest
decreases-loop-rest l = length l.rest
