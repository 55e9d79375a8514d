use Rattle.std.proofs.Common.{◌≤◌, ◌-◌, length}
use Rattle.std.specs.Io.KnownBytes.{Keeps}
use Rattle.wef_ports.specs.Telling.{OnlyReads}
use Rattle.wef_http_heads.specs.declared.heads.TheConstants.{HEAD_LIMIT}
use Rattle.wef_http.specs.Reading.{ahead, reach}
use Rattle.wef_http.proofs.parts.read_part.Given as goal

abbrev pub invariant-reading : goal.invariant-reading
invariant-reading g l =
    let before = g.P.Port.told l.fn.port in
    let now = g.P.Port.told l.port in
    record {
      same : Keeps (ahead l.fn.held before) (ahead l.held now);
      reach : reach l.held now ≤ reach l.fn.held before;
      short : length l.fn.held ≤ HEAD_LIMIT → length l.held ≤ HEAD_LIMIT;
      rest : OnlyReads before now;
      later : before.faults ≤ now.faults;
    }

abbrev pub decreases-reading : goal.decreases-reading
decreases-reading g l = HEAD_LIMIT - length l.held
