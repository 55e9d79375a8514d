use Rattle.std.proofs.Common.{◌≡◌, ◌≤◌, ◌-◌, length}
use Rattle.wef_ports.specs.Telling.{OnlyReads}
use Rattle.wef_http_heads.specs.Ends as ends
use Rattle.wef_http_heads.specs.Ends.{behind_empty_line}
use Rattle.wef_http_heads.specs.declared.heads.TheConstants.{HEAD_LIMIT}
use Rattle.wef_http.specs.Reading.{Leads, ahead, reach}
use Rattle.wef_http.specs.Trailers.{stands}
use Rattle.wef_http.proofs.trailers.skip_trailers.Given as goal

abbrev pub invariant-skipping : goal.invariant-skipping
invariant-skipping g l =
    let before = g.P.Port.told l.fn.port in
    let now = g.P.Port.told l.port in
    record {
      behind : Leads (ahead l.fn.held before) (ahead l.held now) (λ bytes rest. behind_empty_line ends.Start bytes ≡ behind_empty_line (stands l.place) rest);
      reach : reach l.held now ≤ reach l.fn.held before;
      short : length l.fn.held ≤ HEAD_LIMIT → length l.held ≤ HEAD_LIMIT;
      rest : OnlyReads before now;
      later : before.faults ≤ now.faults;
    }

abbrev pub decreases-skipping : goal.decreases-skipping
decreases-skipping g l = 18446744073709551616 - (g.P.Port.told l.port).given
