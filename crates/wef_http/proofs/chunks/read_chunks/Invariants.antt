use Rattle.std.proofs.Common.{◌≡◌, ◌≤◌, ◌-◌, ℕ, List, length}
use Rattle.std.specs.List.{concat}
use Rattle.wef_ports.specs.Telling.{OnlyReads}
use Rattle.wef_http_heads.specs.declared.heads.TheConstants.{BODY_LIMIT, HEAD_LIMIT}
use Rattle.wef_http.specs.Chunks.{AreChunks}
use Rattle.wef_http.specs.Reading.{Leads, ahead, reach}
use Rattle.wef_http.proofs.chunks.read_chunks.Given as goal

abbrev pub invariant-chunks : goal.invariant-chunks
invariant-chunks g l =
    let before = g.P.Port.told l.fn.port in
    let now = g.P.Port.told l.port in
    record {
      read : Leads (ahead l.fn.held before) (ahead l.held now) (λ bytes rest. (pieces : List (List ℕ)) × AreChunks 0 pieces bytes rest × (l.body.items ≡ concat pieces));
      size : length l.body.items ≤ BODY_LIMIT;
      reach : reach l.held now ≤ reach l.fn.held before;
      short : length l.fn.held ≤ HEAD_LIMIT → length l.held ≤ HEAD_LIMIT;
      rest : OnlyReads before now;
      later : before.faults ≤ now.faults;
    }

abbrev pub decreases-chunks : goal.decreases-chunks
decreases-chunks g l = BODY_LIMIT - length l.body.items
