use Rattle.std.proofs.Common.{◌≡◌, ◌≤◌, ◌-◌, ◌+◌, ◌++◌, ℕ, List, length}
use Rattle.std.specs.Io.KnownBytes.{Consumes}
use Rattle.wef_ports.specs.Telling.{OnlyReads}
use Rattle.wef_http.proofs.bodies.read_more.Given as goal

abbrev pub invariant-reading : goal.invariant-reading
invariant-reading g l =
    let before = g.P.Port.told l.fn.port in
    let now = g.P.Port.told l.port in
    record {
      read : (piece : List ℕ) × Consumes before.coming now.coming piece × (l.body.items ≡ l.fn.body.items ++ piece) × (now.given ≡ before.given + length piece);
      start : l.start ≡ length l.fn.body.items;
      longer : l.start ≤ length l.body.items;
      within : length l.body.items ≤ l.start + l.count;
      rest : OnlyReads before now;
      later : before.faults ≤ now.faults;
    }

abbrev pub decreases-reading : goal.decreases-reading
decreases-reading g l = (l.start + l.count) - length l.body.items
