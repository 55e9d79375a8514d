use Rattle.std.proofs.Common.{◌≤◌, ◌-◌, length, take}
use Rattle.wef_http.specs.Sending.{Sends}
use Rattle.wef_ports.specs.Telling.{OnlyWrites}
use Rattle.wef_http.proofs.sending.send.Given as goal

abbrev pub invariant-loop-at : goal.invariant-loop-at
invariant-loop-at g l =
    let told = g.P.Port.told in
    record {
      sent : Sends (told l.fn.port) (told l.port) (take l.at l.text);
      rest : OnlyWrites (told l.fn.port) (told l.port);
      later : (told l.fn.port).faults ≤ (told l.port).faults;
      within : l.at ≤ length l.text;
    }

abbrev pub decreases-loop-at : goal.decreases-loop-at
decreases-loop-at g l = length l.text - l.at
