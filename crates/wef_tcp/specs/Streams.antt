-- What is known of a connection of the system: its counts, and whether there is one.
use Rattle.std.specs.Prelude.{None, false}
use Rattle.wef_ports.specs.Telling.{Told}
use Rattle.wef_tcp.specs.declared.links.TcpLink.{TcpLink}

-- Counts alone are told.
abbrev pub told_of : TcpLink → Told
told_of l = record {
  coming = None;
  sent = None;
  given = l.given;
  faults = l.faults;
  around = record { addresses = None; waiting = None; earlier = None; began = l.began; refusals = l.refusals };
}

-- There was no connection yet, and nothing failed.
abbrev pub unopened : Told
unopened = record {
  coming = None;
  sent = None;
  given = 0;
  faults = 0;
  around = record { addresses = None; waiting = None; earlier = None; began = false; refusals = 0 };
}
