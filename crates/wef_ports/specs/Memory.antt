-- What a port in memory tells.
use Rattle.std.specs.Prelude.{Some, drop}
use Rattle.wef_ports.specs.declared.memory.MemPort.{MemPort}
use Rattle.wef_ports.specs.Telling.{Told, alone}

-- all that it has and did
abbrev pub told_of : MemPort → Told
told_of p = record { coming = Some (drop p.coming.at p.coming.bytes); sent = Some p.sent; given = p.coming.at; faults = p.faults; around = alone }
