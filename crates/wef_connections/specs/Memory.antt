-- What is known of connections in memory.
use Rattle.std.specs.Prelude.{◌≡◌, ℕ, ◌+◌, ◌-◌, ◌==◌, true, false, not, List, [], length, take, drop, map, min, slice_index_or, Some, Result, IsErr}
use Rattle.wef_base.specs.Counts.{CountsFaults, is_told}
use Rattle.wef_ports.specs.Telling.{Told}
use Rattle.wef_connections.specs.declared.memory.MemConnection.{MemConnection}
use Rattle.wef_connections.specs.declared.memory.MemConnections.{MemConnections}

-- the last list, or an empty one where there is none
abbrev pub last_of : List (List ℕ) → List ℕ
last_of lists = slice_index_or lists (length lists - 1) []

-- the lists before the last one
abbrev pub before_last : List (List ℕ) → List (List ℕ)
before_last lists = take (length lists - 1) lists

-- the bytes of each connection
abbrev pub bytes_of_each : List MemConnection → List (List ℕ)
bytes_of_each connections = map (λ connection. connection.bytes) connections

-- Everything is told.
abbrev pub told_of : MemConnections → Told
told_of c = record {
  coming = Some (drop c.present.at c.present.bytes);
  sent = Some (last_of c.sent.items);
  given = c.present.at;
  faults = c.faults;
  around = record {
    addresses = Some c.addresses;
    waiting = Some (bytes_of_each c.waiting.items);
    earlier = Some (before_last c.sent.items);
    began = not (length c.sent.items == 0);
    refusals = c.refusals;
  };
}

-- These connections are to come, and nothing has happened yet.
abbrev pub unopened : List (List ℕ) → Told
unopened waiting = record {
  coming = Some [];
  sent = Some [];
  given = 0;
  faults = 0;
  around = record { addresses = Some []; waiting = Some waiting; earlier = Some []; began = false; refusals = 0 };
}

-- A call was counted. It failed where its number is told, and else only for want of memory, which has a count of its own.
abbrev pub FailsAsTold : {A E : Type 0} → MemConnections → MemConnections → Result A E → Type 0
FailsAsTold before now result =
    (now.failures.calls ≡ min (before.failures.calls + 1) 18446744073709551615)
    × (now.failures.failing ≡ before.failures.failing)
    × CountsFaults before.faults now.faults result
    × (is_told now.failures.calls before.failures.failing ≡ true → IsErr result)
    × (is_told now.failures.calls before.failures.failing ≡ true → now.refused ≡ before.refused)
    × (is_told now.failures.calls before.failures.failing ≡ false → CountsFaults before.refused now.refused result)
