-- What is known of a port, and what its calls leave alone.
use Rattle.std.specs.Prelude.{◌≡◌, ℕ, Bool, true, List, [], Option, Some, is_some}

-- What lies around the present connection, for ports that have one connection after the other.
pub record Around : Type 0 where
  -- the address of each connection so far
  pub addresses : Option (List (List ℕ))
  -- the bytes of each connection that is still to come
  pub waiting : Option (List (List ℕ))
  -- what was sent in each connection before the present one
  pub earlier : Option (List (List ℕ))
  -- whether there is a present connection
  pub began : Bool
  -- how many openings of a connection have failed
  pub refusals : ℕ

-- What is known of a port.
pub record Told : Type 0 where
  -- the bytes to come of the present connection
  pub coming : Option (List ℕ)
  -- the bytes that were sent in it
  pub sent : Option (List ℕ)
  -- how many bytes of it were given
  pub given : ℕ
  -- how many calls have failed
  pub faults : ℕ
  pub around : Around

-- one connection and none around it
abbrev pub alone : Around
alone = record { addresses = Some []; waiting = Some []; earlier = Some []; began = true; refusals = 0 }

-- A read leaves what was sent and what lies around.
abbrev pub OnlyReads : Told → Told → Type 0
OnlyReads before now = (now.sent ≡ before.sent) × (now.around ≡ before.around)

-- A write leaves what is to come, what was given and what lies around.
abbrev pub OnlyWrites : Told → Told → Type 0
OnlyWrites before now = (now.coming ≡ before.coming) × (now.given ≡ before.given) × (now.around ≡ before.around)

-- All contents are told together.
abbrev pub TellsTogether : Told → Type 0
TellsTogether now =
    (is_some now.sent ≡ is_some now.coming)
    × (is_some now.around.addresses ≡ is_some now.coming)
    × (is_some now.around.waiting ≡ is_some now.coming)
    × (is_some now.around.earlier ≡ is_some now.coming)
