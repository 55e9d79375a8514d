-- What is sent of a message, and why not all of it.
use Rattle.std.specs.Prelude.{◌≡◌, ℕ, List, take}
use Rattle.std.specs.Io.KnownBytes.{Appends}
use Rattle.wef_base.specs.Counts.{Rose}
use Rattle.wef_http_heads.specs.declared.ends.HttpEnd.{HttpEnd}
use Rattle.wef_http_heads.specs.declared.ends.HttpEnd.TheVariants.{NoMemory, ReadFault}
use Rattle.wef_ports.specs.Telling.{Told}

-- A text was sent behind what was sent before.
abbrev pub Sends : Told → Told → List ℕ → Type 0
Sends before now text = Appends before.sent now.sent text

-- A text, or a part of it from its beginning, was sent behind what was sent before.
abbrev pub SendsPart : Told → Told → List ℕ → Type 0
SendsPart before now text = (n : ℕ) × Sends before now (take n text)

-- Why a message isn't sent to its end: for want of memory, and then nothing of it is; or the port failed.
abbrev pub IsNotSent : Told → Told → HttpEnd → Type 0
IsNotSent before now NoMemory = now ≡ before
IsNotSent before now ReadFault = Rose before.faults now.faults
IsNotSent before now _ = ⊥
