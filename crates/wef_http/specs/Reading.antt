-- What a reading does to the bytes that are ahead of it, and to its port.
use Rattle.std.specs.Prelude.{◌≡◌, ℕ, ◌+◌, ◌-◌, ◌<◌, ◌≤◌, Bool, true, false, List, [], ◌++◌, length, Option, Some, None, IfErr, Result}
use Rattle.std.specs.Io.KnownBytes.{Consumes, IsAtEnd, prepend_known}
use Rattle.wef_base.specs.Counts.{Rose}
use Rattle.wef_ports.specs.Telling.{Told}
use Rattle.wef_http_heads.specs.declared.ends.HttpEnd.{HttpEnd}
use Rattle.wef_http_heads.specs.declared.ends.HttpEnd.TheVariants.{ReadFault}

-- the bytes ahead: those that are held, and then those to come
abbrev pub ahead : List ℕ → Told → Option (List ℕ)
ahead held now = prepend_known held now.coming

-- a fact of the bytes ahead before and of those ahead now, where they are told
abbrev pub Leads : Option (List ℕ) → Option (List ℕ) → (List ℕ → List ℕ → Type 0) → Type 0
Leads None now Holds = Unit {0}
Leads (Some bytes) None Holds = ⊥
Leads (Some bytes) (Some rest) Holds = Holds bytes rest

-- how many bytes can still be had
abbrev pub reach : List ℕ → Told → ℕ
reach held now = (18446744073709551616 - now.given) + length held

-- What a reading does to its port, whatever it answers: nothing is sent, and it fails for the port only where the count of faults rose.
abbrev pub HasRead : {T : Type 0} → Told → Told → Result T HttpEnd → Type 0
HasRead before now result =
    (now.sent ≡ before.sent)
    × (now.around ≡ before.around)
    × (before.faults ≤ now.faults)
    × IfErr result (λ e. e ≡ ReadFault → Rose before.faults now.faults)

-- some bytes came, or there are no more
abbrev pub CameOrEnded : Told → List ℕ → Bool → Type 0
CameOrEnded now piece true = 0 < length piece
CameOrEnded now piece false = (piece ≡ []) × IsAtEnd now.coming

-- A piece of the bytes to come stands now behind those that were there.
abbrev pub Comes : Told → Told → List ℕ → List ℕ → ℕ → Bool → Type 0
Comes before now old new room came =
    (piece : List ℕ) × Consumes before.coming now.coming piece
    × (new ≡ old ++ piece)
    × (length piece ≤ room)
    × (now.given ≡ before.given + length piece)
    × (now.given < 18446744073709551616)
    × CameOrEnded now piece came
