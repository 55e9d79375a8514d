-- Bytes that come in pieces: none goes past a cut, which is a place in the bytes.
use Rattle.std.specs.Prelude.{ℕ, ◌-◌, nat_lt, List, [], ◌∷◌, if◌then◌else◌}

-- the cuts behind a place, of some that rise
abbrev pub cuts_behind : ℕ → List ℕ → List ℕ
cuts_behind place [] = []
cuts_behind place (cut ∷ cuts) = if nat_lt place cut then cut ∷ cuts else cuts_behind place cuts

-- how many bytes stand from a place on before the first of some cuts; where none lies behind it, as many as a count can be
abbrev pub piece_to : List ℕ → ℕ → ℕ
piece_to [] place = 18446744073709551615
piece_to (cut ∷ cuts) place = if nat_lt place cut then cut - place else 18446744073709551615
