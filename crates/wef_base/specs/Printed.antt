-- Names as printed lines show them.
use Rattle.std.specs.Prelude.{ℕ, ◌==◌, nat_lt, Bool, true, false, List, [], ◌∷◌, if◌then◌else◌}
use Rattle.std.specs.List.{flat_map}
use Rattle.percent_encoding.specs.Percent.{percent_encode_byte}

-- a byte that stands for itself: a visible ASCII character other than `%` and `:`
abbrev pub is_plain : ℕ → Bool
is_plain b = if nat_lt b 33 then false else (if nat_lt 126 b then false else (if b == 37 then false else (if b == 58 then false else true)))

-- a byte as it is, or `%` and its two capital hexadecimal digits
abbrev pub printed_byte : ℕ → List ℕ
printed_byte b = if is_plain b then b ∷ [] else percent_encode_byte b

-- a name: each byte that isn't plain as `%` and two capital hexadecimal digits
unfoldable pub printed : List ℕ → List ℕ
printed name = flat_map printed_byte name
