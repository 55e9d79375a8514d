-- Characters that are read at once.
use Rattle.std.specs.Prelude.{ℕ, ◌==◌, Bool, ◌&&◌, ◌||◌, not, List, [], ◌∷◌, if◌then◌else◌}
use Rattle.std.specs.List.{prefix_len}
use Rattle.wef_base.specs.Characters.{is_xml_char}
use Rattle.wef_xml.specs.Letters.{is_name_char, is_name_start}

-- how many characters the name without `:` has that a text begins with
abbrev pub plain_name_length : List ℕ → ℕ
plain_name_length [] = 0
plain_name_length (c ∷ cs) = if is_name_start c then prefix_len is_name_char (c ∷ cs) else 0

-- a character that stands for itself in a value with these quotes, and isn't read as another
abbrev pub is_plain : ℕ → ℕ → Bool
is_plain quote c = not (c == quote || c == 38 || c == 60 || c == 9 || c == 10) && is_xml_char c
