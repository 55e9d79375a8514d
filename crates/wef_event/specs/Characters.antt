-- How characters stand in the text between two tags, in bytes.
use Rattle.std.specs.Prelude.{ℕ, List, encode_utf8_all}
use Rattle.std.specs.List.{flat_map}
use Rattle.std.specs.Str.{chars}
use Rattle.wef_xml.specs.Canonical.{text_char}

-- a character as it stands in text
abbrev pub escape : ℕ → List ℕ
escape c = encode_utf8_all (text_char c)

-- a text with each character as it stands in text
abbrev pub escaped : List ℕ → List ℕ
escaped word = flat_map escape (chars word)
