-- Characters of XML 1.0.
use Rattle.std.specs.Prelude.{ℕ, nat_le, ◌==◌, Bool, ◌&&◌, ◌||◌, List}
use Rattle.std.specs.List.{list_all}
use Rattle.std.specs.Str.{chars}

-- a number from first to last
abbrev pub is_within : ℕ → ℕ → ℕ → Bool
is_within first last c = nat_le first c && nat_le c last

-- a character that XML 1.0 allows (its rule Char): TAB, LF, CR, and any from the space on but surrogates, U+FFFE and U+FFFF
abbrev pub is_xml_char : ℕ → Bool
is_xml_char c = c == 9 || c == 10 || c == 13 || is_within 0x20 0xD7FF c || is_within 0xE000 0xFFFD c || is_within 0x10000 0x10FFFF c

-- a text of such characters alone
abbrev pub is_xml_text : List ℕ → Bool
is_xml_text word = list_all is_xml_char (chars word)
