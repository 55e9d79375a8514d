-- Characters of names (Namespaces in XML 1.0, rule NCName, with the characters of XML 1.0, 4th edition, made simple): a
-- name begins with a letter of ASCII, `_`, or a character from U+00C0 on but U+00D7 and U+00F7; digits, `-`, `.` and
-- U+00B7 may follow.
use Rattle.std.specs.Prelude.{ℕ, ◌==◌, nat_le, Bool, ◌&&◌, ◌||◌, not}
use Rattle.wef_base.specs.Characters.{is_within, is_xml_char}

-- a character that a name may begin with
abbrev pub is_name_start : ℕ → Bool
is_name_start c = is_within 65 90 c || is_within 97 122 c || c == 95 || (nat_le 0xC0 c && is_xml_char c && not (c == 0xD7) && not (c == 0xF7))

-- a character that may stand in a name
abbrev pub is_name_char : ℕ → Bool
is_name_char c = is_name_start c || is_within 48 57 c || c == 45 || c == 46 || c == 0xB7
