-- The texts of ids: the one that is written for a value, and the value that a text has.
use Rattle.std.specs.Prelude.{ℕ, List, ◌++◌, length, take, drop, codes, Option, Some, if◌then◌else◌}
use Rattle.std.specs.Int.{from_be_bytes, to_be_bytes, w128}
use Rattle.std.specs.Option.{option_map}
use Rattle.std.specs.Str.{str_eq_ignore_ascii_case}
use Rattle.uuid.specs.Text.{hyphenated_text, lower, parsed}
use Rattle.wef_ids.specs.declared.MessageId.{MessageId}

-- `uuid:` and a value in the hyphenated form of a UUID, in small letters (RFC 4122, 3)
unfoldable pub id_text : ℕ → List ℕ
id_text value = codes "uuid:" ++ hyphenated_text lower (to_be_bytes w128 value)

-- the id of a value, with the text that is written for it
abbrev pub id_of_value : ℕ → MessageId
id_of_value value = record { value = Some value; text = id_text value }

-- a text without a word that it begins with, in letters of either case
abbrev pub behind : List ℕ → List ℕ → List ℕ
behind word text = if str_eq_ignore_ascii_case (take (length word) text) word then drop (length word) text else text

-- the value of a text that is a UUID in any of its forms, behind `urn:` or not, and then behind `uuid:` or not
unfoldable pub id_value : List ℕ → Option ℕ
id_value text = option_map (from_be_bytes w128) (parsed (behind (codes "uuid:") (behind (codes "urn:") text)))

-- the id that a text is
abbrev pub id_of : List ℕ → MessageId
id_of text = record { value = id_value text; text = text }
