-- How bytes are characters, and where in the bytes a character stands.
use Rattle.std.specs.Prelude.{ℕ, zero, suc, ◌+◌, ◌-◌, ◌*◌, ◌==◌, nat_lt, Bool, true, false, ◌&&◌, List, [], ◌∷◌, ◌++◌, length, is_some, Option, Some, None, Result, if◌then◌else◌}
use Rattle.std.specs.Option.{option_or}
use Rattle.std.specs.Char.{len_utf8}
use Rattle.std.specs.declared.result.Result.TheVariants.{Ok, Err}
use Rattle.std.specs.Str.{chars, is_utf8}
use Rattle.std.specs.Str.Lossy.{utf8_valid_len}
use Rattle.wef_base.specs.Characters.{is_within}
use Rattle.wef_base.specs.declared.tree.Charset.{Charset}
use Rattle.wef_base.specs.declared.tree.Charset.TheVariants.{Utf8, Utf16}
use Rattle.wef_xml.specs.declared.utf16.ByteOrder.{ByteOrder}
use Rattle.wef_xml.specs.declared.utf16.ByteOrder.TheVariants.{BigEndian, LittleEndian}
use Rattle.wef_xml.specs.Fronts.{strip}

-- What a byte order mark is in UTF-8, in UTF-16 little-endian and in UTF-16 big-endian.
abbrev pub utf8_mark : List ℕ
utf8_mark = 0xEF ∷ 0xBB ∷ 0xBF ∷ []

abbrev pub little_mark : List ℕ
little_mark = 0xFF ∷ 0xFE ∷ []

abbrev pub big_mark : List ℕ
big_mark = 0xFE ∷ 0xFF ∷ []

-- bytes without a front, where they begin so
abbrev pub without_front : List ℕ → Option (List ℕ) → List ℕ
without_front bytes (Some rest) = rest
without_front bytes None = bytes

-- a unit of two bytes
abbrev pub unit : ByteOrder → ℕ → ℕ → ℕ
unit BigEndian first second = first * 256 + second
unit LittleEndian first second = second * 256 + first

-- the first and the second unit of a pair that stands for one character (RFC 2781, 2.1)
abbrev pub is_high : ℕ → Bool
is_high u = is_within 0xD800 0xDBFF u

abbrev pub is_low : ℕ → Bool
is_low u = is_within 0xDC00 0xDFFF u

-- the character of a pair
abbrev pub pair_of : ℕ → ℕ → ℕ
pair_of high low = 0x10000 + (high - 0xD800) * 1024 + (low - 0xDC00)

-- characters that stand before those of what follows, in so many bytes
abbrev pub joined : List ℕ → ℕ → Result (List ℕ) ℕ → Result (List ℕ) ℕ
joined front width (Ok cs) = Ok (front ++ cs)
joined front width (Err at) = Err (width + at)

-- the characters of bytes in UTF-8; or how many bytes stand before the first sequence that is no character
abbrev pub decoded8 : List ℕ → Result (List ℕ) ℕ
decoded8 bytes = if is_utf8 bytes then Ok (chars bytes) else Err (utf8_valid_len bytes)

-- The characters of bytes in UTF-16, where a first unit of a pair may wait for its second; or how many bytes there are,
-- from the unit that waits on, before the first unit that is out of its pair, or before a byte that is left over.
abbrev pub decoded16 : ByteOrder → Option ℕ → List ℕ → Result (List ℕ) ℕ
decoded16 order None [] = Ok []
decoded16 order (Some high) [] = Err 0
decoded16 order waits (a ∷ []) = Err 0
decoded16 order None (a ∷ b ∷ rest) =
    if is_high (unit order a b) then decoded16 order (Some (unit order a b)) rest
    else (if is_low (unit order a b) then Err 0 else joined (unit order a b ∷ []) 2 (decoded16 order None rest))
decoded16 order (Some high) (a ∷ b ∷ rest) =
    if is_low (unit order a b) then joined (pair_of high (unit order a b) ∷ []) 4 (decoded16 order None rest) else Err 0

-- the order of the bytes of a unit, as a mark says it; without one the lesser byte comes first
abbrev pub order_of : List ℕ → ByteOrder
order_of bytes = if is_some (strip big_mark bytes) then BigEndian else LittleEndian

-- bytes without the mark that they begin with
abbrev pub without_mark : Charset → List ℕ → List ℕ
without_mark Utf8 bytes = without_front bytes (strip utf8_mark bytes)
without_mark Utf16 bytes = without_front bytes (option_or (strip big_mark bytes) (strip little_mark bytes))

-- how many bytes the mark has
abbrev pub mark_length : Charset → List ℕ → ℕ
mark_length charset bytes = length bytes - length (without_mark charset bytes)

-- the characters of bytes behind their mark
abbrev pub decoded_behind_mark : Charset → List ℕ → Result (List ℕ) ℕ
decoded_behind_mark Utf8 bytes = decoded8 (without_mark Utf8 bytes)
decoded_behind_mark Utf16 bytes = decoded16 (order_of bytes) None (without_mark Utf16 bytes)

-- the characters of bytes, a byte order mark aside; or the place of the first sequence of bytes that is no character
abbrev pub decoded : Charset → List ℕ → Result (List ℕ) ℕ
decoded charset bytes = joined [] (mark_length charset bytes) (decoded_behind_mark charset bytes)

-- Characters with each CR LF, and each CR alone, as one LF (XML 1.0, 2.11). `after`: a CR came before.
abbrev pub line_ends : Bool → List ℕ → List ℕ
line_ends after [] = []
line_ends after (c ∷ cs) =
    if c == 13 then 10 ∷ line_ends true cs
    else (if c == 10 && after then line_ends false cs else c ∷ line_ends false cs)

-- how many bytes a character has
abbrev pub width : Charset → ℕ → ℕ
width Utf8 c = len_utf8 c
width Utf16 c = if nat_lt c 0x10000 then 2 else 4

-- How many bytes these characters have that give the first so many of the text that has its line ends made one. An LF
-- that falls away belongs to the CR before.
abbrev pub bytes_of_first : Charset → ℕ → Bool → List ℕ → ℕ
bytes_of_first charset n after [] = 0
bytes_of_first charset zero after (c ∷ cs) = if c == 10 && after then width charset c else 0
bytes_of_first charset (suc n) after (c ∷ cs) =
    if c == 10 && after then width charset c + bytes_of_first charset (suc n) false cs
    else width charset c + bytes_of_first charset n (c == 13) cs

-- the place in the bytes behind the first so many characters of the text
abbrev pub place : Charset → List ℕ → List ℕ → ℕ → ℕ
place charset bytes characters n = mark_length charset bytes + bytes_of_first charset n false characters
