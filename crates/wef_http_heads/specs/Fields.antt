-- The fields of a head (RFC 9110, 5): their names are in letters of either case, and each has a value without the white space around it.
use Rattle.std.specs.Prelude.{ℕ, nat_le, nat_lt, Bool, ◌&&◌, List, [], ◌∷◌, length, reverse, codes, Option, Some, None, if◌then◌else◌}
use Rattle.std.specs.List.{list_all, list_any}
use Rattle.std.specs.Str.{str_eq_ignore_ascii_case}
use Rattle.httparse.specs.Grammar.{skip_ows, trim_ows}
use Rattle.wef_base.specs.Words.{parts}

-- a name and a value
abbrev pub NamedValue : Type 0
NamedValue = List ℕ × List ℕ

-- bytes without the white space at their end
abbrev pub without_space : List ℕ → List ℕ
without_space bytes = reverse (skip_ows (reverse bytes))

-- the same word, in letters of either case
abbrev pub is_alike : List ℕ → List ℕ → Bool
is_alike = str_eq_ignore_ascii_case

-- the values of the fields of a name, in their order
abbrev pub values_of : List ℕ → List NamedValue → List (List ℕ)
values_of name [] = []
values_of name (f ∷ fs) = if is_alike f.0 name then f.1 ∷ values_of name fs else values_of name fs

-- a visible character of ASCII
abbrev pub is_visible : ℕ → Bool
is_visible b = nat_le 33 b && nat_le b 126

-- a host: one visible character or more
abbrev pub is_host : List ℕ → Bool
is_host value = nat_lt 0 (length value) && list_all is_visible value

-- the host, where one field alone says one
abbrev pub the_host : List (List ℕ) → Option (List ℕ)
the_host [] = None
the_host (value ∷ []) = if is_host value then Some value else None
the_host (value ∷ other ∷ values) = None

unfoldable pub host_in : List NamedValue → Option (List ℕ)
host_in fields = the_host (values_of (codes "Host") fields)

-- the word `close`, with white space around it or not
abbrev pub is_close : List ℕ → Bool
is_close word = is_alike (trim_ows word) (codes "close")

-- whether a list of words that commas part (RFC 9110, 5.6.1) has the word `close`
abbrev pub says_close : List ℕ → Bool
says_close value = list_any is_close (parts 44 value)

-- whether the connection ends behind this message: a word of Connection is `close` (RFC 9112, 9.3)
unfoldable pub closes : List NamedValue → Bool
closes fields = list_any says_close (values_of (codes "Connection") fields)
