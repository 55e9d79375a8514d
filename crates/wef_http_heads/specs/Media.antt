-- The media type of a body (RFC 9110, 8.3 and 8.4): an envelope, in one of two charsets, not coded.
use Rattle.std.specs.Prelude.{ℕ, ◌==◌, Bool, false, ◌||◌, List, [], ◌∷◌, take, drop, codes, Option, Some, None, if◌then◌else◌}
use Rattle.std.specs.List.{list_all, onto_first}
use Rattle.std.specs.Option.{option_and_then, option_map}
use Rattle.httparse.specs.Grammar.{trim_ows}
use Rattle.wef_base.specs.declared.tree.Charset.{Charset}
use Rattle.wef_base.specs.declared.tree.Charset.TheVariants.{Utf8, Utf16}
use Rattle.wef_http_heads.specs.declared.media.Quoting.{Quoting}
use Rattle.wef_http_heads.specs.declared.media.Quoting.TheVariants.{Outside, Inside, Escaped}
use Rattle.wef_http_heads.specs.Fields.{NamedValue, is_alike, values_of}

-- whether a byte is in quotes where this one was read: a quote begins and ends them, and behind a backslash inside of them it doesn't
abbrev pub quoting_behind : Quoting → ℕ → Quoting
quoting_behind Outside b = if b == 34 then Inside else Outside
quoting_behind Inside b = if b == 34 then Outside else if b == 92 then Escaped else Inside
quoting_behind Escaped b = Inside

-- a semicolon outside quotes
abbrev pub separates : Quoting → ℕ → Bool
separates Outside b = b == 59
separates Inside b = false
separates Escaped b = false

-- the parts of a value around each semicolon outside quotes
abbrev pub parts_from : Quoting → List ℕ → List (List ℕ)
parts_from quoting [] = [] ∷ []
parts_from quoting (b ∷ bytes) =
    if separates quoting b then [] ∷ parts_from quoting bytes else onto_first b (parts_from (quoting_behind quoting b) bytes)

-- the name of UTF-8, quoted or not
abbrev pub means_utf8 : List ℕ → Bool
means_utf8 name = is_alike name (codes "utf-8") || is_alike name (codes "\"utf-8\"")

-- the name of UTF-16, quoted or not
abbrev pub means_utf16 : List ℕ → Bool
means_utf16 name = is_alike name (codes "utf-16") || is_alike name (codes "\"utf-16\"")

-- the charset of this name
abbrev pub charset_named : List ℕ → Option Charset
charset_named name = if means_utf8 name then Some Utf8 else if means_utf16 name then Some Utf16 else None

-- the name of a charset, where a parameter says one
abbrev pub charset_in : List ℕ → Option (List ℕ)
charset_in parameter = if is_alike (take 8 parameter) (codes "charset=") then Some (drop 8 parameter) else None

-- the charset of this name, or else what the further parameters say
abbrev pub charset_or : Option (Option Charset) → Option (List ℕ) → Option (Option Charset)
charset_or further (Some name) = option_map (λ charset. Some charset) (charset_named name)
charset_or further None = further

-- the charset that parameters say, the first one's; there may be none, and it may be another than the two
abbrev pub charset_among : List (List ℕ) → Option (Option Charset)
charset_among [] = Some None
charset_among (p ∷ ps) = charset_or (charset_among ps) (charset_in (trim_ows p))

-- the type of envelopes
abbrev pub is_envelope : List ℕ → Bool
is_envelope kind = is_alike (trim_ows kind) (codes "application/soap+xml")

-- of the parts of a media type, the type and then its parameters
abbrev pub charset_of_parts : List (List ℕ) → Option (Option Charset)
charset_of_parts [] = None
charset_of_parts (p ∷ ps) = if is_envelope p then charset_among ps else None

-- the charset that a media type says, which must be that of envelopes
abbrev pub charset_said : List ℕ → Option (Option Charset)
charset_said value = charset_of_parts (parts_from Outside value)

-- the first of two that is there
abbrev pub or_else : Option Charset → Option Charset → Option Charset
or_else (Some charset) other = Some charset
or_else None other = other

-- the first charset that media types say, each of which must be good
abbrev pub first_charset : List (List ℕ) → Option (Option Charset)
first_charset [] = Some None
first_charset (value ∷ values) =
    option_and_then (λ charset. option_map (λ other. or_else charset other) (first_charset values)) (charset_said value)

-- UTF-8 where no charset is said
abbrev pub or_utf8 : Option Charset → Charset
or_utf8 (Some charset) = charset
or_utf8 None = Utf8

-- a coding that changes nothing
abbrev pub is_identity : List ℕ → Bool
is_identity value = is_alike value (codes "identity")

-- whether no coding changes the body: each value of Content-Encoding is `identity`
unfoldable pub is_uncoded : List NamedValue → Bool
is_uncoded fields = list_all is_identity (values_of (codes "Content-Encoding") fields)

-- the charset of a body whose media type must be said
abbrev pub charset_by : List (List ℕ) → Option Charset
charset_by [] = None
charset_by (value ∷ values) = option_map or_utf8 (first_charset (value ∷ values))

-- the charset of a request's body
unfoldable pub request_charset : List NamedValue → Option Charset
request_charset fields = if is_uncoded fields then charset_by (values_of (codes "Content-Type") fields) else None

-- the charset of a response's body, whose media type may be left out
unfoldable pub response_charset : List NamedValue → Option Charset
response_charset fields = if is_uncoded fields then option_map or_utf8 (first_charset (values_of (codes "Content-Type") fields)) else None
