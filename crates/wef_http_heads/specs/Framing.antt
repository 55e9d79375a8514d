-- How a head says where its body ends (RFC 9112, 6).
use Rattle.std.specs.Prelude.{ℕ, List, [], ◌∷◌, codes, Option, Some, None, if◌then◌else◌}
use Rattle.wef_base.specs.Numbers.{is_numeral, number_within}
use Rattle.wef_http_heads.specs.Fields.{NamedValue, is_alike, values_of}
use Rattle.wef_http_heads.specs.declared.framing.Declared.{Declared}
use Rattle.wef_http_heads.specs.declared.framing.Declared.TheVariants.{Nothing, Length, TooLong, Chunked}
use Rattle.wef_http_heads.specs.declared.heads.TheConstants.{BODY_LIMIT}

-- a length that is within the limit, or not
abbrev pub length_or_more : Option ℕ → Declared
length_or_more (Some n) = Length n
length_or_more None = TooLong

-- what a Content-Length says: one digit or more, however many
abbrev pub length_said : List ℕ → Option Declared
length_said value = if is_numeral value then Some (length_or_more (number_within BODY_LIMIT value)) else None

-- what a Transfer-Encoding says: chunks are the only coding
abbrev pub coding_said : List ℕ → Option Declared
coding_said value = if is_alike value (codes "chunked") then Some Chunked else None

-- what the values of Content-Length and of Transfer-Encoding say: there is at most one in all
abbrev pub declared_by : List (List ℕ) → List (List ℕ) → Option Declared
declared_by [] [] = Some Nothing
declared_by (value ∷ []) [] = length_said value
declared_by [] (value ∷ []) = coding_said value
declared_by _ _ = None

-- What the fields say of the body; nothing where they contradict each other.
unfoldable pub declared_in : List NamedValue → Option Declared
declared_in fields = declared_by (values_of (codes "Content-Length") fields) (values_of (codes "Transfer-Encoding") fields)
