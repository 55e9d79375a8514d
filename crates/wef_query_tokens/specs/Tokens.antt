-- The tokens of a query's path, over the characters of its text (XPath 1.0, 3.7). XML's spaces may stand around them.
use Rattle.std.specs.Prelude.{ℕ, zero, suc, ◌+◌, ◌-◌, ◌*◌, ◌==◌, nat_le, Bool, ◌||◌, List, [], ◌∷◌, ◌++◌, length, codes, encode_utf8, Option, Some, None, if◌then◌else◌}
use Rattle.std.specs.Option.{option_map, option_and_then}
use Rattle.wef_base.specs.Characters.{is_within}
use Rattle.wef_base.specs.Names.{same, without_start}
use Rattle.wef_query_tokens.specs.declared.axis.Axis.TheVariants.{Child, Attribute}
use Rattle.wef_query_tokens.specs.declared.operator.Operator.{Operator}
use Rattle.wef_query_tokens.specs.declared.operator.Operator.TheVariants.{Equal, NotEqual, Less, LessOrEqual, Greater, GreaterOrEqual}
use Rattle.wef_query_tokens.specs.declared.tokens.Token.{Token}
use Rattle.wef_query_tokens.specs.declared.tokens.Token.TheVariants.{Along, Star, Word, Joint, PositionCall, BandCall, Compare, Figure, Quote, OpenSquare, CloseSquare, OpenRound, CloseRound, Slash, Comma}

-- ---- names

-- a character that a name begins with: a letter of ASCII, `_`, or any past ASCII
abbrev pub is_name_start : ℕ → Bool
is_name_start c = is_within 65 90 c || is_within 97 122 c || c == 95 || nat_le 128 c

-- a character that a name goes on with: also a digit, `-` and `.`
abbrev pub is_name_char : ℕ → Bool
is_name_char c = is_name_start c || is_within 48 57 c || c == 45 || c == 46

-- what was read with something before it
abbrev pub with_front : List ℕ → List ℕ × List ℕ → List ℕ × List ℕ
with_front front read = (front ++ read.0, read.1)

-- the characters of a name that a text begins with, in UTF-8, and what is left
abbrev pub name_tail : List ℕ → List ℕ × List ℕ
name_tail [] = ([], [])
name_tail (c ∷ cs) = if is_name_char c then with_front (encode_utf8 c) (name_tail cs) else ([], c ∷ cs)

-- ---- what a name is, by what follows it

-- an axis, where the rest of `::` follows a name and `:`
abbrev pub axis_named : List ℕ → List ℕ → Option (Token × List ℕ)
axis_named name rest = if same name (codes "child") then Some (Along Child, rest) else (if same name (codes "attribute") then Some (Along Attribute, rest) else None)

abbrev pub axis_at : List ℕ → List ℕ → Option (Token × List ℕ)
axis_at name [] = None
axis_at name (c ∷ cs) = if c == 58 then axis_named name cs else None

-- whether a name may be an operator between conditions
abbrev pub is_joint : List ℕ → Bool
is_joint name = same name (codes "and") || same name (codes "or")

-- what a name before `(` is: one of the two functions, or an operator
abbrev pub call_named : List ℕ → Option Token
call_named name =
    if same name (codes "position") then Some PositionCall
    else (if same name (codes "band") then Some BandCall
    else (if is_joint name then Some (Joint name) else None))

-- what a name before `:` is: an operator, or an axis with the colon and what is behind it
abbrev pub before_colon : List ℕ → List ℕ → List ℕ → Option (Token × List ℕ)
before_colon name rest cs = if is_joint name then Some (Joint name, rest) else axis_at name cs

-- what a name is, before its first character that is no space
abbrev pub named : List ℕ → List ℕ → List ℕ → Option (Token × List ℕ)
named name rest [] = Some (Word name, rest)
named name rest (c ∷ cs) =
    if c == 58 then before_colon name rest cs
    else (if c == 40 then option_map (λ token. (token, rest)) (call_named name) else Some (Word name, rest))

-- what a text is that begins with a name
abbrev pub word_at : ℕ → List ℕ → Option (Token × List ℕ)
word_at c cs = named (encode_utf8 c ++ (name_tail cs).0) (name_tail cs).1 (without_start (name_tail cs).1)

-- ---- numbers

-- the greatest number
abbrev pub greatest : ℕ
greatest = 18446744073709551615

-- what a character counts as a digit of a decimal number
abbrev pub decimal_digit : ℕ → Option ℕ
decimal_digit c = if is_within 48 57 c then Some (c - 48) else None

-- what a character counts as a digit of a hexadecimal number
abbrev pub hexadecimal : ℕ → Option ℕ
hexadecimal c = if is_within 48 57 c then Some (c - 48) else (if is_within 65 70 c then Some (c - 55) else (if is_within 97 102 c then Some (c - 87) else None))

-- a number and one more digit, where that is not too large
abbrev pub one_more : ℕ → ℕ → ℕ → Option ℕ
one_more base number digit = if nat_le (number * base + digit) greatest then Some (number * base + digit) else None

-- behind a decimal number stands no point
abbrev pub whole : ℕ → List ℕ → Option (Token × List ℕ)
whole number [] = Some (Figure number, [])
whole number (c ∷ cs) = if c == 46 then None else Some (Figure number, c ∷ cs)

-- a decimal number whose first digits were read
abbrev pub decimal_tail : ℕ → List ℕ → Option (Token × List ℕ)
decimal_tail number [] = Some (Figure number, [])
decimal_tail number (c ∷ cs) = elim (decimal_digit c) as (λ _. Option (Token × List ℕ)) [ None ↦ whole number (c ∷ cs) | Some d ↦ option_and_then (λ more. decimal_tail more cs) (one_more 10 number d) ]

-- a hexadecimal number whose first digits were read
abbrev pub hexadecimal_tail : ℕ → List ℕ → Option (Token × List ℕ)
hexadecimal_tail number [] = Some (Figure number, [])
hexadecimal_tail number (c ∷ cs) = elim (hexadecimal c) as (λ _. Option (Token × List ℕ)) [ None ↦ Some (Figure number, c ∷ cs) | Some d ↦ option_and_then (λ more. hexadecimal_tail more cs) (one_more 16 number d) ]

-- a number that begins with the digit 0: `0x` and a hexadecimal digit begin a hexadecimal one
abbrev pub behind_zero : List ℕ → Option (Token × List ℕ)
behind_zero [] = Some (Figure 0, [])
behind_zero (c ∷ []) = decimal_tail 0 (c ∷ [])
behind_zero (c ∷ d ∷ ds) = if c == 120 then elim (hexadecimal d) as (λ _. Option (Token × List ℕ)) [ None ↦ Some (Figure 0, c ∷ d ∷ ds) | Some first ↦ hexadecimal_tail first ds ] else decimal_tail 0 (c ∷ d ∷ ds)

abbrev pub number_from : ℕ → List ℕ → Option (Token × List ℕ)
number_from digit rest = if digit == 0 then behind_zero rest else decimal_tail digit rest

-- ---- texts

-- the characters before the next such quote, in UTF-8, and what is behind it
abbrev pub quoted_tail : ℕ → List ℕ → Option (List ℕ × List ℕ)
quoted_tail quote [] = None
quoted_tail quote (c ∷ cs) = if c == quote then Some ([], cs) else option_map (with_front (encode_utf8 c)) (quoted_tail quote cs)

abbrev pub quoted : ℕ → List ℕ → Option (Token × List ℕ)
quoted quote text = option_map (λ read. (Quote read.0, read.1)) (quoted_tail quote text)

-- ---- signs

-- a sign of one character
abbrev pub mark : ℕ → Option Token
mark c =
    if c == 42 then Some Star
    else (if c == 64 then Some (Along Attribute)
    else (if c == 91 then Some OpenSquare
    else (if c == 93 then Some CloseSquare
    else (if c == 40 then Some OpenRound
    else (if c == 41 then Some CloseRound
    else (if c == 44 then Some Comma
    else (if c == 61 then Some (Compare Equal) else None)))))))

-- one operator where `=` follows, else another
abbrev pub if_equals : Operator → Operator → List ℕ → Token × List ℕ
if_equals with_equals without [] = (Compare without, [])
if_equals with_equals without (c ∷ cs) = if c == 61 then (Compare with_equals, cs) else (Compare without, c ∷ cs)

-- `!=`, behind its first character
abbrev pub unequal : List ℕ → Option (Token × List ℕ)
unequal [] = None
unequal (c ∷ cs) = if c == 61 then Some (Compare NotEqual, cs) else None

-- `/`, behind it: `//` is no token
abbrev pub slash_at : List ℕ → Option (Token × List ℕ)
slash_at [] = Some (Slash, [])
slash_at (c ∷ cs) = if c == 47 then None else Some (Slash, c ∷ cs)

abbrev pub sign_at : ℕ → List ℕ → Option (Token × List ℕ)
sign_at c cs =
    if c == 60 then Some (if_equals LessOrEqual Less cs)
    else (if c == 62 then Some (if_equals GreaterOrEqual Greater cs)
    else (if c == 33 then unequal cs
    else (if c == 47 then slash_at cs else option_map (λ token. (token, cs)) (mark c))))

-- ---- all of them

-- what a text is that begins with no name and no number
abbrev pub other_at : ℕ → List ℕ → Option (Token × List ℕ)
other_at c cs = if c == 34 || c == 39 then quoted c cs else sign_at c cs

-- the token that a text begins with, and what is left
unfoldable pub token_from : ℕ → List ℕ → Option (Token × List ℕ)
token_from c cs =
    if is_name_start c then word_at c cs
    else elim (decimal_digit c) as (λ _. Option (Token × List ℕ)) [ None ↦ other_at c cs | Some d ↦ number_from d cs ]

abbrev pub token_at : List ℕ → Option (Token × List ℕ)
token_at [] = None
token_at (c ∷ cs) = token_from c cs

-- a token before others
abbrev pub before : Token → Option (List Token) → Option (List Token)
before token more = option_map (λ tokens. token ∷ tokens) more

-- the tokens of a text that begins with no space, where they are at most so many
abbrev pub tokens_within : ℕ → List ℕ → Option (List Token)
tokens_within n [] = Some []
tokens_within zero (c ∷ cs) = None
tokens_within (suc n) (c ∷ cs) = option_and_then (λ read. before read.0 (tokens_within n (without_start read.1))) (token_at (c ∷ cs))

-- the same; each token has a character or more
unfoldable pub tokens_in : List ℕ → Option (List Token)
tokens_in text = tokens_within (length text) text

-- the tokens of a text
abbrev pub tokens_of : List ℕ → Option (List Token)
tokens_of characters = tokens_in (without_start characters)
