-- How places in an event's tree compare with what a query writes out (XPath 1.0, 3.4).
use Rattle.std.specs.Prelude.{ℕ, ◌==◌, Bool, false, not, List, ℤ, pos, negsuc, bit_and, Option, Some, None}
use Rattle.std.specs.Option.{option_and_then, option_map_or}
use Rattle.wef_base.specs.Names.{same, trimmed_characters}
use Rattle.wef_times.specs.Instants.{instant_at}
use Rattle.wef_query_tokens.specs.declared.operator.Operator.{Operator}
use Rattle.wef_query_tokens.specs.declared.operator.Operator.TheVariants.{Equal, NotEqual}
use Rattle.wef_query_paths.specs.declared.path.Literal.{Literal}
use Rattle.wef_query_paths.specs.declared.path.Literal.TheVariants.{Number, Quoted}
use Rattle.wef_query_values.specs.Numbers.{number_of}
use Rattle.wef_query_values.specs.Operators.{both_hold, holds}
use Rattle.wef_query_values.specs.Places.{Place, text_at}

-- the instant that a text is, without the spaces at both ends
unfoldable pub instant_of_text : List ℕ → Option ℤ
instant_of_text text = instant_at (trimmed_characters text)

-- whether a text compares with another one: byte for byte, and in order where both are instants
abbrev pub texts_hold : Operator → List ℕ → List ℕ → Bool
texts_hold Equal text literal = same text literal
texts_hold NotEqual text literal = not (same text literal)
texts_hold operator text literal = both_hold operator (instant_of_text text) (instant_of_text literal)

-- whether a place compares with a literal: with a number where it is one, with a text as texts do
unfoldable pub compares : Operator → Literal → Place → Bool
compares operator (Number n) place = both_hold operator (number_of (text_at place)) (Some (pos n))
compares operator (Quoted literal) place = texts_hold operator (text_at place) literal

-- the bits of a mask in a number that isn't below 0
abbrev pub bits_in : ℕ → ℤ → Option ℕ
bits_in mask (pos n) = Some (bit_and n mask)
bits_in mask (negsuc n) = None

-- the bits of a mask in the number that a place is
abbrev pub masked : ℕ → Place → Option ℕ
masked mask place = option_and_then (bits_in mask) (number_of (text_at place))

-- whether these bits compare with a literal as a number does; with a text they never do
unfoldable pub masked_compares : ℕ → Operator → Literal → Place → Bool
masked_compares mask operator (Number n) place = option_map_or (λ bits. holds operator (pos bits) (pos n)) (masked mask place) false
masked_compares mask operator (Quoted literal) place = false

-- whether a place has a bit of a mask
unfoldable pub has_bits : ℕ → Place → Bool
has_bits mask place = option_map_or (λ bits. not (bits == 0)) (masked mask place) false
