-- How values compare with each other (XPath 1.0, 3.4).
use Rattle.std.specs.Prelude.{Bool, false, not, ℤ, int_lt, int_le, Option, Some, None}
use Rattle.std.specs.Ordering.{int_eq}
use Rattle.wef_query_tokens.specs.declared.operator.Operator.{Operator}
use Rattle.wef_query_tokens.specs.declared.operator.Operator.TheVariants.{Equal, NotEqual, Less, LessOrEqual, Greater, GreaterOrEqual}

-- whether one number is to another as an operator says
abbrev pub holds : Operator → ℤ → ℤ → Bool
holds Equal x y = int_eq x y
holds NotEqual x y = not (int_eq x y)
holds Less x y = int_lt x y
holds LessOrEqual x y = int_le x y
holds Greater x y = int_lt y x
holds GreaterOrEqual x y = int_le y x

-- the same where both are there
abbrev pub both_hold : Operator → Option ℤ → Option ℤ → Bool
both_hold operator (Some x) (Some y) = holds operator x y
both_hold operator (Some x) None = false
both_hold operator None y = false

-- the operator that holds with its sides exchanged
abbrev pub mirrored : Operator → Operator
mirrored Equal = Equal
mirrored NotEqual = NotEqual
mirrored Less = Greater
mirrored LessOrEqual = GreaterOrEqual
mirrored Greater = Less
mirrored GreaterOrEqual = LessOrEqual
