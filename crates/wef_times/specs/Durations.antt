-- Durations of days, hours, minutes and seconds (XML Schema part 2, 3.2.6, without years, months and a sign).
use Rattle.std.specs.Prelude.{min, ℕ, ◌+◌, ◌*◌, ◌/◌, ◌%◌, ◌==◌, nat_le, Bool, ◌&&◌, List, [], ◌∷◌, ◌++◌, length, drop, codes, Option, Some, None, Result, if◌then◌else◌}
use Rattle.std.specs.declared.result.Result.TheVariants.{Ok, Err}
use Rattle.std.specs.Fmt.{decimal}
use Rattle.std.specs.Option.{option_map}
use Rattle.wef_base.specs.Names.{trimmed}
use Rattle.wef_base.specs.declared.names.ValueFault.{ValueFault}
use Rattle.wef_base.specs.declared.names.ValueFault.TheVariants.{NotADuration, TooLarge}
use Rattle.wef_times.specs.Digits.{begins_with, behind_digits, behind_fraction, fraction_in, has_digit, leading_number}
pub use Rattle.wef_times.specs.declared.durations.TheConstants.{LIMIT}

-- whether a text begins with digits and the letter of their unit
abbrev pub has_part : ℕ → List ℕ → Bool
has_part unit cs = has_digit cs && begins_with unit (behind_digits cs)

-- how many of the unit that is; none where the text doesn't begin so
abbrev pub part_in : ℕ → List ℕ → ℕ
part_in unit cs = if has_part unit cs then leading_number cs else 0

-- what stands behind such a part
abbrev pub behind_part : ℕ → List ℕ → List ℕ
behind_part unit cs = if has_part unit cs then drop 1 (behind_digits cs) else cs

-- whether the letter S (83) is all
abbrev pub is_seconds_sign : List ℕ → Bool
is_seconds_sign cs = begins_with 83 cs && (length cs == 1)

-- the milliseconds of seconds that end a text: nothing, or digits, perhaps a point and one to three decimals, and S
abbrev pub seconds_in : List ℕ → Option ℕ
seconds_in [] = Some 0
seconds_in (c ∷ cs) =
    if has_digit (c ∷ cs) && is_seconds_sign (behind_fraction (behind_digits (c ∷ cs)))
    then option_map (λ thousandths. leading_number (c ∷ cs) * 1000 + thousandths) (fraction_in 3 (behind_digits (c ∷ cs)))
    else None

-- the milliseconds of minutes (M, 77) and seconds
abbrev pub minutes_in : List ℕ → Option ℕ
minutes_in cs = option_map (λ ms. part_in 77 cs * 60_000 + ms) (seconds_in (behind_part 77 cs))

-- the milliseconds of hours (H, 72), minutes and seconds, at least one of them
abbrev pub hours_in : List ℕ → Option ℕ
hours_in [] = None
hours_in (c ∷ cs) = option_map (λ ms. part_in 72 (c ∷ cs) * 3_600_000 + ms) (minutes_in (behind_part 72 (c ∷ cs)))

-- the milliseconds of a time of day behind the letter T (84), or of none
abbrev pub time_in : List ℕ → Option ℕ
time_in [] = Some 0
time_in (c ∷ cs) = if c == 84 then hours_in cs else None

-- the milliseconds of days (D, 68) and a time, at least one of them
abbrev pub days_in : List ℕ → Option ℕ
days_in [] = None
days_in (c ∷ cs) = option_map (λ ms. part_in 68 (c ∷ cs) * 86_400_000 + ms) (time_in (behind_part 68 (c ∷ cs)))

-- the milliseconds of a duration, however many: the letter P (80), and days and a time
abbrev pub milliseconds_in : List ℕ → Option ℕ
milliseconds_in [] = None
milliseconds_in (c ∷ cs) = if c == 80 then days_in cs else None

-- so many milliseconds, or one more than the limit where there are more
abbrev pub capped : ℕ → ℕ
capped ms = min ms (LIMIT + 1)

-- so many milliseconds, where they are at most the limit
abbrev pub within_limit : Option ℕ → Result ℕ ValueFault
within_limit None = Err NotADuration
within_limit (Some ms) = if nat_le ms LIMIT then Ok ms else Err TooLarge

-- the milliseconds of the duration that a text is, trimmed
unfoldable pub duration_in : List ℕ → Result ℕ ValueFault
duration_in text = within_limit (milliseconds_in (trimmed text))

-- a number below 1,000 in three digits (48 is the digit 0)
abbrev pub three_digits : ℕ → List ℕ
three_digits n = (48 + n / 100) ∷ (48 + n / 10 % 10) ∷ (48 + n % 10) ∷ []

-- so many milliseconds as a duration: seconds with three decimals
unfoldable pub duration_text : ℕ → List ℕ
duration_text ms = codes "PT" ++ decimal (ms / 1000) ++ codes "." ++ three_digits (ms % 1000) ++ codes "S"
