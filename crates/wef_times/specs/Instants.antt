-- Instants in the proleptic Gregorian calendar (XML Schema part 2, 3.2.7, of the years 0001 to 9999).
use Rattle.std.specs.Prelude.{option_map, ℕ, ◌+◌, ◌*◌, nat_le, Bool, ◌&&◌, List, [], take, drop, codes, ℤ, pos, neg_ℤ, ◌+ℤ◌, ◌-ℤ◌, ◌*ℤ◌, Option, Some, None, Result, if◌then◌else◌}
use Rattle.std.specs.Option.{ok_or}
use Rattle.jiff_core.specs.Calendar.{days_from_civil, days_in_month}
use Rattle.wef_base.specs.Names.{trimmed}
use Rattle.wef_base.specs.declared.names.ValueFault.{ValueFault}
use Rattle.wef_base.specs.declared.names.ValueFault.TheVariants.{NotAMoment}
use Rattle.wef_times.specs.Digits.{behind_fraction, fraction_in}
use Rattle.wef_times.specs.Forms.{field, has_form}

-- whether the calendar has a date in the years 1 to 9999
abbrev pub is_date : ℕ → ℕ → ℕ → Bool
is_date year month day =
    nat_le 1 year && nat_le year 9999 && nat_le 1 month && nat_le month 12 && nat_le 1 day && nat_le day (days_in_month (pos year) month)

-- whether a clock shows a time of day
abbrev pub is_time : ℕ → ℕ → ℕ → Bool
is_time hour minute second = nat_le hour 23 && nat_le minute 59 && nat_le second 59

-- seconds since midnight
abbrev pub seconds_of_day : ℕ → ℕ → ℕ → ℕ
seconds_of_day hour minute second = hour * 3600 + minute * 60 + second

-- nanoseconds from the beginning of 1970 to a date and time in UTC, negative before it
abbrev pub nanos_between : ℕ → ℕ → ℕ → ℕ → ℕ → ℕ → ℤ
nanos_between year month day hour minute second =
    days_from_civil (pos year) month day *ℤ pos 86_400_000_000_000
    +ℤ pos (seconds_of_day hour minute second * 1_000_000_000)

-- the same, where the calendar has the date and a clock the time
abbrev pub nanos_to : ℕ → ℕ → ℕ → ℕ → ℕ → ℕ → Option ℤ
nanos_to year month day hour minute second =
    if is_date year month day && is_time hour minute second
    then Some (nanos_between year month day hour minute second) else None

-- the date and time that a text of 19 characters is
abbrev pub date_and_time_in : List ℕ → Option ℤ
date_and_time_in cs =
    if has_form (codes "0000-00-00T00:00:00") cs
    then nanos_to (field 0 4 cs) (field 5 2 cs) (field 8 2 cs) (field 11 2 cs) (field 14 2 cs) (field 17 2 cs) else None

-- the nanoseconds of hours and minutes, less than a day
abbrev pub offset_of : ℕ → ℕ → Option ℕ
offset_of hours minutes =
    if is_time hours minutes 0 then Some (seconds_of_day hours minutes 0 * 1_000_000_000) else None

-- how many nanoseconds the clocks of a zone are ahead of UTC; UTC itself is `Z` or nothing
abbrev pub zone_in : List ℕ → Option ℤ
zone_in cs =
    if has_form [] cs then Some (pos 0)
    else if has_form (codes "Z") cs then Some (pos 0)
    else if has_form (codes "+00:00") cs then option_map (λ n. pos n) (offset_of (field 1 2 cs) (field 4 2 cs))
    else if has_form (codes "-00:00") cs then option_map (λ n. neg_ℤ (pos n)) (offset_of (field 1 2 cs) (field 4 2 cs))
    else None

-- the nanoseconds since the beginning of 1970 in UTC, of a date and time, a fraction and a zone
abbrev pub instant_of : Option ℤ → Option ℕ → Option ℤ → Option ℤ
instant_of (Some begin) (Some nanos) (Some ahead) = Some (begin +ℤ pos nanos -ℤ ahead)
instant_of (Some begin) (Some nanos) None = None
instant_of (Some begin) None ahead = None
instant_of None nanos ahead = None

-- the instant that characters are: a date and a time in 19 of them, perhaps a point and one to nine decimals, and perhaps a zone
unfoldable pub instant_at : List ℕ → Option ℤ
instant_at cs = instant_of (date_and_time_in (take 19 cs)) (fraction_in 9 (drop 19 cs)) (zone_in (behind_fraction (drop 19 cs)))

-- the instant that a text is, trimmed
unfoldable pub instant_in : List ℕ → Result ℤ ValueFault
instant_in text = ok_or (instant_at (trimmed text)) NotAMoment
