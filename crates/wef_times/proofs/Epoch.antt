-- Dates and times on jiff's clock.
use Rattle.std.proofs.Common.{◌≡◌, ℕ, ◌+◌, ◌*◌, ◌≤◌, ◌&&◌, true, ℤ, pos, ◌+ℤ◌, ◌-ℤ◌, ◌*ℤ◌, ap, sym, ◌∙◌, arith}
use Rattle.std.specs.Prelude.{Some, None, unsigned_abs}
use Rattle.std.proofs.lemmas.Bool.{cond-true}
use Rattle.std.proofs.lemmas.Bool.Decides.{nat_tests}
use Rattle.jiff_core.specs.declared.civil.datetime.DateTime.{DateTime}
use Rattle.jiff_core.specs.Calendar.{IsDate, days_from_civil}
use Rattle.jiff_core.specs.Date.{IsYmd, epoch_day}
use Rattle.jiff_core.specs.DateTime.{civil_nanos}
use Rattle.jiff_core.specs.Time.{IsHms, IsTime, time_nanos}
use Rattle.jiff_core.proofs.StandardFacts.{known_days}
use Rattle.wef_times.specs.Instants.{is_date, is_time, nanos_between, nanos_to, seconds_of_day}

-- the beginning of 1970 is where its days are counted from
pub epoch_nanos : (dt : DateTime) → IsYmd (pos 1970) (pos 1) (pos 1) dt.date → IsHms (pos 0) (pos 0) (pos 0) (pos 0) dt.time → civil_nanos dt ≡ pos 0
unfolding civil_nanos
epoch_nanos dt date time =
    let day : epoch_day dt.date ≡ pos 0 = (λ i. days_from_civil (date.0 i) (unsigned_abs (date.1 i)) (unsigned_abs (date.2 i))) ∙ known_days.0 in
    let clock : time_nanos dt.time ≡ 0 = λ i. (unsigned_abs (time.0 i) * 3600 + unsigned_abs (time.1 i) * 60 + unsigned_abs (time.2 i)) * 1_000_000_000 + unsigned_abs (time.3 i) in
    λ i. day i *ℤ pos 86_400_000_000_000 +ℤ pos (clock i)

-- so the time since then is the clock's own count
pub from_epoch : (nanos since a b : ℤ) → nanos ≡ since → since ≡ a -ℤ b → b ≡ pos 0 → nanos ≡ a
from_epoch nanos since a b e f zero = grind arith

fits_clock : (y m d h mi s : ℕ) → 1 ≤ y → IsDate (pos y) (pos m) (pos d) → IsTime (pos h) (pos mi) (pos s) (pos 0) → (is_date y m d && is_time h mi s) ≡ true
fits_clock y m d h mi s from date time = grind (arith, nat_tests)

-- what a date and a time of the years from 1 on count
pub to_civil : (y m d h mi s : ℕ) (dt : DateTime) → 1 ≤ y → IsDate (pos y) (pos m) (pos d) × IsTime (pos h) (pos mi) (pos s) (pos 0) →
    IsYmd (pos y) (pos m) (pos d) dt.date × IsHms (pos h) (pos mi) (pos s) (pos 0) dt.time → Some (civil_nanos dt) ≡ nanos_to y m d h mi s
unfolding civil_nanos
to_civil y m d h mi s dt from is given =
    let date = given.0 in
    let time = given.1 in
    let day : epoch_day dt.date ≡ days_from_civil (pos y) m d = λ i. days_from_civil (date.0 i) (unsigned_abs (date.1 i)) (unsigned_abs (date.2 i)) in
    let clock : time_nanos dt.time ≡ seconds_of_day h mi s * 1_000_000_000 =
    (λ i. (unsigned_abs (time.0 i) * 3600 + unsigned_abs (time.1 i) * 60 + unsigned_abs (time.2 i)) * 1_000_000_000 + unsigned_abs (time.3 i)) ∙ omega arith in
    let count : civil_nanos dt ≡ nanos_between y m d h mi s = λ i. day i *ℤ pos 86_400_000_000_000 +ℤ pos (clock i) in
    ap Some count ∙ sym (cond-true (is_date y m d && is_time h mi s) (Some (nanos_between y m d h mi s)) None (fits_clock y m d h mi s from is.0 is.1))
