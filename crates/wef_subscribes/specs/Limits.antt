-- The limits of a delivery. A limit that is out of bounds is brought to the nearest bound.
use Rattle.std.specs.Prelude.{ℕ, max, min, List, Option, Some, None, Result, if◌then◌else◌}
use Rattle.std.specs.declared.result.Result.TheVariants.{Ok, Err}
use Rattle.wef_base.specs.Numbers.{is_numeral, value_from}
use Rattle.wef_base.specs.declared.names.ValueFault.{ValueFault}
use Rattle.wef_base.specs.declared.names.ValueFault.TheVariants.{TooLarge}
use Rattle.wef_base.specs.declared.tree.Element.{Element}
use Rattle.wef_elements.specs.Texts.{said_in, text_inside}
use Rattle.wef_times.specs.Durations.{duration_in}
use Rattle.wef_subscribes.specs.Steps.{needed}
use Rattle.wef_subscribes.specs.declared.faults.BodyFault.{BodyFault}
use Rattle.wef_subscribes.specs.declared.faults.BodyFault.TheVariants.{BadBody}
use Rattle.wef_subscribes.specs.declared.faults.Part.{Part}
use Rattle.wef_subscribes.specs.declared.faults.Part.TheVariants as the

-- the nearest number from the least to the greatest
abbrev pub nearest : ℕ → ℕ → ℕ → ℕ
nearest least greatest n = max least (min n greatest)

-- the nearest to the number that digits write
abbrev pub number_near : ℕ → ℕ → List ℕ → Option ℕ
number_near least greatest digits = if is_numeral digits then Some (nearest least greatest (value_from 0 digits)) else None

-- a count of elements or bytes: what is usual where it isn't there
abbrev pub count_in : Part → ℕ → ℕ → ℕ → Option Element → Result ℕ BodyFault
count_in part usual least greatest None = Ok usual
count_in part usual least greatest (Some e) = needed (BadBody part) (number_near least greatest (said_in e))

-- the nearest to a duration that was read; one that is too large counts as the greatest
abbrev pub duration_near : ℕ → ℕ → Result ℕ ValueFault → Option ℕ
duration_near least greatest (Ok ms) = Some (nearest least greatest ms)
duration_near least greatest (Err TooLarge) = Some greatest
duration_near least greatest (Err fault) = None

-- how long a source may be silent, in milliseconds; 15 minutes where it isn't said
abbrev pub heartbeats_in : Option Element → Result ℕ BodyFault
heartbeats_in None = Ok 900_000
heartbeats_in (Some e) = needed (BadBody the.Heartbeats) (duration_near 1 86_400_000 (duration_in (text_inside e)))
