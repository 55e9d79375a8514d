-- Which writes stand.
use Rattle.std.specs.Prelude.{ℕ, Bool, true, false}
use Rattle.wef_building.specs.declared.faults.SourceFault.{SourceFault}
use Rattle.wef_places.specs.declared.places.Called.{Called}
use Rattle.wef_places.specs.declared.places.Called.TheVariants.{Done, Broken, Refused}

-- whether a write's record stands, by whether the changes of its commit are kept
abbrev pub is_recorded : Called ℕ SourceFault → Bool → Bool
is_recorded (Done n) kept = true
is_recorded (Broken how) kept = kept
is_recorded (Refused fault) kept = false
