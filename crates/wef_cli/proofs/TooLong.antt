-- A schedule of more bytes than are read is too long.
use Rattle.std.proofs.Common.{◌≡◌, ℕ, ◌<◌, List, length, true, nat_lt, arith}
use Rattle.std.proofs.lemmas.Bool.Decides.{nat_tests}
use Rattle.std.specs.Prelude.{Option, None, Some, IfSome}
use Rattle.std.proofs.Common.{refl}
use Rattle.wef_replay.specs.Schedule.{schedule_of}
use Rattle.wef_commands.specs.Streams.{input_limit}
use Rattle.wef_cli.specs.Replaying.{IsTooLong}

past : (limit size : ℕ) → limit < size → nat_lt limit size ≡ true
past limit size h = grind (arith, nat_tests)

too_long : (bytes : List ℕ) → input_limit < length bytes → IsTooLong bytes
unfolding schedule_of
too_long bytes h = let test = past 16777216 (length bytes) h in rw test refl

pub too_long_told : (left : Option (List ℕ)) → IfSome left (λ bytes. input_limit < length bytes) → IfSome left IsTooLong
too_long_told None h = tt
too_long_told (Some bytes) h = too_long bytes h
