-- A text grows with each line.
use Rattle.std.proofs.Common.{◌≡◌, ℕ, ◌+◌, ◌<◌, List, ◌++◌, length, length-append, ap, ◌∙◌, arith}
use Rattle.wef_heartbeat.specs.declared.silence.Status.{Status}
use Rattle.wef_collector_statuses.specs.Statuses.{status_line}

pub some_line : (u s : List ℕ) (status : Status) → 0 < length (status_line u s status)
unfolding status_line
some_line u s status = omega arith

pub grown : (before middle now lines line : List ℕ) → middle ≡ before ++ lines → now ≡ middle ++ line → 0 < length line → length before < length now
grown before middle now lines line first next some =
    let size : length middle ≡ length before + length lines = ap length first ∙ length-append before lines in
    let more : length now ≡ length middle + length line = ap length next ∙ length-append middle line in
    omega (arith, size, more, some)
