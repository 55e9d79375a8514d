use Rattle.std.proofs.Common.{◌≡◌, length}
use Rattle.wef_times.specs.Forms.{has_form}
use Rattle.wef_times.proofs.forms.has_each.Given as goal

abbrev pub invariant-loop-place : goal.invariant-loop-place
invariant-loop-place l = has_form l.places l.rest ≡ has_form l.form l.text

abbrev pub decreases-loop-place : goal.decreases-loop-place
decreases-loop-place l = length l.places
