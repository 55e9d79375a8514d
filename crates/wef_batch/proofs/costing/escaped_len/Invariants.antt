use Rattle.std.proofs.Common.{◌≡◌, length, min}
use Rattle.std.specs.List.{flat_map}
use Rattle.wef_event.specs.Characters.{escape}
use Rattle.wef_batch.specs.Cost.{most}
use Rattle.wef_batch.proofs.costing.escaped_len.Given as goal

abbrev pub invariant-loop-character : goal.invariant-loop-character
invariant-loop-character l = l.len ≡ min (length (flat_map escape l.yielded)) most
