use Rattle.std.proofs.Common.{◌≡◌, length, min}
use Rattle.std.specs.List.{flat_map}
use Rattle.wef_batch.specs.Cost.{most, quoted_character}
use Rattle.wef_batch.proofs.costing.quoted_len.Given as goal

abbrev pub invariant-loop-character : goal.invariant-loop-character
invariant-loop-character l = l.len ≡ min (length (flat_map quoted_character l.yielded)) most
