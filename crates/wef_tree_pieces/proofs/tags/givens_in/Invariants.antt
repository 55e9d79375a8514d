use Rattle.std.proofs.Common.{◌≡◌, ◌-◌, length}
use Rattle.std.specs.Option.{option_map}
use Rattle.wef_tree_pieces.specs.Tags.{givens_in, with_attributes}
use Rattle.wef_tree_pieces.proofs.tags.givens_in.Given as goal

abbrev pub invariant-loop-turn : goal.invariant-loop-turn
invariant-loop-turn l =
    option_map (with_attributes l.given) (givens_in (length l.text - l._turn) l.rest) ≡ givens_in (length l.text) l.text
