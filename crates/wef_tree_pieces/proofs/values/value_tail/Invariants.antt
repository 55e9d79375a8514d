use Rattle.std.proofs.Common.{◌≡◌, ◌-◌, length}
use Rattle.std.specs.Option.{option_map}
use Rattle.wef_tree_pieces.specs.Names.{with_front}
use Rattle.wef_tree_pieces.specs.Tags.{value_in}
use Rattle.wef_tree_pieces.proofs.values.value_tail.Given as goal

abbrev pub invariant-loop-turn : goal.invariant-loop-turn
invariant-loop-turn l =
    option_map (with_front l.value) (value_in (length l.text - l._turn) l.quote l.rest) ≡ option_map (with_front l.fn.begun) (value_in (length l.text) l.quote l.text)
