use Rattle.std.proofs.Common.{◌≡◌, drop}
use Rattle.std.specs.List.{flat_map, fold}
use Rattle.wef_elements.specs.Texts.{text_in}
use Rattle.wef_query_values.proofs.feeding.+feeding.Given as goal

abbrev pub invariant-feed_element-loop-child : goal.invariant-feed_element-loop-child
invariant-feed_element-loop-child g l =
    fold g.F.Feed.step l.reader (flat_map text_in (drop l.child-index l.child-items)) ≡ fold g.F.Feed.step l.initial.reader (flat_map text_in l.child-items)
