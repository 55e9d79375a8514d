use Rattle.std.proofs.Common.{◌≡◌, ℕ, List, [], length, ap, arith}
use Rattle.wef_canonical.proofs.BareTags.{no_space}
use Rattle.wef_event.proofs.LooseNodes.{none_behind, whole_written}
use Rattle.wef_event.proofs.loose.canonical_of.Goals as goal

pub push_element-requires : goal.push_element-requires
push_element-requires c = no_space

pub returns : goal.returns
returns c =
    whole_written c.args.text.now c.in_ok-rest.rest.now _ (rw c.new-whole.ensures at (rw c.as_str.ensures at c.in_ok-rest.ensures)) (none_behind c.in_ok-rest.rest.now (omega (arith, c.if-rest-gt0.false)))
