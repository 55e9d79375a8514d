use Rattle.std.proofs.Common.{◌≡◌, ◌<◌, ◌∙◌, length, subst, sym, true}
use Rattle.std.specs.List.{list_any}
use Rattle.wef_base.specs.Names.{same}
use Rattle.wef_xml.specs.Prefixes.{numbered_prefix}
use Rattle.wef_tree_writing.proofs.Numbering.{next_turn}
use Rattle.wef_tree_writing.proofs.prefixes.next_free.Goals as goal

pub loop-turn-preserved : goal.loop-turn-preserved
loop-turn-preserved c =
    let test = c.if-not-contains.false in
    let means = c.contains.ensures in
    let prefix = c.in_ok-numbered_prefix.ensures in
    let is_taken : list_any (same (numbered_prefix c.loop-turn.number)) c.args.taken.now ≡ true = rw prefix at (sym means ∙ test) in
    let within : c.loop-turn._turn < length c.args.taken.now =
    subst (λ texts. c.loop-turn._turn < length texts) c.as_slice-turn-end.ensures c.loop-turn-test.true in
    rw c.in_ok-number.ensures (next_turn _ _ _ _ _ within is_taken c.loop-turn.invariant)
