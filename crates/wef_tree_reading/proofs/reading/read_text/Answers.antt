use Rattle.std.proofs.Common.{◌≡◌, length, arith}
use Rattle.std.proofs.lemmas.Bool.Decides.{nat_tests}
use Rattle.wef_tree_reading.proofs.KnownPieces.{told_root}
use Rattle.wef_tree_reading.proofs.Walks.{ends_rootless, reaches_further}
use Rattle.wef_tree_reading.proofs.reading.read_text.Goals as goal

pub loop-rest-smaller : goal.loop-rest-smaller
loop-rest-smaller c = c.in_ok-rest.ensures.walks.2

pub loop-rest-preserved : goal.loop-rest-preserved
loop-rest-preserved c =
    let walk = c.in_ok-rest.ensures.walks in
    record { reached = reaches_further _ _ _ _ walk.0 _ c.loop-rest.invariant.reached walk.1; known = c.in_ok-rest.ensures.knows }

pub returns : goal.returns
returns c =
    let test = c.loop-rest-test.false in
    let empty : length c.loop-rest.rest.now ≡ 0 = grind (arith, nat_tests, c.is_empty.ensures) in
    ends_rootless _ _ _ c.loop-rest.invariant.reached empty c.in-None.is

pub new-requires-in-Some : goal.new-requires-in-Some
new-requires-in-Some c = told_root c.loop-rest.known c.loop-rest.builder c.in-Some.root c.loop-rest.invariant.known c.in-Some.is
