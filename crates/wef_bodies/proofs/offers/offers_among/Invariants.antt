use Rattle.std.proofs.Common.{◌≡◌, drop}
use Rattle.wef_bodies.specs.Offers.{offers_among, with_front}
use Rattle.wef_bodies.proofs.offers.offers_among.Given as goal

abbrev pub invariant-loop-node : goal.invariant-loop-node
invariant-loop-node l = with_front l.offers (offers_among l.now (drop l.node-index l.nodes)) ≡ offers_among l.now l.nodes
