use Rattle.std.proofs.Common.{refl}
use Rattle.wef_tree_reading.proofs.KnownPieces.{put_grows, put_knows}
use Rattle.wef_tree_reading.proofs.known.Known.put.Goals as goal

pub returns-clause-grows : goal.returns-clause-grows
returns-clause-grows c =
    put_grows c.args.self.now (record c.args.self.now { spaces = c.insert.new.self }) c.digest-digest.result.now c.args.space
    c.digest-digest.ensures refl c.requires c.in_ok-_before.ensures.updates.0

pub returns-clause-knows : goal.returns-clause-knows
returns-clause-knows c =
    put_knows c.args.self.now (record c.args.self.now { spaces = c.insert.new.self }) c.digest-digest.result.now c.args.space
    c.digest-digest.ensures c.in_ok-_before.ensures.updates.0
