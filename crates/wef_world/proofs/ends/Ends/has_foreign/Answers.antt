use Rattle.std.proofs.Common.{◌∙◌}
use Rattle.wef_replay.proofs.Among.{among_by_order}
use Rattle.wef_world.proofs.ends.Ends.has_foreign.Goals as goal

pub returns : goal.returns
returns c = rw (← c.self.view_is) (c.contains.ensures ∙ among_by_order c.self.inside.foreign.keys c.args.source.now)
