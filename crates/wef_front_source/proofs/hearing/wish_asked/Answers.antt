use Rattle.std.proofs.Common.{sym, subst}
use Rattle.wef_batch.specs.Reading.{AreGoodTrees}
use Rattle.wef_front_source.proofs.WishesCanBeAccepted.{wishes_can_be_accepted}
use Rattle.wef_front_source.proofs.hearing.wish_asked.Goals as goal

pub returns-in-Ok-clause-sound : goal.returns-in-Ok-clause-sound
returns-in-Ok-clause-sound c = wishes_can_be_accepted c.args.now c.as_slice.result.now c.in-Ok.wish (subst AreGoodTrees (sym c.as_slice.ensures) c.requires) c.in-Ok.ensures
