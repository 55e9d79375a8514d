use Rattle.wef_front_source.proofs.WishesCanBeAccepted.{renewals_can_stand}
use Rattle.wef_front_source.proofs.hearing.wanted_in.Goals as goal

pub wanted_by-requires : goal.wanted_by-requires
wanted_by-requires c = renewals_can_stand c.args.now c.args.envelope.now c.in-Ok.body c.in-Ok.ensures
