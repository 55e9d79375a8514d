-- Names of sources that serve alike.
use Rattle.wef_query.specs.Order.{HasSameNames}
use Rattle.wef_replay.specs.Good.{Names}

-- these names and those are the same ones, whatever their order and however often each stands there
pub record AreAlike (these those : Names) : Type 0 where
  pub declared : HasSameNames these.declared those.declared
  pub foreign : HasSameNames these.foreign those.foreign
