use Rattle.wef_building.proofs.Rooms.{fills, keeps}
use Rattle.wef_building.proofs.laws.built_items_keep_their_room.Goals as goal

pub returns-clause-kept : goal.returns-clause-kept
returns-clause-kept c = keeps

pub returns-clause-filled : goal.returns-clause-filled
returns-clause-filled c = fills
