use Rattle.wef_batch.proofs.Rooms.{rooms_are_of_bytes}
use Rattle.wef_batch.proofs.laws.rooms_are_of_bytes.Goals as goal

pub returns : goal.returns
returns c = rooms_are_of_bytes
