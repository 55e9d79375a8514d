use Rattle.wef_batch.proofs.Sound.{read_items_are_sound}
use Rattle.wef_batch.proofs.laws.read_items_are_sound.Goals as goal

pub returns : goal.returns
returns c = read_items_are_sound
