use Rattle.wef_replay.proofs.GoodBatches.{within_word}
use Rattle.wef_replay.proofs.batches.batch_of.Goals as goal

pub add-requires : goal.add-requires
add-requires c = within_word c.in-Some.word.now _ c.in_ok-word_of.ensures
