use Rattle.std.proofs.Common.{◌≡◌}
use Rattle.wef_base.specs.Words.{parts}
use Rattle.wef_replay.specs.BatchWords.{empty_batch, read_words}
use Rattle.wef_replay.specs.Parts.{parts_left}
use Rattle.wef_replay.proofs.batches.batch_of.Given as goal

abbrev pub invariant-loop-word : goal.invariant-loop-word
invariant-loop-word l = read_words l.batch (parts_left l.word-iterator) ≡ read_words empty_batch (parts 32 l.words)
