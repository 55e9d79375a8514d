use Rattle.std.proofs.Common.{◌≡◌}
use Rattle.std.specs.Prelude.{is_some}
use Rattle.std.specs.List.{list_all}
use Rattle.wef_base.specs.Words.{parts}
use Rattle.wef_replay.specs.BatchWords.{empty_batch, read_words}
use Rattle.wef_replay.specs.Parts.{parts_left}
use Rattle.wef_replay.proofs.BatchLines.{is_word}
use Rattle.wef_replay.proofs.batches.is_batch.Given as goal

abbrev pub invariant-loop-word : goal.invariant-loop-word
invariant-loop-word l = list_all is_word (parts_left l.word-iterator) ≡ is_some (read_words empty_batch (parts 32 l.words))
