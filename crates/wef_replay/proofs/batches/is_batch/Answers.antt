use Rattle.std.proofs.Common.{ap, sym, ◌∙◌}
use Rattle.std.specs.List.{list_all}
use Rattle.wef_base.specs.Words.{parts}
use Rattle.wef_replay.specs.BatchWords.{empty_batch}
use Rattle.wef_replay.specs.Parts.{parts_left}
use Rattle.wef_replay.proofs.BatchLines.{each_is_word, is_word}
use Rattle.wef_replay.proofs.batches.is_batch.Goals as goal

pub loop-word-init : goal.loop-word-init
loop-word-init c =
    ap (λ it. list_all is_word (parts_left it)) c.into_iter-word-iterator.ensures.into_iter_gives ∙ ap (list_all is_word) c.of-word-items.ensures
    ∙ sym (each_is_word empty_batch (parts 32 c.args.words.now))
