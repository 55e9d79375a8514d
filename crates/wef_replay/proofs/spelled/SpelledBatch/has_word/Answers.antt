use Rattle.std.proofs.Common.{ap, ◌∙◌}
use Rattle.wef_replay.specs.Good.{are_words}
use Rattle.wef_replay.proofs.GoodBatches.{good-spelled}
use Rattle.wef_replay.proofs.spelled.SpelledBatch.has_word.Goals as goal

pub returns : goal.returns
returns c = good-spelled c.self.inside.words c.self.invariant ∙ ap are_words c.self.view_is
