use Rattle.std.proofs.Common.{◌≡◌, drop}
use Rattle.wef_replay_values.specs.Values.{channel_words}
use Rattle.wef_replay_values.specs.Reading.{with_front}
use Rattle.wef_replay_values.proofs.values.channels_of.Given as goal

abbrev pub invariant-loop-word : goal.invariant-loop-word
invariant-loop-word l = with_front l.channels (channel_words (drop l.word-index l.words)) ≡ channel_words l.words
