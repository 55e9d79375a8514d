use Rattle.std.proofs.Common.{◌≡◌, ◌++◌, ◌∷◌, drop}
use Rattle.std.specs.List.{flat_map}
use Rattle.wef_replay_values.specs.Values.{joined}
use Rattle.wef_replay_values.proofs.values.joined.Given as goal

abbrev pub invariant-loop-word : goal.invariant-loop-word
invariant-loop-word l = l.whole ++ flat_map (λ word. l.separator ∷ word) (drop l.word-index l.more) ≡ joined l.separator l.first l.more
