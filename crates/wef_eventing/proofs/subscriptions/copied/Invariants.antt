use Rattle.std.proofs.Common.{◌≡◌, ◌++◌, drop}
use Rattle.wef_eventing.proofs.subscriptions.copied.Given as goal

abbrev pub invariant-loop-source : goal.invariant-loop-source
invariant-loop-source l = l.copies ++ drop l.source-index l.sources ≡ l.sources
