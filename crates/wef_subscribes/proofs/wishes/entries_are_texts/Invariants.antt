use Rattle.std.specs.List.{AllByRecursion}
use Rattle.wef_subscribes.specs.Laws.{IsTextEntry}
use Rattle.wef_subscribes.proofs.wishes.entries_are_texts.Given as goal

abbrev pub invariant-loop-channel : goal.invariant-loop-channel
invariant-loop-channel l = AllByRecursion IsTextEntry l.channel-iterator → AllByRecursion IsTextEntry l.entries.entries
