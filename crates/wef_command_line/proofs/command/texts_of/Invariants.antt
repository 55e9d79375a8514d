use Rattle.std.specs.Prelude.{◌≡◌, take}
use Rattle.clap.specs.Walk.{texts}
use Rattle.wef_command_line.proofs.command.texts_of.Given as goal

abbrev pub invariant-loop-word : goal.invariant-loop-word
invariant-loop-word l = texts l.all.items ≡ take l.word-index l.words
