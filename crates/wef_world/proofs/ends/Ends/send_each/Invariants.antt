use Rattle.std.proofs.Common.{◌≡◌, ◌++◌, drop, map}
use Rattle.std.specs.List.{AllByRecursion}
use Rattle.wef_machine.specs.Leasing.{notes_text}
use Rattle.wef_machine.specs.States.{next_number, with_messages}
use Rattle.wef_machine.specs.declared.messages.Message.TheVariants.{Ended}
use Rattle.wef_world.specs.Shut.{CanBeTold}
use Rattle.wef_world.proofs.ends.Ends.send_each.Given as goal

-- what is sent and told so far, and what is left, is the whole; and each note that is left can be told
abbrev pub invariant-loop-note : goal.invariant-loop-note
invariant-loop-note l = record {
  sent : with_messages l.self (map (Ended l.source) (drop l.note-index l.notes)) ≡ with_messages l.fn.self (map (Ended l.fn.source) l.fn.notes);
  told : l.text ++ notes_text l.source (next_number l.self) (drop l.note-index l.notes) ≡ notes_text l.fn.source (next_number l.fn.self) l.fn.notes;
  left : AllByRecursion CanBeTold (drop l.note-index l.notes);
}
