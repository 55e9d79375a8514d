-- What becomes of the notes of a source that ends the sessions which collectors began.
use Rattle.std.specs.Prelude.{ℕ, List, map, Option, Some, None, codes}
use Rattle.std.specs.List.{AllByRecursion}
use Rattle.wef_envelope.specs.Laws.{IsSpelt}
use Rattle.wef_lines.specs.Printed.{name_line}
use Rattle.wef_machine.specs.Leasing.{shut_lines}
use Rattle.wef_machine.specs.Printed.{fate_line}
use Rattle.wef_machine.specs.States.{State, with_messages}
use Rattle.wef_machine.specs.declared.messages.Message.TheVariants.{Ended}
use Rattle.wef_places.specs.declared.places.Used.{Used}
use Rattle.wef_places.specs.declared.places.Used.TheVariants.{Closed, Answered}
use Rattle.wef_source.specs.Serving.{NoteCanBeSent}
use Rattle.wef_source.specs.declared.messages.EndNote.{EndNote}

-- a world after it: each note is sent, where there are ids for all of them
abbrev pub with_shut : State → List ℕ → Used (Option (List EndNote)) → State
with_shut state s (Closed how) = state
with_shut state s (Answered None) = state
with_shut state s (Answered (Some notes)) = with_messages state (map (Ended s) notes)

-- and what is printed, by the number that a message gets
abbrev pub shut_line : List ℕ → ℕ → Used (Option (List EndNote)) → List ℕ
shut_line s n (Closed how) = fate_line how s
shut_line s n (Answered None) = name_line (codes "spent") s
shut_line s n (Answered (Some notes)) = shut_lines s n notes

-- a note that can be written and read again
abbrev pub CanBeTold : EndNote → Type 0
CanBeTold note = NoteCanBeSent note × IsSpelt note.id

-- so are those of a source
abbrev pub AreToldAs : Used (Option (List EndNote)) → Type 0
AreToldAs (Answered (Some notes)) = AllByRecursion CanBeTold notes
AreToldAs _ = Unit {0}
