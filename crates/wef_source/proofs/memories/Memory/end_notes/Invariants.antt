use Rattle.std.proofs.Common.{◌≡◌, ◌+◌, ◌≤◌, length, drop}
use Rattle.wef_source.specs.Machine.{end_notes, most_drawn, next_id}
use Rattle.wef_source.proofs.EndNotes.{with_rest}
use Rattle.wef_source.proofs.memories.Memory.end_notes.Given as goal

abbrev pub invariant-loop-session : goal.invariant-loop-session
invariant-loop-session l = record {
  so_far : with_rest (next_id l.self) l.notes (drop l.session-index l.session-items) ≡ end_notes l.self;
  drawn : l.drawn ≡ l.self.drawn + length l.notes;
  within : l.drawn ≤ most_drawn;
}
