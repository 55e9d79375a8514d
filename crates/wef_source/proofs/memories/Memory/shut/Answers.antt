use Rattle.std.proofs.Common.{◌+◌, ◌*◌, List, arith, sym, subst}
use Rattle.std.specs.List.{All, AllByRecursion, filter}
use Rattle.wef_source.specs.Machine.{End, next_id}
use Rattle.wef_source.specs.Serving.{AwaitBelow, CanBeServed, NoteCanBeSent}
use Rattle.wef_source.specs.Sessions.{is_asked_for}
use Rattle.wef_source.specs.declared.messages.EndNote.{EndNote}
use Rattle.wef_source.proofs.EndNotes.{notes_can}
use Rattle.wef_source.proofs.DrawnIds.{filtered_below, later_below}
use Rattle.wef_source.proofs.memories.Memory.shut.Goals as goal

pub invariant_of-self : goal.invariant_of-self
invariant_of-self c =
    let next = c.self.inside.boot * 18446744073709551616 + (c.self.inside.drawn + 1) in
    let further = c.self.inside.boot * 18446744073709551616 + (c.self.inside.drawn + c.len.result + 1) in
    let sessions = c.self.inside.sessions.items in
    record {
      sessions = c.end_all_leased.ensures.kept;
      drawn = subst (AwaitBelow further) (sym c.end_all_leased.ensures.changed)
          (later_below next further (omega arith) (filter is_asked_for sessions) (filtered_below next is_asked_for sessions c.self.invariant.drawn));
    }

pub returns-clause-told : goal.returns-clause-told
returns-clause-told c =
    let end = c.args.self.now in
    let served = subst (λ (e : End). All CanBeServed e.sessions) c.self.view_is c.self.invariant.sessions.served in
    subst (λ (notes : List EndNote). AllByRecursion NoteCanBeSent notes) (sym c.in_ok-notes.ensures.notes) (notes_can (next_id end) end.sessions served)
