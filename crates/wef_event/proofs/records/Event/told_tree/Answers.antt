use Rattle.std.proofs.Common.{◌≡◌, Some, subst}
use Rattle.wef_base.specs.declared.tree.Charset.TheVariants.{Utf8}
use Rattle.wef_tree_reading.specs.Documents.{tree_of}
use Rattle.wef_event.specs.Events.{Event, IsEventOf}
use Rattle.wef_event.proofs.Made.{no_fault, the_tree}
use Rattle.wef_event.proofs.records.Event.told_tree.Goals as goal

pub unreachable-requires : goal.unreachable-requires
unreachable-requires c = no_fault _ c.in-Err.fault c.self.invariant c.in_default.not-NoMemory (rw (c.as_bytes.ensures.value, c.as_str.ensures) at c.in-Err.ensures.tree)

pub returns-in-Ok-clause-event : goal.returns-in-Ok-clause-event
returns-in-Ok-clause-event c =
    subst (λ (event : Event). IsEventOf event c.in-Ok.tree) c.self.view_is
    (the_tree _ c.in-Ok.tree c.self.invariant (rw (c.as_bytes.ensures.value, c.as_str.ensures) at c.in-Ok.ensures.tree))

pub returns-in-Ok-clause-text : goal.returns-in-Ok-clause-text
returns-in-Ok-clause-text c =
    subst (λ (event : Event). tree_of Utf8 event.text ≡ Some c.in-Ok.tree) c.self.view_is
    (rw (c.as_bytes.ensures.value, c.as_str.ensures) at c.in-Ok.ensures.tree)
