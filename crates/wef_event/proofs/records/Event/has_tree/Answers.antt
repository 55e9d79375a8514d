use Rattle.std.proofs.Common.{◌≡◌, true, ap, subst}
use Rattle.std.specs.Prelude.{is_some}
use Rattle.wef_base.specs.declared.tree.Charset.TheVariants.{Utf8}
use Rattle.wef_tree_reading.specs.Documents.{tree_of}
use Rattle.wef_event.specs.Events.{Event}
use Rattle.wef_event.proofs.Made.{event_tree}
use Rattle.wef_event.proofs.records.Event.has_tree.Goals as goal

pub returns : goal.returns
returns c = subst (λ (event : Event). is_some (tree_of Utf8 event.text) ≡ true) c.self.view_is (ap is_some (event_tree _ c.self.invariant.0 c.self.invariant.1))
