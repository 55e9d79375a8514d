use Rattle.std.proofs.Common.{◌≡◌, ◌≤◌, ◌∙◌, ℕ, sym, subst}
use Rattle.wef_base.specs.declared.numbers.TheConstants.{MAX}
use Rattle.wef_event.specs.Events.{Event}
use Rattle.wef_event.proofs.KeptEvents.{kept_is_read, kept_number}
use Rattle.wef_keeper.specs.declared.keys.Key.{Key}
use Rattle.wef_collector_rows.specs.Keys.{held_key}
use Rattle.wef_collector.proofs.FormedRows.{are_names, as_row, held_row}
use Rattle.wef_collector.proofs.changes.push_held_change.Goals as goal

pub push_put-requires-clause-number : goal.push_put-requires-clause-number
push_put-requires-clause-number c =
    let event : Event = record { channel = c.event.inside.channel; number = c.event.inside.number; text = c.event.inside.text } in
    subst (λ (k : Key). k.number ≤ MAX) (sym c.in_ok-key.ensures) (kept_number event c.event.invariant)

pub push_put-requires-clause-form : goal.push_put-requires-clause-form
push_put-requires-clause-form c =
    let event : Event = record { channel = c.event.inside.channel; number = c.event.inside.number; text = c.event.inside.text } in
    let key : c.in_ok-key.key ≡ held_key c.args.sub.now c.args.source.now event.channel event.number = c.in_ok-key.ensures ∙ (λ i. held_key (c.as_text.ensures.value i) (c.as_text-2.ensures.value i) (c.as_text-3.ensures.value i) event.number) in
    let names = are_names c.args.sub.now c.args.source.now event.channel c.as_text.ensures.kept c.as_text-2.ensures.kept c.as_text-3.ensures.kept in
    let some : 1 ≤ event.number = subst (λ (n : ℕ). 1 ≤ n) (sym (λ i. (c.event.view_is i).number)) c.requires in
    as_row (held_key c.args.sub.now c.args.source.now event.channel event.number) c.in_ok-key.key 0 event.text c.in_ok-clone.field-0 key c.in_ok-clone.ensures
    (held_row c.args.sub.now c.args.source.now event.channel event.text event.number names (kept_number event c.event.invariant) (kept_is_read event c.event.invariant some))
