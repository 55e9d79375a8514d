use Rattle.std.proofs.Common.{◌≡◌, ◌≤◌, ℕ, List, true, ap, sym, ◌∙◌, subst}
use Rattle.wef_base.specs.declared.numbers.TheConstants.{MAX}
use Rattle.wef_event.specs.Events.{Event}
use Rattle.wef_event.proofs.KeptEvents.{kept_is_read, kept_number}
use Rattle.wef_keeper.specs.declared.keys.Key.{Key}
use Rattle.wef_source_log.specs.Forms.{is_formed}
use Rattle.wef_source_log.specs.Keys.{last_key}
use Rattle.wef_source_log.proofs.Forming.{last_put, record_put}
use Rattle.wef_source_log.proofs.changing.write_changes.Goals as goal

pub put-requires-clause-number : goal.put-requires-clause-number
put-requires-clause-number c = subst (λ (key : Key). key.number ≤ MAX) (sym c.in_ok-key.ensures) (kept_number _ c.next.invariant)

pub put-requires-clause-form : goal.put-requires-clause-form
put-requires-clause-form c =
    let some = subst (λ (e : Event). 1 ≤ e.number) (sym c.next.view_is) c.requires in
    let text : c.into_parts-channel.result.2 ≡ c.next.inside.text = ap (λ (parts : List ℕ × ℕ × List ℕ). parts.2) c.into_parts-channel.ensures ∙ ap (λ (e : Event). e.text) (sym c.next.view_is) in
    let formed = record_put c.in_ok-key.key c.next.inside.channel c.next.inside.text c.next.inside.number c.in_ok-key.ensures some (kept_number _ c.next.invariant) c.as_text.ensures.kept (kept_is_read _ c.next.invariant some) in
    subst (λ (text : List ℕ). is_formed (record { key = c.in_ok-key.key; value = 0; body = text }) ≡ true) (sym text) formed

pub push_number_row-requires-clause-number : goal.push_number_row-requires-clause-number
push_number_row-requires-clause-number c = kept_number _ c.next.invariant

pub push_number_row-requires-clause-form : goal.push_number_row-requires-clause-form
push_number_row-requires-clause-form c =
    let channel : c.into_parts-channel.result.0 ≡ c.next.inside.channel = ap (λ (parts : List ℕ × ℕ × List ℕ). parts.0) c.into_parts-channel.ensures ∙ ap (λ (e : Event). e.channel) (sym c.next.view_is) in
    last_put c.in_ok-last_key.field-0 c.next.inside.channel c.next.inside.number (c.in_ok-last_key.ensures ∙ ap last_key channel) (kept_number _ c.next.invariant) c.as_text.ensures.kept
