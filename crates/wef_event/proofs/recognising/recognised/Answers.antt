use Rattle.std.proofs.Common.{◌≡◌, ℕ, ◌==◌, ◌≤◌, List, codes, length, refl, ap, sym, ◌∙◌, arith}
use Rattle.std.specs.Prelude.{Some}
use Rattle.std.proofs.lemmas.Bool.{and_parts}
use Rattle.wef_base.specs.Names.{channel_name, same}
use Rattle.wef_base.specs.Numbers.{plain_number}
use Rattle.wef_base.specs.declared.numbers.TheConstants.{MAX}
use Rattle.wef_canonical.proofs.BareTags.{no_space}
use Rattle.wef_event.proofs.KeptEvents.{kept_is_read}
use Rattle.wef_event.proofs.Labels.{none_left, seen_event}
use Rattle.wef_event.proofs.recognising.recognised.Goals as goal

pub element_at-requires : goal.element_at-requires
element_at-requires c = no_space

pub returns : goal.returns
returns c =
    let some : 1 ≤ c.in_ok-number.number = omega (arith, c.if-number-eq0.false) in
    let root = and_parts (length c.in_ok-root.root.rest.now == 0) (same c.in_ok-root.root.name.now (codes "Event")) (sym c.is_whole_event.ensures ∙ c.if-not-is_whole_event.false) in
    let tree = λ (name : List ℕ) (named : channel_name c.in_ok-system.system.channel.now ≡ Some name).
    seen_event 64 c.args.text.now c.in_ok-root.root c.in_ok-system.system c.in_ok-number.number name refl c.in_ok-root.ensures (none_left c.in_ok-root.root.rest.now root.0) root.1
    (omega (arith, c.if-text-gt-EVENT_LIMIT.false)) c.in_ok-system.was (ap (plain_number MAX) (sym c.as_bytes.ensures.value) ∙ sym c.in_ok-number.ensures.value) c.if-number-eq0.false named in
    record { some = some; tree = tree; event = λ name named. kept_is_read _ (tree name named) some }
