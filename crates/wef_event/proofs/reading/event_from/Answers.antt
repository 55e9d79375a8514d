use Rattle.std.proofs.Common.{◌≡◌, true, false, ap, sym, ◌∙◌}
use Rattle.wef_event.specs.Events.{is_event_root, number_or}
use Rattle.wef_event.specs.Paths.{number_in}
use Rattle.wef_event.proofs.Found.{given_anyhow, is_there, no_channel, no_number, no_root, too_long}
use Rattle.wef_event.proofs.reading.event_from.Goals as goal

pub returns-then-not-is_event_root : goal.returns-then-not-is_event_root
returns-then-not-is_event_root c =
    let root : is_event_root c.args.node.now ≡ false = cc in
    no_root c.args.needed c.args.node.now root

pub returns-in_default : goal.returns-in_default
returns-in_default c =
    let root : is_event_root c.args.node.now ≡ true = cc in
    no_channel c.args.needed c.args.node.now root (sym c.in_ok-channel.ensures ∙ c.in_default.is)

pub returns-in_default-number_or : goal.returns-in_default-number_or
returns-in_default-number_or c =
    let root : is_event_root c.args.node.now ≡ true = cc in
    no_number c.args.needed c.args.node.now c.in-Some.channel c.in_default-number_or.field-0 root (sym c.in_ok-channel.ensures ∙ c.in-Some.is)
    (ap (number_or c.args.needed) (sym c.in_ok-number_in.ensures) ∙ sym c.number_or.ensures ∙ c.in_default-number_or.is)

pub returns-in_default-2 : goal.returns-in_default-2
returns-in_default-2 c =
    let root : is_event_root c.args.node.now ≡ true = cc in
    too_long c.args.needed c.args.node.now c.in-Some.channel c.in-Ok.number root (sym c.in_ok-channel.ensures ∙ c.in-Some.is)
    (ap (number_or c.args.needed) (sym c.in_ok-number_in.ensures) ∙ sym c.number_or.ensures ∙ c.in-Ok.is) (sym c.in_ok-text.ensures ∙ c.in_default-2.is)

pub invariant_of-result : goal.invariant_of-result
invariant_of-result c =
    let root : is_event_root c.args.node.now ≡ true = cc in
    let number = ap (number_or c.args.needed) (sym c.in_ok-number_in.ensures) ∙ sym c.number_or.ensures ∙ c.in-Ok.is in (
      c.args.node.now,
      record {
        good = c.requires.good;
        event_is = is_there false c.args.node.now c.in-Some.channel c.in-Ok.number c.in-Some-2.text root (sym c.in_ok-channel.ensures ∙ c.in-Some.is)
            (given_anyhow c.args.needed (number_in c.args.node.now) c.in-Ok.number number) (sym c.in_ok-text.ensures ∙ c.in-Some-2.is);
      },
    )

pub returns : goal.returns
returns c =
    let root : is_event_root c.args.node.now ≡ true = cc in
    is_there c.args.needed c.args.node.now c.in-Some.channel c.in-Ok.number c.in-Some-2.text root (sym c.in_ok-channel.ensures ∙ c.in-Some.is)
    (ap (number_or c.args.needed) (sym c.in_ok-number_in.ensures) ∙ sym c.number_or.ensures ∙ c.in-Ok.is) (sym c.in_ok-text.ensures ∙ c.in-Some-2.is)
