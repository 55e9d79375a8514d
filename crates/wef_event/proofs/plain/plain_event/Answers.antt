use Rattle.std.proofs.Common.{◌≤◌, IsUtf8, length, arith}
use Rattle.wef_event.specs.Events.{event_limit}
use Rattle.wef_event.specs.PlainEvent.{plain_text, plain_tree}
use Rattle.wef_event.proofs.PlainTrees.{is_event_of}
use Rattle.wef_event.proofs.plain.plain_event.Goals as goal

pub invariant_of-result : goal.invariant_of-result
invariant_of-result c =
    let channel = c.args.channel.now in
    let word = c.args.word.now in
    let named = c.as_text.ensures.kept in
    let utf8 : IsUtf8 channel = rw (c.as_str-name.ensures, c.as_text.ensures.value) at c.as_str-name.utf8 in
    let word_utf8 : IsUtf8 word = rw c.as_str.ensures at c.as_str.utf8 in
    let size : length c.in_ok-text.text ≤ event_limit = omega arith in
    let short : length (plain_text channel c.args.number c.args.id c.args.level word) ≤ event_limit = rw (c.in_ok-text.ensures, c.as_str-name.ensures, c.as_text.ensures.value, c.as_str.ensures) at size in
    rw (c.in_ok-clone.ensures, c.in_ok-text.ensures, c.as_str-name.ensures, c.as_text.ensures.value, c.as_str.ensures) (
      plain_tree channel c.args.number c.args.id c.args.level word,
      is_event_of channel word c.args.number c.args.id c.args.level named utf8 word_utf8 c.requires.characters c.requires.small short,
    )
