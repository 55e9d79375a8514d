use Rattle.std.proofs.Common.{◌≡◌, ◌∙◌, ap}
use Rattle.std.specs.Str.{IsAscii, IsNotAscii}
use Rattle.wef_base.specs.Names.{channel_name}
use Rattle.wef_event.proofs.NamesByCase.{holds, named_by_case}
use Rattle.wef_event.proofs.reading.gives_name.Goals as goal

pub returns : goal.returns
returns c = λ alike.
    let word = c.args.word.now in
    let name = c.as_str-name.result.now in
    let is : name ≡ c.args.channel.now = c.as_str-name.ensures ∙ c.as_text.ensures.value in
    named_by_case word name (holds (IsAscii word) (IsNotAscii word) c.is_ascii.result c.if-not-is_ascii.false c.is_ascii.ensures.cases)
    (holds (IsAscii name) (IsNotAscii name) c.is_ascii-2.result c.if-not-is_ascii-2.false c.is_ascii-2.ensures.cases)
    (c.eq_ignore_ascii_case.ensures.test.0 alike)
    ∙ ap channel_name is ∙ c.as_text.ensures.kept
