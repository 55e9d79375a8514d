use Rattle.std.proofs.Common.{◌++◌, encode_utf8, sym, ◌∙◌, ap, arith}
use Rattle.wef_canonical.proofs.Runs.{wide_passed}
use Rattle.wef_canonical.proofs.characters.behind_wide_character.Goals as goal

pub returns-then-is_xml_char : goal.returns-then-is_xml_char
returns-then-is_xml_char c =
    let parts = c.in_ok-character.ensures.steps in
    wide_passed c.in_ok-character.character c.args.text.now c.as_str.result.now (sym c.is_xml_char.ensures ∙ c.if-is_xml_char.true) (omega (arith, c.from.ensures))
    (sym c.chars-characters.ensures.rest ∙ parts.0 ∙ ap (λ t. encode_utf8 c.in_ok-character.character ++ t) (sym c.as_str.ensures))
