use Rattle.std.proofs.Common.{sym, ◌∙◌}
use Rattle.wef_canonical.proofs.Runs.{ascii_passed}
use Rattle.wef_canonical.proofs.characters.behind_plain_character.Goals as goal

pub returns-then-is_plain : goal.returns-then-is_plain
returns-then-is_plain c =
    ascii_passed c.in-Some.first c.args.text.now c.in-Some.rest.now (sym c.is_plain.ensures ∙ c.if-is_plain.true) c.in-Some.ensures.1 c.in-Some.ensures.0
