use Rattle.std.proofs.Common.{refl, ◌∙◌}
use Rattle.wef_ids.specs.IdTexts.{id_text}
use Rattle.wef_ids.proofs.IdTexts.{reads_back}
use Rattle.wef_ids.proofs.texts.id_text.Goals as goal

pub returns-clause-value : goal.returns-clause-value
unfolding id_text
returns-clause-value c = rw (c.in_ok-push_str.ensures.ok, c.in_ok-text.ensures, c.encode_lower-digits.ensures.text, c.hyphenated.ensures, c.from_u128.ensures) refl

pub returns-clause-reads_back : goal.returns-clause-reads_back
returns-clause-reads_back c =
    rw (returns-clause-value c)
    (reads_back c.args.value c.hyphenated.result c.encode_lower-digits.result.now c.ranges.value.fits (c.hyphenated.ensures ∙ c.from_u128.ensures) c.encode_lower-digits.ensures.text c.encode_lower-digits.ensures.parsed)
