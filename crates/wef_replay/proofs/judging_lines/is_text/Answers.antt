use Rattle.std.proofs.Common.{ap, sym, ◌∙◌}
use Rattle.std.specs.Str.{is_utf8}
use Rattle.std.proofs.lemmas.Str.{is_utf8-from_IsUtf8}
use Rattle.wef_replay.proofs.judging_lines.is_text.Goals as goal

pub returns : goal.returns
returns c = sym (ap is_utf8 (sym c.as_str-kept.ensures) ∙ is_utf8-from_IsUtf8 _ c.as_str-kept.utf8)
