use Rattle.std.proofs.Common.{subst, ◌∙◌}
use Rattle.std.specs.Str.{IsUtf8}
use Rattle.std.proofs.lemmas.Str.{is_utf8-from_IsUtf8}
use Rattle.wef_front_source.proofs.sending.channel_is_kept.Goals as goal

pub returns : goal.returns
returns c = (is_utf8-from_IsUtf8 c.args.channel.now (subst IsUtf8 (c.as_str-name.ensures ∙ c.as_text.ensures.value) c.as_str-name.utf8), c.as_text.ensures.kept)
