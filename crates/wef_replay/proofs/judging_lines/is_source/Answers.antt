use Rattle.std.proofs.Common.{◌∙◌}
use Rattle.wef_base.specs.Names.{source_name}
use Rattle.wef_replay.proofs.GoodNames.{is_kept_name}
use Rattle.wef_replay.proofs.judging_lines.is_source.Goals as goal

pub returns : goal.returns
returns c = is_kept_name c.args.source.now _ (source_name c.args.source.now) (c.as_str-kept.ensures ∙ c.as_text.ensures.value) c.as_str-kept.utf8 c.as_text.ensures.kept
