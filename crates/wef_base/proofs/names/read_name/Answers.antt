use Rattle.std.proofs.Common.{rules}
use Rattle.wef_base.proofs.Kept.{result_kept}
use Rattle.wef_base.proofs.names.read_name.Goals as goal

pub returns-clause-kept : goal.returns-clause-kept
returns-clause-kept c = result_kept c.args.letters c.args.limit c.args.text.now c.name_from.result c.characters.ensures.utf8 (search rules)
