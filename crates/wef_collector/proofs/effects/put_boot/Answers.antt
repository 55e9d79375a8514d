use Rattle.std.proofs.Common.{[]}
use Rattle.wef_collector_rows.specs.Keys.{boot_key}
use Rattle.wef_collector.proofs.FormedRows.{as_row, boot_row}
use Rattle.wef_collector.proofs.effects.put_boot.Goals as goal

pub one_put-requires-clause-form : goal.one_put-requires-clause-form
one_put-requires-clause-form c = as_row boot_key c.boot_key.result c.args.boot [] c.new.result c.boot_key.ensures c.new.ensures (boot_row c.args.boot c.requires)
