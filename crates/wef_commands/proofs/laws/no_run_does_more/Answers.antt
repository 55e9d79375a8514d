use Rattle.wef_commands.proofs.Leaving.{add_leaves, readers_leave, remove_leaves, write_leaves}
use Rattle.wef_commands.proofs.laws.no_run_does_more.Goals as goal

pub returns-clause-add : goal.returns-clause-add
returns-clause-add c = add_leaves

pub returns-clause-remove : goal.returns-clause-remove
returns-clause-remove c = remove_leaves

pub returns-clause-readers : goal.returns-clause-readers
returns-clause-readers c = readers_leave

pub returns-clause-write : goal.returns-clause-write
returns-clause-write c = write_leaves
