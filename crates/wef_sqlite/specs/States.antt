-- What a read leaves of a connection, and what is kept of it between calls.
use Rattle.std.specs.Prelude.{◌≡◌}
use Rattle.sqlite.specs.State.{HasCleanDisk, State}
use Rattle.sqlite_trees.specs.Tree.{Trees}
use Rattle.sqlite_trees.specs.View.{IsShaped}
use Rattle.sqlite_trees.specs.declared.store.Shape.TheVariants as shape
use Rattle.wef_sqlite.specs.Contents.{table_in}

-- the same rows, as they are now and as they are committed, and a connection that is as open as before
pub record Rests (old new : State) : Type 0 where
  pub is_open : new.is_open ≡ old.is_open
  pub now : new.now ≡ old.now
  pub committed : new.committed ≡ old.committed

-- in whatever a crash may leave now the rowids of the table rise
abbrev pub IsReady : State → Type 0
IsReady s = HasCleanDisk s → (trees : Trees) → s.may_leave trees → IsShaped shape.Table (table_in trees)
