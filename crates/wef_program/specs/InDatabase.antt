-- What is proved of each command over its database: of the rows that stood in it as the command began, and of whatever an opening
-- may find of it afterwards, also where a crash ends what is done with it.
use Rattle.std.specs.Prelude.{◌≡◌, true, is_some}
use Rattle.sqlite_trees.specs.declared.store.Store.{Ghosts}
use Rattle.wef_commands.specs.Laws.{Stand}
use Rattle.wef_keeper.specs.Keeping.{Store}
use Rattle.wef_keeper.specs.Rows.{Rows}
use Rattle.wef_sqlite.specs.Keeping.{MayBeFound, store_of}
use Rattle.wef_sqlite.specs.declared.keeper.SqlKeeper.{SqlKeeper}

-- the store of a keeper over a database
abbrev pub keeper_store : {S : Type 0} → SqlKeeper S → Store
keeper_store keeper = store_of keeper.opened keeper.database keeper.tries keeper.reads keeper.faults

-- What holds of the rows that a keeper told before a run, and of any that may be found in its database after it. The connection is
-- the one that it had before: of a database that was opened anew after a failure, and tells nothing more, nothing is said.
abbrev pub InDatabase : {S : Type 0} → Ghosts S → (Rows → Rows → Type 0) → SqlKeeper S → SqlKeeper S → Type 0
InDatabase g Holds before now =
    is_some (keeper_store now).images ≡ true → (found last : Rows) → Stand (keeper_store before) found → MayBeFound g now.database.held last → Holds found last
