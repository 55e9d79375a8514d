-- What a list of changes makes of the table, and that the rowids still rise.
use Rattle.std.proofs.Common.{true, not, List, [], ◌∷◌, refl, sym, ap, subst, ◌∙◌, inl, inr, IsTrue}
use Rattle.sqlite.specs.Effect.{Database}
use Rattle.sqlite.specs.Held.{Held, state}
use Rattle.sqlite.proofs.StateLemmas.{survives_weaker}
use Rattle.sqlite.specs.State.{Survives}
use Rattle.sqlite_trees.proofs.TreeLemmas.{IsShaped-filter, IsShaped-put_row}
use Rattle.sqlite_trees.specs.View.{IsShaped}
use Rattle.sqlite_trees.specs.declared.store.Shape.TheVariants.{Table}
use Rattle.sqlite_trees.specs.declared.store.Store.{Ghosts}
use Rattle.sqlite_trees.specs.Tree.{Trees}
use Rattle.sqlite_value.specs.Order.{Row as Columns}
use Rattle.wef_keeper.specs.Rows.{Rows, applied, changed, cell_of_row}
use Rattle.wef_keeper.specs.declared.keys.Change.{Change}
use Rattle.wef_keeper.specs.declared.keys.Change.TheVariants.{Put, Delete}
use Rattle.wef_keeper.specs.declared.keys.Key.{Key}
use Rattle.wef_keeper.specs.declared.keys.Row.{Row}
use Rattle.wef_sqlite.specs.Contents.{Carries, IsOurs, LeavesRows, Moves, table_in}
use Rattle.wef_sqlite.specs.Makes.{Makes, MakesAll, IsMade, LeavesMade}
use Rattle.wef_sqlite.proofs.Changes.{deletes_rows}
use Rattle.wef_sqlite.proofs.Finds.{deletes_beyond}
use Rattle.wef_sqlite.proofs.Keys.{has_key}
use Rattle.wef_sqlite.proofs.Maps.{without_key, deletes, puts}
use Rattle.wef_sqlite.proofs.Puts.{kept_as, puts_row}

moves_then : (f g : Rows → Rows) (a b c : List Columns) → Moves f a b → Moves g b c → Moves (λ rows. g (f rows)) a c
moves_then f g a b c one two = record { rows = two.rows ∙ ap g one.rows; reads = λ h. two.reads (one.reads h) }

carries_then : (f g : Rows → Rows) (a b c : Database) → Carries f a b → Carries g b c → Carries (λ rows. g (f rows)) a c
carries_then f g a b c one two = record { ours = two.ours; moves = moves_then f g (table_in a.trees) (table_in b.trees) (table_in c.trees) one.moves two.moves }

shaped_left : (key : Key) (tree : List Columns) → IsShaped Table tree → IsShaped Table (without_key key tree)
shaped_left key tree shaped = IsShaped-filter Table (λ r. not (has_key key r)) tree shaped

module _ {S : Type 0} (g : Ghosts S) where
  delete_carries : (key : Key) (before now : Held S) → IsOurs (state g before).now → Makes g (Delete key) before now → Carries (changed (Delete key)) (state g before).now (state g now).now
  delete_carries key before now ours (inl none) =
      subst (λ (held : Held S). Carries (changed (Delete key)) (state g before).now (state g held).now) (sym none.1)
      (record { ours = ours; moves = deletes_beyond key none.0 (table_in (state g before).now.trees) })
  delete_carries key before now ours (inr ran) =
      let tree = table_in (state g before).now.trees in
      let it = deletes_rows key (state g before) (state g now) ran.0 ours.schema ours.shaped ran.1.0 in
      record {
        ours = record { schema = it.schema; shaped = subst (IsShaped Table) (sym it.table) (shaped_left key tree ours.shaped) };
        moves = subst (Moves (changed (Delete key)) tree) (sym it.table) (deletes key tree);
      }

  put_carries : (row : Row) (before now : Held S) → IsOurs (state g before).now → Makes g (Put row) before now → Carries (changed (Put row)) (state g before).now (state g now).now
  put_carries row before now ours made =
      let tree = table_in (state g before).now.trees in
      let it = puts_row row (state g before) (state g now) made.1 ours.schema ours.shaped made.2.0 in
      let new = kept_as it.put.id row in
      record {
        ours = record { schema = it.schema; shaped = subst (IsShaped Table) (sym it.put.table) (IsShaped-put_row new (without_key row.key tree) refl (shaped_left row.key tree ours.shaped)) };
        moves = subst (Moves (changed (Put row)) tree) (sym it.put.table) (puts row.key (cell_of_row row) new made.0 tree it.put.free);
      }

  change_carries : (change : Change) (before now : Held S) → IsOurs (state g before).now → Makes g change before now → Carries (changed change) (state g before).now (state g now).now
  change_carries (Put row) = put_carries row
  change_carries (Delete key) = delete_carries key

  pub all_carry : (changes : List Change) (before now : Held S) → IsOurs (state g before).now → MakesAll g changes before now → Carries (applied changes) (state g before).now (state g now).now
  all_carry [] before now ours same =
      subst (λ (held : Held S). Carries (applied []) (state g before).now (state g held).now) (sym same) (record { ours = ours; moves = record { rows = refl; reads = λ h. h } })
  all_carry (change ∷ changes) before now ours made =
      let one = change_carries change before made.0 ours made.1 in
      carries_then (changed change) (applied changes) (state g before).now (state g made.0).now (state g now).now one (all_carry changes made.0 now one.ours made.2)

  -- as a commit leaves it
  pub made_carries : (changes : List Change) (before : Held S) (db : Database) → IsOurs (state g before).now → IsMade g changes before db → Carries (applied changes) (state g before).now db
  made_carries changes before db ours made = subst (Carries (applied changes) (state g before).now) (sym made.2) (all_carry changes (record before { in_transaction = true }) made.0 ours made.1)

  pub left_carries : (changes : List Change) (before : Held S) (trees : Trees) → IsOurs (state g before).now → LeavesMade g changes before trees → LeavesRows (applied changes) (state g before).now trees
  left_carries changes before trees ours left =
      let it = made_carries changes before left.0 ours left.1 in
      record { shaped = subst (λ t. IsShaped Table (table_in t)) (sym left.2) it.ours.shaped; moves = subst (λ t. Moves (applied changes) (table_in (state g before).now.trees) (table_in t)) (sym left.2) it.moves }

  -- a crash leaves the rows before, or those with all changes
  pub crash_carries : (changes : List Change) (before now : Held S) → IsOurs (state g before).now → Survives (state g before) (state g now) (LeavesMade g changes before)
      → Survives (state g before) (state g now) (LeavesRows (applied changes) (state g before).now)
  crash_carries changes before now ours = survives_weaker (state g before) (state g now) _ _ (λ clean trees. left_carries changes before trees ours)

  change_open : (change : Change) (before now : Held S) → Makes g change before now → IsTrue (state g now).is_open → IsTrue (state g before).is_open
  change_open (Put row) before now made still = made.2.1.was_open
  change_open (Delete key) before now (inl none) still = subst (λ (held : Held S). IsTrue (state g held).is_open) none.1 still
  change_open (Delete key) before now (inr ran) still = ran.1.1.was_open

  -- changes are made of a connection that is open
  pub all_open : (changes : List Change) (before now : Held S) → MakesAll g changes before now → IsTrue (state g now).is_open → IsTrue (state g before).is_open
  all_open [] before now same still = subst (λ (held : Held S). IsTrue (state g held).is_open) same still
  all_open (change ∷ changes) before now made still = change_open change before made.0 made.1 (all_open changes made.0 now made.2 still)
