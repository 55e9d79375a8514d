-- What a page is of the rows that are shown it is of those that are committed, between calls.
use Rattle.std.proofs.Common.{◌≡◌, true, false, IfOk, IsTrue, OnOk, Result, Ok, Err, sym, subst, ◌∙◌}
use Rattle.sqlite.specs.Effect.{Database}
use Rattle.sqlite.specs.Held.{Held, state}
use Rattle.sqlite.specs.State.{HasCleanDisk, Survives}
use Rattle.sqlite_trees.specs.View.{IsShaped}
use Rattle.sqlite_trees.specs.declared.store.Shape.TheVariants as shape
use Rattle.sqlite_trees.specs.declared.store.Store.{Ghosts}
use Rattle.wef_keeper.specs.Rows.{Rows}
use Rattle.wef_sqlite.proofs.Ready.{clean_if_open, ready_read, shaped_if_open}
use Rattle.wef_sqlite.specs.Contents.{are_rows, rows_in, table_in}
use Rattle.wef_sqlite.specs.Paging.{OnRows}
use Rattle.wef_sqlite.specs.States.{IsReady, Rests}
use Rattle.wef_sqlite.specs.declared.refusal.Refusal.{Refusal}

module _ {S : Type 0} (g : Ghosts S) (shut_if_dirty : (s : S) → (g.view s).is_clean ≡ false → (g.view s).is_open ≡ false) (stays : (s : S) → IsTrue (g.view s).is_open → g.recovers s (g.view s).committed)
    (old new : Held S) (settled : IsTrue (state g old).is_open → (state g old).now ≡ (state g old).committed) (ready : IsReady (state g old)) (survives : Survives (state g old) (state g new) (λ _. ⊥)) where
  pub told_rows : {T : Type 0} (result : Result T Refusal) (P : T → Rows → Type 0) → (HasCleanDisk (state g new) → OnOk result (Rests (state g old) (state g new))) → IfOk result (λ x. OnRows (state g new) (P x))
      → IsTrue (state g new).is_open → are_rows (table_in (state g new).committed.trees) ≡ true → IfOk result (λ x. P x (rows_in (table_in (state g new).committed.trees)))
  told_rows (Ok x) P rests says still ours =
      let rest = rests (clean_if_open g shut_if_dirty new still) in
      let same : (state g new).now ≡ (state g new).committed = rest.now ∙ settled (sym rest.is_open ∙ still) ∙ sym rest.committed in
      let shaped = shaped_if_open g shut_if_dirty stays new (ready_read (state g old) (state g new) survives ready) still in
      subst (λ (db : Database). P x (rows_in (table_in db.trees))) same
      (says still (subst (λ (db : Database). IsShaped shape.Table (table_in db.trees)) (sym same) shaped) (subst (λ (db : Database). are_rows (table_in db.trees) ≡ true) (sym same) ours))
  told_rows (Err e) P rests says still ours = tt
