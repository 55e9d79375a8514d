-- What is told stays so: after an opening, a read, a commit that is done or fails, and at the end of a doubt.
use Rattle.std.proofs.Common.{◌≡◌, ◌⊎◌, ◌<◌, ◌≤◌, Bool, true, false, cond, List, Option, Some, None, Result, Ok, Err, IfSome, IfOk, OnOk, IsTrue, refl, sym, ap, subst, ◌∙◌, inl, inr, arith}
use Rattle.std.proofs.lemmas.Bool.{cases_lt}
use Rattle.sqlite.specs.Held.{Held, state}
use Rattle.sqlite.specs.State.{HasCleanDisk, KeepsCommit, Survives}
use Rattle.sqlite_trees.specs.Tree.{Trees}
use Rattle.sqlite_trees.specs.View.{doubt}
use Rattle.sqlite_trees.specs.declared.store.Store.{Ghosts}
use Rattle.wef_base.specs.declared.numbers.TheConstants.{MAX}
use Rattle.wef_keeper.specs.Keeping.{row_at}
use Rattle.wef_keeper.specs.Rows.{Rows}
use Rattle.wef_keeper.specs.declared.keys.Key.{Key}
use Rattle.wef_keeper.specs.declared.keys.Row.{Row}
use Rattle.wef_sqlite.proofs.Finds.{beyond}
use Rattle.wef_sqlite.proofs.TableCommits.{left_before}
use Rattle.wef_sqlite.specs.Contents.{Moves, are_rows, rows_in, table_in}
use Rattle.wef_sqlite.specs.Seeing.{Seeing}
use Rattle.wef_sqlite.specs.declared.refusal.Refusal.{Refusal}
use Rattle.wef_sqlite.specs.Telling.{ReadsTold, Told, Tells, committed_table, telling, told_by}

-- a fact of whatever is told, shown of what was seen
pub each_told : {S : Type 0} (g : Ghosts S) (clean : Bool) (seen : Option (Seeing S)) (doubt : Bool) (P : Told → Type 0)
    → ((it : Seeing S) → clean ≡ true → seen ≡ Some it → are_rows (committed_table g it.opened) ≡ true → P (telling g it doubt)) → IfSome (told_by g clean seen doubt) P
each_told g clean None doubt P fact = tt
each_told g false (Some it) doubt P fact = tt
each_told g true (Some it) doubt P fact = go (are_rows (committed_table g it.opened)) refl
  where
    go : (b : Bool) → are_rows (committed_table g it.opened) ≡ b → IfSome (cond b (Some (telling g it doubt)) None) P
    go true ours = fact it refl refl ours
    go false not = tt

-- what is told where the disk is clean and all rows were ours
pub told_is : {S : Type 0} (g : Ghosts S) (clean : Bool) (seen : Option (Seeing S)) (doubt : Bool) (it : Seeing S) → clean ≡ true → seen ≡ Some it → are_rows (committed_table g it.opened) ≡ true
    → told_by g clean seen doubt ≡ Some (telling g it doubt)
told_is g clean seen doubt it is_clean is ours =
    ap (λ s. told_by g clean s doubt) is ∙ ap (λ b. cond b (cond (are_rows (committed_table g it.opened)) (Some (telling g it doubt)) None) None) is_clean ∙ ap (λ b. cond b (Some (telling g it doubt)) None) ours

module _ {S : Type 0} (g : Ghosts S) where
  -- a read leaves what is told
  pub tells_read : (old new : Held S) (told : Told) (doubt : Bool) → KeepsCommit (state g old) (state g new) → Survives (state g old) (state g new) (λ _. ⊥) → Tells (state g old) told doubt → Tells (state g new) told doubt
  tells_read old new told doubt keeps survives tells = record {
    stands = λ still.
        let was = tells.stands (keeps.was_open still) in
        let same = keeps.committed still in
        (subst (λ db. are_rows (table_in db.trees) ≡ true) (sym same) was.0, ap (λ db. rows_in (table_in db.trees)) same ∙ was.1);
    leaves = λ clean trees left. tells.leaves (omega (arith, survives.clean, clean)) trees (left_before (state g old) (state g new) survives clean trees left);
    sure = tells.sure;
    within = tells.within;
  }

  -- a commit that failed leaves the rows before, or those with its changes
  pub tells_failed : (f : Rows → Rows) (old new : Held S) (told : Told) → HasCleanDisk (state g old) → (IsTrue (state g new).is_open → KeepsCommit (state g old) (state g new))
      → ((trees : Trees) → (state g new).may_leave trees → (state g old).may_leave trees ⊎ (IsTrue (state g old).is_open × Moves f (committed_table g old) (table_in trees)))
      → Tells (state g old) told false → Tells (state g new) (record { rows = told.rows; changed = f told.rows }) true
  tells_failed f old new told early keeps left tells = record {
    stands = λ still.
        let kept = keeps still in
        let was = tells.stands (kept.was_open still) in
        let same = kept.committed still in
        (subst (λ db. are_rows (table_in db.trees) ≡ true) (sym same) was.0, ap (λ db. rows_in (table_in db.trees)) same ∙ was.1);
    leaves = λ clean trees may. elim (left trees may) [
      | inl was ↦ let it = tells.leaves early trees was in (it.0, inl (elim it.1 [ inl is ↦ is | inr is ↦ is ∙ tells.sure refl ]))
      | inr made ↦ let was = tells.stands made.0 in (made.1.reads was.0, inr (made.1.rows ∙ ap f was.1))
    ];
    sure = λ e. cc;
    within = tells.within;
  }

  module _ (settles : (s : S) (db : Trees) → IsTrue (g.view s).is_open → g.recovers s db → db ≡ (g.view s).committed) where
    -- of rows that are committed where a crash finds them alone
    pub tells_these : (h : Held S) (doubt : Bool) → (HasCleanDisk (state g h) → IsTrue (state g h).is_open) → (IsTrue (state g h).is_open → are_rows (committed_table g h) ≡ true)
        → Tells (state g h) (record { rows = rows_in (committed_table g h); changed = rows_in (committed_table g h) }) doubt
    tells_these h doubt alive ours = record {
      stands = λ still. (ours still, refl);
      leaves = λ clean trees left.
          let same : trees ≡ (state g h).committed.trees = settles h.store trees (alive clean) left in
          (subst (λ t. are_rows (table_in t) ≡ true) (sym same) (ours (alive clean)), inl (ap (λ t. rows_in (table_in t)) same));
      sure = λ _. refl;
      within = λ key large. beyond key large (committed_table g h);
    }

    -- a commit that is done makes what is told of it
    pub tells_done : (f : Rows → Rows) (old new : Held S) (told : Told) → HasCleanDisk (state g new) → IsTrue (state g old).is_open × IsTrue (state g new).is_open
        → Moves f (committed_table g old) (committed_table g new) → Tells (state g old) told false
        → Tells (state g new) (record { rows = rows_in (committed_table g new); changed = rows_in (committed_table g new) }) false × (rows_in (committed_table g new) ≡ f told.rows)
    tells_done f old new told clean ends moves tells =
        let was = tells.stands ends.0 in
        (tells_these new false (λ _. ends.1) (λ _. moves.reads was.0), moves.rows ∙ ap f was.1)

    -- a doubt ends with the rows that the connection shows
    pub tells_again : (h : Held S) (told : Told) (doubt : Bool) → (HasCleanDisk (state g h) → IsTrue (state g h).is_open) → Tells (state g h) told doubt → Tells (state g h) (record { rows = told.rows; changed = told.rows }) false
    tells_again h told doubt alive tells = record {
      stands = tells.stands;
      leaves = λ clean trees left.
          let was = tells.stands (alive clean) in
          let same : trees ≡ (state g h).committed.trees = settles h.store trees (alive clean) left in
          (subst (λ t. are_rows (table_in t) ≡ true) (sym same) was.0, inl (ap (λ t. rows_in (table_in t)) same ∙ was.1));
      sure = λ _. refl;
      within = tells.within;
    }

-- ---- what the calls of a table say of whatever rows are told

module _ {S : Type 0} (g : Ghosts S) (new : Held S) where
  pub got_told : (key : Key) (result : Result (Option Row) Refusal) → (IsTrue (state g new).is_open → IfOk result (λ row. row ≡ row_at key (rows_in (committed_table g new))))
      → (HasCleanDisk (state g new) → key.number ≤ MAX → OnOk result (IsTrue (state g new).is_open)) → (MAX < key.number → IfOk result (λ row. row ≡ None)) → ReadsTold g new result (λ row rows. row ≡ row_at key rows)
  got_told key (Ok row) found alive far clean told doubt tells = elim (cases_lt MAX key.number) [
    | inr near ↦ let still = alive clean near in found still ∙ ap (row_at key) (tells.stands still).1
    | inl large ↦ far large ∙ sym (tells.within key large)
  ]
  got_told key (Err refusal) found alive far clean told doubt tells = tt

  pub paged_told : (P : List Row → Rows → Type 0) (result : Result (List Row) Refusal) → (IsTrue (state g new).is_open → are_rows (committed_table g new) ≡ true → IfOk result (λ page. P page (rows_in (committed_table g new))))
      → (HasCleanDisk (state g new) → OnOk result (IsTrue (state g new).is_open)) → ReadsTold g new result P
  paged_told P (Ok page) given alive clean told doubt tells = let still = alive clean in let was = tells.stands still in subst (P page) was.1 (given still was.0)
  paged_told P (Err refusal) given alive clean told doubt tells = tt
