-- What a commit on the table makes of the rows that are committed.
use Rattle.std.proofs.Common.{◌≡◌, ◌⊎◌, false, ℕ, List, [], Result, Ok, Err, IfErr, IfOk, OnErr, OnOk, arith, sym, subst, ◌∙◌, inl, inr, IsTrue}
use Rattle.sqlite.proofs.InsideLemmas.{keeps_then, unchanged_keeps}
use Rattle.sqlite.specs.Effect.{Database}
use Rattle.sqlite.specs.Held.{Held, state}
use Rattle.sqlite.specs.State.{HasCleanDisk, IsNotRun, IsUnchanged, KeepsCommit, State, Survives}
use Rattle.sqlite.specs.declared.error.Error.{Error}
use Rattle.sqlite_trees.specs.Tree.{Trees}
use Rattle.sqlite_trees.specs.declared.store.Store.{Ghosts}
use Rattle.sqlite_value.specs.Order.{Row as Columns}
use Rattle.wef_keeper.specs.Rows.{Rows, applied}
use Rattle.wef_keeper.specs.declared.keys.Change.{Change}
use Rattle.wef_sqlite.specs.Contents.{Carries, IsOurs, LeavesRows, Moves, table_in}
use Rattle.wef_sqlite.specs.Schema.{kept_schema}
use Rattle.wef_sqlite.specs.States.{IsReady, Rests}
use Rattle.wef_sqlite.specs.Telling.{Commits}
use Rattle.wef_sqlite.specs.declared.refusal.Refusal.{Refusal}
use Rattle.wef_sqlite.proofs.Keeping.{not_run_keeps}
use Rattle.wef_sqlite.proofs.Ready.{clean_if_open, ours_if_open}

-- a statement that is only compiled leaves what is committed
pub prepared_keeps : {T : Type 0} (P : T → Type 0) (old new : State) (sql : List ℕ) (result : Result T Error) → (HasCleanDisk new → IfOk result (λ s. P s × IsUnchanged old new))
    → (HasCleanDisk new → IfErr result (λ e. (params : Columns) → IsNotRun old new sql params e)) → HasCleanDisk new → KeepsCommit old new
prepared_keeps P old new sql (Ok s) ok err clean = unchanged_keeps old new (inl (ok clean).1)
prepared_keeps P old new sql (Err e) ok err clean = not_run_keeps old new sql [] e (err clean [])

-- a crash finds after a read what it found before
pub left_before : (old new : State) → Survives old new (λ _. ⊥) → HasCleanDisk new → (trees : Trees) → new.may_leave trees → old.may_leave trees
left_before old new survives clean trees left = elim (survives.crash clean trees left) [ inl was ↦ was | inr none ↦ absurd none ]

rests_keep : (old new : State) → Rests old new → KeepsCommit old new
rests_keep old new rests = record { was_open = λ still. sym rests.is_open ∙ still; committed = λ _. rests.committed }

module _ {S : Type 0} (g : Ghosts S) (shut_if_dirty : (s : S) → (g.view s).is_clean ≡ false → (g.view s).is_open ≡ false)
    (stays : (s : S) → IsTrue (g.view s).is_open → g.recovers s (g.view s).committed)
    (settles : (s : S) (db : Trees) → IsTrue (g.view s).is_open → g.recovers s db → db ≡ (g.view s).committed)
    (changes : List Change) (old mid new : Held S) (kept : (state g mid).now.schema ≡ kept_schema) (settled : IsTrue (state g mid).is_open → (state g mid).now ≡ (state g mid).committed)
    (ready : IsReady (state g mid)) (rests : HasCleanDisk (state g mid) → Rests (state g old) (state g mid)) (alive : HasCleanDisk (state g mid) → IsTrue (state g mid).is_open)
    (first : Survives (state g old) (state g mid) (λ _. ⊥)) (survives : IsOurs (state g mid).now → Survives (state g mid) (state g new) (LeavesRows (applied changes) (state g mid).now))
    (doubts : HasCleanDisk (state g new) → HasCleanDisk (state g mid)) where
  abbrev f : Rows → Rows
  f = applied changes

  ours : HasCleanDisk (state g mid) → IsOurs (state g mid).now
  ours clean = ours_if_open g shut_if_dirty stays mid ready kept settled (alive clean)

  -- what was seen is what was committed
  seen : HasCleanDisk (state g mid) → (state g mid).now ≡ (state g old).committed
  seen clean = settled (alive clean) ∙ (rests clean).committed

  applied_rows : (result : Result (Unit {0}) Refusal) → (HasCleanDisk (state g new) → OnOk result (IsOurs (state g mid).now → Carries f (state g mid).now (state g new).committed))
      → IsTrue (state g new).is_open → OnOk result (Moves f (table_in (state g old).committed.trees) (table_in (state g new).committed.trees))
  applied_rows (Ok done) carries still =
      let clean = clean_if_open g shut_if_dirty new still in
      let early = doubts clean in
      subst (λ (db : Database). Moves f (table_in db.trees) (table_in (state g new).committed.trees)) (seen early) (carries clean (ours early)).moves
  applied_rows (Err e) carries still = tt

  -- a crash finds what it found before, or what the commit made of the rows that were committed
  left_by : HasCleanDisk (state g new) → (trees : Trees) → (state g new).may_leave trees
      → (state g old).may_leave trees ⊎ (IsTrue (state g old).is_open × Moves f (table_in (state g old).committed.trees) (table_in trees))
  left_by clean trees left =
      let early = doubts clean in
      elim ((survives (ours early)).crash clean trees left) [
        | inl was ↦ inl (left_before (state g old) (state g mid) first early trees was)
        | inr made ↦ inr (sym (rests early).is_open ∙ alive early, subst (λ (db : Database). Moves f (table_in db.trees) (table_in trees)) (seen early) made.moves)
      ]

  undone_rows : (result : Result (Unit {0}) Refusal) → (HasCleanDisk (state g new) → OnErr result (KeepsCommit (state g mid) (state g new)))
      → IsTrue (state g new).is_open → OnErr result (KeepsCommit (state g old) (state g new))
  undone_rows (Ok done) undone still = tt
  undone_rows (Err e) undone still =
      let clean = clean_if_open g shut_if_dirty new still in
      keeps_then (state g old) (state g mid) (state g new) (rests_keep (state g old) (state g mid) (rests (doubts clean))) (undone clean)

  committed_open : (result : Result (Unit {0}) Refusal) → (HasCleanDisk (state g new) → OnOk result (IsTrue (state g new).is_open)) → HasCleanDisk (state g new) → OnOk result (IsTrue (state g old).is_open × IsTrue (state g new).is_open)
  committed_open (Ok done) still clean = let early = doubts clean in (sym (rests early).is_open ∙ alive early, still clean)
  committed_open (Err e) still clean = tt

  pub commits : (result : Result (Unit {0}) Refusal) → (HasCleanDisk (state g new) → OnOk result (IsOurs (state g mid).now → Carries (applied changes) (state g mid).now (state g new).committed))
      → (HasCleanDisk (state g new) → OnOk result (IsTrue (state g new).is_open)) → (HasCleanDisk (state g new) → OnErr result (KeepsCommit (state g mid) (state g new))) → Commits g changes result old new
  commits result carries still undone = record {
    clean = λ clean. let early = doubts clean in omega (arith, first.clean, early);
    alive = committed_open result still;
    makes = applied_rows result carries;
    undone = undone_rows result undone;
    left = left_by;
  }

-- a commit that is refused before it begins only reads
pub commits_refused : {S : Type 0} (g : Ghosts S) (changes : List Change) (old new : Held S) (result : Result (Unit {0}) Refusal) → OnOk result ⊥ → KeepsCommit (state g old) (state g new)
    → Survives (state g old) (state g new) (λ _. ⊥) → Commits g changes result old new
commits_refused g changes old new (Ok done) err keeps survives = absurd err
commits_refused g changes old new (Err e) err keeps survives = record {
  clean = λ clean. omega (arith, survives.clean, clean);
  alive = λ clean. tt;
  makes = λ still. tt;
  undone = λ still. keeps;
  left = λ clean trees left. inl (left_before (state g old) (state g new) survives clean trees left);
}
