-- What is committed stays, and an answer comes of a connection that is open.
use Rattle.std.proofs.Common.{◌≡◌, ℕ, false, List, [], None, Result, Ok, Err, IfErr, IfOk, IsTrue, refl, subst, inl, inr}
use Rattle.sqlite.proofs.Callers.{IsPlain}
use Rattle.sqlite.proofs.InsideLemmas.{keeps_then, unchanged_keeps}
use Rattle.sqlite.specs.Clock.{timed}
use Rattle.sqlite.specs.Held.{Held, state}
use Rattle.sqlite.specs.Listing.{understood}
use Rattle.sqlite.specs.State.{FailsToQuery, FailsToShow, HasCleanDisk, IsNotRun, IsUnchanged, KeepsCommit, Shown, ShowsRows, State, store_error}
use Rattle.sqlite.specs.declared.error.Error.{Error}
use Rattle.sqlite.specs.declared.error.Error.TheVariants.{SqliteFailure}
use Rattle.sqlite.specs.declared.error.ErrorCode.TheVariants as code
use Rattle.sqlite_trees.specs.declared.error.StoreError.{StoreError}
use Rattle.sqlite_trees.specs.declared.error.StoreError.TheVariants.{OutOfMemory, Io, Corrupt, Full, Broken, Unstorable}
use Rattle.sqlite_trees.specs.declared.store.Store.{Ghosts}
use Rattle.sqlite_value.specs.Order.{Row as Columns}
use Rattle.wef_sqlite.proofs.Ready.{clean_if_open}

pub keeps_itself : (s : State) → KeepsCommit s s
keeps_itself s = record { was_open = λ h. h; committed = λ _. refl }

-- reads one after another
pub keeps_reads : (a b c : State) → KeepsCommit a b → KeepsCommit b c → KeepsCommit a c
keeps_reads a b c = keeps_then a b c

-- a statement that isn't run leaves what is committed
pub not_run_keeps : (old new : State) (sql : List ℕ) (params : Columns) (e : Error) → IsNotRun old new sql params e → KeepsCommit old new
unfolding IsNotRun
not_run_keeps old new sql params e (inl refused) = unchanged_keeps old new (inl refused.1)
not_run_keeps old new sql params e (inr failed) = unchanged_keeps old new (inr failed.3)

-- what a plain statement shows leaves the connection open
unchanged_if_shown : (sql : List ℕ) (params : Columns) (old new : State) (rows : List Columns) → IsPlain (understood old.now.schema sql) → Shown sql params old new rows → IsUnchanged old new
unfolding Shown
unchanged_if_shown sql params old new rows plain h =
    let none : h.0.returning ≡ None = (subst IsPlain h.1.is plain).0 in
    (subst (ShowsRows old new sql h.0 (timed params h.0.formats h.1.now) rows) none h.2).3

-- and one that fails leaves what is committed
failed_keeps : (sql : List ℕ) (params : Columns) (old new : State) (e : Error) → IsPlain (understood old.now.schema sql) → FailsToQuery sql params old new e → KeepsCommit old new
unfolding FailsToQuery
failed_keeps sql params old new e plain (inl unrun) = not_run_keeps old new sql params e unrun
failed_keeps sql params old new e plain (inr failed) =
    let none : failed.0.returning ≡ None = (subst IsPlain failed.1.is plain).0 in
    unchanged_keeps old new (inl (subst (FailsToShow old new sql failed.0 (timed params failed.0.formats failed.1.now) e) none failed.2).3)

asked : {T : Type 0} (items : T → List Columns) (sql : List ℕ) (params : Columns) (old new : State) (result : Result T Error) → IsPlain (understood old.now.schema sql)
    → IfOk result (λ rows. Shown sql params old new (items rows)) → IfErr result (FailsToQuery sql params old new) → KeepsCommit old new
asked items sql params old new (Ok rows) plain ok err = unchanged_keeps old new (inl (unchanged_if_shown sql params old new (items rows) plain ok))
asked items sql params old new (Err e) plain ok err = failed_keeps sql params old new e plain err

-- a query that is shown finds the connection open
pub shown_open : (sql : List ℕ) (params : Columns) (old new : State) (rows : List Columns) → IsPlain (understood old.now.schema sql) → Shown sql params old new rows → IsTrue new.is_open
shown_open sql params old new rows plain h = (unchanged_if_shown sql params old new rows plain h).0.is_open

module _ {S : Type 0} (g : Ghosts S) (shut_if_dirty : (s : S) → (g.view s).is_clean ≡ false → (g.view s).is_open ≡ false) (old new : Held S) where
  -- what is known of a clean disk is all that is asked
  pub keeps_if_clean : (HasCleanDisk (state g new) → KeepsCommit (state g old) (state g new)) → KeepsCommit (state g old) (state g new)
  keeps_if_clean keeps = record {
    was_open = λ still. (keeps (clean_if_open g shut_if_dirty new still)).was_open still;
    committed = λ still. (keeps (clean_if_open g shut_if_dirty new still)).committed still;
  }

  -- a plain query leaves what is committed
  pub asked_keeps : {T : Type 0} (items : T → List Columns) (sql : List ℕ) (params : Columns) (result : Result T Error) → IsPlain (understood (state g old).now.schema sql)
      → (HasCleanDisk (state g new) → IfOk result (λ rows. Shown sql params (state g old) (state g new) (items rows))) → (HasCleanDisk (state g new) → IfErr result (FailsToQuery sql params (state g old) (state g new)))
      → KeepsCommit (state g old) (state g new)
  asked_keeps items sql params result plain ok err = keeps_if_clean (λ clean. asked items sql params (state g old) (state g new) result plain (ok clean) (err clean))

-- a connection that answers that it is shut is so
shut_by : (cause : StoreError) (old new : State) → SqliteFailure code.Closed ≡ store_error cause → Rattle.sqlite.specs.State.HasCause old new ⊥ cause → old.is_open ≡ false
shut_by OutOfMemory old new e h = cc
shut_by Io old new e h = cc
shut_by Corrupt old new e h = cc
shut_by Full old new e h = cc
shut_by Broken old new e h = h
shut_by Unstorable old new e h = cc

closed_is_shut : (old new : State) (sql : List ℕ) (params : Columns) → IsNotRun old new sql params (SqliteFailure code.Closed) → old.is_open ≡ false
unfolding IsNotRun
closed_is_shut old new sql params (inl (inl refused, same)) = absurd (let e = refused.2 in cc)
closed_is_shut old new sql params (inl (inr refused, same)) = absurd (elim refused.2 [ inl it ↦ (let e = it.1 in cc) | inr more ↦ elim more [ inl it ↦ (let e = it.1 in cc) | inr it ↦ (let e = it.1 in cc) ] ])
closed_is_shut old new sql params (inr failed) = shut_by failed.0 old new failed.1 failed.2

pub closed_by : {T : Type 0} (old new : State) (sql : List ℕ) (result : Result T Error) → result ≡ Err (SqliteFailure code.Closed) → (HasCleanDisk new → IfErr result (λ e. (params : Columns) → IsNotRun old new sql params e))
    → HasCleanDisk new → old.is_open ≡ false
closed_by old new sql result is err clean = closed_is_shut old new sql [] (subst (λ r. IfErr r (λ e. (params : Columns) → IsNotRun old new sql params e)) is (err clean) [])
