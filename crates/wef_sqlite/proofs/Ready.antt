-- The rowids of the table rise, from its opening on.
use Rattle.std.proofs.Common.{◌≡◌, false, refl, sym, ap, subst, subst₂, ◌≤◌, ◌∙◌, arith, Result, Ok, Err, IfOk, OnOk, inl, inr, IsTrue, true≢false}
use Rattle.std.proofs.lemmas.Bool.{cases_Bool}
use Rattle.sqlite.specs.Effect.{Database}
use Rattle.sqlite.specs.Held.{Held, state}
use Rattle.sqlite.specs.State.{HasCleanDisk, IsLive, Opens, State, Survives}
use Rattle.sqlite_catalog.proofs.LayoutLemmas.{table_shape}
use Rattle.sqlite_catalog.specs.Listing.{IsSound}
use Rattle.sqlite_trees.proofs.Doubt.{no_doubt}
use Rattle.sqlite_trees.specs.Objects.{IsListed, catalog_tree}
use Rattle.sqlite_trees.specs.Tree.{Trees}
use Rattle.sqlite_trees.specs.View.{View, doubt, IsClean, IsOrdered, IsShaped}
use Rattle.sqlite_trees.specs.declared.store.Shape.{Shape}
use Rattle.sqlite_trees.specs.declared.store.Shape.TheVariants as shape
use Rattle.sqlite_trees.specs.declared.store.Store.{Ghosts}
use Rattle.wef_sqlite.specs.Contents.{IsOurs, table_in}
use Rattle.wef_sqlite.specs.Schema.{kept_schema, kept_table}
use Rattle.wef_sqlite.specs.States.{IsReady, Rests}
use Rattle.wef_sqlite.specs.declared.refusal.Refusal.{Refusal}

-- a store that lists a sound schema with the table has it as a table
pub table_shaped : (v : View) → IsOrdered v.shape v.trees → IsListed (v.trees catalog_tree) v.shape v.reals → IsSound kept_schema v.trees → IsShaped shape.Table (table_in v.trees)
table_shaped v ordered listed sound =
    let catalog = subst (λ (s : Shape). IsShaped s (v.trees catalog_tree)) listed.itself.0 (ordered catalog_tree) in
    subst (λ (s : Shape). IsShaped s (table_in v.trees)) (table_shape listed catalog.0 sound.lists.listed kept_table (inl refl)).0 (ordered 0)

-- what a crash leaves after a read it left before
pub ready_read : (old new : State) → Survives old new (λ _. ⊥) → IsReady old → IsReady new
ready_read old new survives ready clean trees left = elim (survives.crash clean trees left) [
  | inl was ↦ ready (omega (arith, survives.clean, clean)) trees was
  | inr none ↦ absurd none
]

-- the laws of a store that are needed here
module _ {S : Type 0} (g : Ghosts S) (shut_if_dirty : (s : S) → (g.view s).is_clean ≡ false → (g.view s).is_open ≡ false) where
  -- a connection that is open has a clean disk
  pub clean_if_open : (h : Held S) → IsTrue (state g h).is_open → HasCleanDisk (state g h)
  clean_if_open h still = elim (cases_Bool (g.view h.store).is_clean) [
    | inl clean ↦ no_doubt (g.view h.store).is_clean clean
    | inr dirty ↦ absurd (true≢false (sym still ∙ shut_if_dirty h.store dirty))
  ]

  module _ (stays : (s : S) → IsTrue (g.view s).is_open → g.recovers s (g.view s).committed) where
    -- in the rows that are committed the rowids rise
    pub shaped_if_open : (h : Held S) → IsReady (state g h) → IsTrue (state g h).is_open → IsShaped shape.Table (table_in (state g h).committed.trees)
    shaped_if_open h ready still = ready (clean_if_open h still) (g.view h.store).committed (stays h.store still)

    pub ours_if_open : (h : Held S) → IsReady (state g h) → (state g h).now.schema ≡ kept_schema → (IsTrue (state g h).is_open → (state g h).now ≡ (state g h).committed) → IsTrue (state g h).is_open → IsOurs (state g h).now
    ours_if_open h ready kept settled still =
        record { schema = kept; shaped = subst (λ (db : Database). IsShaped shape.Table (table_in db.trees)) (sym (settled still)) (shaped_if_open h ready still) }

-- a connection that was opened from a store that isn't broken, with our table
pub opened_ready : {S : Type 0} (g : Ghosts S) (ordered : (s : S) → (g.view s).is_broken ≡ false → IsOrdered (g.view s).shape (g.view s).trees)
    (listed : (s : S) → (g.view s).is_broken ≡ false → IsListed ((g.view s).trees catalog_tree) (g.view s).shape (g.view s).reals)
    (settled : (s : S) (db : Trees) → IsTrue (g.view s).is_open → g.recovers s db → db ≡ (g.view s).committed) (store : S) (again : Held S)
    → (IsClean (g.view store) → (g.view store).is_broken ≡ false) → doubt (g.view store).is_clean ≤ doubt (state g again).is_clean
    → (HasCleanDisk (state g again) → (state g again).now.trees ≡ (g.view store).trees) → (HasCleanDisk (state g again) → Opens (state g again) × IsLive (state g again))
    → (state g again).now.schema ≡ kept_schema → IsReady (state g again)
opened_ready g ordered listed settled store again whole doubts same opened kept clean trees left =
    let opens = (opened clean).0 in
    let unbroken = whole (omega (arith, doubts, clean)) in
    let sound : IsSound (state g again).now.schema (state g again).now.trees = ((opened clean).1 opens.is_open).0 in
    let ours : IsSound kept_schema (g.view store).trees = subst₂ IsSound kept (same clean) sound in
    let shaped = table_shaped (g.view store) (ordered store unbroken) (listed store unbroken) ours in
    let found : trees ≡ (g.view store).trees = settled again.store trees opens.is_open left ∙ ap (λ (db : Database). db.trees) (sym opens.clean) ∙ same clean in
    subst (λ (t : Trees). IsShaped shape.Table (table_in t)) (sym found) shaped

-- what a call says of the rows that are shown it says of those that are committed
module _ {S : Type 0} (g : Ghosts S) (shut_if_dirty : (s : S) → (g.view s).is_clean ≡ false → (g.view s).is_open ≡ false) (old new : Held S)
    (settled : IsTrue (state g old).is_open → (state g old).now ≡ (state g old).committed) where
  as_committed : Rests (state g old) (state g new) → IsTrue (state g new).is_open → (state g new).now ≡ (state g new).committed
  as_committed rests still = rests.now ∙ settled (sym rests.is_open ∙ still) ∙ sym rests.committed

  pub committed_if : {T : Type 0} (result : Result T Refusal) (P : T → Trees → Type 0) → (HasCleanDisk (state g new) → OnOk result (Rests (state g old) (state g new)))
      → (HasCleanDisk (state g new) → IfOk result (λ x. P x (state g new).now.trees)) → IsTrue (state g new).is_open → IfOk result (λ x. P x (state g new).committed.trees)
  committed_if (Ok x) P rests says still =
      let clean = clean_if_open g shut_if_dirty new still in
      subst (λ (db : Database). P x db.trees) (as_committed (rests clean) still) (says clean)
  committed_if (Err e) P rests says still = tt

  pub committed_on : {T : Type 0} (result : Result T Refusal) (P : Trees → Type 0) → (HasCleanDisk (state g new) → OnOk result (Rests (state g old) (state g new)))
      → (HasCleanDisk (state g new) → OnOk result (P (state g new).now.trees)) → IsTrue (state g new).is_open → OnOk result (P (state g new).committed.trees)
  committed_on (Ok x) P rests says still =
      let clean = clean_if_open g shut_if_dirty new still in
      subst (λ (db : Database). P db.trees) (as_committed (rests clean) still) (says clean)
  committed_on (Err e) P rests says still = tt
