-- What the two statements that write make of the table.
use Rattle.std.proofs.Common.{◌≡◌, ◌⊎◌, ℕ, List, [], ◌∷◌, map, None, Result, Ok, Err, IsPermutation, refl, sym, ap, subst, ◌∙◌, inl, inr}
use Rattle.std.proofs.lemmas.List.Sorted.{IsPermutation-sym, Contains-permutation}
use Rattle.sqlite.proofs.Callers.{statement_of, runs_as, one_step}
use Rattle.sqlite.specs.Does.{Tally, Does}
use Rattle.sqlite.specs.Effect.{Database}
use Rattle.sqlite.specs.Listing.{understood}
use Rattle.sqlite.specs.Rows.{Written}
use Rattle.sqlite.specs.State.{State, mode_of, Executes}
use Rattle.sqlite_rules.proofs.ListLemmas.{has_contained, contains_had, has_filtered, has_kept}
use Rattle.sqlite_rules.specs.Calls.{ids_of}
use Rattle.sqlite_rules.specs.Edit.{edit_of}
use Rattle.sqlite_rules.specs.Lists.{Has}
use Rattle.sqlite_rules.specs.declared.error.Rowids.TheVariants.{Given}
use Rattle.sqlite_schema.specs.declared.command.Command.TheVariants.{Delete}
use Rattle.sqlite_schema.specs.declared.program.Program.{Program}
use Rattle.sqlite_sql.specs.Program.{overlay}
use Rattle.sqlite_sql.specs.Term.{col}
use Rattle.sqlite_trees.specs.Tree.{Trees, rowid}
use Rattle.sqlite_trees.specs.View.{IsShaped}
use Rattle.sqlite_trees.specs.declared.store.Shape.TheVariants.{Table}
use Rattle.sqlite_value.specs.Order.{Row as Columns}
use Rattle.sqlite_value.specs.declared.value.Value.TheVariants.{Null}
use Rattle.wef_keeper.specs.declared.keys.Key.{Key}
use Rattle.wef_sqlite.specs.Contents.{table_in}
use Rattle.wef_sqlite.specs.Schema.{kept_schema, kept_table}
use Rattle.wef_sqlite.specs.Statements.{key_values}
use Rattle.wef_sqlite.specs.declared.write.TheConstants.{DELETE}
use Rattle.wef_sqlite.proofs.Finds.{ShowsThose, shows_those}
use Rattle.wef_sqlite.proofs.Gone.{AreIds, gone_is}
use Rattle.wef_sqlite.proofs.Keys.{has_key}
use Rattle.wef_sqlite.proofs.Maps.{without_key}
use Rattle.wef_sqlite.proofs.Texts.{key_query, delete_is, delete_plain}

-- a part that gave a value did not stop on the way
pub went : {B E R : Type 0} {b : B} {Stops : E → Type 0} → ((stop : E) × Stops stop × (Ok b ≡ Err stop)) ⊎ R → R
went (inl stopped) = absurd (let e = stopped.2 in cc)
went (inr on) = on

pub same_value : {B E : Type 0} {a b : B} → ◌≡◌ {A = Result B E} (Ok a) (Ok b) → a ≡ b
same_value e = cc

along : (xs ys : List Columns) (x : Columns) → IsPermutation xs ys → Has xs x → Has ys x
along xs ys x same h = has_contained ys x (Contains-permutation xs ys x same (contains_had xs x h))

mapped_has : {A B : Type 0} (f : A → B) (xs : List A) (x : A) → Has xs x → Has (map f xs) (f x)
mapped_has f [] x h = absurd h
mapped_has f (y ∷ xs) x (inl e) = inl (ap f e)
mapped_has f (y ∷ xs) x (inr h) = inr (mapped_has f xs x h)

has_mapped : {A B : Type 0} (f : A → B) (xs : List A) (y : B) → Has (map f xs) y → (x : A) × Has xs x × (y ≡ f x)
has_mapped f [] y h = absurd h
has_mapped f (x ∷ xs) y (inl e) = (x, inl refl, e)
has_mapped f (x ∷ xs) y (inr h) = let it = has_mapped f xs y h in (it.0, inr it.1, it.2)

-- the rowids that a query on a key shows
shown_ids : (key : Key) (tree rows : List Columns) → ShowsThose key (col 1 0 ∷ []) tree rows → AreIds (has_key key) tree rows
shown_ids key tree rows h =
    let id : Columns → Columns = λ r. rowid r ∷ [] in
    record {
      sound = λ x here.
          let from = has_mapped id h.those x (subst (λ l. Has l x) h.are here) in
          let was = has_filtered (has_key key) tree from.0 (along _ _ from.0 (IsPermutation-sym _ _ h.same) from.1) in
          (from.0, was.0, was.1, from.2);
      complete = λ r here passes. subst (λ l. Has l (rowid r ∷ [])) (sym h.are) (mapped_has id h.those r (along _ _ r h.same (has_kept (has_key key) tree r here passes)));
    }

-- a table after a statement, and the schema, which stays
pub record Leaves (old new : State) (tree : List Columns) : Type 0 where
  pub schema : new.now.schema ≡ kept_schema
  pub table : table_in new.now.trees ≡ tree

abbrev by_key : Program
by_key = record { lets = []; body = key_query (col 1 0 ∷ []) }

pub deletes_rows : (key : Key) (old new : State) (count : ℕ) → old.now.schema ≡ kept_schema → IsShaped Table (table_in old.now.trees) → Executes DELETE.now (key_values key) old new (Ok count)
    → Leaves old new (without_key key (table_in old.now.trees))
deletes_rows key old new count has shaped h =
    let params = key_values key in
    let db = old.now.trees in
    let command = Delete 0 by_key in
    let w = runs_as DELETE.now params old new kept_schema has command delete_is delete_plain count h in
    let text = statement_of DELETE.now (understood kept_schema DELETE.now) in
    let done = went (subst (λ s. Does old.step_limit (mode_of old) params (record old.now { schema = s }) text None command (Ok (w.tally, new.now))) has w.changed) in
    let now = ap (λ (p : Tally × Database). p.1) (same_value (went (went done.2).2).2) in
    let given = went done.1 in
    let written = went given.2 in
    let trees : done.0.trees ≡ written.0 = ap (λ (it : Written). it.trees) (same_value written.2) in
    let rows = (one_step kept_schema _ db written.0 (edit_of db kept_table (ids_of given.0) Given 0 []) refl written.1).rows in
    let shows = shows_those key (col 1 0 ∷ []) (overlay db []) given.0 (given.1.answer Null) in
    record {
      schema = ap (λ (d : Database). d.schema) now;
      table = ap (λ (d : Database). d.trees 0) now ∙ ap (λ (t : Trees). t 0) trees ∙ rows ∙ gone_is (has_key key) (db 0) given.0 shaped (shown_ids key (db 0) given.0 shows);
    }
