-- What the statement that puts a row makes of the table.
use Rattle.std.proofs.Common.{◌≡◌, ℕ, ℤ, pos, Bool, true, false, not, ◌&&◌, ◌||◌, cond, List, [], ◌∷◌, Option, Some, None, Ok, refl, sym, ap, subst, ◌∙◌, inl, inr, true≢false, is_eq}
use Rattle.sqlite.proofs.Callers.{statement_of, runs_as, one_step}
use Rattle.sqlite.specs.Does.{Tally, Does}
use Rattle.sqlite.specs.Effect.{Database}
use Rattle.sqlite.specs.Listing.{understood}
use Rattle.sqlite.specs.Rows.{Written, Task, nothing, count_of, Clears, Puts, Judged, Upserts, Tries, TriesEach}
use Rattle.sqlite.specs.State.{State, mode_of, Executes}
use Rattle.sqlite_rules.proofs.ListLemmas.{all_has, some_from}
use Rattle.sqlite_rules.proofs.PlaceLemmas.{next_is_free}
use Rattle.sqlite_rules.proofs.TableLemmas.{int_is}
use Rattle.sqlite_rules.specs.Calls.{ids_of}
use Rattle.sqlite_rules.specs.Cast.{cast, cast_row}
use Rattle.sqlite_rules.specs.Edit.{edit_of, id_in, with_rowid, is_taken, next_rowid, without_all}
use Rattle.sqlite_rules.specs.Keys.{conflicts, AreConflicts}
use Rattle.sqlite_rules.specs.Lists.{Has}
use Rattle.sqlite_rules.specs.declared.error.Refusal.{Refusal}
use Rattle.sqlite_rules.specs.declared.error.Rowids.TheVariants.{Given, Chosen}
use Rattle.sqlite_schema.specs.Rules.{agree, equal}
use Rattle.sqlite_schema.specs.declared.command.Command.TheVariants.{InsertOr}
use Rattle.sqlite_schema.specs.declared.command.Conflict.TheVariants.{Replace}
use Rattle.sqlite_schema.specs.declared.command.Source.TheVariants.{Values}
use Rattle.sqlite_schema.specs.declared.schema.Keys.TheVariants.{Enforced}
use Rattle.sqlite_schema.specs.declared.schema.Kind.TheVariants.{Integer}
use Rattle.sqlite_sql.specs.Ops.{unary, binary, is_true, from_truth}
use Rattle.sqlite_trees.specs.Tree.{Trees, rowid, put_row}
use Rattle.sqlite_trees.specs.View.{IsShaped}
use Rattle.sqlite_trees.specs.declared.store.Shape.TheVariants.{Table}
use Rattle.sqlite_value.specs.Keys.{plain, first_key}
use Rattle.sqlite_value.specs.Order.{Row as Columns, value_cmp}
use Rattle.sqlite_value.specs.declared.keys.Collation.TheVariants.{Binary}
use Rattle.sqlite_value.specs.declared.value.Value.{Value}
use Rattle.sqlite_value.specs.declared.value.Value.TheVariants.{Null, Int, Text}
use Rattle.wef_keeper.specs.declared.keys.Row.{Row}
use Rattle.wef_sqlite.specs.Contents.{table_in}
use Rattle.wef_sqlite.specs.Schema.{kept_schema, kept_table, kept_index}
use Rattle.wef_sqlite.specs.Statements.{row_values}
use Rattle.wef_sqlite.specs.declared.write.TheConstants.{PUT}
use Rattle.wef_sqlite.proofs.Changes.{went, same_value}
use Rattle.wef_sqlite.proofs.Gone.{AreIds, gone_is}
use Rattle.wef_sqlite.proofs.Keys.{has_key}
use Rattle.wef_sqlite.proofs.Maps.{without_key}
use Rattle.wef_sqlite.proofs.Texts.{row_terms, put_is, put_plain}

either : (b : Bool) (x : Value) → cond b x x ≡ x
either true x = refl
either false x = refl

-- a column of whole numbers keeps a whole number as it is, and no value as none
cast_int : (n : ℤ) → cast Integer (Int n) ≡ Int n
unfolding unary
cast_int n = either _ (Int n)

cast_null : cast Integer Null ≡ Null
unfolding unary
cast_null = either _ Null

-- the row as the table keeps it
abbrev pub kept_as : ℤ → Row → Columns
kept_as id row = Int id ∷ row_values row

cast_new : (row : Row) → cast_row kept_table (Null ∷ row_values row) ≡ Null ∷ row_values row
cast_new row = λ i. cast_null i ∷ cast_int (pos row.key.kind) i ∷ Text row.key.sub ∷ Text row.key.source ∷ Text row.key.channel ∷ cast_int (pos row.key.number) i ∷ cast_int (pos row.value) i ∷ Text row.body ∷ []

cast_kept : (id : ℤ) (row : Row) → cast_row kept_table (kept_as id row) ≡ kept_as id row
cast_kept id row = λ i. cast_int id i ∷ cast_int (pos row.key.kind) i ∷ Text row.key.sub ∷ Text row.key.source ∷ Text row.key.channel ∷ cast_int (pos row.key.number) i ∷ cast_int (pos row.value) i ∷ Text row.body ∷ []

false_from : (b : Bool) → (b ≡ true → ⊥) → b ≡ false
false_from true h = absurd (h refl)
false_from false h = refl

or_false : (a b : Bool) → a ≡ false → (a || (b || false)) ≡ b
or_false true b h = absurd (true≢false h)
or_false false true h = refl
or_false false false h = refl

and_true_is : (b : Bool) → (b && true) ≡ true → b ≡ true
and_true_is true h = refl
and_true_is false h = h

equal_ints : (a b : ℤ) → equal Binary (Int a) (Int b) ≡ true → is_eq (value_cmp (Int a) (Int b)) ≡ true
unfolding binary
equal_ints a b h = by_test (is_eq (value_cmp (Int a) (Int b))) h
  where
    by_test : (t : Bool) → is_true (from_truth (Some t)) ≡ true → t ≡ true
    by_test true h = refl
    by_test false h = h

module _ (row : Row) (rows : List Columns) (shaped : IsShaped Table rows) where
  id : ℤ
  id = next_rowid rows

  free : is_taken rows (kept_as (next_rowid rows) row) ≡ false
  free = next_is_free Chosen rows (row_values row) shaped.0 shaped.1

  -- a row of the table isn't at the new rowid
  apart : (r : Columns) → Has rows r → agree plain (0 ∷ []) r (0 ∷ []) (kept_as (next_rowid rows) row) ≡ false
  unfolding first_key
  apart r here = false_from _ (λ same.
      let int = int_is (rowid r) (all_has _ rows r shaped.1 here) in
      let tie = equal_ints (id_in (rowid r)) (next_rowid rows) (subst (λ v. equal Binary v (Int (next_rowid rows)) ≡ true) int (and_true_is _ same)) in
      true≢false (sym (some_from (λ x. is_eq (value_cmp (rowid x) (Int (next_rowid rows)))) rows r here (subst (λ v. is_eq (value_cmp v (Int (next_rowid rows))) ≡ true) (sym int) tie)) ∙ free))

  -- so the rows that conflict are those that have the key
  conflict_is : (r : Columns) → Has rows r → conflicts None (kept_index ∷ []) kept_table (kept_as (next_rowid rows) row) r ≡ has_key row.key r
  unfolding first_key
  conflict_is r here = or_false _ _ (apart r here)

  pub conflict_ids : (found : List Columns) → AreConflicts None (kept_index ∷ []) kept_table rows (kept_as (next_rowid rows) row) found → AreIds (has_key row.key) rows found
  conflict_ids found are = record {
    sound = λ x here. let it = are.sound x here in (it.0, it.1, sym (conflict_is it.0 it.1) ∙ it.2, it.3);
    complete = λ r here passes. are.complete r here (conflict_is r here ∙ passes);
  }

-- what is done with the row, as the statement tells its parts apart
abbrev task_for : Option ℕ → Row → Task
task_for limit row = record { limit = limit; keys = Enforced; schema = kept_schema; table = kept_table; params = row_values row }

not_true : (b c : Bool) → (not b && c) ≡ true → b ≡ false
not_true true c h = absurd (true≢false (sym h))
not_true false c h = refl

-- a row put in the place of those that had its key
pub record IsPut (row : Row) (tree now : List Columns) : Type 0 where
  pub id : ℤ
  pub table : now ≡ put_row (kept_as id row) (without_key row.key tree)
  pub free : is_taken (without_key row.key tree) (kept_as id row) ≡ false

module _ (limit : Option ℕ) (row : Row) (db : Trees) (new : Columns) (w : Written) where
  by_verdict : (verdict : Option Refusal) → Judged (task_for limit row) Replace [] new db verdict (Ok w) → Upserts (task_for limit row) Replace new db [] (Ok w)
  by_verdict None h = h
  by_verdict (Some why) h = absurd (let e = h in cc)

  unrefused : Tries (task_for limit row) Replace [] new db (Ok w) → Upserts (task_for limit row) Replace new db [] (Ok w)
  unrefused (inl refused) = absurd (let e = refused.1 in cc)
  unrefused (inr it) = by_verdict it.0 it.2

  cleared : (found : List Columns) → Clears (task_for limit row) Replace new db found (Ok w) → (mid : Trees) × (mid 0 ≡ without_all (db 0) (ids_of found)) × Puts (task_for limit row) new mid (Ok w)
  cleared [] h = (db, refl, h)
  cleared (x ∷ more) h = let it = went h in (it.0, (one_step kept_schema Enforced db it.0 (edit_of db kept_table (ids_of (x ∷ more)) Given 0 []) refl it.1).rows, it.2)

  placed : (mid : Trees) (id : ℤ) → new ≡ kept_as id row → Puts (task_for limit row) new mid (Ok w) → (w.trees 0 ≡ put_row (kept_as id row) (mid 0)) × (is_taken (mid 0) (kept_as id row) ≡ false)
  placed mid id is h =
      let it = went h in
      let trees : w.trees ≡ it.0 = ap (λ (v : Written). v.trees) (same_value it.2) in
      let applies = one_step kept_schema Enforced mid it.0 (edit_of mid kept_table [] Given 0 (new ∷ [])) refl it.1 in
      let same : cast_row kept_table new ≡ kept_as id row = ap (cast_row kept_table) is ∙ cast_kept id row in
      (ap (λ (t : Trees). t 0) trees ∙ applies.rows ∙ ap (λ r. put_row r (mid 0)) same, ap (is_taken (mid 0)) (sym same) ∙ not_true _ _ applies.fresh)

tried_is : (limit : Option ℕ) (row : Row) (db : Trees) (w : Written) → IsShaped Table (db 0) → Tries (task_for limit row) Replace [] (kept_as (next_rowid (db 0)) row) db (Ok w) → IsPut row (db 0) (w.trees 0)
tried_is limit row db w shaped h =
    let new = kept_as (next_rowid (db 0)) row in
    let it = unrefused limit row db new w h in
    let mid = cleared limit row db new w it.0 it.2 in
    let left : mid.0 0 ≡ without_key row.key (db 0) = mid.1 ∙ gone_is (has_key row.key) (db 0) it.0 shaped (conflict_ids row (db 0) shaped it.0 it.1) in
    let put = placed limit row db new w mid.0 (next_rowid (db 0)) refl mid.2 in
    record { id = next_rowid (db 0); table = put.0 ∙ ap (put_row new) left; free = ap (λ rows. is_taken rows new) (sym left) ∙ put.1 }

-- the schema stays, and the row is put
pub record PutsRow (row : Row) (old new : State) : Type 0 where
  pub schema : new.now.schema ≡ kept_schema
  pub put : IsPut row (table_in old.now.trees) (table_in new.now.trees)

pub puts_row : (row : Row) (old new : State) (count : ℕ) → old.now.schema ≡ kept_schema → IsShaped Table (table_in old.now.trees) → Executes PUT.now (row_values row) old new (Ok count) → PutsRow row old new
puts_row row old new count has shaped h =
    let params = row_values row in
    let db = old.now.trees in
    let command = InsertOr 0 Replace (Values row_terms 8) [] in
    let w = runs_as PUT.now params old new kept_schema has command put_is put_plain count h in
    let text = statement_of PUT.now (understood kept_schema PUT.now) in
    let task = task_for old.step_limit row in
    let done = went (subst (λ s. Does old.step_limit (mode_of old) params (record old.now { schema = s }) text None command (Ok (w.tally, new.now))) has w.changed) in
    let now = ap (λ (p : Tally × Database). p.1) (same_value (went (went done.2).2).2) in
    let sourced = went done.1 in
    let counted = went sourced.2 in
    let tried = went counted.2 in
    let one = went (subst (λ rs. TriesEach task Replace [] rs (count_of counted.0) (nothing db) (Ok tried.0)) sourced.1.1 tried.1) in
    let put = tried_is old.step_limit row db one.0 shaped (subst (λ n. Tries task Replace [] n db (Ok one.0)) (ap (with_rowid Chosen (db 0)) (cast_new row)) one.1) in
    let joined = ap (λ (p : Written × ℤ). p.0.trees) (same_value one.2) in
    let uncounted = went tried.2 in
    let trees : done.0.trees ≡ one.0.trees = ap (λ (it : Written). it.trees) (same_value uncounted.2) ∙ same_value uncounted.1 ∙ joined in
    record {
      schema = ap (λ (d : Database). d.schema) now;
      put = subst (IsPut row (db 0)) (sym (ap (λ (d : Database). d.trees 0) now ∙ ap (λ (t : Trees). t 0) trees)) put;
    }
