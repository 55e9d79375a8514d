-- A database of ours that obeys its schema has no two rows of one key.
use Rattle.std.proofs.Common.{IsTrue, ◌≡◌, Bool, true, false, not, ◌&&◌, List, [], ◌∷◌, Some, refl, sym, ap, subst, ◌∙◌, inl, inr, ℤ, Less, Greater, true≢false}
use Rattle.std.specs.Ordering.{is_ne, ordering_reverse}
use Rattle.sqlite.specs.Effect.{Database, IsDatabase}
use Rattle.sqlite.specs.Held.{Held, state}
use Rattle.sqlite.specs.State.{IsLive}
use Rattle.sqlite_trees.specs.declared.store.Store.{Ghosts}
use Rattle.wef_sqlite.specs.States.{IsReady}
use Rattle.wef_sqlite.proofs.Ready.{ours_if_open}
use Rattle.sqlite_rules.proofs.ListLemmas.{all_has, all_from, some_from}
use Rattle.sqlite_rules.proofs.TableLemmas.{int_is}
use Rattle.sqlite_rules.specs.Lists.{Has}
use Rattle.sqlite_schema.specs.Rules.{Keeps, agree, clashes, differ, equal}
use Rattle.sqlite_schema.specs.declared.schema.Constraint.TheVariants.{Unique}
use Rattle.sqlite_sql.specs.Ops.{binary, is_true, from_truth}
use Rattle.sqlite_trees.specs.Tree.{IsAscending, rowid}
use Rattle.sqlite_trees.specs.View.{IsShaped}
use Rattle.sqlite_trees.specs.declared.store.Shape.TheVariants as shape
use Rattle.sqlite_value.specs.Keys.{first_key}
use Rattle.sqlite_value.proofs.OrderLemmas.{value_cmp_total}
use Rattle.sqlite_value.specs.Order.{Row as Columns, column, value_cmp}
use Rattle.sqlite_value.specs.declared.keys.Collation.TheVariants.{Binary}
use Rattle.sqlite_value.specs.declared.value.Value.{Value}
use Rattle.sqlite_value.specs.declared.value.Value.TheVariants.{Int}
use Rattle.wef_sqlite.specs.Contents.{IsOurs, IsWhole, ShareKey, shown, table_in}
use Rattle.wef_sqlite.specs.Schema.{kept_schema, kept_index, key_places}
use Rattle.wef_sqlite.proofs.Finds.{takes_own}
use Rattle.wef_sqlite.proofs.Keys.{has_key, key_is}

-- what stands in order before what, from what holds of any two of the list
apart_from : {X : Type 0} (R Q : X → X → Type 0) (xs all : List X) → ((x y : X) → Has all x → Has all y → R x y → Q x y) → ((x : X) → Has xs x → Has all x) → IsAscending R xs → IsAscending Q xs
apart_from R Q [] all each part up = tt
apart_from R Q (x ∷ xs) all each part up = (
  all_from (Q x) xs (λ y here. each x y (part x (inl refl)) (part y (inr here)) (all_has (R x) xs y up.0 here)),
  apart_from R Q xs all each (λ y here. part y (inr here)) up.1,
)

-- two rows with one key agree at its columns
agreed : (one other : Columns) → ShareKey one other → agree kept_index.order key_places other key_places one ≡ true
unfolding first_key
agreed one other share =
    let says = key_is (shown one) share.0 share.1 in
    let same : has_key share.0 other ≡ agree kept_index.order key_places other key_places one =
    λ i. equal Binary (column other 1) (sym says.kind i) && (equal Binary (column other 2) (sym says.sub i) && (equal Binary (column other 3) (sym says.source i)
    && (equal Binary (column other 4) (sym says.channel i) && (equal Binary (column other 5) (sym says.number i) && true)))) in
    sym same ∙ takes_own share.0 other share.2

-- two rowids of which one is above the other differ
differ_ids : (a b : Value) (m n : ℤ) → a ≡ Int m → b ≡ Int n → value_cmp a b ≡ Greater → differ a b ≡ true
unfolding binary
differ_ids a b m n p q above = (λ i. differ (p i) (q i)) ∙ ap (λ o. is_true (from_truth (Some (is_ne o)))) ((λ i. value_cmp (sym p i) (sym q i)) ∙ above)

not_and : (b : Bool) → (not b && true) ≡ true → b ≡ false
not_and true h = absurd (true≢false (sym h))
not_and false h = refl

both_true : (a b : Bool) → a ≡ true → b ≡ true → (a && b) ≡ true
both_true true b p q = q
both_true false b p q = absurd (true≢false (sym p))

never_share : (db : Database) → db.schema ≡ kept_schema → IsDatabase db → IsShaped shape.Table (table_in db.trees) → (one other : Columns) → Has (table_in db.trees) one → Has (table_in db.trees) other
    → value_cmp (rowid one) (rowid other) ≡ Less → ¬ (ShareKey one other)
never_share db kept sound shaped one other here there below share =
    let rows = table_in db.trees in
    let rules : Keeps Unique kept_schema db.trees = subst (λ s. Keeps Unique s db.trees) kept (sound.obeys.rules Unique) in
    let alone = not_and (clashes kept_index.order key_places rows one) (all_has _ rows one rules.0 here) in
    let int = int_is (rowid one) (all_has _ rows one shaped.1 here) in
    let int_too = int_is (rowid other) (all_has _ rows other shaped.1 there) in
    let above : value_cmp (rowid other) (rowid one) ≡ Greater = value_cmp_total.antisymm (rowid other) (rowid one) ∙ ap ordering_reverse below in
    let clash = both_true _ _ (agreed one other share) (differ_ids (rowid other) (rowid one) _ _ int_too int above) in
    true≢false (sym (some_from (λ r. agree kept_index.order key_places r key_places one && differ (rowid r) (rowid one)) rows other there clash) ∙ alone)

-- our table in a database that obeys its schema is whole
pub whole : (db : Database) → IsOurs db → IsDatabase db → IsWhole (table_in db.trees)
whole db ours sound = record {
  shaped = ours.shaped;
  apart = apart_from (λ one other. value_cmp (rowid one) (rowid other) ≡ Less) (λ one other. ¬ (ShareKey one other)) (table_in db.trees) (table_in db.trees)
      (never_share db ours.schema sound ours.shaped) (λ x here. here) ours.shaped.0;
}

-- a connection that is open between calls shows our table whole
pub whole_if_open : {S : Type 0} (g : Ghosts S) (shut_if_dirty : (s : S) → (g.view s).is_clean ≡ false → (g.view s).is_open ≡ false)
    (stays : (s : S) → IsTrue (g.view s).is_open → g.recovers s (g.view s).committed) (h : Held S) → IsReady (state g h) → (state g h).now.schema ≡ kept_schema
    → (IsTrue (state g h).is_open → (state g h).now ≡ (state g h).committed) → IsLive (state g h) → IsTrue (state g h).is_open → IsWhole (table_in (state g h).now.trees)
whole_if_open g shut_if_dirty stays h ready kept settled live still = whole (state g h).now (ours_if_open g shut_if_dirty stays h ready kept settled still) (live still).0
