-- What a page's statement shows: the rows of its section behind a key, in the order of their keys, as many as are asked for.
use Rattle.std.proofs.Common.{◌≡◌, ◌+◌, ◌&&◌, ◌++◌, ℕ, suc, Bool, true, false, cond, Option, Some, None, List, [], ◌∷◌, map, take, flat_map, refl, sym, ap, subst, ◌∙◌, arith, T, Ordering, Less, Equal, Greater, IsPermutation, IfOk, IsTrue, OnOk, Result, Ok, Err, if◌then◌else◌, is_some, slice_index_or}
use Rattle.std.specs.Cmp.{Equal-is}
use Rattle.std.specs.FinMap.{entries, entries_sorted, get-entries, get-from_entries}
use Rattle.std.specs.FinMap.Entries.{find, is_sorted, is_sorted-where_key, find-where_key, same_entries, where_key}
use Rattle.std.specs.List.{AllByRecursion, cons_option, filter, list_all}
use Rattle.std.specs.List.Sorted.{IsSorted}
use Rattle.std.specs.Option.{option_map}
use Rattle.std.specs.Ordering.{eq_by_cmp, is_lt, ordering_reverse}
use Rattle.sqlite.specs.Effect.{Database, IsDatabase}
use Rattle.sqlite.specs.State.{IsLive, Shown, State}
use Rattle.sqlite.proofs.Callers.{reads_as}
use Rattle.sqlite_schema.specs.declared.command.Command.TheVariants.{Select}
use Rattle.sqlite_sql.specs.Program.{overlay}
use Rattle.sqlite_sql.specs.Query.{IsAnswer, Output, as_count, output, output_cmp, limited}
use Rattle.sqlite_sql.specs.Term.{eval, holds}
use Rattle.sqlite_trees.specs.Tree.{IsAscending, Trees}
use Rattle.sqlite_trees.proofs.ListLemmas.{all-filter, all-permutation, ascending-filter, map-map, pull_back}
use Rattle.sqlite_value.specs.Order.{Row as Columns}
use Rattle.sqlite_value.specs.declared.value.Value.TheVariants.{Null}
use Rattle.wef_keeper.specs.Rows.{key_cmp, key_cmp_exact, key_cmp_total, row_of}
use Rattle.wef_keeper.specs.declared.keys.Cell.{Cell}
use Rattle.wef_keeper.specs.declared.keys.Key.{Key}
use Rattle.wef_sqlite.proofs.Keys.{key_is, row_key}
use Rattle.wef_sqlite.proofs.PageLists.{apart_along, goes_up, made_along, zip_take}
use Rattle.wef_sqlite.proofs.PageStatements.{behind_is, behind_unlisted, query_behind, wants}
use Rattle.wef_sqlite.proofs.PageTests.{order_is, passes_is}
use Rattle.wef_sqlite.proofs.Plain.{behind_plain}
use Rattle.wef_sqlite.proofs.Texts.{names}
use Rattle.wef_sqlite.proofs.Whole.{whole}
use Rattle.wef_sqlite.specs.Contents.{IsOurs, ShareKey, are_rows, pairs, read_row, rows_in, shown}
use Rattle.wef_sqlite.specs.Paging.{OnRows, SayRows, is_behind, rows_behind}
use Rattle.wef_sqlite.specs.Schema.{kept_schema}
use Rattle.wef_sqlite.specs.Statements.{text_behind, values_behind}
use Rattle.wef_sqlite.specs.States.{Rests}
use Rattle.wef_sqlite.specs.declared.refusal.Refusal.{Refusal}
use Rattle.wef_sqlite.specs.declared.read.Section.{Section}
use Rattle.wef_sqlite.specs.declared.read.Section.TheVariants.{Number, Channel, Source, Sub, Kind}

-- a row that is one of ours
abbrev Read : Columns → Type 0
Read kept = (entry : Key × Cell) × (read_row kept ≡ Some entry)

some_is : {A : Type 0} (o : Option A) → is_some o ≡ true → (a : A) × (o ≡ Some a)
some_is None h = absurd cc
some_is (Some a) h = (a, refl)

left : (a b : Bool) → (a && b) ≡ true → a ≡ true
left true b h = refl
left false b h = h

right : (a b : Bool) → (a && b) ≡ true → b ≡ true
right true b h = h
right false b h = absurd cc

all_read : (tree : List Columns) → are_rows tree ≡ true → AllByRecursion Read tree
all_read [] h = tt
all_read (kept ∷ tree) h = (some_is (read_row kept) (left (is_some (read_row kept)) (are_rows tree) h), all_read tree (right (is_some (read_row kept)) (are_rows tree) h))

-- two rows say different keys, or none
abbrev Apart : Columns → Columns → Type 0
Apart one other = ¬ ShareKey one other

apart_turned : (x y : Columns) → Apart x y → Apart y x
apart_turned x y h share = h (share.0, share.2, share.1)

-- rows that read keys that tie share a key
shared : (x y : Columns) (e f : Key × Cell) → read_row x ≡ Some e → read_row y ≡ Some f → e.0 ≡ f.0 → ShareKey x y
shared x y e f is it same = (f.0, row_key x e is ∙ ap (λ k. Some k) same, row_key y f it)

swapped : {A : Type 0} (a b : Bool) (x y z : A) → (a ≡ true → b ≡ true → ⊥) → cond a x (cond b y z) ≡ cond b y (cond a x z)
swapped true true x y z apart = absurd (apart refl refl)
swapped true false x y z apart = refl
swapped false b x y z apart = refl

-- what is found at a key, wherever the rows stand
module _ (q : Key) where
  ties : (k : Key) → eq_by_cmp key_cmp q k ≡ true → q ≡ k
  ties k h = key_cmp_exact q k ((Equal-is (key_cmp q k)).0 h)

  found_under : (x : Columns) (xs ys : List Columns) → find key_cmp q (pairs xs) ≡ find key_cmp q (pairs ys) → find key_cmp q (pairs (x ∷ xs)) ≡ find key_cmp q (pairs (x ∷ ys))
  found_under x xs ys h =
      elim (read_row x) as (λ o. find key_cmp q (cons_option o (pairs xs)) ≡ find key_cmp q (cons_option o (pairs ys))) [ None ↦ h | Some e ↦ ap (cond (eq_by_cmp key_cmp q e.0) (Some e.1)) h ]

  found_heads : (x y : Columns) (xs : List Columns) → Apart x y → find key_cmp q (pairs (x ∷ y ∷ xs)) ≡ find key_cmp q (pairs (y ∷ x ∷ xs))
  found_heads x y xs apart =
      elim (read_row x) as (λ o. read_row x ≡ o → find key_cmp q (cons_option o (cons_option (read_row y) (pairs xs))) ≡ find key_cmp q (cons_option (read_row y) (cons_option o (pairs xs)))) [
        | None ↦ λ is. refl
        | Some e ↦ λ is. elim (read_row y) as (λ o. read_row y ≡ o → find key_cmp q (e ∷ cons_option o (pairs xs)) ≡ find key_cmp q (cons_option o (e ∷ pairs xs))) [
          | None ↦ λ it. refl
          | Some f ↦ λ it. swapped (eq_by_cmp key_cmp q e.0) (eq_by_cmp key_cmp q f.0) (Some e.1) (Some f.1) (find key_cmp q (pairs xs)) (λ here there. apart (shared x y e f is it (sym (ties e.0 here) ∙ ties f.0 there)))
        ] refl
      ] refl

  pub found_along : (xs ys : List Columns) → IsPermutation xs ys → IsAscending Apart xs → find key_cmp q (pairs xs) ≡ find key_cmp q (pairs ys)
  found_along = made_along Apart apart_turned (λ xs. find key_cmp q (pairs xs)) found_under found_heads

-- rows that pass a test of their keys have the entries that do
pairs_passing : (p : Columns → Bool) (test : Key → Bool) → ((kept : Columns) (entry : Key × Cell) → read_row kept ≡ Some entry → p kept ≡ test entry.0)
    → (tree : List Columns) → AllByRecursion Read tree → pairs (filter p tree) ≡ where_key key_cmp test (pairs tree)
pairs_passing p test same [] read = refl
pairs_passing p test same (kept ∷ tree) read =
    let entry = read.0.0 in
    let front = filter p tree in
    let back = where_key key_cmp test (pairs tree) in
    let rest = pairs_passing p test same tree read.1 in
    let here : pairs (cond (test entry.0) (kept ∷ front) front) ≡ cond (test entry.0) (entry ∷ back) back =
    elim (test entry.0) as (λ b. pairs (cond b (kept ∷ front) front) ≡ cond b (entry ∷ back) back) [
      | true ↦ ap (λ o. cons_option o (pairs front)) read.0.1 ∙ ap (λ l. entry ∷ l) rest
      | false ↦ rest
    ] in
    ap (λ b. pairs (cond b (kept ∷ front) front)) (same kept entry read.0.1) ∙ here ∙ sym (ap (λ o. where_key key_cmp test (cons_option o (pairs tree))) read.0.1)

-- an order that isn't turned and doesn't tie goes up
strict : (r : Ordering) → is_lt (ordering_reverse r) ≡ false → (r ≡ Equal → ⊥) → r ≡ Less
strict Less h apart = refl
strict Equal h apart = absurd (apart refl)
strict Greater h apart = cc

later : {X : Type 0} (cmp : X → X → Ordering) (x : X) (xs : List X) → IsSorted cmp (x ∷ xs) → IsSorted cmp xs
later cmp x xs up k d low high =
    let same : suc k + 1 ≡ suc (k + 1) = omega arith in
    subst (λ n. is_lt (cmp (slice_index_or (x ∷ xs) n d) (slice_index_or xs k d)) ≡ false) same (up (suc k) d (omega arith) (omega (arith, high)))

-- rows in the order of a statement have their entries in the keys' order
rising : (section : Section) (params : Columns) (zs : List Columns) → AllByRecursion Read zs → IsAscending Apart zs
    → IsSorted (output_cmp (query_behind section)) (map (λ kept. output (query_behind section) (params ∷ kept ∷ [])) zs) → T (is_sorted key_cmp (pairs zs))
rising section params [] read apart up = tt
rising section params (x ∷ []) read apart up = subst (λ o. T (is_sorted key_cmp (cons_option o []))) (sym read.0.1) tt
rising section params (x ∷ y ∷ zs) read apart up =
    let e = read.0.0 in
    let f = read.1.0.0 in
    let out : Columns → Output = λ kept. output (query_behind section) (params ∷ kept ∷ []) in
    let rest = rising section params (y ∷ zs) read.1 apart.1 (later (output_cmp (query_behind section)) (out x) (map out (y ∷ zs)) up) in
    let turned : is_lt (key_cmp f.0 e.0) ≡ false = sym (ap is_lt (order_is params y x f.0 e.0 (key_is (shown y) f.0 (row_key y f read.1.0.1)) (key_is (shown x) e.0 (row_key x e read.0.1)))) ∙ up 0 (out x) (omega arith) (omega arith) in
    let less : key_cmp e.0 f.0 ≡ Less =
    strict (key_cmp e.0 f.0) (ap is_lt (sym (key_cmp_total.antisymm f.0 e.0)) ∙ turned) (λ tie. apart.0.0 (shared x y e f read.0.1 read.1.0.1 (key_cmp_exact e.0 f.0 tie))) in
    subst (λ o. T (is_sorted key_cmp (cons_option o (cons_option (read_row y) (pairs zs))))) (sym read.0.1)
    (subst (λ o. T (is_sorted key_cmp (e ∷ cons_option o (pairs zs)))) (sym read.1.0.1)
    (goes_up key_cmp_total e f (pairs zs) less (subst (λ o. T (is_sorted key_cmp (cons_option o (pairs zs)))) read.1.0.1 rest)))

shown_say : (zs : List Columns) → AllByRecursion Read zs → SayRows (map shown zs) (map row_of (pairs zs))
shown_say [] read = tt
shown_say (x ∷ zs) read =
    subst (λ o. SayRows (shown x ∷ map shown zs) (map row_of (cons_option o (pairs zs)))) (sym read.0.1) (ap (option_map row_of) read.0.1, shown_say zs read.1)

-- the rows that pass WHERE
passing : (params : Columns) (p : Columns → Bool) (tree : List Columns) → flat_map (λ r. if p r then (params ∷ r ∷ []) ∷ [] else []) tree ≡ map (λ r. params ∷ r ∷ []) (filter p tree)
passing params p [] = refl
passing params p (r ∷ tree) =
    let env = λ (r : Columns). params ∷ r ∷ [] in
    let rest = passing params p tree in
    elim (p r) as (λ b. (if b then env r ∷ [] else []) ++ flat_map (λ r. if p r then env r ∷ [] else []) tree ≡ map env (cond b (r ∷ filter p tree) (filter p tree))) [ true ↦ ap (λ l. env r ∷ l) rest | false ↦ rest ]

limit_is : (section : Section) (after : Key) (room : ℕ) → as_count (eval (query_behind section).limit (values_behind section after room ∷ [])) ≡ Some room
limit_is Number after room = refl
limit_is Channel after room = refl
limit_is Source after room = refl
limit_is Sub after room = refl
limit_is Kind after room = refl

-- the answer of a section's statement
pub answer_says : (section : Section) (after : Key) (room : ℕ) (trees : Trees) (answer : List Columns) → IsAscending Apart (trees 0) → are_rows (trees 0) ≡ true
    → IsAnswer (query_behind section) (overlay trees []) (values_behind section after room) answer → SayRows answer (take room (rows_behind section after (rows_in (trees 0))))
answer_says section after room trees answer apart ours a =
    let tree = trees 0 in
    let params = values_behind section after room in
    let query = query_behind section in
    let test = is_behind section after in
    let rows = rows_in tree in
    let passes : Columns → Bool = λ kept. list_all (holds (params ∷ kept ∷ [])) (wants section) in
    let out : Columns → Output = λ kept. output query (params ∷ kept ∷ []) in
    let left_over = filter passes tree in
    let all = all_read tree ours in
    let some_apart = ascending-filter Apart passes tree apart in
    let kept : a.kept ≡ map out left_over = a.distinct ∙ ap (map (output query)) (a.grouped ∙ passing params passes tree) ∙ map-map (output query) (λ r. params ∷ r ∷ []) left_over in
    let pulled = pull_back out a.kept a.ordered a.same left_over kept in
    let zs = pulled.0 in
    let read = all-permutation Read left_over zs pulled.1 (all-filter Read passes tree all) in
    let zs_apart = apart_along Apart apart_turned left_over zs pulled.1 some_apart in
    let up = rising section params zs read zs_apart (subst (IsSorted (output_cmp query)) pulled.2 a.sorted) in
    let same : (kept : Columns) (entry : Key × Cell) → read_row kept ≡ Some entry → passes kept ≡ test entry.0 = λ kept entry is. passes_is section after room kept entry.0 (key_is (shown kept) entry.0 (row_key kept entry is)) in
    let section_entries = where_key key_cmp test (entries rows) in
    let alike : (q x : Key) → key_cmp q x ≡ Equal → test x ≡ test q = λ q x tie. ap test (sym (key_cmp_exact q x tie)) in
    let found : (q : Key) → find key_cmp q (pairs zs) ≡ find key_cmp q section_entries = λ q.
    sym (found_along q left_over zs pulled.1 some_apart)
    ∙ ap (find key_cmp q) (pairs_passing passes test same tree all)
    ∙ find-where_key key_cmp test q (alike q) (pairs tree)
    ∙ ap (λ o. cond (test q) o None) (sym (get-from_entries key_cmp_total (pairs tree) q) ∙ get-entries rows q)
    ∙ sym (find-where_key key_cmp test q (alike q) (entries rows)) in
    let entries_are : pairs zs ≡ section_entries = same_entries key_cmp key_cmp_total key_cmp_exact (pairs zs) section_entries up (is_sorted-where_key key_cmp test (entries rows) (entries_sorted rows)) found in
    let shows : answer ≡ take room (map shown zs) =
    a.shown ∙ ap (λ o. limited o (map (λ (o : Output). o.1) a.ordered)) (limit_is section after room) ∙ ap (λ os. take room (map (λ (o : Output). o.1) os)) pulled.2 ∙ ap (take room) (map-map (λ (o : Output). o.1) out zs) in
    subst (λ l. SayRows l (take room (map row_of section_entries))) (sym shows)
    (zip_take _ room (map shown zs) (map row_of section_entries) (subst (λ es. SayRows (map shown zs) (map row_of es)) entries_are (shown_say zs read)))

-- a section's statement shows the rows of the section
section_shown : (section : Section) (after : Key) (room : ℕ) (old new : State) (answer : List Columns) → old.now.schema ≡ kept_schema → IsLive old → Rests old new
    → Shown (text_behind section) (values_behind section after room) old new answer → OnRows new (λ rows. SayRows answer (take room (rows_behind section after rows)))
section_shown section after room old new answer has live rests h is_open shaped ours =
    let params = values_behind section after room in
    let query = query_behind section in
    let read = reads_as (text_behind section) params old new kept_schema has (Select (record { lets = []; body = query }) names) (behind_is section) (behind_plain section kept_schema refl) (behind_unlisted section) answer h in
    let a : IsAnswer query (overlay old.now.trees []) params answer = read.answer Null in
    let ours_new : IsOurs new.now = record { schema = ap (λ (db : Database). db.schema) rests.now ∙ has; shaped = shaped } in
    let sound = subst IsDatabase (sym rests.now) (live (subst IsTrue rests.is_open is_open)).0 in
    let apart = (whole new.now ours_new sound).apart in
    answer_says section after room new.now.trees answer apart ours (subst (λ (db : Database). IsAnswer query (overlay db.trees []) params answer) (sym rests.now) a)

pub section_says : {A : Type 0} (items : A → List Columns) (section : Section) (after : Key) (room : ℕ) (old new : State) (r : Result A Refusal) → old.now.schema ≡ kept_schema → IsLive old → OnOk r (Rests old new)
    → IfOk r (λ answer. Shown (text_behind section) (values_behind section after room) old new (items answer)) → IfOk r (λ answer. OnRows new (λ rows. SayRows (items answer) (take room (rows_behind section after rows))))
section_says items section after room old new (Ok answer) has live rests h = section_shown section after room old new (items answer) has live rests h
section_says items section after room old new (Err refusal) has live rests h = tt
