-- The rows that a query on one key shows, and what is found there.
use Rattle.std.proofs.Common.{◌≡◌, ◌<◌, ◌≤◌, length, slice_index_or, Bool, true, false, cond, List, [], ◌∷◌, ◌++◌, map, filter, flat_map, Option, Some, None, is_some, IsPermutation, refl, sym, ap, subst, ◌∙◌, inl, inr, arith, true≢false}
use Rattle.std.proofs.lemmas.Bool.{cases_Bool}
use Rattle.std.proofs.lemmas.List.Sorted.{IsPermutation-sym, length_permutation}
use Rattle.std.specs.Cmp.{eq_by_cmp_equiv}
use Rattle.std.specs.FinMap.{get, remove, get-from_entries, get-remove, same_map}
use Rattle.std.specs.FinMap.Entries.{find}
use Rattle.std.specs.List.{cons_option}
use Rattle.std.specs.Option.{option_map}
use Rattle.std.specs.Ordering.{eq_by_cmp}
use Rattle.sqlite.proofs.Callers.{reads_as, one_permutation}
use Rattle.sqlite.specs.Effect.{Database}
use Rattle.sqlite.specs.State.{State, Shown}
use Rattle.sqlite_rules.proofs.ListLemmas.{all_from, has_filtered, has_kept}
use Rattle.sqlite_rules.specs.Lists.{Has}
use Rattle.sqlite_schema.specs.declared.command.Command.TheVariants.{Select}
use Rattle.sqlite_sql.specs.Program.{overlay}
use Rattle.sqlite_sql.specs.Query.{Output, output, IsAnswer}
use Rattle.sqlite_sql.specs.Term.{Term, Env, eval_all}
use Rattle.sqlite_trees.proofs.ListLemmas.{map-map, pull_back}
use Rattle.sqlite_trees.specs.Tree.{Trees}
use Rattle.sqlite_value.specs.Order.{Row as Columns}
use Rattle.sqlite_value.specs.declared.value.Value.TheVariants.{Null}
use Rattle.wef_base.specs.declared.numbers.TheConstants.{MAX}
use Rattle.wef_keeper.specs.Keeping.{row_at}
use Rattle.wef_keeper.specs.Rows.{key_cmp, key_cmp_total, key_cmp_exact, row_of}
use Rattle.wef_keeper.specs.declared.keys.Cell.{Cell}
use Rattle.wef_keeper.specs.declared.keys.Key.{Key}
use Rattle.wef_keeper.specs.declared.keys.Row.{Row}
use Rattle.wef_sqlite.specs.Columns.{entry_in}
use Rattle.wef_sqlite.specs.Contents.{AreReadAt, Moves, pairs, read_key, read_row, rows_in, shown, table_in}
use Rattle.wef_sqlite.specs.Schema.{kept_schema}
use Rattle.wef_sqlite.specs.States.{Rests}
use Rattle.wef_sqlite.specs.Statements.{key_values}
use Rattle.wef_sqlite.specs.declared.read.TheConstants.{GET}
use Rattle.wef_sqlite.proofs.Gone.{equal_is}
use Rattle.wef_sqlite.proofs.Keys.{key_is, has_key, has_is, option_map_some, row_key}
use Rattle.wef_sqlite.proofs.Maps.{find_with}
use Rattle.wef_sqlite.proofs.Plain.{get_plain}
use Rattle.wef_sqlite.proofs.Texts.{key_query, all_columns, names, get_is}

-- what passes, each with what is made of it
matches_are : {A B : Type 0} (p : A → Bool) (f : A → B) (xs : List A) → flat_map (λ x. cond (p x) (f x ∷ []) []) xs ≡ map f (filter p xs)
matches_are p f [] = refl
matches_are p f (x ∷ xs) = go (matches_are p f xs) (p x)
  where
    go : flat_map (λ y. cond (p y) (f y ∷ []) []) xs ≡ map f (filter p xs) → (b : Bool)
        → cond b (f x ∷ []) [] ++ flat_map (λ y. cond (p y) (f y ∷ []) []) xs ≡ map f (cond b (x ∷ filter p xs) (filter p xs))
    go more true = ap (λ l. f x ∷ l) more
    go more false = more

-- the rows that a query on a key shows: those that have the key, in some order
pub record ShowsThose (key : Key) (project : List Term) (tree rows : List Columns) : Type 0 where
  pub those : List Columns
  pub same : IsPermutation (filter (has_key key) tree) those
  pub are : rows ≡ map (λ r. eval_all project (key_values key ∷ r ∷ [])) those

pub shows_those : (key : Key) (project : List Term) (db : Trees) (rows : List Columns) → IsAnswer (key_query project) db (key_values key) rows → ShowsThose key project (table_in db) rows
shows_those key project db rows a =
    let query = key_query project in
    let env : Columns → Env = λ r. key_values key ∷ r ∷ [] in
    let out : Columns → Output = λ r. ([], eval_all project (env r)) in
    let has = filter (has_key key) (table_in db) in
    let staged : a.staged ≡ map env has = a.grouped ∙ matches_are (has_key key) env (table_in db) in
    let kept : a.kept ≡ map out has = a.distinct ∙ ap (map (output query)) staged ∙ map-map (output query) env has in
    let back = pull_back out a.kept a.ordered a.same has kept in
    record { those = back.0; same = back.1; are = a.shown ∙ ap (map (λ (o : Output). o.1)) back.2 ∙ map-map (λ (o : Output). o.1) out back.0 }

-- what is found where no row has the key
pub absent : (key : Key) (tree : List Columns) → filter (has_key key) tree ≡ [] → row_at key (rows_in tree) ≡ None
absent key tree none =
    ap (option_map (λ cell. row_of (key, cell)))
    (get-from_entries key_cmp_total (pairs tree) key ∙ find_with key tree ∙ ap (λ l. find key_cmp key (pairs l)) none)

pub takes_own : (key : Key) (kept : Columns) → read_key kept ≡ Some key → has_key key kept ≡ true
takes_own key kept says = has_is key kept key says ∙ (eq_by_cmp_equiv key_cmp_total).refl key

pub absent_reads : (key : Key) (tree : List Columns) → filter (has_key key) tree ≡ [] → AreReadAt key tree
absent_reads key tree none =
    all_from (λ kept. read_key kept ≡ Some key → is_some (read_row kept) ≡ true) tree (λ kept here says.
    absurd (subst (λ l. Has l kept) none (has_kept (has_key key) tree kept here (takes_own key kept says))))

-- and where one has it
module _ (key : Key) (tree : List Columns) (kept : Columns) (one : filter (has_key key) tree ≡ kept ∷ []) (e : Key × Cell) (reads : read_row kept ≡ Some e) where
  ties : eq_by_cmp key_cmp key e.0 ≡ true
  ties = sym (has_is key kept e.0 (row_key kept e reads)) ∙ (has_filtered (has_key key) tree kept (subst (λ l. Has l kept) (sym one) (inl refl))).1

  its_key : key ≡ e.0
  its_key = key_cmp_exact key e.0 (equal_is (key_cmp key e.0) ties)

  pub present : row_at key (rows_in tree) ≡ Some (row_of e)
  present =
      ap (option_map (λ cell. row_of (key, cell)))
      (get-from_entries key_cmp_total (pairs tree) key ∙ find_with key tree ∙ ap (λ l. find key_cmp key (pairs l)) one
      ∙ ap (λ o. find key_cmp key (cons_option o [])) reads ∙ ap (λ b. cond b (Some e.1) None) ties)
      ∙ ap (λ k. Some (row_of (k, e.1))) its_key

  pub present_reads : AreReadAt key tree
  present_reads = all_from (λ other. read_key other ≡ Some key → is_some (read_row other) ≡ true) tree (λ other here says.
      let same : other ≡ kept = elim (subst (λ l. Has l other) one (has_kept (has_key key) tree other here (takes_own key other says))) [ inl it ↦ it | inr none ↦ absurd none ] in
      ap (λ r. is_some (read_row r)) same ∙ ap is_some reads)

-- no row has a number above the greatest that is kept
module _ (key : Key) (large : MAX < key.number) where
  beyond_key : (r : Columns) (it : Key) → read_key r ≡ Some it → eq_by_cmp key_cmp key it ≡ false
  beyond_key r it says = elim (cases_Bool (eq_by_cmp key_cmp key it)) [
    | inl tie ↦ absurd (let same = key_cmp_exact key it (equal_is (key_cmp key it) tie) in let small = (key_is (shown r) it says).small in omega (arith, ap (λ (k : Key). k.number) same))
    | inr other ↦ other
  ]

  none_beyond : (tree : List Columns) → find key_cmp key (pairs tree) ≡ None
  none_beyond [] = refl
  none_beyond (r ∷ tree) = go (none_beyond tree) (read_row r) refl
    where
      go : find key_cmp key (pairs tree) ≡ None → (o : Option (Key × Cell)) → read_row r ≡ o → find key_cmp key (cons_option o (pairs tree)) ≡ None
      go more None reads = more
      go more (Some e) reads = ap (λ b. cond b (Some e.1) (find key_cmp key (pairs tree))) (beyond_key r e.0 (row_key r e reads)) ∙ more

  got_beyond : (tree : List Columns) → get (rows_in tree) key ≡ None
  got_beyond tree = get-from_entries key_cmp_total (pairs tree) key ∙ none_beyond tree

  pub beyond : (tree : List Columns) → row_at key (rows_in tree) ≡ None
  beyond tree = ap (option_map (λ cell. row_of (key, cell))) (got_beyond tree)

  pub beyond_reads : (tree : List Columns) → AreReadAt key tree
  beyond_reads tree = all_from (λ kept. read_key kept ≡ Some key → is_some (read_row kept) ≡ true) tree (λ kept here says.
      absurd (true≢false (sym ((eq_by_cmp_equiv key_cmp_total).refl key) ∙ beyond_key kept key says)))

  -- so to delete it changes nothing
  pub deletes_beyond : (tree : List Columns) → Moves (λ rows. remove rows key) tree tree
  deletes_beyond tree = record {
    rows = same_map key_cmp_total key_cmp_exact _ _ (λ q. elim (cases_Bool (eq_by_cmp key_cmp q key)) [
      | inl tie ↦ ap (get (rows_in tree)) (key_cmp_exact q key (equal_is (key_cmp q key) tie)) ∙ got_beyond tree
          ∙ sym (get-remove key_cmp_total (rows_in tree) key q ∙ ap (λ b. cond b None (get (rows_in tree) q)) tie)
      | inr other ↦ sym (get-remove key_cmp_total (rows_in tree) key q ∙ ap (λ b. cond b None (get (rows_in tree) q)) other)
    ]);
    reads = λ h. h;
  }

-- ---- the query of `get`

pub got_those : (key : Key) (old new : State) (rows : List Columns) → old.now.schema ≡ kept_schema → Shown GET.now (key_values key) old new rows → ShowsThose key all_columns (table_in old.now.trees) rows
got_those key old new rows kept h =
    shows_those key all_columns (overlay old.now.trees []) rows
    ((reads_as GET.now (key_values key) old new kept_schema kept (Select (record { lets = []; body = key_query all_columns }) names) get_is.0 (get_plain kept_schema refl) get_is.1 rows h).answer Null)

no_image : {A B : Type 0} (f : A → B) (xs : List A) → map f xs ≡ [] → xs ≡ []
no_image f [] e = refl
no_image f (x ∷ xs) e = cc

one_image : {A B : Type 0} (f : A → B) (xs : List A) (y : B) → map f xs ≡ y ∷ [] → (x : A) × (xs ≡ x ∷ []) × (y ≡ f x)
one_image f [] y e = cc
one_image f (x ∷ []) y e = (x, refl, cc)
one_image f (x ∷ z ∷ xs) y e = cc

none_permuted : {A : Type 0} (xs : List A) → IsPermutation xs [] → xs ≡ []
none_permuted [] h = refl
none_permuted (x ∷ xs) h = absurd (let e = length_permutation (x ∷ xs) [] h in omega (arith, e))

-- no row is shown, so none has the key
pub shown_none : (key : Key) (project : List Term) (tree rows : List Columns) → ShowsThose key project tree rows → rows ≡ [] → filter (has_key key) tree ≡ []
shown_none key project tree rows h none =
    let empty = no_image _ h.those (sym h.are ∙ none) in
    none_permuted (filter (has_key key) tree) (subst (IsPermutation (filter (has_key key) tree)) empty h.same)

-- one is shown, so one has it
pub shown_one : (key : Key) (tree rows : List Columns) (row : Columns) → ShowsThose key all_columns tree rows → rows ≡ row ∷ [] → (kept : Columns) × (filter (has_key key) tree ≡ kept ∷ []) × (row ≡ shown kept)
shown_one key tree rows row h one =
    let it = one_image _ h.those row (sym h.are ∙ one) in
    (it.0, one_permutation it.0 (filter (has_key key) tree) (IsPermutation-sym _ _ (subst (IsPermutation (filter (has_key key) tree)) it.1 h.same)), it.2)

empty_list : {A : Type 0} (xs : List A) → length xs < 1 → xs ≡ []
empty_list [] h = refl
empty_list (x ∷ xs) h = absurd (omega (arith, h))

pub single : {A : Type 0} (xs : List A) (x : A) → 1 ≤ length xs → length xs < 2 → x ≡ slice_index_or xs 0 x → xs ≡ x ∷ []
single [] x some few is = absurd (omega (arith, some))
single (y ∷ []) x some few is = ap (λ z. z ∷ []) (sym is)
single (y ∷ z ∷ xs) x some few is = absurd (omega (arith, few))

-- what the answer is said to be, and that the rows that say the key are ours
abbrev pub IsFound : Key → State → Option Row → Type 0
IsFound key s row = (row ≡ row_at key (rows_in (table_in s.now.trees))) × AreReadAt key (table_in s.now.trees)

as_it_was : (key : Key) (old new : State) (row : Option Row) → Rests old new → IsFound key old row → IsFound key new row
as_it_was key old new row rests h = subst (λ (db : Database). (row ≡ row_at key (rows_in (table_in db.trees))) × AreReadAt key (table_in db.trees)) (sym rests.now) h

pub found_none : (key : Key) (old new : State) (rows slice : List Columns) → old.now.schema ≡ kept_schema → Shown GET.now (key_values key) old new rows → Rests old new → slice ≡ rows → length slice < 1 → IsFound key new None
found_none key old new rows slice kept shows rests same few =
    let tree = table_in old.now.trees in
    let none = shown_none key all_columns tree rows (got_those key old new rows kept shows) (sym same ∙ empty_list slice few) in
    as_it_was key old new None rests (sym (absent key tree none), absent_reads key tree none)

pub found_one : (key : Key) (old new : State) (rows slice : List Columns) (columns : Columns) (row : Row) → old.now.schema ≡ kept_schema → Shown GET.now (key_values key) old new rows → Rests old new
    → slice ≡ rows → slice ≡ columns ∷ [] → option_map row_of (entry_in columns) ≡ Some row → IsFound key new (Some row)
found_one key old new rows slice columns row kept shows rests same one says =
    let tree = table_in old.now.trees in
    let it = shown_one key tree rows columns (got_those key old new rows kept shows) (sym same ∙ one) in
    let entry = option_map_some row_of (entry_in columns) row says in
    let reads : read_row it.0 ≡ Some entry.0 = ap entry_in (sym it.2) ∙ entry.1 in
    as_it_was key old new (Some row) rests (ap Some (sym entry.2) ∙ sym (present key tree it.0 it.1 entry.0 reads), present_reads key tree it.0 it.1 entry.0 reads)

pub found_beyond : (key : Key) (s : State) → MAX < key.number → IsFound key s None
found_beyond key s large = (sym (beyond key large (table_in s.now.trees)), beyond_reads key large (table_in s.now.trees))
