-- What a table's rows without a key, and with one more row, are as a map.
use Rattle.std.proofs.Common.{◌≡◌, Bool, true, false, not, ◌&&◌, ◌||◌, cond, List, [], ◌∷◌, filter, Option, Some, None, is_some, refl, sym, ap, ◌∙◌, Ordering, Less, Equal, Greater, is_eq, true≢false}
use Rattle.std.specs.Cmp.{alike_right, eq_by_cmp_equiv}
use Rattle.std.specs.FinMap.{insert, remove, get, get-from_entries, get-insert, get-remove, same_map}
use Rattle.std.specs.FinMap.Entries.{find, where_key, find-where_key}
use Rattle.std.specs.List.{cons_option}
use Rattle.std.specs.Ordering.{eq_by_cmp, match_ordering}
use Rattle.sqlite_trees.specs.Tree.{put_row, rowid}
use Rattle.sqlite_rules.specs.Edit.{is_taken}
use Rattle.sqlite_value.specs.Order.{Row as Columns, value_cmp}
use Rattle.wef_keeper.specs.Rows.{key_cmp, key_cmp_total, key_cmp_exact}
use Rattle.wef_keeper.specs.declared.keys.Cell.{Cell}
use Rattle.wef_keeper.specs.declared.keys.Key.{Key}
use Rattle.wef_sqlite.specs.Contents.{read_row, are_rows, pairs, rows_in, Moves}
use Rattle.wef_sqlite.proofs.Keys.{has_key, has_is, row_key}

abbrev Entry : Type 0
Entry = Key × Cell

-- the rows that a statement on one key leaves
abbrev pub without_key : Key → List Columns → List Columns
without_key key tree = filter (λ r. not (has_key key r)) tree

abbrev others : Key → Key → Bool
others key x = not (eq_by_cmp key_cmp key x)

-- a look-up of a key needs no rows but those that the statement takes
pub find_with : (key : Key) (tree : List Columns) → find key_cmp key (pairs tree) ≡ find key_cmp key (pairs (filter (has_key key) tree))
find_with key [] = refl
find_with key (r ∷ tree) = go (find_with key tree) (read_row r) (has_key key r) refl refl
  where
    go : find key_cmp key (pairs tree) ≡ find key_cmp key (pairs (filter (has_key key) tree)) → (o : Option Entry) (b : Bool) → read_row r ≡ o → has_key key r ≡ b
        → find key_cmp key (cons_option o (pairs tree)) ≡ find key_cmp key (pairs (cond b (r ∷ filter (has_key key) tree) (filter (has_key key) tree)))
    go more None true reads takes = more ∙ ap (λ o. find key_cmp key (cons_option o (pairs (filter (has_key key) tree)))) (sym reads)
    go more None false reads takes = more
    go more (Some e) true reads takes =
        ap (cond (eq_by_cmp key_cmp key e.0) (Some e.1)) more ∙ ap (λ o. find key_cmp key (cons_option o (pairs (filter (has_key key) tree)))) (sym reads)
    go more (Some e) false reads takes =
        ap (λ b. cond b (Some e.1) (find key_cmp key (pairs tree))) (sym (has_is key r e.0 (row_key r e reads)) ∙ takes) ∙ more

-- what is left reads as the entries of the other keys
pub others_left : (key : Key) (tree : List Columns) → pairs (without_key key tree) ≡ where_key key_cmp (others key) (pairs tree)
others_left key [] = refl
others_left key (r ∷ tree) = go (others_left key tree) (read_row r) (has_key key r) refl refl
  where
    go : pairs (without_key key tree) ≡ where_key key_cmp (others key) (pairs tree) → (o : Option Entry) (b : Bool) → read_row r ≡ o → has_key key r ≡ b
        → pairs (cond (not b) (r ∷ without_key key tree) (without_key key tree)) ≡ where_key key_cmp (others key) (cons_option o (pairs tree))
    go more None true reads takes = more
    go more None false reads takes = ap (λ o. cons_option o (pairs (without_key key tree))) reads ∙ more
    go more (Some e) true reads takes =
        more ∙ ap (λ b. cond (not b) (e ∷ where_key key_cmp (others key) (pairs tree)) (where_key key_cmp (others key) (pairs tree))) (sym takes ∙ has_is key r e.0 (row_key r e reads))
    go more (Some e) false reads takes =
        ap (λ o. cons_option o (pairs (without_key key tree))) reads ∙ ap (λ l. e ∷ l) more
        ∙ ap (λ b. cond (not b) (e ∷ where_key key_cmp (others key) (pairs tree)) (where_key key_cmp (others key) (pairs tree))) (sym takes ∙ has_is key r e.0 (row_key r e reads))

-- one key is another as the other is it
turned_round : (key q : Key) → eq_by_cmp key_cmp key q ≡ eq_by_cmp key_cmp q key
turned_round key q = (eq_by_cmp_equiv key_cmp_total).symm key q

cond_not : {A : Type 0} (b : Bool) (x y : A) → cond (not b) x y ≡ cond b y x
cond_not true x y = refl
cond_not false x y = refl

find_left : (key q : Key) (tree : List Columns) → find key_cmp q (pairs (without_key key tree)) ≡ cond (eq_by_cmp key_cmp q key) None (find key_cmp q (pairs tree))
find_left key q tree =
    ap (find key_cmp q) (others_left key tree)
    ∙ find-where_key key_cmp (others key) q (λ x t. ap (λ r. not (is_eq r)) (sym (alike_right key_cmp_total q x key t))) (pairs tree)
    ∙ cond_not (eq_by_cmp key_cmp key q) _ _
    ∙ ap (λ b. cond b None (find key_cmp q (pairs tree))) (turned_round key q)

-- the rows without a key's are the map without it
pub removed : (key : Key) (tree : List Columns) → rows_in (without_key key tree) ≡ remove (rows_in tree) key
removed key tree =
    same_map key_cmp_total key_cmp_exact _ _ (λ q.
    get-from_entries key_cmp_total (pairs (without_key key tree)) q
    ∙ find_left key q tree
    ∙ sym (get-remove key_cmp_total (rows_in tree) key q ∙ ap (cond (eq_by_cmp key_cmp q key) None) (get-from_entries key_cmp_total (pairs tree) q)))

both_parts : (a b : Bool) → (a && b) ≡ true → (a ≡ true) × (b ≡ true)
both_parts true b h = (refl, h)
both_parts false b h = absurd (true≢false (sym h))

pub rows_left : (p : Columns → Bool) (tree : List Columns) → are_rows tree ≡ true → are_rows (filter p tree) ≡ true
rows_left p [] h = refl
rows_left p (r ∷ tree) h =
    let parts = both_parts (is_some (read_row r)) (are_rows tree) h in
    let more = rows_left p tree parts.1 in
    elim (p r) as (λ b. are_rows (cond b (r ∷ filter p tree) (filter p tree)) ≡ true) [ true ↦ ap (λ b. b && are_rows (filter p tree)) parts.0 ∙ more | false ↦ more ]

-- what a delete makes of a table
pub deletes : (key : Key) (tree : List Columns) → Moves (λ rows. remove rows key) tree (without_key key tree)
deletes key tree = record { rows = removed key tree; reads = rows_left (λ r. not (has_key key r)) tree }

-- ---- a row more

neither : (a b : Bool) → (a || b) ≡ false → (a ≡ false) × (b ≡ false)
neither true b h = absurd (true≢false h)
neither false b h = (refl, h)

-- a test that is repeated
twice : {A : Type 0} (b : Bool) (x y z : A) → cond b x (cond b y z) ≡ cond b x z
twice true x y z = refl
twice false x y z = refl

-- two look-ups of which one alone can find anything
apart : {A : Type 0} (a b : Bool) (x y z : A) → (a ≡ true → b ≡ true → ⊥) → cond a x (cond b y z) ≡ cond b y (cond a x z)
apart true true x y z never = absurd (never refl refl)
apart true false x y z never = refl
apart false b x y z never = refl

module _ (key : Key) (cell : Cell) (new : Columns) (reads : read_row new ≡ Some (key, cell)) where
  new_first : (q : Key) (rows : List Columns) → find key_cmp q (pairs (new ∷ rows)) ≡ cond (eq_by_cmp key_cmp q key) (Some cell) (find key_cmp q (pairs rows))
  new_first q rows = ap (λ o. find key_cmp q (cons_option o (pairs rows))) reads

  never_both : (q other : Key) → eq_by_cmp key_cmp key other ≡ false → eq_by_cmp key_cmp q other ≡ true → eq_by_cmp key_cmp q key ≡ true → ⊥
  never_both q other differ one two = true≢false (sym one ∙ (eq_by_cmp_equiv key_cmp_total).congr q key other two ∙ differ)

  found_not : (b : Bool) (x : Cell) (o : Option Cell) → cond b (Some x) o ≡ None → (b ≡ false) × (o ≡ None)
  found_not true x o e = cc
  found_not false x o e = (refl, e)

  pub find_put : (q : Key) (rows : List Columns) → is_taken rows new ≡ false → find key_cmp key (pairs rows) ≡ None
      → find key_cmp q (pairs (put_row new rows)) ≡ cond (eq_by_cmp key_cmp q key) (Some cell) (find key_cmp q (pairs rows))
  find_put q [] free none = new_first q []
  find_put q (r ∷ rows) free none =
      let parts = neither (is_eq (value_cmp (rowid r) (rowid new))) (is_taken rows new) free in
      go (find_put q rows parts.1) (value_cmp (rowid r) (rowid new)) refl parts.0
    where
      Goal : List Columns → Type 0
      Goal l = find key_cmp q (pairs l) ≡ cond (eq_by_cmp key_cmp q key) (Some cell) (find key_cmp q (pairs (r ∷ rows)))

      Later : Type 0
      Later = find key_cmp key (pairs rows) ≡ None → find key_cmp q (pairs (put_row new rows)) ≡ cond (eq_by_cmp key_cmp q key) (Some cell) (find key_cmp q (pairs rows))

      behind : Later → (o : Option Entry) → read_row r ≡ o → find key_cmp key (cons_option o (pairs rows)) ≡ None
          → find key_cmp q (cons_option o (pairs (put_row new rows))) ≡ cond (eq_by_cmp key_cmp q key) (Some cell) (find key_cmp q (cons_option o (pairs rows)))
      behind later None is none = later none
      behind later (Some e) is none =
          let parts = found_not (eq_by_cmp key_cmp key e.0) e.1 _ none in
          ap (cond (eq_by_cmp key_cmp q e.0) (Some e.1)) (later parts.1)
          ∙ apart (eq_by_cmp key_cmp q e.0) (eq_by_cmp key_cmp q key) _ _ _ (never_both q e.0 parts.0)

      go : Later → (o : Ordering) → value_cmp (rowid r) (rowid new) ≡ o → is_eq (value_cmp (rowid r) (rowid new)) ≡ false
          → Goal (match_ordering o (r ∷ put_row new rows) (new ∷ rows) (new ∷ r ∷ rows))
      go later Less is other = behind later (read_row r) refl none
      go later Equal is other = absurd (true≢false (sym (ap is_eq is) ∙ other))
      go later Greater is other = new_first q (r ∷ rows)

  -- a row that is put where the others say other keys is the map with it
  pub put_in : (rows : List Columns) → is_taken rows new ≡ false → find key_cmp key (pairs rows) ≡ None → rows_in (put_row new rows) ≡ insert (rows_in rows) key cell
  put_in rows free none =
      same_map key_cmp_total key_cmp_exact _ _ (λ q.
      get-from_entries key_cmp_total (pairs (put_row new rows)) q
      ∙ find_put q rows free none
      ∙ sym (get-insert key_cmp_total (rows_in rows) key cell q ∙ ap (cond (eq_by_cmp key_cmp q key) (Some cell)) (get-from_entries key_cmp_total (pairs rows) q)))

  -- and all read with it
  pub put_reads : (rows : List Columns) → are_rows rows ≡ true → are_rows (put_row new rows) ≡ true
  put_reads [] h = ap (λ o. is_some o && true) reads
  put_reads (r ∷ rows) h =
      let parts = both_parts (is_some (read_row r)) (are_rows rows) h in
      let more = put_reads rows parts.1 in
      elim (value_cmp (rowid r) (rowid new)) as (λ o. are_rows (match_ordering o (r ∷ put_row new rows) (new ∷ rows) (new ∷ r ∷ rows)) ≡ true) [
        | Less ↦ ap (λ b. b && are_rows (put_row new rows)) parts.0 ∙ more
        | Equal ↦ ap (λ o. is_some o && are_rows rows) reads ∙ parts.1
        | Greater ↦ ap (λ o. is_some o && are_rows (r ∷ rows)) reads ∙ h
      ]

  none_left : (tree : List Columns) → find key_cmp key (pairs (without_key key tree)) ≡ None
  none_left tree = find_left key key tree ∙ ap (λ b. cond b None (find key_cmp key (pairs tree))) ((eq_by_cmp_equiv key_cmp_total).refl key)

  put_over : (tree : List Columns) → insert (remove (rows_in tree) key) key cell ≡ insert (rows_in tree) key cell
  put_over tree =
      same_map key_cmp_total key_cmp_exact _ _ (λ q.
      get-insert key_cmp_total (remove (rows_in tree) key) key cell q
      ∙ ap (cond (eq_by_cmp key_cmp q key) (Some cell)) (get-remove key_cmp_total (rows_in tree) key q)
      ∙ twice (eq_by_cmp key_cmp q key) (Some cell) None (get (rows_in tree) q)
      ∙ sym (get-insert key_cmp_total (rows_in tree) key cell q))

  -- what a put makes of a table: the new row stands in place of those that said its key
  pub puts : (tree : List Columns) → is_taken (without_key key tree) new ≡ false → Moves (λ rows. insert rows key cell) tree (put_row new (without_key key tree))
  puts tree free = record {
    rows = put_in (without_key key tree) free (none_left tree) ∙ ap (λ rows. insert rows key cell) (removed key tree) ∙ put_over tree;
    reads = λ h. put_reads (without_key key tree) (rows_left (λ r. not (has_key key r)) tree h);
  }
