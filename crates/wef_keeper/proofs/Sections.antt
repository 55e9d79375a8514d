-- What is read under a key is a function of what stands at the keys there.
use Rattle.std.proofs.Common.{◌≡◌, Bool, true, false, cond, T, List, [], ◌∷◌, map, refl, ap, sym, ◌∙◌}
use Rattle.std.specs.FinMap as finite
use Rattle.std.specs.FinMap.{find, is_sorted}
use Rattle.std.specs.FinMap.Entries.{same_entries, where_key, is_sorted-where_key, find-where_key}
use Rattle.std.specs.List.{filter}
use Rattle.std.specs.Prelude.{Option, None}
use Rattle.std.specs.declared.cmp.Ordering.TheVariants.{Equal}
use Rattle.wef_keeper.specs.Rows.{Rows, is_after, key_cmp, key_cmp_exact, key_cmp_total, row_of}
use Rattle.wef_keeper.specs.Sections.{is_under, rows_under}
use Rattle.wef_keeper.specs.declared.keys.Cell.{Cell}
use Rattle.wef_keeper.specs.declared.keys.Depth.{Depth}
use Rattle.wef_keeper.specs.declared.keys.Key.{Key}

-- the rows whose keys pass are those of the entries whose keys pass
pub rows_kept : (test : Key → Bool) (entries : List (Key × Cell)) → filter (λ row. test row.key) (map row_of entries) ≡ map row_of (where_key key_cmp test entries)
rows_kept test [] = refl
rows_kept test (e ∷ entries) =
    elim (test e.0) as (λ b. cond b (row_of e ∷ filter (λ row. test row.key) (map row_of entries)) (filter (λ row. test row.key) (map row_of entries)) ≡ map row_of (cond b (e ∷ where_key key_cmp test entries) (where_key key_cmp test entries))) [
      | true ↦ ap (λ rows. row_of e ∷ rows) (rows_kept test entries)
      | false ↦ rows_kept test entries
    ]

pub tested_alike : (test : Key → Bool) (q x : Key) → key_cmp q x ≡ Equal → test x ≡ test q
tested_alike test q x tie = ap test (sym (key_cmp_exact q x tie))

-- what stands at a key of a section
find_under : (depth : Depth) (a : Key) (rows : Rows) (q : Key) →
    find key_cmp q (where_key key_cmp (is_under depth a) (where_key key_cmp (is_after a) (finite.entries rows))) ≡ cond (is_under depth a q) (cond (is_after a q) (finite.get rows q) None) None
find_under depth a rows q =
    find-where_key key_cmp (is_under depth a) q (tested_alike (is_under depth a) q) (where_key key_cmp (is_after a) (finite.entries rows))
    ∙ ap (λ (o : Option Cell). cond (is_under depth a q) o None)
    (find-where_key key_cmp (is_after a) q (tested_alike (is_after a) q) (finite.entries rows) ∙ ap (λ (o : Option Cell). cond (is_after a q) o None) (sym (finite.get-entries rows q)))

-- rows that answer alike in a section have the same section
pub same_under : (depth : Depth) (a : Key) (rows other : Rows) → ((q : Key) → is_under depth a q ≡ true → finite.get rows q ≡ finite.get other q) → rows_under depth a rows ≡ rows_under depth a other
same_under depth a rows other equal =
    rows_kept (is_under depth a) (where_key key_cmp (is_after a) (finite.entries rows))
    ∙ ap (map row_of) (same_entries key_cmp key_cmp_total key_cmp_exact _ _ (sorted rows) (sorted other)
    (λ q. find_under depth a rows q ∙ by_test q (is_under depth a q) refl ∙ sym (find_under depth a other q)))
    ∙ sym (rows_kept (is_under depth a) (where_key key_cmp (is_after a) (finite.entries other)))
  where
    sorted : (rows : Rows) → T (is_sorted key_cmp (where_key key_cmp (is_under depth a) (where_key key_cmp (is_after a) (finite.entries rows))))
    sorted rows =
        is_sorted-where_key key_cmp (is_under depth a) (where_key key_cmp (is_after a) (finite.entries rows))
        (is_sorted-where_key key_cmp (is_after a) (finite.entries rows) (finite.entries_sorted rows))

    by_test : (q : Key) (t : Bool) → is_under depth a q ≡ t → cond t (cond (is_after a q) (finite.get rows q) None) None ≡ cond t (cond (is_after a q) (finite.get other q) None) None
    by_test q true is = ap (λ (o : Option Cell). cond (is_after a q) o None) (equal q is)
    by_test q false is = refl
