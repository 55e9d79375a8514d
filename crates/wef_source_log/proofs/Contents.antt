-- What the rows of a window give.
use Rattle.std.proofs.Common.{◌≡◌, ℕ, zero, suc, ◌+◌, ◌-◌, ◌<◌, ◌≤◌, ◌==◌, Bool, true, false, cond, ◌&&◌, T, List, [], ◌∷◌, length, map, drop, nat_eq, nat_le, max, refl, ap, sym, ◌∙◌, subst, arith, if◌then◌else◌, Some, None}
use Rattle.std.proofs.lemmas.Bool.{and_parts}
use Rattle.std.proofs.lemmas.Bool.Decides.{nat_tests}
use Rattle.std.specs.Prelude.{slice_get}
use Rattle.std.specs.declared.cmp.Ordering.{Ordering}
use Rattle.std.specs.declared.cmp.Ordering.TheVariants.{Less, Equal, Greater}
use Rattle.std.specs.Cmp.{nat_cmp_is, ranked, tied_itself}
use Rattle.std.specs.Cmp.Lexicographic.{nat_list_cmp_total, nat_list_eq_equiv}
use Rattle.std.specs.FinMap as finite
use Rattle.std.specs.FinMap.{find, is_sorted}
use Rattle.std.specs.FinMap.Entries.{below_all, find-where_key, is_sorted-where_key, same_entries, where_key}
use Rattle.std.specs.List.{AllByRecursion, filter}
use Rattle.std.specs.Option.{option_map}
use Rattle.std.specs.Ordering.{is_eq, is_lt, nat_cmp, ordering_then}
use Rattle.wef_event.specs.Events.{Event}
use Rattle.wef_keeper.specs.Access.{IsBehind}
use Rattle.wef_keeper.specs.Rows.{Rows, is_after, key_cmp, key_cmp_exact, key_cmp_total, row_of}
use Rattle.wef_keeper.specs.Sections.{is_under}
use Rattle.wef_keeper.specs.declared.keys.Cell.{Cell}
use Rattle.wef_keeper.specs.declared.keys.Depth.TheVariants.{Channel}
use Rattle.wef_keeper.specs.declared.keys.Key.{Key}
use Rattle.wef_keeper.specs.declared.keys.Row.{Row}
use Rattle.wef_source_log.specs.Histories.{Histories, History, history, text_at}
use Rattle.wef_source_log.specs.Keys.{record_key}
use Rattle.wef_source_log.specs.Laws.{WindowsRead, numbered_from, records_from}
use Rattle.wef_source_log.specs.LogWindow.{IsWindow, boot_of, event_of_row, first_for, record_cell, records_after, text_cell}
use Rattle.wef_source_log.proofs.Cells.{capacity_in, hits, hits_record, last_cell-number, last_in, number_of, one, tie}
use Rattle.wef_source_log.proofs.Pages.{own_key}

-- ---- the order of a channel's records

record_order : (c : List ℕ) (k n : ℕ) → key_cmp (record_key c k) (record_key c n) ≡ nat_cmp k n
record_order c k n = ap (λ (r : Ordering). ordering_then r (nat_cmp k n)) (tied_itself nat_list_cmp_total c)

one_self : (c : List ℕ) → one c c ≡ true
one_self c = ap is_eq (tied_itself nat_list_cmp_total c)

hits_number : (c : List ℕ) (m n : ℕ) → hits (record_key c m) (record_key c n) ≡ nat_eq m n
hits_number c m n = hits_record c c m n ∙ ap (λ (t : Bool). t && nat_eq m n) (one_self c)

pub hit : (k q : Key) → hits k q ≡ true → k ≡ q
hit k q e = key_cmp_exact k q (tie (key_cmp k q) e)

rises : (c : List ℕ) (k n : ℕ) → k < n → is_after (record_key c k) (record_key c n) ≡ true
rises c k n below = ap is_lt (record_order c k n ∙ sym (nat_cmp_is k n Less below))

less : (r : Ordering) → is_lt r ≡ true → r ≡ Less
less Less e = refl
less Equal e = cc
less Greater e = cc

pub rose : (c : List ℕ) (k n : ℕ) → is_after (record_key c k) (record_key c n) ≡ true → k < n
rose c k n after = ranked k n Less (sym (less (nat_cmp k n) (sym (ap is_lt (record_order c k n)) ∙ after)))

-- ---- the section of a channel's records

-- whether a key is that of one of a channel's records above a number
abbrev pub is_wanted : List ℕ → ℕ → Key → Bool
is_wanted c after key = is_after (record_key c after) key && is_under Channel (record_key c after) key

pub wanted_record : (c : List ℕ) (after n : ℕ) → after < n → is_wanted c after (record_key c n) ≡ true
wanted_record c after n above = ap (λ (t : Bool). t && is_under Channel (record_key c after) (record_key c n)) (rises c after n above) ∙ nat_list_eq_equiv.refl c

pub section_entries : (p u : Key → Bool) (es : List (Key × Cell)) → filter (λ (row : Row). u row.key) (map row_of (filter (λ (e : Key × Cell). p e.0) es)) ≡ map row_of (where_key key_cmp (λ key. p key && u key) es)
section_entries p u [] = refl
section_entries p u (e ∷ es) =
    let rest = filter (λ (f : Key × Cell). p f.0) es in
    let both = where_key key_cmp (λ key. p key && u key) es in
    elim (p e.0) as (λ b. filter (λ (row : Row). u row.key) (map row_of (cond b (e ∷ rest) rest)) ≡ map row_of (cond (b && u e.0) (e ∷ both) both)) [
      | true ↦ elim (u e.0) as (λ b. cond b (row_of e ∷ filter (λ (row : Row). u row.key) (map row_of rest)) (filter (λ (row : Row). u row.key) (map row_of rest)) ≡ map row_of (cond b (e ∷ both) both)) [
        | true ↦ ap (λ (rows : List Row). row_of e ∷ rows) (section_entries p u es)
        | false ↦ section_entries p u es
      ]
      | false ↦ section_entries p u es
    ]

-- rows behind a record's key, of its channel, have greater numbers
pub records_above : (c : List ℕ) (after : ℕ) (start : Key) (rows : List Row) → start ≡ record_key c after → AllByRecursion (IsBehind Channel start) rows
    → AllByRecursion (λ (event : Event). after < event.number) (map (event_of_row c) rows)
records_above c after start [] begins all = tt
records_above c after start (row ∷ rows) begins all =
    let under = subst (λ (k : Key). is_under Channel k row.key ≡ true) begins all.0.under in
    let behind = subst (λ (k : Key). is_after k row.key ≡ true) begins all.0.after_it in
    let own = own_key c after row.key under in
    (rose c after row.key.number (subst (λ (k : Key). is_after (record_key c after) k ≡ true) own behind), records_above c after start rows begins all.1)

-- ---- the entries of numbered texts

abbrev record_entries : List ℕ → ℕ → List (List ℕ) → List (Key × Cell)
record_entries c n [] = []
record_entries c n (text ∷ texts) = (record_key c n, text_cell text) ∷ record_entries c (n + 1) texts

as_events : (c : List ℕ) (n : ℕ) (texts : List (List ℕ)) → map (event_of_row c) (map row_of (record_entries c n texts)) ≡ numbered_from c n texts
as_events c n [] = refl
as_events c n (text ∷ texts) = ap (λ (events : List Event). record { channel = c; number = n; text = text } ∷ events) (as_events c (n + 1) texts)

all_below : (c : List ℕ) (k n : ℕ) (texts : List (List ℕ)) → k < n → T (below_all key_cmp (record_key c k) (record_entries c n texts))
all_below c k n [] below = tt
all_below c k n (text ∷ texts) below =
    subst (λ (t : Bool). T (t && below_all key_cmp (record_key c k) (record_entries c (n + 1) texts))) (sym (rises c k n below)) (all_below c k (n + 1) texts (omega arith))

both : (a b : Bool) → T a → T b → T (a && b)
both true b p q = q
both false b p q = p

in_order : (c : List ℕ) (n : ℕ) (texts : List (List ℕ)) → T (is_sorted key_cmp (record_entries c n texts))
in_order c n [] = tt
in_order c n (text ∷ texts) = both (below_all key_cmp (record_key c n) (record_entries c (n + 1) texts)) _ (all_below c n (n + 1) texts (omega arith)) (in_order c (n + 1) texts)

found_in : (c : List ℕ) (n k : ℕ) (texts : List (List ℕ)) → find key_cmp (record_key c (n + k)) (record_entries c n texts) ≡ option_map text_cell (slice_get texts k)
found_in c n k [] = refl
found_in c n zero (text ∷ texts) = ap (λ (t : Bool). cond t (Some (text_cell text)) (find key_cmp (record_key c (n + 0)) (record_entries c (n + 1) texts))) (hits_number c (n + 0) n ∙ itself n)
  where
    itself : (n : ℕ) → nat_eq (n + 0) n ≡ true
    itself n = grind (arith, nat_tests)
found_in c n (suc k) (text ∷ texts) =
    ap (λ (t : Bool). cond t (Some (text_cell text)) (find key_cmp (record_key c (n + suc k)) (record_entries c (n + 1) texts))) (hits_number c (n + suc k) n ∙ another n k)
    ∙ ap (λ (m : ℕ). find key_cmp (record_key c m) (record_entries c (n + 1) texts)) (next n k)
    ∙ found_in c (n + 1) k texts
  where
    another : (n k : ℕ) → nat_eq (n + suc k) n ≡ false
    another n k = grind (arith, nat_tests)

    next : (n k : ℕ) → n + suc k ≡ n + 1 + k
    next n k = omega arith

none_in : (c : List ℕ) (q : Key) (n : ℕ) (texts : List (List ℕ)) → ((k : ℕ) → n ≤ k → hits q (record_key c k) ≡ false) → find key_cmp q (record_entries c n texts) ≡ None
none_in c q n [] misses = refl
none_in c q n (text ∷ texts) misses =
    ap (λ (t : Bool). cond t (Some (text_cell text)) (find key_cmp q (record_entries c (n + 1) texts))) (misses n (omega arith)) ∙ none_in c q (n + 1) texts (λ k above. misses k (omega arith))

slice_get-drop : (xs : List (List ℕ)) (n k : ℕ) → slice_get (drop n xs) k ≡ slice_get xs (n + k)
slice_get-drop xs zero k = ap (slice_get xs) (plain k)
  where
    plain : (k : ℕ) → k ≡ 0 + k
    plain k = omega arith
slice_get-drop [] (suc n) k = refl
slice_get-drop (x ∷ xs) (suc n) k = slice_get-drop xs n k ∙ ap (slice_get (x ∷ xs)) (later n k)
  where
    later : (n k : ℕ) → suc (n + k) ≡ suc n + k
    later n k = omega arith

-- ---- both lists answer alike

refuted : (t : Bool) → (t ≡ true → ⊥) → t ≡ false
refuted true no_way = absurd (no_way refl)
refuted false no_way = refl

-- the number from which a window's records above another are read
abbrev start_of : ℕ → History → ℕ → ℕ
start_of capacity records after = max (first_for capacity (length records)) (after + 1)

at_number : (capacity : ℕ) (records : History) (c : List ℕ) (after m : ℕ) → after < m →
    record_cell capacity records m ≡ find key_cmp (record_key c m) (record_entries c (start_of capacity records after) (drop (start_of capacity records after - 1) records))
at_number capacity records c after m above =
    let first = first_for capacity (length records) in
    let start = start_of capacity records after in
    let entries = record_entries c start (drop (start - 1) records) in
    elim (nat_le first m) as (λ t. nat_le first m ≡ t → (if t then option_map text_cell (text_at records m) else None) ≡ find key_cmp (record_key c m) entries) [
      | true ↦ λ inside.
          ap (λ (t : Bool). option_map text_cell (if t then None else slice_get records (m - 1))) (not_zero m after above)
          ∙ ap (λ (k : ℕ). option_map text_cell (slice_get records k)) (place first after m inside above)
          ∙ ap (option_map text_cell) (sym (slice_get-drop records (start - 1) (m - start)))
          ∙ sym (found_in c start (m - start) (drop (start - 1) records))
          ∙ ap (λ (k : ℕ). find key_cmp (record_key c k) entries) (number first after m inside above)
      | false ↦ λ gone. sym (none_in c (record_key c m) start (drop (start - 1) records) (λ k from. hits_number c m k ∙ before first after m k gone from))
    ] refl
  where
    not_zero : (m after : ℕ) → after < m → (m == 0) ≡ false
    not_zero m after above = grind (arith, nat_tests)

    place : (first after m : ℕ) → nat_le first m ≡ true → after < m → m - 1 ≡ max first (after + 1) - 1 + (m - max first (after + 1))
    place first after m inside above = grind (arith, nat_tests, inside)

    number : (first after m : ℕ) → nat_le first m ≡ true → after < m → max first (after + 1) + (m - max first (after + 1)) ≡ m
    number first after m inside above = grind (arith, nat_tests, inside)

    before : (first after m k : ℕ) → nat_le first m ≡ false → max first (after + 1) ≤ k → nat_eq m k ≡ false
    before first after m k gone from = grind (arith, nat_tests, gone)

answers : (rows : Rows) (all : Histories) (capacity boot : ℕ) → IsWindow rows all capacity boot → (c : List ℕ) (after : ℕ) (q : Key) →
    find key_cmp q (where_key key_cmp (is_wanted c after) (finite.entries rows))
    ≡ find key_cmp q (record_entries c (start_of capacity (history all c) after) (drop (start_of capacity (history all c) after - 1) (history all c)))
answers rows all capacity boot window c after q =
    let records = history all c in
    let start = start_of capacity records after in
    let texts = drop (start - 1) records in
    find-where_key key_cmp (is_wanted c after) q (λ x tied. ap (is_wanted c after) (sym (key_cmp_exact q x tied))) (finite.entries rows)
    ∙ elim (is_wanted c after q) as (λ t. is_wanted c after q ≡ t → cond t (find key_cmp q (finite.entries rows)) None ≡ find key_cmp q (record_entries c start texts)) [
      | true ↦ λ wanted.
          let parts = and_parts (is_after (record_key c after) q) _ wanted in
          let own = own_key c after q parts.1 in
          let above = rose c after q.number (subst (λ (k : Key). is_after (record_key c after) k ≡ true) own parts.0) in
          sym (finite.get-entries rows q) ∙ ap (finite.get rows) own ∙ window.record_rows c q.number ∙ at_number capacity records c after q.number above
          ∙ ap (λ (k : Key). find key_cmp k (record_entries c start texts)) (sym own)
      | false ↦ λ other. sym (none_in c q start texts (λ k from. refuted (hits q (record_key c k)) (λ e. apart q other k (over (first_for capacity (length records)) after k from) (hit q (record_key c k) e))))
    ] refl
  where
    over : (first after k : ℕ) → max first (after + 1) ≤ k → after < k
    over first after k from = omega arith

    apart : (q : Key) → is_wanted c after q ≡ false → (k : ℕ) → after < k → q ≡ record_key c k → ⊥
    apart q other k above own = let wanted = ap (is_wanted c after) own ∙ wanted_record c after k above in cc

records_read : (rows : Rows) (all : Histories) (capacity boot : ℕ) → IsWindow rows all capacity boot → (c : List ℕ) (after : ℕ) →
    records_after rows c after ≡ records_from c (history all c) (start_of capacity (history all c) after)
records_read rows all capacity boot window c after =
    let records = history all c in
    let start = start_of capacity records after in
    let texts = drop (start - 1) records in
    let section = where_key key_cmp (is_wanted c after) (finite.entries rows) in
    let same : section ≡ record_entries c start texts =
    same_entries key_cmp key_cmp_total key_cmp_exact section (record_entries c start texts)
    (is_sorted-where_key key_cmp (is_wanted c after) (finite.entries rows) (finite.entries_sorted rows)) (in_order c start texts) (answers rows all capacity boot window c after) in
    ap (map (event_of_row c)) (section_entries (is_after (record_key c after)) (is_under Channel (record_key c after)) (finite.entries rows))
    ∙ ap (λ (es : List (Key × Cell)). map (event_of_row c) (map row_of es)) same
    ∙ as_events c start texts

boot_in : (rows : Rows) (all : Histories) (capacity boot : ℕ) → IsWindow rows all capacity boot → boot_of rows ≡ boot
unfolding number_of
boot_in rows all capacity boot window = ap number_of window.boot_row ∙ last_cell-number boot

pub windows_read : WindowsRead
windows_read rows all capacity boot begun window =
    let capacity_is = capacity_in rows all capacity boot begun window in
    let last_is = last_in rows all capacity boot window in
    record {
      capacity_is = capacity_is;
      boot_is = boot_in rows all capacity boot window;
      last_is = last_is;
      first_is = λ c i. first_for (capacity_is i) (last_is c i);
      records_are = records_read rows all capacity boot window;
    }
