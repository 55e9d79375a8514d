-- What a written record leaves at each key, and that the rows stay a window.
use Rattle.std.proofs.Common.{◌≡◌, ℕ, zero, suc, ◌+◌, ◌-◌, ◌<◌, ◌==◌, Bool, true, false, cond, ◌&&◌, List, [], ◌∷◌, ◌++◌, length, nat_eq, nat_lt, nat_le, refl, ap, sym, ◌∙◌, subst, arith, if◌then◌else◌, Option, Some, None, length-append}
use Rattle.std.proofs.lemmas.Bool.Decides.{nat_tests}
use Rattle.std.specs.Prelude.{slice_get, unwrap_or}
use Rattle.std.specs.declared.cmp.Ordering.{Ordering}
use Rattle.std.specs.declared.cmp.Ordering.TheVariants.{Less, Equal, Greater}
use Rattle.std.specs.Cmp.{eq_by_cmp_equiv, unsigned_ties}
use Rattle.std.specs.Cmp.Lexicographic.{slice_cmp, nat_list_cmp_total}
use Rattle.std.specs.FinMap as finite
use Rattle.std.specs.FinMap.{nat_cmp-IsAntisymmetric, slice_cmp-IsAntisymmetric}
use Rattle.std.specs.Option.{option_map}
use Rattle.std.specs.Ordering.{eq_by_cmp, is_eq, nat_cmp, ordering_then}
use Rattle.wef_event.specs.Events.{Event}
use Rattle.wef_event.specs.Numbering.{numbered_text}
use Rattle.wef_keeper.specs.Laws.{get-applied}
use Rattle.wef_keeper.specs.Rows.{Rows, applied, cell_of, found_after, key_cmp, key_of}
use Rattle.wef_keeper.specs.declared.keys.Cell.{Cell}
use Rattle.wef_keeper.specs.declared.keys.Change.{Change}
use Rattle.wef_keeper.specs.declared.keys.Change.TheVariants.{Put}
use Rattle.wef_keeper.specs.declared.keys.Key.{Key}
use Rattle.wef_source_log.specs.Answers.{ExtendsHistory, next_text}
use Rattle.wef_source_log.specs.Histories.{Histories, History, extended, history, text_at}
use Rattle.wef_source_log.specs.Keys.{boot_key, capacity_key, last_key, record_key}
use Rattle.wef_source_log.specs.Laws.{NothingIsEmpty, StartsKeep}
use Rattle.wef_source_log.specs.LogWindow.{IsWindow, boot_of, capacity_cell, capacity_changes, capacity_of, first_for, last_cell, last_of, number_cell, record_cell, start_changes, started, text_cell, write_changes, written}

-- ---- keys

-- the test of two keys
abbrev pub hits : Key → Key → Bool
hits k q = eq_by_cmp key_cmp k q

-- whether two channels are one
abbrev pub one : List ℕ → List ℕ → Bool
one c d = is_eq (slice_cmp nat_cmp c d)

pub tie : (r : Ordering) → is_eq r ≡ true → r ≡ Equal
tie Less e = cc
tie Equal e = refl
tie Greater e = cc

one_name : (c d : List ℕ) → one c d ≡ true → c ≡ d
one_name c d e = slice_cmp-IsAntisymmetric nat_cmp-IsAntisymmetric c d (tie (slice_cmp nat_cmp c d) e)

one_turned : (c d : List ℕ) → one d c ≡ one c d
one_turned c d = (eq_by_cmp_equiv nat_list_cmp_total).symm d c

both_tie : (r s : Ordering) → is_eq (ordering_then r s) ≡ (is_eq r && is_eq s)
both_tie Less s = refl
both_tie Equal s = refl
both_tie Greater s = refl

and_true : (b : Bool) → (b && true) ≡ b
and_true true = refl
and_true false = refl

pub hits_record : (c d : List ℕ) (n m : ℕ) → hits (record_key c n) (record_key d m) ≡ (one c d && nat_eq n m)
hits_record c d n m = both_tie (slice_cmp nat_cmp c d) (nat_cmp n m) ∙ ap (λ (b : Bool). one c d && b) (sym (unsigned_ties n m))

hits_last : (c d : List ℕ) → hits (last_key c) (last_key d) ≡ one c d
hits_last c d = both_tie (slice_cmp nat_cmp c d) Equal ∙ and_true (one c d)

-- the number in a cell
unfoldable pub number_of : Option Cell → ℕ
number_of cell = unwrap_or (option_map (λ (k : Cell). k.value) cell) 0

-- ---- what a written record leaves

pub either_way : {X : Type 0} (t : Bool) (x : X) → cond t x x ≡ x
either_way true x = refl
either_way false x = refl

-- a change that is made on a test
found_if : (t : Bool) (change : Change) (q : Key) (cell : Option Cell) →
    found_after (if t then change ∷ [] else []) q cell ≡ cond t (cond (hits (key_of change) q) (cell_of change) cell) cell
found_if true change q cell = refl
found_if false change q cell = refl

-- what stands at a key once the record and its number are put
abbrev pub put_at : List ℕ → ℕ → List ℕ → Key → Option Cell → Option Cell
put_at c n text q cell = cond (hits (last_key c) q) (Some (number_cell n)) (cond (hits (record_key c n) q) (Some (text_cell text)) cell)

at_key : (rows : Rows) (capacity n : ℕ) (c text : List ℕ) (q : Key) → finite.get (applied (write_changes capacity c n text) rows) q
    ≡ cond (nat_lt capacity n) (cond (hits (record_key c (n - capacity)) q) None (put_at c n text q (finite.get rows q))) (put_at c n text q (finite.get rows q))
at_key rows capacity n c text q =
    get-applied (write_changes capacity c n text) rows q ∙ found_if (nat_lt capacity n) _ q (put_at c n text q (finite.get rows q))

pub at_capacity : (rows : Rows) (capacity n : ℕ) (c text : List ℕ) → finite.get (applied (write_changes capacity c n text) rows) capacity_key ≡ finite.get rows capacity_key
at_capacity rows capacity n c text = at_key rows capacity n c text capacity_key ∙ either_way (nat_lt capacity n) (finite.get rows capacity_key)

at_boot : (rows : Rows) (capacity n : ℕ) (c text : List ℕ) → finite.get (applied (write_changes capacity c n text) rows) boot_key ≡ finite.get rows boot_key
at_boot rows capacity n c text = at_key rows capacity n c text boot_key ∙ either_way (nat_lt capacity n) (finite.get rows boot_key)

at_last : (rows : Rows) (capacity n : ℕ) (c text d : List ℕ) →
    finite.get (applied (write_changes capacity c n text) rows) (last_key d) ≡ cond (one c d) (Some (number_cell n)) (finite.get rows (last_key d))
at_last rows capacity n c text d =
    at_key rows capacity n c text (last_key d)
    ∙ either_way (nat_lt capacity n) (cond (hits (last_key c) (last_key d)) (Some (number_cell n)) (finite.get rows (last_key d)))
    ∙ ap (λ (t : Bool). cond t (Some (number_cell n)) (finite.get rows (last_key d))) (hits_last c d)

-- what a record's cell becomes, where `same` says whether the channels are one
abbrev cell_after : Bool → ℕ → ℕ → List ℕ → ℕ → Option Cell → Option Cell
cell_after same capacity n text m cell =
    cond (nat_lt capacity n) (cond (same && nat_eq (n - capacity) m) None (cond (same && nat_eq n m) (Some (text_cell text)) cell)) (cond (same && nat_eq n m) (Some (text_cell text)) cell)

at_record : (rows : Rows) (capacity n : ℕ) (c text d : List ℕ) (m : ℕ) →
    finite.get (applied (write_changes capacity c n text) rows) (record_key d m) ≡ cell_after (one c d) capacity n text m (finite.get rows (record_key d m))
at_record rows capacity n c text d m =
    at_key rows capacity n c text (record_key d m)
    ∙ (λ i.
    let kept = cond (hits_record c d n m i) (Some (text_cell text)) (finite.get rows (record_key d m)) in
    cond (nat_lt capacity n) (cond (hits_record c d (n - capacity) m i) None kept) kept)

-- ---- histories with one record more

length-push : (records : History) (text : List ℕ) → length (records ++ text ∷ []) ≡ length records + 1
length-push records text = length-append records (text ∷ [])

slice_get-push : (records : History) (text : List ℕ) (k : ℕ) → slice_get (records ++ text ∷ []) k ≡ cond (nat_eq k (length records)) (Some text) (slice_get records k)
slice_get-push [] text zero = refl
slice_get-push [] text (suc k) = ap (λ (t : Bool). cond t (Some text) None) (positive k)
  where
    positive : (k : ℕ) → false ≡ nat_eq (suc k) 0
    positive k = grind (arith, nat_tests)
slice_get-push (x ∷ records) text zero = ap (λ (t : Bool). cond t (Some text) (Some x)) (positive (length records))
  where
    positive : (k : ℕ) → false ≡ nat_eq 0 (suc k)
    positive k = grind (arith, nat_tests)
slice_get-push (x ∷ records) text (suc k) = slice_get-push records text k ∙ ap (λ (t : Bool). cond t (Some text) (slice_get records k)) (both_later k (length records))
  where
    both_later : (k size : ℕ) → nat_eq k size ≡ nat_eq (suc k) (suc size)
    both_later k size = grind (arith, nat_tests)

text_at-push : (records : History) (text : List ℕ) (m : ℕ) → text_at (records ++ text ∷ []) m ≡ cond (nat_eq m (length records + 1)) (Some text) (text_at records m)
text_at-push records text m =
    elim (m == 0) as (λ t. (m == 0) ≡ t →
    (if t then None else slice_get (records ++ text ∷ []) (m - 1)) ≡ cond (nat_eq m (length records + 1)) (Some text) (if t then None else slice_get records (m - 1))) [
      | true ↦ λ e. ap (λ (b : Bool). cond b (Some text) None) (not_next m (length records) e)
      | false ↦ λ e. slice_get-push records text (m - 1) ∙ ap (λ (b : Bool). cond b (Some text) (slice_get records (m - 1))) (as_next m (length records) e)
    ] refl
  where
    not_next : (m size : ℕ) → (m == 0) ≡ true → false ≡ nat_eq m (size + 1)
    not_next m size e = grind (arith, nat_tests, e)

    as_next : (m size : ℕ) → (m == 0) ≡ false → nat_eq (m - 1) size ≡ nat_eq m (size + 1)
    as_next m size e = grind (arith, nat_tests, e)

pull : {X Y : Type 0} (f : X → Y) (t : Bool) (x y : X) → f (cond t x y) ≡ cond t (f x) (f y)
pull f true x y = refl
pull f false x y = refl

history-extended : (all : Histories) (c text d : List ℕ) → history (extended all c text) d ≡ cond (one c d) (history all c ++ text ∷ []) (history all d)
history-extended all c text d =
    let longer = history all c ++ text ∷ [] in
    ap (λ (found : Option History). unwrap_or found []) (finite.get-insert nat_list_cmp_total all c longer d)
    ∙ pull (λ (found : Option History). unwrap_or found []) (one d c) (Some longer) (finite.get all d)
    ∙ ap (λ (t : Bool). cond t longer (history all d)) (one_turned c d)

-- ---- what a window's rows give

pub last_cell-number : (n : ℕ) → unwrap_or (option_map (λ (k : Cell). k.value) (last_cell n)) 0 ≡ n
last_cell-number n =
    elim (n == 0) as (λ t. (n == 0) ≡ t → unwrap_or (option_map (λ (k : Cell). k.value) (if t then None else Some (number_cell n))) 0 ≡ n) [
      | true ↦ λ e. grind (arith, nat_tests, e)
      | false ↦ λ e. refl
    ] refl

pub capacity_in : (rows : Rows) (all : Histories) (capacity boot : ℕ) → 0 < boot → IsWindow rows all capacity boot → capacity_of rows ≡ capacity
unfolding number_of
capacity_in rows all capacity boot begun window = ap number_of (window.capacity_row ∙ ap (λ (t : Bool). if t then None else Some (number_cell capacity)) (begun_once boot begun))
  where
    begun_once : (boot : ℕ) → 0 < boot → (boot == 0) ≡ false
    begun_once boot begun = grind (arith, nat_tests)

pub last_in : (rows : Rows) (all : Histories) (capacity boot : ℕ) → IsWindow rows all capacity boot → (c : List ℕ) → last_of rows c ≡ length (history all c)
unfolding number_of
last_in rows all capacity boot window c = ap number_of (window.last_rows c) ∙ last_cell-number (length (history all c))

-- ---- the window of one record more

last_cell-next : (n : ℕ) → Some (number_cell (n + 1)) ≡ last_cell (n + 1)
last_cell-next n = ap (λ (t : Bool). if t then None else Some (number_cell (n + 1))) (not_zero n)
  where
    not_zero : (n : ℕ) → false ≡ (n + 1 == 0)
    not_zero n = grind (arith, nat_tests)

-- the five tests of a record's number: the window was full, the number leaves, it is the new one, it was in, it is in
steps : (full leaves new was is : Bool) (cell : Option Cell) (old : Option Cell) →
    (full ≡ true → leaves ≡ true → (new ≡ false) × (is ≡ false)) → (new ≡ true → is ≡ true)
    → ((full && leaves) ≡ false → new ≡ false → was ≡ is)
    → cond full (cond leaves None (cond new cell (if was then old else None))) (cond new cell (if was then old else None)) ≡ if is then cond new cell old else None
steps true true new was is cell old gone came stayed = ap (λ (t : Bool). if t then cond new cell old else None) (sym (gone refl refl).1)
steps true false true was is cell old gone came stayed = ap (λ (t : Bool). if t then cell else None) (sym (came refl))
steps true false false was is cell old gone came stayed = ap (λ (t : Bool). if t then old else None) (stayed refl refl)
steps false leaves true was is cell old gone came stayed = ap (λ (t : Bool). if t then cell else None) (sym (came refl))
steps false leaves false was is cell old gone came stayed = ap (λ (t : Bool). if t then old else None) (stayed refl refl)

leaves_alone : (capacity size m : ℕ) → 0 < capacity → nat_lt capacity (size + 1) ≡ true → nat_eq (size + 1 - capacity) m ≡ true
    → (nat_eq (size + 1) m ≡ false) × (nat_le (first_for capacity (size + 1)) m ≡ false)
leaves_alone capacity size m some full leaves = (grind (arith, nat_tests, full, leaves), grind (arith, nat_tests, full, leaves))

comes_in : (capacity size m : ℕ) → 0 < capacity → nat_eq (size + 1) m ≡ true → nat_le (first_for capacity (size + 1)) m ≡ true
comes_in capacity size m some new = grind (arith, nat_tests, new)

stays_in : (capacity size m : ℕ) → 0 < capacity → (nat_lt capacity (size + 1) && nat_eq (size + 1 - capacity) m) ≡ false → nat_eq (size + 1) m ≡ false
    → nat_le (first_for capacity size) m ≡ nat_le (first_for capacity (size + 1)) m
stays_in capacity size m some stays old = grind (arith, nat_tests, stays, old)

record_cell-next : (capacity : ℕ) (records : History) (text : List ℕ) (m : ℕ) → 0 < capacity →
    cell_after true capacity (length records + 1) text m (record_cell capacity records m) ≡ record_cell capacity (records ++ text ∷ []) m
record_cell-next capacity records text m some =
    let size = length records in
    let new = nat_eq (size + 1) m in
    let old = option_map text_cell (text_at records m) in
    steps (nat_lt capacity (size + 1)) (nat_eq (size + 1 - capacity) m) new (nat_le (first_for capacity size) m) (nat_le (first_for capacity (size + 1)) m) (Some (text_cell text)) old
    (leaves_alone capacity size m some) (comes_in capacity size m some) (stays_in capacity size m some)
    ∙ (λ i. if nat_le (first_for capacity (sym (length-push records text) i)) m then cell_at records text m i else None)
  where
    turned : (a b : ℕ) → nat_eq a b ≡ nat_eq b a
    turned a b = grind (arith, nat_tests)

    cell_at : (records : History) (text : List ℕ) (m : ℕ) → cond (nat_eq (length records + 1) m) (Some (text_cell text)) (option_map text_cell (text_at records m)) ≡ option_map text_cell (text_at (records ++ text ∷ []) m)
    cell_at records text m =
        ap (λ (t : Bool). cond t (Some (text_cell text)) (option_map text_cell (text_at records m))) (turned (length records + 1) m)
        ∙ sym (pull (option_map text_cell) (nat_eq m (length records + 1)) (Some text) (text_at records m))
        ∙ ap (option_map text_cell) (sym (text_at-push records text m))

apart : (capacity n : ℕ) (text : List ℕ) (m : ℕ) (cell : Option Cell) → cell_after false capacity n text m cell ≡ cell
apart capacity n text m cell = either_way (nat_lt capacity n) cell

-- the rows after the next record of a channel, by numbers
abbrev next_rows : Rows → ℕ → Histories → List ℕ → List ℕ → Rows
next_rows rows capacity all c text = applied (write_changes capacity c (length (history all c) + 1) text) rows

next_last : (rows : Rows) (all : Histories) (capacity boot : ℕ) (c text d : List ℕ) → IsWindow rows all capacity boot →
    finite.get (next_rows rows capacity all c text) (last_key d) ≡ last_cell (length (history (extended all c text) d))
next_last rows all capacity boot c text d window =
    let size = length (history all c) in
    at_last rows capacity (size + 1) c text d
    ∙ (elim (one c d) as (λ t. cond t (Some (number_cell (size + 1))) (finite.get rows (last_key d)) ≡ last_cell (length (cond t (history all c ++ text ∷ []) (history all d)))) [
      | true ↦ last_cell-next size ∙ ap last_cell (sym (length-push (history all c) text))
      | false ↦ window.last_rows d
    ])
    ∙ ap (λ (records : History). last_cell (length records)) (sym (history-extended all c text d))

next_record : (rows : Rows) (all : Histories) (capacity boot : ℕ) (c text d : List ℕ) (m : ℕ) → 0 < capacity → IsWindow rows all capacity boot →
    finite.get (next_rows rows capacity all c text) (record_key d m) ≡ record_cell capacity (history (extended all c text) d) m
next_record rows all capacity boot c text d m some window =
    let size = length (history all c) in
    at_record rows capacity (size + 1) c text d m
    ∙ ap (cell_after (one c d) capacity (size + 1) text m) (window.record_rows d m)
    ∙ (elim (one c d) as (λ t. one c d ≡ t → cell_after t capacity (size + 1) text m (record_cell capacity (history all d) m) ≡ record_cell capacity (cond t (history all c ++ text ∷ []) (history all d)) m) [
      | true ↦ λ t. ap (λ (e : List ℕ). cell_after true capacity (size + 1) text m (record_cell capacity (history all e) m)) (sym (one_name c d t)) ∙ record_cell-next capacity (history all c) text m some
      | false ↦ λ t. apart capacity (size + 1) text m (record_cell capacity (history all d) m)
    ] refl)
    ∙ ap (λ (records : History). record_cell capacity records m) (sym (history-extended all c text d))

next_window : (rows : Rows) (all : Histories) (capacity boot : ℕ) (c text : List ℕ) → 0 < capacity → IsWindow rows all capacity boot →
    IsWindow (next_rows rows capacity all c text) (extended all c text) capacity boot
next_window rows all capacity boot c text some window =
    let n = length (history all c) + 1 in
    record {
      capacity_row = at_capacity rows capacity n c text ∙ window.capacity_row;
      boot_row = at_boot rows capacity n c text ∙ window.boot_row;
      last_rows = λ d. next_last rows all capacity boot c text d window;
      record_rows = λ d m. next_record rows all capacity boot c text d m some window;
    }

-- writing keeps the rows a window
pub extends : (rows rows' : Rows) (event : Event) (n : ℕ) → n ≡ last_of rows event.channel + 1 → rows' ≡ written rows event.channel (next_text rows event)
    → ExtendsHistory rows rows' event n
extends rows rows' event n numbered wrote all capacity boot some begun window =
    let c = event.channel in
    let last = last_in rows all capacity boot window c in
    let text = numbered_text event n in
    let same : written rows c (next_text rows event) ≡ next_rows rows capacity all c text =
    λ i. applied (write_changes (capacity_in rows all capacity boot begun window i) c (last i + 1) (numbered_text event (sym numbered i))) rows in
    let is : next_rows rows capacity all c text ≡ rows' = sym (wrote ∙ same) in
    (numbered ∙ ap (λ k. k + 1) last, subst (λ (r : Rows). IsWindow r (extended all c text) capacity boot) is (next_window rows all capacity boot c text some window))

-- ---- a start

pub nothing_is_empty : NothingIsEmpty
nothing_is_empty capacity = record {
  capacity_row = finite.get-empty key_cmp capacity_key;
  boot_row = finite.get-empty key_cmp boot_key;
  last_rows = λ c. finite.get-empty key_cmp (last_key c) ∙ ap (λ (records : History). last_cell (length records)) (sym (no_history c));
  record_rows = λ c n. finite.get-empty key_cmp (record_key c n) ∙ no_record capacity n ∙ ap (λ (records : History). record_cell capacity records n) (sym (no_history c));
}
  where
    no_history : (c : List ℕ) → history finite.empty c ≡ []
    no_history c = ap (λ (found : Option History). unwrap_or found []) (finite.get-empty (slice_cmp nat_cmp) c)

    no_record : (capacity n : ℕ) → None ≡ record_cell capacity [] n
    no_record capacity n =
        let none : Option Cell = None in
        let missing : option_map text_cell (text_at [] n) ≡ none = ap (option_map text_cell) (either_way (n == 0) (text_at [] 0)) in
        sym (ap (λ (cell : Option Cell). if nat_le (first_for capacity 0) n then cell else none) missing ∙ either_way (nat_le (first_for capacity 0) n) none)

-- what a start leaves at a key, where a cell of the capacity stands or not
start_at : (rows : Rows) (capacity : ℕ) (q : Key) (kept : Option Cell) → finite.get rows capacity_key ≡ kept
    → finite.get (started rows capacity) q ≡ found_after (capacity_changes capacity kept ++ Put (record { key = boot_key; value = boot_of rows + 1; body = [] }) ∷ []) q (finite.get rows q)
start_at rows capacity q kept e =
    get-applied (start_changes rows capacity) rows q
    ∙ ap (λ (cell : Option Cell). found_after (capacity_changes capacity cell ++ Put (record { key = boot_key; value = boot_of rows + 1; body = [] }) ∷ []) q (finite.get rows q)) e

-- a start leaves other rows than those of the capacity and the boot number
start_apart : (rows : Rows) (capacity : ℕ) (q : Key) → hits capacity_key q ≡ false → hits boot_key q ≡ false → finite.get (started rows capacity) q ≡ finite.get rows q
start_apart rows capacity q no_capacity no_boot = start_at rows capacity q (finite.get rows capacity_key) refl ∙ by_cell (finite.get rows capacity_key) (finite.get rows q)
  where
    by_cell : (kept cell : Option Cell) → found_after (capacity_changes capacity kept ++ Put (record { key = boot_key; value = boot_of rows + 1; body = [] }) ∷ []) q cell ≡ cell
    by_cell None cell =
        ap (λ (t : Bool). cond t (Some (number_cell (boot_of rows + 1))) (cond (hits capacity_key q) (Some (number_cell capacity)) cell)) no_boot
        ∙ ap (λ (t : Bool). cond t (Some (number_cell capacity)) cell) no_capacity
    by_cell (Some kept) cell = ap (λ (t : Bool). cond t (Some (number_cell (boot_of rows + 1))) cell) no_boot

capacity_kept : (rows : Rows) (capacity : ℕ) (kept : Option Cell) → finite.get rows capacity_key ≡ kept → finite.get (started rows capacity) capacity_key ≡ Some (unwrap_or kept (number_cell capacity))
capacity_kept rows capacity None e = start_at rows capacity capacity_key None e
capacity_kept rows capacity (Some cell) e = start_at rows capacity capacity_key (Some cell) e ∙ e

boot_kept : (rows : Rows) (capacity : ℕ) (kept : Option Cell) → finite.get rows capacity_key ≡ kept → finite.get (started rows capacity) boot_key ≡ Some (number_cell (boot_of rows + 1))
boot_kept rows capacity None e = start_at rows capacity boot_key None e
boot_kept rows capacity (Some cell) e = start_at rows capacity boot_key (Some cell) e

capacity_next : (capacity boot : ℕ) → Some (unwrap_or (capacity_cell capacity boot) (number_cell capacity)) ≡ capacity_cell capacity (boot + 1)
capacity_next capacity boot =
    elim (boot == 0) as (λ t. Some (unwrap_or (if t then None else Some (number_cell capacity)) (number_cell capacity)) ≡ Some (number_cell capacity)) [ true ↦ refl | false ↦ refl ]
    ∙ ap (λ (t : Bool). if t then None else Some (number_cell capacity)) (not_zero boot)
  where
    not_zero : (n : ℕ) → false ≡ (n + 1 == 0)
    not_zero n = grind (arith, nat_tests)

pub starts_keep : StartsKeep
unfolding number_of
starts_keep rows all capacity boot window =
    let kept = finite.get rows capacity_key in
    let number : boot_of rows ≡ boot = ap number_of window.boot_row ∙ last_cell-number boot in
    record {
      capacity_row = capacity_kept rows capacity kept refl ∙ ap (λ (cell : Option Cell). Some (unwrap_or cell (number_cell capacity))) window.capacity_row ∙ capacity_next capacity boot;
      boot_row = boot_kept rows capacity kept refl ∙ ap (λ n. Some (number_cell (n + 1))) number ∙ last_cell-next boot;
      last_rows = λ c. start_apart rows capacity (last_key c) refl refl ∙ window.last_rows c;
      record_rows = λ c n. start_apart rows capacity (record_key c n) refl refl ∙ window.record_rows c n;
    }
