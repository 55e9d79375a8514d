-- What lies in rows after changes of leases.
use Rattle.std.proofs.Common.{◌≡◌, ℕ, ◌<◌, ◌==◌, nat_eq, Bool, true, false, ◌||◌, cond, List, [], ◌∷◌, map, length, refl, sym, ap, ◌∙◌, arith, if◌then◌else◌}
use Rattle.std.proofs.lemmas.Bool.{and_parts, eqb-true}
use Rattle.std.specs.Cmp.{eq_by_cmp_equiv}
use Rattle.std.specs.Cmp.Lexicographic.{bytes_decides}
use Rattle.std.specs.FinMap as finite
use Rattle.std.specs.FinMap.Entries.{find}
use Rattle.std.proofs.lemmas.List.Elements.{All-head, All-tail, filter_passes}
use Rattle.std.specs.List.{All, filter, list_any}
use Rattle.std.specs.Option.{option_map}
use Rattle.std.specs.Ordering.{eq_by_cmp, is_eq}
use Rattle.std.specs.declared.cmp.Ordering.{Ordering}
use Rattle.std.specs.declared.cmp.Ordering.TheVariants.{Less, Equal, Greater}
use Rattle.std.specs.Prelude.{Option, Some, None}
use Rattle.wef_base.specs.Names.{same}
use Rattle.wef_keeper.specs.Kinds.{number_of}
use Rattle.wef_keeper.specs.Laws.{get-applied, get-unnamed}
use Rattle.wef_keeper.specs.Rows.{Rows, applied, found_after, is_after, is_named, key_cmp, key_cmp_exact, key_cmp_total, row_of, rows_after}
use Rattle.wef_keeper.specs.Sections.{is_under}
use Rattle.wef_keeper.specs.declared.keys.Cell.{Cell}
use Rattle.wef_keeper.specs.declared.keys.Change.{Change}
use Rattle.wef_keeper.specs.declared.keys.Depth.{Depth}
use Rattle.wef_keeper.specs.declared.keys.Depth.TheVariants.{Kind}
use Rattle.wef_keeper.specs.declared.keys.Key.{Key}
use Rattle.wef_keeper.specs.declared.keys.Row.{Row}
use Rattle.wef_keeper.specs.declared.kinds.RowKind.TheVariants as kinds
use Rattle.wef_collector_rows.specs.Keys.{lease_key}
use Rattle.wef_collector_leases.specs.Changes.{delete_kept, delete_lease, delete_named, deletes, is_lease, put_lease, put_over}
use Rattle.wef_collector_leases.specs.Laws.{LeasesAreChanged, is_its_key, unless_named}
use Rattle.wef_collector_leases.specs.Leases.{lease_at, lease_of, lease_rows}
use Rattle.wef_collector_leases.specs.declared.leases.Lease.{Lease}

is_own : (k : Key) → eq_by_cmp key_cmp k k ≡ true
is_own k = (eq_by_cmp_equiv key_cmp_total).refl k

-- ---- one lease

put_found : (rows : Rows) (u s : List ℕ) (lease : Lease) → lease_at (applied (put_lease u s lease ∷ []) rows) u s ≡ Some lease
put_found rows u s lease =
    ap (option_map lease_of) (get-applied (put_lease u s lease ∷ []) rows (lease_key u s))
    ∙ ap (λ (b : Bool). option_map lease_of (cond b (Some (record { value = lease.expiry; body = lease.identifier })) (finite.get rows (lease_key u s)))) (is_own (lease_key u s))

deleted_found : (rows : Rows) (u s : List ℕ) → lease_at (applied (delete_lease u s ∷ []) rows) u s ≡ None
deleted_found rows u s =
    ap (option_map lease_of) (get-applied (delete_lease u s ∷ []) rows (lease_key u s))
    ∙ ap (λ (b : Bool). option_map lease_of (cond b None (finite.get rows (lease_key u s)))) (is_own (lease_key u s))

same_lease : (lease kept : Lease) → is_lease lease kept ≡ true → kept ≡ lease
same_lease lease kept e =
    let parts = and_parts (same lease.identifier kept.identifier) (lease.expiry == kept.expiry) e in
    let identifier = sym ((bytes_decides lease.identifier kept.identifier).0 parts.0) in
    let expiry = sym (eqb-true lease.expiry kept.expiry parts.1) in
    λ i. record { identifier = identifier i; expiry = expiry i }

replaced : (rows : Rows) (u s : List ℕ) (lease : Lease) (kept : Option Lease) → lease_at rows u s ≡ kept → lease_at (applied (put_over u s lease kept) rows) u s ≡ Some lease
replaced rows u s lease None is = put_found rows u s lease
replaced rows u s lease (Some kept) is = by (is_lease lease kept) refl
  where
    by : (t : Bool) → is_lease lease kept ≡ t → lease_at (applied (if t then [] else put_lease u s lease ∷ []) rows) u s ≡ Some lease
    by true e = is ∙ ap (λ (l : Lease). Some l) (same_lease lease kept e)
    by false e = put_found rows u s lease

cleared : (rows : Rows) (u s : List ℕ) (kept : Option Lease) → lease_at rows u s ≡ kept → lease_at (applied (delete_kept u s kept) rows) u s ≡ None
cleared rows u s None is = is
cleared rows u s (Some kept) is = deleted_found rows u s

ended : (rows : Rows) (u s identifier : List ℕ) (kept : Option Lease) → lease_at rows u s ≡ kept → lease_at (applied (delete_named u s identifier kept) rows) u s ≡ unless_named identifier kept
ended rows u s identifier None is = is
ended rows u s identifier (Some kept) is = by (same kept.identifier identifier)
  where
    by : (t : Bool) → lease_at (applied (if t then delete_lease u s ∷ [] else []) rows) u s ≡ (if t then None else Some kept)
    by true = deleted_found rows u s
    by false = is

-- ---- other rows

or_none : (b : Bool) → b ≡ false → (b || false) ≡ false
or_none true e = e
or_none false e = refl

one_named : (t : Bool) (change : Change) (key : Key) → is_named (change ∷ []) key ≡ false → is_named (if t then [] else change ∷ []) key ≡ false
one_named true change key e = refl
one_named false change key e = e

one_unless : (t : Bool) (change : Change) (key : Key) → is_named (change ∷ []) key ≡ false → is_named (if t then change ∷ [] else []) key ≡ false
one_unless true change key e = e
one_unless false change key e = refl

put_other : (u s : List ℕ) (lease : Lease) (kept : Option Lease) (key : Key) → is_its_key u s key ≡ false → is_named (put_over u s lease kept) key ≡ false
put_other u s lease None key e = or_none (is_its_key u s key) e
put_other u s lease (Some kept) key e = one_named (is_lease lease kept) (put_lease u s lease) key (or_none (is_its_key u s key) e)

delete_other : (u s : List ℕ) (kept : Option Lease) (key : Key) → is_its_key u s key ≡ false → is_named (delete_kept u s kept) key ≡ false
delete_other u s None key e = refl
delete_other u s (Some kept) key e = or_none (is_its_key u s key) e

named_other : (u s identifier : List ℕ) (kept : Option Lease) (key : Key) → is_its_key u s key ≡ false → is_named (delete_named u s identifier kept) key ≡ false
named_other u s identifier None key e = refl
named_other u s identifier (Some kept) key e = one_unless (same kept.identifier identifier) (delete_lease u s) key (or_none (is_its_key u s key) e)

-- ---- all leases

none_found : (rs : List Row) (q : Key) → found_after (deletes rs) q None ≡ None
none_found [] q = refl
none_found (r ∷ rs) q = by (eq_by_cmp key_cmp r.key q) (none_found rs q)
  where
    by : (b : Bool) → found_after (deletes rs) q None ≡ None → found_after (deletes rs) q (cond b None None) ≡ None
    by true rest = rest
    by false rest = rest

-- a key that is deleted has no row
deleted_is : (rs : List Row) (q : Key) (cell : Option Cell) → list_any (λ (r : Row). eq_by_cmp key_cmp r.key q) rs ≡ true → found_after (deletes rs) q cell ≡ None
deleted_is [] q cell has = cc
deleted_is (r ∷ rs) q cell has = by (eq_by_cmp key_cmp r.key q) (deleted_is rs q cell) has
  where
    by : (b : Bool) → (list_any (λ (r : Row). eq_by_cmp key_cmp r.key q) rs ≡ true → found_after (deletes rs) q cell ≡ None)
        → (b || list_any (λ (r : Row). eq_by_cmp key_cmp r.key q) rs) ≡ true → found_after (deletes rs) q (cond b None cell) ≡ None
    by true rest has = none_found rs q
    by false rest has = rest has

-- two keys that tie are one
one_key : (k q : Key) → eq_by_cmp key_cmp k q ≡ true → k ≡ q
one_key k q e = key_cmp_exact k q (tie (key_cmp k q) e)
  where
    tie : (r : Ordering) → is_eq r ≡ true → r ≡ Equal
    tie Less e = cc
    tie Equal e = refl
    tie Greater e = cc

-- an entry that is found has a row in each section that its key is in
module _ (depth : Depth) (a q : Key) where
  abbrev behind : List (Key × Cell) → List (Key × Cell)
  behind es = filter (λ (e : Key × Cell). is_after a e.0) es

  abbrev section : List (Key × Cell) → List Row
  section es = filter (λ (row : Row). is_under depth a row.key) (map row_of (behind es))

  abbrev has : List Row → Bool
  has rs = list_any (λ (r : Row). eq_by_cmp key_cmp r.key q) rs

  has_behind : (t : Bool) (row : Row) (rs : List Row) → has rs ≡ true → has (cond t (row ∷ rs) rs) ≡ true
  has_behind true row rs e = by (eq_by_cmp key_cmp row.key q)
    where
      by : (b : Bool) → (b || has rs) ≡ true
      by true = refl
      by false = e
  has_behind false row rs e = e

  in_section : is_after a q ≡ true → is_under depth a q ≡ true → (es : List (Key × Cell)) (cell : Cell) → find key_cmp q es ≡ Some cell → has (section es) ≡ true
  in_section after under [] cell e = cc
  in_section after under (entry ∷ es) cell e = by (in_section after under es cell) (eq_by_cmp key_cmp q entry.0) refl e
    where
      -- the entry of another key stands in front, if it is in the section at all
      past : (t : Bool) → has (section es) ≡ true → has (filter (λ (row : Row). is_under depth a row.key) (map row_of (cond t (entry ∷ behind es) (behind es)))) ≡ true
      past true h = has_behind (is_under depth a entry.0) (row_of entry) (section es) h
      past false h = h

      by : (find key_cmp q es ≡ Some cell → has (section es) ≡ true) → (b : Bool) → eq_by_cmp key_cmp q entry.0 ≡ b → cond b (Some entry.1) (find key_cmp q es) ≡ Some cell → has (section (entry ∷ es)) ≡ true
      by rest true hits found =
          let same = one_key q entry.0 hits in
          ap (λ (t : Bool). has (filter (λ (row : Row). is_under depth a row.key) (map row_of (cond t (entry ∷ behind es) (behind es))))) (ap (is_after a) (sym same) ∙ after)
          ∙ ap (λ (t : Bool). has (cond t (row_of entry ∷ section es) (section es))) (ap (is_under depth a) (sym same) ∙ under)
          ∙ ap (λ (t : Bool). t || has (section es)) ((eq_by_cmp_equiv key_cmp_total).symm entry.0 q ∙ hits)
      by rest false misses found = past (is_after a entry.0) (rest found)

-- the key of a lease is in the section of all
in_kind : (u s : List ℕ) → is_under Kind (lease_key [] []) (lease_key u s) ≡ true
in_kind u s = refl

behind_all : (u s : List ℕ) → 0 < length u → is_after (lease_key [] []) (lease_key u s) ≡ true
behind_all [] s some = absurd (omega arith)
behind_all (x ∷ u) s some = refl

released_by : (rows : Rows) (u s : List ℕ) → 0 < length u → (cell : Option Cell) → finite.get rows (lease_key u s) ≡ cell → found_after (deletes (lease_rows rows)) (lease_key u s) cell ≡ None
released_by rows u s some None is = none_found (lease_rows rows) (lease_key u s)
released_by rows u s some (Some cell) is =
    deleted_is (lease_rows rows) (lease_key u s) (Some cell)
    (in_section Kind (lease_key [] []) (lease_key u s) (behind_all u s some) (in_kind u s) (finite.entries rows) cell (sym (finite.get-entries rows (lease_key u s)) ∙ is))

released : (rows : Rows) (u s : List ℕ) → 0 < length u → lease_at (applied (deletes (lease_rows rows)) rows) u s ≡ None
released rows u s some =
    ap (option_map lease_of) (get-applied (deletes (lease_rows rows)) rows (lease_key u s) ∙ released_by rows u s some (finite.get rows (lease_key u s)) refl)

-- no key of another kind is deleted
other_kind : (rs : List Row) (key : Key) → All (λ (r : Row). is_under Kind (lease_key [] []) r.key ≡ true) rs → nat_eq (number_of kinds.Lease) key.kind ≡ false → is_named (deletes rs) key ≡ false
other_kind [] key all other = refl
other_kind (r ∷ rs) key all other =
    let P = λ (r : Row). is_under Kind (lease_key [] []) r.key ≡ true in
    by (eq_by_cmp key_cmp r.key key) refl (other_kind rs key (All-tail P r rs all) other) (All-head P r rs all)
  where
    by : (b : Bool) → eq_by_cmp key_cmp r.key key ≡ b → is_named (deletes rs) key ≡ false → is_under Kind (lease_key [] []) r.key ≡ true → (b || is_named (deletes rs) key) ≡ false
    by true hits rest kind = let same = ap (λ (k : Key). nat_eq (number_of kinds.Lease) k.kind) (one_key r.key key hits) in cc
    by false hits rest kind = rest

all_of_kind : (rows : Rows) → All (λ (r : Row). is_under Kind (lease_key [] []) r.key ≡ true) (lease_rows rows)
all_of_kind rows = filter_passes (λ (r : Row). is_under Kind (lease_key [] []) r.key) (rows_after (lease_key [] []) rows)

pub leases_are_changed : LeasesAreChanged
leases_are_changed = record {
  replaced = λ rows u s lease. replaced rows u s lease (lease_at rows u s) refl;
  cleared = λ rows u s. cleared rows u s (lease_at rows u s) refl;
  ended = λ rows u s identifier. ended rows u s identifier (lease_at rows u s) refl;
  others_replaced = λ rows u s lease key e. get-unnamed (put_over u s lease (lease_at rows u s)) rows key (put_other u s lease (lease_at rows u s) key e);
  others_cleared = λ rows u s key e. get-unnamed (delete_kept u s (lease_at rows u s)) rows key (delete_other u s (lease_at rows u s) key e);
  others_ended = λ rows u s identifier key e. get-unnamed (delete_named u s identifier (lease_at rows u s)) rows key (named_other u s identifier (lease_at rows u s) key e);
  released = released;
  others_released = λ rows key e. get-unnamed (deletes (lease_rows rows)) rows key (other_kind (lease_rows rows) key (all_of_kind rows) e);
}
