-- The rows that say when the sources of a subscription were heard, where they are of their form: their sources are in order, each
-- row stands at the key of its own source, and of no other source one stands.
use Rattle.std.proofs.Common.{◌≡◌, ℕ, ◌<◌, ◌==◌, ◌&&◌, ◌||◌, Bool, true, false, cond, T, List, [], ◌∷◌, map, length, nat_eq, refl, sym, ap, ◌∙◌, subst, arith}
use Rattle.std.proofs.lemmas.Bool.{and_parts, eqb-true}
use Rattle.std.proofs.lemmas.List.{nil_from_length}
use Rattle.std.proofs.lemmas.List.Elements.{All-head, All-tail, filter_passes}
use Rattle.std.specs.Cmp.{tied_itself}
use Rattle.std.specs.Cmp.Lexicographic.{bytes_decides, nat_list_cmp_total, pointwise, slice_cmp}
use Rattle.std.specs.FinMap as finite
use Rattle.std.specs.FinMap.Entries.{below_all, find, find-where_key, is_sorted, is_sorted-where_key, where_key}
use Rattle.std.specs.List.{All, AllByRecursion, list_all}
use Rattle.std.specs.List.Sorted.{IsStrictlySortedBy}
use Rattle.std.specs.Option.{option_map}
use Rattle.std.specs.Ordering.{eq_by_cmp, is_eq, is_lt, nat_cmp, ordering_then}
use Rattle.std.specs.Prelude.{Option, Some, None}
use Rattle.std.specs.declared.cmp.Ordering.{Ordering}
use Rattle.std.specs.declared.cmp.Ordering.TheVariants.{Less, Equal, Greater}
use Rattle.wef_base.specs.Names.{same}
use Rattle.wef_keeper.proofs.Sections.{rows_kept, tested_alike}
use Rattle.wef_keeper.proofs.Stands.{Stands, first, rows_stand, second}
use Rattle.wef_keeper.specs.Rows.{Rows, is_after, key_cmp, key_cmp_exact, row_of, rows_after}
use Rattle.wef_keeper.specs.Sections.{is_under}
use Rattle.wef_keeper.specs.declared.keys.Cell.{Cell}
use Rattle.wef_keeper.specs.declared.keys.Depth.TheVariants.{Sub}
use Rattle.wef_keeper.specs.declared.keys.Key.{Key}
use Rattle.wef_keeper.specs.declared.keys.Row.{Row}
use Rattle.wef_query.specs.Order.{IsInOrder, has}
use Rattle.wef_collector_reports.specs.Report.{heard_rows}
use Rattle.wef_collector_rows.specs.Forms.{is_empty, is_formed, is_heard_row, is_moment, names_source}
use Rattle.wef_collector_rows.specs.Keys.{heard_key}
use Rattle.wef_collector_statuses.specs.Statuses.{heard_at}
use Rattle.wef_collector_statuses.proofs.Merging.{same_self}

-- ---- one row

-- a row, as one of a kind
abbrev of_kind : Row → ℕ → Row
of_kind row kind = record {
  key = record { kind = kind; sub = row.key.sub; source = row.key.source; channel = row.key.channel; number = row.key.number };
  value = row.value;
  body = row.body;
}

as_heard : (row : Row) → row.key.kind ≡ 6 → is_heard_row row ≡ is_formed row
unfolding is_formed is_heard_row
as_heard row kind = sym (ap (λ (n : ℕ). is_formed (of_kind row n)) kind)

-- A row says when a source of a subscription was heard.
pub record IsHeard (u : List ℕ) (row : Row) : Type 0 where
  pub own : row.key ≡ heard_key u row.key.source
  pub moment : is_moment row.value ≡ true

nothing : (text : List ℕ) → is_empty text ≡ true → text ≡ []
nothing text e = nil_from_length text (eqb-true (length text) 0 e)

heard_of : (u : List ℕ) (row : Row) → is_under Sub (heard_key u []) row.key ≡ true → is_formed row ≡ true → IsHeard u row
unfolding is_heard_row
heard_of u row under formed =
    let k = row.key in
    let at = and_parts (nat_eq 6 k.kind) (pointwise nat_eq u k.sub) under in
    let kind = sym (eqb-true 6 k.kind at.0) in
    let sub = sym ((bytes_decides u k.sub).0 at.1) in
    let heard : is_heard_row row ≡ true = as_heard row kind ∙ formed in
    let a = and_parts (names_source k && is_empty k.channel && k.number == 0 && is_moment row.value) (is_empty row.body) heard in
    let b = and_parts (names_source k && is_empty k.channel && k.number == 0) (is_moment row.value) a.0 in
    let c = and_parts (names_source k && is_empty k.channel) (k.number == 0) b.0 in
    let d = and_parts (names_source k) (is_empty k.channel) c.0 in
    let channel = nothing k.channel d.1 in
    let number = eqb-true k.number 0 c.1 in
    record {
      own = λ i. record { kind = kind i; sub = sub i; source = k.source; channel = channel i; number = number i };
      moment = b.1;
    }

all_heard : (u : List ℕ) (found : List Row) → All (λ (row : Row). is_under Sub (heard_key u []) row.key ≡ true) found → list_all is_formed found ≡ true → AllByRecursion (IsHeard u) found
all_heard u [] under formed = tt
all_heard u (row ∷ found) under formed =
    let P = λ (r : Row). is_under Sub (heard_key u []) r.key ≡ true in
    let both = and_parts (is_formed row) (list_all is_formed found) formed in
    (heard_of u row (All-head P row found under) both.0, all_heard u found (All-tail P row found under) both.1)

pub rows_are_heard : (rows : Rows) (u : List ℕ) → list_all is_formed (heard_rows rows u) ≡ true → AllByRecursion (IsHeard u) (heard_rows rows u)
rows_are_heard rows u formed = all_heard u (heard_rows rows u) (filter_passes (λ (row : Row). is_under Sub (heard_key u []) row.key) (rows_after (heard_key u []) rows)) formed

-- ---- the moment of a source that was heard

stands_heard : (rows : Rows) (u : List ℕ) (found : List Row) → All (Stands rows) found → AllByRecursion (IsHeard u) found → AllByRecursion (λ (row : Row). heard_at rows u row.key.source ≡ Some row.value) found
stands_heard rows u [] stand heard = tt
stands_heard rows u (row ∷ found) stand heard =
    let there = ap (finite.get rows) (sym heard.0.own) ∙ All-head (Stands rows) row found stand in
    (ap (option_map (λ (cell : Cell). cell.value)) there, stands_heard rows u found (All-tail (Stands rows) row found stand) heard.1)

pub heard_moments : (rows : Rows) (u : List ℕ) → list_all is_formed (heard_rows rows u) ≡ true → AllByRecursion (λ (row : Row). heard_at rows u row.key.source ≡ Some row.value) (heard_rows rows u)
heard_moments rows u formed = stands_heard rows u (heard_rows rows u) (rows_stand Sub (heard_key u []) rows) (rows_are_heard rows u formed)

-- ---- the entries of the section

abbrev source_of : Row → List ℕ
source_of row = row.key.source

entries_of : Rows → List ℕ → List (Key × Cell)
entries_of rows u = where_key key_cmp (is_under Sub (heard_key u [])) (where_key key_cmp (is_after (heard_key u [])) (finite.entries rows))

rows_are : (rows : Rows) (u : List ℕ) → heard_rows rows u ≡ map row_of (entries_of rows u)
unfolding entries_of
rows_are rows u = rows_kept (is_under Sub (heard_key u [])) (where_key key_cmp (is_after (heard_key u [])) (finite.entries rows))

-- what stands at a key there
entry_at : (rows : Rows) (u : List ℕ) (q : Key) → find key_cmp q (entries_of rows u) ≡ cond (is_under Sub (heard_key u []) q) (cond (is_after (heard_key u []) q) (finite.get rows q) None) None
unfolding entries_of
entry_at rows u q =
    let start = heard_key u [] in
    find-where_key key_cmp (is_under Sub start) q (tested_alike (is_under Sub start) q) (where_key key_cmp (is_after start) (finite.entries rows))
    ∙ ap (λ (o : Option Cell). cond (is_under Sub start q) o None)
    (find-where_key key_cmp (is_after start) q (tested_alike (is_after start) q) (finite.entries rows) ∙ ap (λ (o : Option Cell). cond (is_after start q) o None) (sym (finite.get-entries rows q)))

entries_rise : (rows : Rows) (u : List ℕ) → T (is_sorted key_cmp (entries_of rows u))
unfolding entries_of
entries_rise rows u =
    is_sorted-where_key key_cmp (is_under Sub (heard_key u [])) (where_key key_cmp (is_after (heard_key u [])) (finite.entries rows))
    (is_sorted-where_key key_cmp (is_after (heard_key u [])) (finite.entries rows) (finite.entries_sorted rows))

-- ---- their sources are in order

less_then : (r : Ordering) → T (is_lt (ordering_then r Equal)) → r ≡ Less
less_then Less h = refl
less_then Equal h = absurd h
less_then Greater h = absurd h

-- keys of sources go by these
by_source : (u s name : List ℕ) → key_cmp (heard_key u s) (heard_key u name) ≡ ordering_then (slice_cmp nat_cmp s name) Equal
by_source u s name = ap (λ (r : Ordering). ordering_then r (ordering_then (slice_cmp nat_cmp s name) Equal)) (tied_itself nat_list_cmp_total u)

source_rises : (u : List ℕ) (k q : Key) → k ≡ heard_key u k.source → q ≡ heard_key u q.source → T (is_lt (key_cmp k q)) → slice_cmp nat_cmp k.source q.source ≡ Less
source_rises u k q is also less =
    less_then (slice_cmp nat_cmp k.source q.source) (subst (λ (r : Ordering). T (is_lt r)) ((λ i. key_cmp (is i) (also i)) ∙ by_source u k.source q.source) less)

sources_above : (u : List ℕ) (k : Key) (entries : List (Key × Cell)) → k ≡ heard_key u k.source → AllByRecursion (IsHeard u) (map row_of entries) → T (below_all key_cmp k entries)
    → AllByRecursion (λ (name : List ℕ). slice_cmp nat_cmp k.source name ≡ Less) (map source_of (map row_of entries))
sources_above u k [] is heard below = tt
sources_above u k (e ∷ entries) is heard below = (
  source_rises u k e.0 is heard.0.own (first (is_lt (key_cmp k e.0)) (below_all key_cmp k entries) below),
  sources_above u k entries is heard.1 (second (is_lt (key_cmp k e.0)) (below_all key_cmp k entries) below),
)

sources_rise : (u : List ℕ) (entries : List (Key × Cell)) → AllByRecursion (IsHeard u) (map row_of entries) → T (is_sorted key_cmp entries) → IsInOrder (map source_of (map row_of entries))
unfolding IsStrictlySortedBy
sources_rise u [] heard sorted = tt
sources_rise u (e ∷ entries) heard sorted = (
  sources_above u e.0 entries heard.0.own heard.1 (first (below_all key_cmp e.0 entries) (is_sorted key_cmp entries) sorted),
  sources_rise u entries heard.1 (second (below_all key_cmp e.0 entries) (is_sorted key_cmp entries) sorted),
)

pub sources_in_order : (rows : Rows) (u : List ℕ) → list_all is_formed (heard_rows rows u) ≡ true → IsInOrder (map (λ (row : Row). row.key.source) (heard_rows rows u))
sources_in_order rows u formed =
    let heard : AllByRecursion (IsHeard u) (map row_of (entries_of rows u)) = subst (AllByRecursion (IsHeard u)) (rows_are rows u) (rows_are_heard rows u formed) in
    subst (λ (found : List Row). IsInOrder (map source_of found)) (sym (rows_are rows u)) (sources_rise u (entries_of rows u) heard (entries_rise rows u))

-- ---- of no other source a row stands

tie : (r : Ordering) → is_eq r ≡ true → r ≡ Equal
tie Less e = cc
tie Equal e = refl
tie Greater e = cc

-- a key of another source is another one
other_key : (q k : Key) → same q.source k.source ≡ false → eq_by_cmp key_cmp q k ≡ false
other_key q k other = by (eq_by_cmp key_cmp q k) refl
  where
    by : (b : Bool) → eq_by_cmp key_cmp q k ≡ b → eq_by_cmp key_cmp q k ≡ false
    by true hit =
        let one : q ≡ k = key_cmp_exact q k (tie (key_cmp q k) hit) in
        let there : same q.source k.source ≡ true = subst (λ (e : Key). same q.source e.source ≡ true) one (same_self q.source) in
        let bad : ⊥ = cc in absurd bad
    by false miss = miss

not_found : (q : Key) (entries : List (Key × Cell)) → has (map source_of (map row_of entries)) q.source ≡ false → find key_cmp q entries ≡ None
not_found q [] none = refl
not_found q (e ∷ entries) none = by (same q.source e.0.source) refl none (not_found q entries)
  where
    by : (b : Bool) → same q.source e.0.source ≡ b → (b || has (map source_of (map row_of entries)) q.source) ≡ false
        → (has (map source_of (map row_of entries)) q.source ≡ false → find key_cmp q entries ≡ None) → find key_cmp q (e ∷ entries) ≡ None
    by true is none rest = let bad : ⊥ = cc in absurd bad
    by false is none rest = ap (λ (b : Bool). cond b (Some e.1) (find key_cmp q entries)) (other_key q e.0 is) ∙ rest none

pub never_heard : (rows : Rows) (u name : List ℕ) → 0 < length name → has (map (λ (row : Row). row.key.source) (heard_rows rows u)) name ≡ false → heard_at rows u name ≡ None
never_heard rows u [] some none = absurd (omega arith)
never_heard rows u (b ∷ bs) some none =
    let start = heard_key u [] in
    let q = heard_key u (b ∷ bs) in
    let missed : find key_cmp q (entries_of rows u) ≡ None = not_found q (entries_of rows u) (subst (λ (found : List Row). has (map source_of found) (b ∷ bs) ≡ false) (rows_are rows u) none) in
    let under : is_under Sub start q ≡ true = same_self u in
    let after : is_after start q ≡ true = ap is_lt (by_source u [] (b ∷ bs)) in
    let there : finite.get rows q ≡ None = sym (λ i. cond (under i) (cond (after i) (finite.get rows q) None) None) ∙ sym (entry_at rows u q) ∙ missed in
    ap (option_map (λ (cell : Cell). cell.value)) there
