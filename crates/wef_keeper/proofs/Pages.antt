-- Pages and sections of a list of entries in order.
use Rattle.std.proofs.Common.{◌≡◌, ℕ, zero, suc, Bool, true, false, cond, ◌&&◌, T, refl, sym, ap, ◌∙◌, subst, Option, Some, None, List, [], ◌∷◌, ◌++◌, map, take, drop, nat_eq, All}
use Rattle.std.proofs.lemmas.Bool.{and_from, and_parts}
use Rattle.std.proofs.lemmas.List.Elements.{filter_agree, filter_passes, All-head, All-tail, All-map, All-take}
use Rattle.std.specs.BTreeMap.Range.{entries_between}
use Rattle.std.specs.Cmp.{IsTotalOrder, alike_right, tied_itself, Equal-is, unsigned_ties, nat_cmp_total, nat_eq_equiv}
use Rattle.std.specs.Cmp.Lexicographic.{slice_cmp, pointwise, texts_ties, nat_list_cmp_total, nat_list_eq_equiv}
use Rattle.std.specs.FinMap as finite
use Rattle.std.specs.FinMap.Entries.{below_all, is_sorted}
use Rattle.std.specs.List.{filter, AllByRecursion}
use Rattle.std.specs.List.Sorted.{IsStrictlySortedBy}
use Rattle.std.specs.Map.{keys_of}
use Rattle.std.specs.Ordering.{nat_cmp, ordering_then, is_lt, is_eq}
use Rattle.std.specs.declared.cmp.Ordering.{Ordering}
use Rattle.std.specs.declared.cmp.Ordering.TheVariants.{Less, Equal, Greater}
use Rattle.std.specs.declared.ops.Bound.TheVariants.{Excluded, Unbounded}
use Rattle.wef_keeper.specs.Access.{front_rows, IsBehind}
use Rattle.wef_keeper.proofs.Stands.{first, second}
use Rattle.wef_keeper.proofs.Live.{filled, Above, entries-live, above_filled}
use Rattle.wef_keeper.specs.Cells.{live, standing}
use Rattle.wef_keeper.specs.Rows.{Rows, key_cmp, key_cmp_exact, key_cmp_total, row_of, rows_after, is_after}
use Rattle.wef_keeper.specs.Sections.{is_under, is_wanted, front, rows_under, last_key}
use Rattle.wef_keeper.specs.declared.keys.Cell.{Cell}
use Rattle.wef_keeper.specs.declared.keys.Depth.{Depth}
use Rattle.wef_keeper.specs.declared.keys.Depth.TheVariants.{Kind, Sub, Source, Channel}
use Rattle.wef_keeper.specs.declared.keys.Key.{Key}
use Rattle.wef_keeper.specs.declared.keys.Row.{Row}

-- ---- keys between two keys of a section are of the section

-- two that follow in order and whose ends tie in the first part: all three tie there, and follow by the rest
squeezed_by : {J : Type 0} {R : J → J → Ordering} → IsTotalOrder R → (a x y : J) (r s p q : Ordering) → R a x ≡ p → R x y ≡ q → ordering_then p r ≡ Less → ordering_then q s ≡ Less → R a y ≡ Equal
    → (R a x ≡ Equal) × (r ≡ Less) × (s ≡ Less)
squeezed_by o a x y r s Less Less e f h k t = cc (o.trans a x y e f)
squeezed_by o a x y r s Less Equal e f h k t = cc (alike_right o x y a f)
squeezed_by o a x y r s Less Greater e f h k t = cc
squeezed_by o a x y r s Equal Less e f h k t = cc (o.congr a x y e)
squeezed_by o a x y r s Equal Equal e f h k t = (e, h, k)
squeezed_by o a x y r s Equal Greater e f h k t = cc
squeezed_by o a x y r s Greater q e f h k t = cc

squeezed : {J : Type 0} {R : J → J → Ordering} → IsTotalOrder R → (a x y : J) (r s : Ordering) → ordering_then (R a x) r ≡ Less → ordering_then (R x y) s ≡ Less → R a y ≡ Equal
    → (R a x ≡ Equal) × (r ≡ Less) × (s ≡ Less)
squeezed {R = R} o a x y r s = squeezed_by o a x y r s (R a x) (R x y) refl refl

number_tie : (x y : ℕ) → nat_eq x y ≡ true → nat_cmp x y ≡ Equal
number_tie x y e = (Equal-is (nat_cmp x y)).0 (sym (unsigned_ties x y) ∙ e)

tie_number : (x y : ℕ) → nat_cmp x y ≡ Equal → nat_eq x y ≡ true
tie_number x y e = unsigned_ties x y ∙ ap is_eq e

text_tie : (x y : List ℕ) → pointwise nat_eq x y ≡ true → slice_cmp nat_cmp x y ≡ Equal
text_tie x y e = (Equal-is (slice_cmp nat_cmp x y)).0 (sym (texts_ties x y) ∙ e)

tie_text : (x y : List ℕ) → slice_cmp nat_cmp x y ≡ Equal → pointwise nat_eq x y ≡ true
tie_text x y e = texts_ties x y ∙ ap is_eq e

and_left : (a b : Bool) → (a && b) ≡ true → a ≡ true
and_left a b e = (and_parts a b e).0

and_right : (a b : Bool) → (a && b) ≡ true → b ≡ true
and_right a b e = (and_parts a b e).1

-- two keys in order before a key of a section that begins at or before them: the first is of the section too
under_between_sub : (a x y : Key) → key_cmp a x ≡ Less → key_cmp x y ≡ Less → is_under Sub a y ≡ true → is_under Sub a x ≡ true
under_between_sub a x y h k e =
    let kind = squeezed nat_cmp_total a.kind x.kind y.kind _ _ h k (number_tie a.kind y.kind (and_left (nat_eq a.kind y.kind) _ e)) in
    let sub = squeezed nat_list_cmp_total a.sub x.sub y.sub _ _ kind.1 kind.2 (text_tie a.sub y.sub (and_right (nat_eq a.kind y.kind) _ e)) in
    and_from (nat_eq a.kind x.kind) _ (tie_number a.kind x.kind kind.0) (tie_text a.sub x.sub sub.0)

under_between_source : (a x y : Key) → key_cmp a x ≡ Less → key_cmp x y ≡ Less → is_under Source a y ≡ true → is_under Source a x ≡ true
under_between_source a x y h k e =
    let first = and_left (nat_eq a.kind y.kind && pointwise nat_eq a.sub y.sub) _ e in
    let kind = squeezed nat_cmp_total a.kind x.kind y.kind _ _ h k (number_tie a.kind y.kind (and_left (nat_eq a.kind y.kind) _ first)) in
    let sub = squeezed nat_list_cmp_total a.sub x.sub y.sub _ _ kind.1 kind.2 (text_tie a.sub y.sub (and_right (nat_eq a.kind y.kind) _ first)) in
    let source = squeezed nat_list_cmp_total a.source x.source y.source _ _ sub.1 sub.2 (text_tie a.source y.source (and_right (nat_eq a.kind y.kind && pointwise nat_eq a.sub y.sub) _ e)) in
    and_from (nat_eq a.kind x.kind && pointwise nat_eq a.sub x.sub) _ (under_between_sub a x y h k first) (tie_text a.source x.source source.0)

pub under_between : (depth : Depth) (a x y : Key) → key_cmp a x ≡ Less → key_cmp x y ≡ Less → is_under depth a y ≡ true → is_under depth a x ≡ true
under_between Kind a x y h k e =
    let kind = squeezed nat_cmp_total a.kind x.kind y.kind _ _ h k (number_tie a.kind y.kind e) in
    tie_number a.kind x.kind kind.0
under_between Sub a x y h k e = under_between_sub a x y h k e
under_between Source a x y h k e = under_between_source a x y h k e
under_between Channel a x y h k e =
    let second = and_left (nat_eq a.kind y.kind && pointwise nat_eq a.sub y.sub && pointwise nat_eq a.source y.source) _ e in
    let first = and_left (nat_eq a.kind y.kind && pointwise nat_eq a.sub y.sub) _ second in
    let kind = squeezed nat_cmp_total a.kind x.kind y.kind _ _ h k (number_tie a.kind y.kind (and_left (nat_eq a.kind y.kind) _ first)) in
    let sub = squeezed nat_list_cmp_total a.sub x.sub y.sub _ _ kind.1 kind.2 (text_tie a.sub y.sub (and_right (nat_eq a.kind y.kind) _ first)) in
    let source = squeezed nat_list_cmp_total a.source x.source y.source _ _ sub.1 sub.2 (text_tie a.source y.source (and_right (nat_eq a.kind y.kind && pointwise nat_eq a.sub y.sub) _ second)) in
    let channel = squeezed nat_list_cmp_total a.channel x.channel y.channel _ _ source.1 source.2 (text_tie a.channel y.channel (and_right (nat_eq a.kind y.kind && pointwise nat_eq a.sub y.sub && pointwise nat_eq a.source y.source) _ e)) in
    and_from (nat_eq a.kind x.kind && pointwise nat_eq a.sub x.sub && pointwise nat_eq a.source x.source) _ (under_between_source a x y h k second) (tie_text a.channel x.channel channel.0)

-- a key of a section has the same section
under_same_sub : (a x q : Key) → is_under Sub a x ≡ true → is_under Sub x q ≡ is_under Sub a q
under_same_sub a x q e = λ i.
    sym (nat_eq_equiv.congr a.kind x.kind q.kind (and_left (nat_eq a.kind x.kind) _ e)) i
    && sym (nat_list_eq_equiv.congr a.sub x.sub q.sub (and_right (nat_eq a.kind x.kind) _ e)) i

under_same_source : (a x q : Key) → is_under Source a x ≡ true → is_under Source x q ≡ is_under Source a q
under_same_source a x q e = λ i.
    under_same_sub a x q (and_left (nat_eq a.kind x.kind && pointwise nat_eq a.sub x.sub) _ e) i
    && sym (nat_list_eq_equiv.congr a.source x.source q.source (and_right (nat_eq a.kind x.kind && pointwise nat_eq a.sub x.sub) _ e)) i

pub under_same : (depth : Depth) (a x q : Key) → is_under depth a x ≡ true → is_under depth x q ≡ is_under depth a q
under_same Kind a x q e = sym (nat_eq_equiv.congr a.kind x.kind q.kind e)
under_same Sub a x q e = under_same_sub a x q e
under_same Source a x q e = under_same_source a x q e
under_same Channel a x q e = λ i.
    under_same_source a x q (and_left (nat_eq a.kind x.kind && pointwise nat_eq a.sub x.sub && pointwise nat_eq a.source x.source) _ e) i
    && sym (nat_list_eq_equiv.congr a.channel x.channel q.channel (and_right (nat_eq a.kind x.kind && pointwise nat_eq a.sub x.sub && pointwise nat_eq a.source x.source) _ e)) i

-- ---- lists of entries in the order of their keys

abbrev pub Rising : {X : Type 0} → List (Key × X) → Type 0
Rising entries = IsStrictlySortedBy key_cmp (keys_of entries)

abbrev pub kept : {X : Type 0} → (Key → Bool) → List (Key × X) → List (Key × X)
kept test entries = filter (λ entry. test entry.0) entries

less : (r : Ordering) → is_lt r ≡ true → r ≡ Less
less Less e = refl
less Equal e = cc
less Greater e = cc

above_kept : {X : Type 0} (test : Key → Bool) (key : Key) (entries : List (Key × X)) → Above key_cmp key entries → Above key_cmp key (kept test entries)
above_kept test key [] h = h
above_kept test key (e ∷ entries) h =
    elim (test e.0) as (λ b. Above key_cmp key (cond b (e ∷ kept test entries) (kept test entries))) [
      | true ↦ (h.0, above_kept test key entries h.1)
      | false ↦ above_kept test key entries h.1
    ]

pub rising_filled : {X : Type 0} (entries : List (Key × Option X)) → Rising entries → Rising (filled entries)
unfolding IsStrictlySortedBy
rising_filled [] h = h
rising_filled (e ∷ entries) h =
    elim e.1 as (λ room. Rising (filled ((e.0, room) ∷ entries))) [
      | None ↦ rising_filled entries h.1
      | Some x ↦ (above_filled key_cmp_total key_cmp_exact e.0 entries h.0, rising_filled entries h.1)
    ]

rising_kept : {X : Type 0} (test : Key → Bool) (entries : List (Key × X)) → Rising entries → Rising (kept test entries)
unfolding IsStrictlySortedBy
rising_kept test [] h = h
rising_kept test (e ∷ entries) h =
    elim (test e.0) as (λ b. Rising (cond b (e ∷ kept test entries) (kept test entries))) [
      | true ↦ (above_kept test e.0 entries h.0, rising_kept test entries h.1)
      | false ↦ rising_kept test entries h.1
    ]

-- the entries of a finite map rise
lower : (r : Ordering) → T (is_lt r) → r ≡ Less
lower Less h = refl
lower Equal h = absurd h
lower Greater h = absurd h

below_above : (key : Key) (entries : List (Key × Cell)) → T (below_all key_cmp key entries) → Above key_cmp key entries
below_above key [] h = tt
below_above key (e ∷ entries) h = (lower (key_cmp key e.0) (first _ _ h), below_above key entries (second (is_lt (key_cmp key e.0)) _ h))

sorted_rising : (entries : List (Key × Cell)) → T (is_sorted key_cmp entries) → Rising entries
unfolding IsStrictlySortedBy
sorted_rising [] h = tt
sorted_rising (e ∷ entries) h = (below_above e.0 entries (first _ _ h), sorted_rising entries (second (below_all key_cmp e.0 entries) _ h))

rising_rows : (rows : Rows) → Rising (finite.entries rows)
rising_rows rows = sorted_rising (finite.entries rows) (finite.entries_sorted rows)

all_kept : {X : Type 0} (test : Key → Bool) (P : Key → Type 0) → ((key : Key) → test key ≡ true → P key) → (entries : List (Key × X)) → AllByRecursion P (keys_of (kept test entries))
all_kept test P has [] = tt
all_kept test P has (e ∷ entries) =
    elim (test e.0) as (λ b. test e.0 ≡ b → AllByRecursion P (keys_of (cond b (e ∷ kept test entries) (kept test entries)))) [
      | true ↦ λ t. (has e.0 t, all_kept test P has entries)
      | false ↦ λ t. all_kept test P has entries
    ] refl

-- where a key behind `a` isn't of the section, none that follow are
none_under : {X : Type 0} (depth : Depth) (a key : Key) (entries : List (Key × X)) → key_cmp a key ≡ Less → is_under depth a key ≡ false → Above key_cmp key entries → kept (is_under depth a) entries ≡ []
none_under depth a key [] behind apart above = refl
none_under depth a key (e ∷ entries) behind apart above =
    elim (is_under depth a e.0) as (λ b. is_under depth a e.0 ≡ b → cond b (e ∷ kept (is_under depth a) entries) (kept (is_under depth a) entries) ≡ []) [
      | true ↦ λ t. cc (under_between depth a key e.0 behind above.0 t, apart)
      | false ↦ λ t. none_under depth a key entries behind apart above.1
    ] refl

-- so the rows of a section stand together, in front
front_is : {X : Type 0} (depth : Depth) (a : Key) (entries : List (Key × X)) → Above key_cmp a entries → Rising entries → kept (is_under depth a) entries ≡ front (is_under depth a) entries
unfolding IsStrictlySortedBy
front_is depth a [] above h = refl
front_is depth a (e ∷ entries) above h =
    elim (is_under depth a e.0) as (λ b. is_under depth a e.0 ≡ b → cond b (e ∷ kept (is_under depth a) entries) (kept (is_under depth a) entries) ≡ cond b (e ∷ front (is_under depth a) entries) []) [
      | true ↦ λ t. ap (λ es. e ∷ es) (front_is depth a entries above.1 h.1)
      | false ↦ λ t. none_under depth a e.0 entries above.0 t h.0
    ] refl

front_all : {X : Type 0} (entries : List (Key × X)) → front (λ _. true) entries ≡ entries
front_all [] = refl
front_all (e ∷ entries) = ap (λ es. e ∷ es) (front_all entries)

and_true : (b : Bool) → (b && true) ≡ b
and_true true = refl
and_true false = refl

and_false : (b : Bool) → (b && false) ≡ false
and_false true = refl
and_false false = refl

between_is : {X : Type 0} (a : Key) (entries : List (Key × X)) → entries_between key_cmp (Excluded a) Unbounded entries ≡ kept (is_after a) entries
between_is a entries = filter_agree _ _ (λ e. and_true (is_after a e.0)) entries

standing_is : (entries : List (Key × Option Cell)) → standing entries ≡ map row_of (filled entries)
standing_is [] = refl
standing_is (e ∷ entries) =
    elim e.1 as (λ room. standing ((e.0, room) ∷ entries) ≡ map row_of (filled ((e.0, room) ∷ entries))) [
      | None ↦ standing_is entries
      | Some cell ↦ ap (λ rows. row_of (e.0, cell) ∷ rows) (standing_is entries)
    ]

filled_kept : {X : Type 0} (test : Key → Bool) (entries : List (Key × Option X)) → filled (kept test entries) ≡ kept test (filled entries)
filled_kept test [] = refl
filled_kept test (e ∷ entries) =
    elim e.1 as (λ room. filled (kept test ((e.0, room) ∷ entries)) ≡ kept test (filled ((e.0, room) ∷ entries))) [
      | None ↦ elim (test e.0) as (λ b. filled (cond b ((e.0, None) ∷ kept test entries) (kept test entries)) ≡ kept test (filled entries)) [
        | true ↦ filled_kept test entries
        | false ↦ filled_kept test entries
      ]
      | Some x ↦ elim (test e.0) as (λ b. filled (cond b ((e.0, Some x) ∷ kept test entries) (kept test entries)) ≡ cond b ((e.0, x) ∷ kept test (filled entries)) (kept test (filled entries))) [
        | true ↦ ap (λ es. (e.0, x) ∷ es) (filled_kept test entries)
        | false ↦ filled_kept test entries
      ]
    ]

rows_kept : (test : Key → Bool) (entries : List (Key × Cell)) → filter (λ row. test row.key) (map row_of entries) ≡ map row_of (kept test entries)
rows_kept test [] = refl
rows_kept test (e ∷ entries) =
    elim (test e.0) as (λ b. cond b (row_of e ∷ filter (λ row. test row.key) (map row_of entries)) (filter (λ row. test row.key) (map row_of entries)) ≡ map row_of (cond b (e ∷ kept test entries) (kept test entries))) [
      | true ↦ ap (λ rows. row_of e ∷ rows) (rows_kept test entries)
      | false ↦ rows_kept test entries
    ]

fuse : {X : Type 0} (p q : Key → Bool) (entries : List (Key × X)) → kept p (kept q entries) ≡ kept (λ key. q key && p key) entries
fuse p q [] = refl
fuse p q (e ∷ entries) =
    elim (q e.0) as (λ b. kept p (cond b (e ∷ kept q entries) (kept q entries)) ≡ cond (b && p e.0) (e ∷ kept (λ key. q key && p key) entries) (kept (λ key. q key && p key) entries)) [
      | true ↦ elim (p e.0) as (λ b. cond b (e ∷ kept p (kept q entries)) (kept p (kept q entries)) ≡ cond b (e ∷ kept (λ key. q key && p key) entries) (kept (λ key. q key && p key) entries)) [
        | true ↦ ap (λ es. e ∷ es) (fuse p q entries)
        | false ↦ fuse p q entries
      ]
      | false ↦ fuse p q entries
    ]

-- ---- what the pages of a tree are

after_live : (a : Key) (entries : List (Key × Option Cell)) → Rising entries → rows_after a (live entries) ≡ map row_of (kept (is_after a) (filled entries))
after_live a entries h = ap (λ es. map row_of (kept (is_after a) es)) (entries-live entries h)

pub page_is : (a : Key) (entries : List (Key × Option Cell)) → Rising entries
    → standing (front (λ key. is_wanted None a key) (entries_between key_cmp (Excluded a) Unbounded entries)) ≡ rows_after a (live entries)
page_is a entries h =
    ap standing (front_all _ ∙ between_is a entries) ∙ standing_is (kept (is_after a) entries) ∙ ap (map row_of) (filled_kept (is_after a) entries) ∙ sym (after_live a entries h)

-- the rows of a page are behind the key
pub page_behind : (a : Key) (n : ℕ) (rows : Rows) (page : List Row) → page ≡ take n (rows_after a rows) → All (λ (row : Row). is_after a row.key ≡ true) page
page_behind a n rows page is =
    let entries = finite.entries rows in
    let whole = All-map (λ (row : Row). is_after a row.key ≡ true) row_of _ (filter_passes (λ entry. is_after a entry.0) entries) in
    let P : List Row → Type 0 = All (λ (row : Row). is_after a row.key ≡ true) in
    subst P (sym is) (All-take (λ (row : Row). is_after a row.key ≡ true) n (rows_after a rows) whole)

-- whether a key is of the section behind `a`
abbrev pub is_of : Depth → Key → Key → Bool
is_of depth a key = is_after a key && is_under depth a key

under_is : (depth : Depth) (a : Key) (rows : Rows) → rows_under depth a rows ≡ map row_of (kept (is_of depth a) (finite.entries rows))
under_is depth a rows = rows_kept (is_under depth a) _ ∙ ap (map row_of) (fuse (is_under depth a) (is_after a) (finite.entries rows))

under_live : (depth : Depth) (a : Key) (entries : List (Key × Option Cell)) → Rising entries → rows_under depth a (live entries) ≡ map row_of (kept (is_of depth a) (filled entries))
under_live depth a entries h = under_is depth a (live entries) ∙ ap (λ es. map row_of (kept (is_of depth a) es)) (entries-live entries h)

pub section_is : (depth : Depth) (a : Key) (entries : List (Key × Option Cell)) → Rising entries
    → standing (front (λ key. is_wanted (Some depth) a key) (entries_between key_cmp (Excluded a) Unbounded entries)) ≡ rows_under depth a (live entries)
section_is depth a entries h =
    ap standing (ap (front (is_under depth a)) (between_is a entries)
    ∙ sym (front_is depth a (kept (is_after a) entries) (all_kept (is_after a) (λ key. key_cmp a key ≡ Less) (λ key t. less (key_cmp a key) t) entries) (rising_kept (is_after a) entries h))
    ∙ fuse (is_under depth a) (is_after a) entries)
    ∙ standing_is (kept (is_of depth a) entries) ∙ ap (map row_of) (filled_kept (is_of depth a) entries) ∙ sym (under_live depth a entries h)

-- ---- the rest of a section is the section behind a page's last row

abbrev pub last_of : {X : Type 0} → Key → List (Key × X) → Key
last_of a [] = a
last_of a (e ∷ entries) = last_of e.0 entries

last_is : (n : ℕ) (a : Key) (entries : List (Key × Cell)) → last_key a (take n (map row_of entries)) ≡ last_of a (take n entries)
last_is zero a entries = refl
last_is (suc n) a [] = refl
last_is (suc n) a (e ∷ entries) = last_is n e.0 entries

parts : (n : ℕ) (entries : List (Key × Cell)) → map row_of entries ≡ take n (map row_of entries) ++ map row_of (drop n entries)
parts zero entries = refl
parts (suc n) [] = refl
parts (suc n) (e ∷ entries) = ap (λ rows. row_of e ∷ rows) (parts n entries)

last_has : {X : Type 0} (P : Key → Type 0) (n : ℕ) (a : Key) (entries : List (Key × X)) → P a → AllByRecursion P (keys_of entries) → P (last_of a (take n entries))
last_has P zero a entries here all = here
last_has P (suc n) a [] here all = here
last_has P (suc n) a (e ∷ entries) here all = last_has P n e.0 entries all.0 all.1

kept_all : {X : Type 0} (a : Key) (entries : List (Key × X)) → Above key_cmp a entries → kept (is_after a) entries ≡ entries
kept_all a [] h = refl
kept_all a (e ∷ entries) h = ap (λ r. cond (is_lt r) (e ∷ kept (is_after a) entries) (kept (is_after a) entries)) h.0 ∙ ap (λ es. e ∷ es) (kept_all a entries h.1)

not_before : (a key z : Key) → key_cmp a key ≡ Less → is_after z key ≡ false → is_after z a ≡ false
not_before a key z h e =
    elim (key_cmp z a) as (λ r. key_cmp z a ≡ r → is_lt r ≡ false) [
      | Less ↦ λ t. cc (ap is_lt (key_cmp_total.trans z a key t h), e)
      | Equal ↦ λ t. refl
      | Greater ↦ λ t. refl
    ] refl

-- the last of a list in order isn't before its head
last_not_before : {X : Type 0} (n : ℕ) (a : Key) (entries : List (Key × X)) → Above key_cmp a entries → Rising entries → is_after (last_of a (take n entries)) a ≡ false
unfolding IsStrictlySortedBy
last_not_before zero a entries above h = ap is_lt (tied_itself key_cmp_total a)
last_not_before (suc n) a [] above h = ap is_lt (tied_itself key_cmp_total a)
last_not_before (suc n) a (e ∷ entries) above h = not_before a e.0 (last_of e.0 (take n entries)) above.0 (last_not_before n e.0 entries h.0 h.1)

behind_last : {X : Type 0} (n : ℕ) (a : Key) (entries : List (Key × X)) → Above key_cmp a entries → Rising entries → kept (is_after (last_of a (take n entries))) entries ≡ drop n entries
unfolding IsStrictlySortedBy
behind_last zero a entries above h = kept_all a entries above
behind_last (suc n) a [] above h = refl
behind_last (suc n) a (e ∷ entries) above h =
    let z = last_of e.0 (take n entries) in
    ap (λ b. cond b (e ∷ kept (is_after z) entries) (kept (is_after z) entries)) (last_not_before n e.0 entries h.0 h.1) ∙ behind_last n e.0 entries h.0 h.1

twice : (t u : Bool) → (t && u) ≡ ((t && u) && t)
twice true true = refl
twice true false = refl
twice false u = refl

later : (t u t' u' : Bool) → u ≡ u' → (t ≡ true → t' ≡ true) → (t && u) ≡ ((t' && u') && t)
later true u t' u' same up = same ∙ sym (ap (λ b. (b && u') && true) (up refl) ∙ and_true u')
later false u t' u' same up = sym (and_false (t' && u'))

after_after : (a x q : Key) → is_after a x ≡ true → is_after x q ≡ true → is_after a q ≡ true
after_after a x q h k = ap is_lt (key_cmp_total.trans a x q (less (key_cmp a x) h) (less (key_cmp x q) k))

-- the section behind one of its own rows is what lies behind that row
abbrev pub Continues : Depth → Key → Key → Type 0
Continues depth a x = (q : Key) → is_of depth x q ≡ (is_of depth a q && is_after x q)

continues : (depth : Depth) (a x : Key) → is_of depth a x ≡ true → Continues depth a x
continues depth a x e q =
    later (is_after x q) (is_under depth x q) (is_after a q) (is_under depth a q) (under_same depth a x q (and_right (is_after a x) _ e)) (after_after a x q (and_left (is_after a x) _ e))

pub rest_is : (depth : Depth) (a : Key) (n : ℕ) (rows : Rows) → rows_under depth a rows ≡ take n (rows_under depth a rows) ++ rows_under depth (last_key a (take n (rows_under depth a rows))) rows
rest_is depth a n rows =
    let entries = finite.entries rows in
    let section = kept (is_of depth a) entries in
    let z = last_of a (take n section) in
    let goes : Continues depth a z =
    last_has (Continues depth a) n a section (λ q. twice (is_after a q) (is_under depth a q)) (all_kept (is_of depth a) (Continues depth a) (continues depth a) entries) in
    let above : Above key_cmp a section = all_kept (is_of depth a) (λ key. key_cmp a key ≡ Less) (λ key t. less (key_cmp a key) (and_left (is_after a key) _ t)) entries in
    let left : kept (is_of depth z) entries ≡ drop n section =
    filter_agree _ _ (λ e. goes e.0) entries ∙ sym (fuse (is_after z) (is_of depth a) entries) ∙ behind_last n a section above (rising_kept (is_of depth a) entries (rising_rows rows)) in
    subst (λ page. page ≡ take n page ++ rows_under depth (last_key a (take n page)) rows) (sym (under_is depth a rows))
    (parts n section ∙ ap (λ left. take n (map row_of section) ++ left) (ap (map row_of) (sym left) ∙ sym (under_is depth z rows) ∙ ap (λ key. rows_under depth key rows) (sym (last_is n a section))))

-- ---- a page of a section is the front of a page of all rows

front_map : (depth : Depth) (a : Key) (entries : List (Key × Cell)) → map row_of (front (is_under depth a) entries) ≡ front_rows depth a (map row_of entries)
front_map depth a [] = refl
front_map depth a (e ∷ entries) =
    elim (is_under depth a e.0) as (λ b. map row_of (cond b (e ∷ front (is_under depth a) entries) []) ≡ cond b (row_of e ∷ front_rows depth a (map row_of entries)) []) [
      | true ↦ ap (λ rows. row_of e ∷ rows) (front_map depth a entries)
      | false ↦ refl
    ]

front_under : (depth : Depth) (a : Key) (rows : Rows) → rows_under depth a rows ≡ front_rows depth a (rows_after a rows)
front_under depth a rows =
    let entries = finite.entries rows in
    rows_kept (is_under depth a) (kept (is_after a) entries)
    ∙ ap (map row_of) (front_is depth a (kept (is_after a) entries) (all_kept (is_after a) (λ key. key_cmp a key ≡ Less) (λ key t. less (key_cmp a key) t) entries) (rising_kept (is_after a) entries (rising_rows rows)))
    ∙ front_map depth a (kept (is_after a) entries)

front_take : (depth : Depth) (a : Key) (n : ℕ) (rows : List Row) → front_rows depth a (take n rows) ≡ take n (front_rows depth a rows)
front_take depth a zero rows = refl
front_take depth a (suc n) [] = refl
front_take depth a (suc n) (row ∷ rows) =
    elim (is_under depth a row.key) as (λ b. cond b (row ∷ front_rows depth a (take n rows)) [] ≡ take (suc n) (cond b (row ∷ front_rows depth a rows) [])) [
      | true ↦ ap (λ page. row ∷ page) (front_take depth a n rows)
      | false ↦ refl
    ]

pub page_front : (depth : Depth) (a : Key) (n : ℕ) (rows : Rows) → front_rows depth a (take n (rows_after a rows)) ≡ take n (rows_under depth a rows)
page_front depth a n rows = front_take depth a n (rows_after a rows) ∙ ap (take n) (sym (front_under depth a rows))

-- its rows are of the section, and behind the key
pub front_behind : (depth : Depth) (a : Key) (page : List Row) → All (λ (row : Row). is_after a row.key ≡ true) page → AllByRecursion (IsBehind depth a) (front_rows depth a page)
front_behind depth a [] h = tt
front_behind depth a (row ∷ page) h =
    elim (is_under depth a row.key) as (λ b. is_under depth a row.key ≡ b → AllByRecursion (IsBehind depth a) (cond b (row ∷ front_rows depth a page) [])) [
      | true ↦ λ t. (record { under = t; after_it = All-head (λ (row : Row). is_after a row.key ≡ true) row page h }, front_behind depth a page (All-tail (λ (row : Row). is_after a row.key ≡ true) row page h))
      | false ↦ λ t. tt
    ] refl
