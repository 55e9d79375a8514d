-- The key behind which a page of records ends.
use Rattle.std.proofs.Common.{◌≡◌, ℕ, true, ◌&&◌, List, [], ◌∷◌, ◌++◌, map, take, nat_eq, refl, sym, subst, ap, ◌∙◌}
use Rattle.std.proofs.lemmas.Bool.{and_parts, eqb-true}
use Rattle.std.proofs.lemmas.List.{take-map, map-append}
use Rattle.std.proofs.lemmas.List.Elements.{All-head, All-tail, All-take, filter_passes}
use Rattle.std.specs.Cmp.Lexicographic.{bytes_decides, pointwise}
use Rattle.std.specs.List.{All, AllByRecursion}
use Rattle.std.specs.Prelude.{Option, Some, None, IfSome}
use Rattle.wef_keeper.specs.Access.{IsBehind}
use Rattle.wef_keeper.specs.Kinds.{number_of}
use Rattle.wef_keeper.specs.Rows.{Rows, rows_after}
use Rattle.wef_keeper.specs.Sections.{is_under, last_key, rows_under}
use Rattle.wef_keeper.specs.declared.keys.Depth.TheVariants.{Channel}
use Rattle.wef_keeper.specs.declared.keys.Key.{Key}
use Rattle.wef_keeper.specs.declared.keys.Row.{Row}
use Rattle.wef_keeper.specs.declared.kinds.RowKind.TheVariants.{Record}
use Rattle.wef_source_log.specs.Keys.{record_key}
use Rattle.wef_source_log.specs.LogWindow.{event_of_row, last_number, records_after}

-- a key under that of a channel's records is the one of its own number
pub own_key : (c : List ℕ) (n : ℕ) (k : Key) → is_under Channel (record_key c n) k ≡ true → k ≡ record_key c k.number
own_key c n k e =
    let outer = and_parts (nat_eq (number_of Record) k.kind && pointwise nat_eq [] k.sub && pointwise nat_eq [] k.source) (pointwise nat_eq c k.channel) e in
    let middle = and_parts (nat_eq (number_of Record) k.kind && pointwise nat_eq [] k.sub) (pointwise nat_eq [] k.source) outer.0 in
    let inner = and_parts (nat_eq (number_of Record) k.kind) (pointwise nat_eq [] k.sub) middle.0 in
    let kind = sym (eqb-true (number_of Record) k.kind inner.0) in
    let sub = sym ((bytes_decides [] k.sub).0 inner.1) in
    let source = sym ((bytes_decides [] k.source).0 middle.1) in
    let channel = sym ((bytes_decides c k.channel).0 outer.1) in
    λ i. record { kind = kind i; sub = sub i; source = source i; channel = channel i; number = k.number }

-- where all rows are under the key of a record, the last row's key is that of the last record's number
pub last_record : (c : List ℕ) (after : ℕ) (rows : List Row) → All (λ (row : Row). is_under Channel (record_key c after) row.key ≡ true) rows
    → last_key (record_key c after) rows ≡ record_key c (last_number after (map (event_of_row c) rows))
last_record c after [] all = refl
last_record c after (row ∷ rows) all =
    let own = own_key c after row.key (All-head (λ (r : Row). is_under Channel (record_key c after) r.key ≡ true) row rows all) in
    let rest = All-tail (λ (r : Row). is_under Channel (record_key c after) r.key ≡ true) row rows all in
    ap (λ (k : Key). last_key k rows) own ∙ last_record c row.key.number rows rest

-- under the key of a channel's records, the events of rows are the channel's
pub own_events : (c : List ℕ) (after : ℕ) (start : Key) (rows : List Row) → start ≡ record_key c after → AllByRecursion (IsBehind Channel start) rows
    → map (λ (row : Row). event_of_row row.key.channel row) rows ≡ map (event_of_row c) rows
own_events c after start [] begins behind = refl
own_events c after start (row ∷ rows) begins behind =
    let under = subst (λ (key : Key). is_under Channel key row.key ≡ true) begins behind.0.under in
    λ i. event_of_row (own_key c after row.key under i).channel row ∷ own_events c after start rows begins behind.1 i

-- a page of records
pub is_page : (m : ℕ) (rows : Rows) (c : List ℕ) (after : ℕ) (start : Key) (page : List Row) → start ≡ record_key c after
    → page ≡ take m (rows_under Channel start rows) → map (event_of_row c) page ≡ take m (records_after rows c after)
is_page m rows c after start page begins is =
    let own : page ≡ take m (rows_under Channel (record_key c after) rows) = is ∙ ap (λ (k : Key). take m (rows_under Channel k rows)) begins in
    ap (map (event_of_row c)) own ∙ sym (take-map (event_of_row c) m (rows_under Channel (record_key c after) rows))

-- and what stands behind it
pub is_rest : (m : ℕ) (rows : Rows) (c : List ℕ) (after : ℕ) (start : Key) (page : List Row) → start ≡ record_key c after
    → page ≡ take m (rows_under Channel start rows) → rows_under Channel start rows ≡ page ++ rows_under Channel (last_key start page) rows
    → records_after rows c after ≡ map (event_of_row c) page ++ records_after rows c (last_number after (map (event_of_row c) page))
is_rest m rows c after start page begins is splits =
    let passes = filter_passes (λ (row : Row). is_under Channel start row.key) (rows_after start rows) in
    let taken = All-take (λ (row : Row). is_under Channel start row.key ≡ true) m (rows_under Channel start rows) passes in
    let all = subst (λ (xs : List Row). All (λ (row : Row). is_under Channel start row.key ≡ true) xs) (sym is) taken in
    let own = subst (λ (k : Key). All (λ (row : Row). is_under Channel k row.key ≡ true) page) begins all in
    let last = ap (λ (k : Key). last_key k page) begins ∙ last_record c after page own in
    ap (λ (k : Key). map (event_of_row c) (rows_under Channel k rows)) (sym begins) ∙ ap (map (event_of_row c)) splits
    ∙ map-append (event_of_row c) page (rows_under Channel (last_key start page) rows)
    ∙ ap (λ (k : Key). map (event_of_row c) page ++ map (event_of_row c) (rows_under Channel k rows)) last

-- so of rows that are told
pub is_told_page : (m : ℕ) (told : Option Rows) (c : List ℕ) (after : ℕ) (start : Key) (page : List Row) → start ≡ record_key c after
    → IfSome told (λ rows. page ≡ take m (rows_under Channel start rows)) → IfSome told (λ rows. map (event_of_row c) page ≡ take m (records_after rows c after))
is_told_page m None c after start page begins is = tt
is_told_page m (Some rows) c after start page begins is = is_page m rows c after start page begins is

pub is_told_rest : (m : ℕ) (told : Option Rows) (c : List ℕ) (after : ℕ) (start : Key) (page : List Row) → start ≡ record_key c after
    → IfSome told (λ rows. page ≡ take m (rows_under Channel start rows)) → IfSome told (λ rows. rows_under Channel start rows ≡ page ++ rows_under Channel (last_key start page) rows)
    → IfSome told (λ rows. records_after rows c after ≡ map (event_of_row c) page ++ records_after rows c (last_number after (map (event_of_row c) page)))
is_told_rest m None c after start page begins is splits = tt
is_told_rest m (Some rows) c after start page begins is splits = is_rest m rows c after start page begins is splits
