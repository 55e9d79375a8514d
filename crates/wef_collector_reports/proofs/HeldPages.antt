-- A page of held events: what its rows are, and the key behind which it ends.
use Rattle.std.proofs.Common.{◌≡◌, ℕ, ◌<◌, true, ◌&&◌, List, [], ◌∷◌, ◌++◌, length, map, take, nat_eq, refl, sym, subst, ap, ◌∙◌, arith}
use Rattle.std.proofs.lemmas.Bool.{and_parts, eqb-true}
use Rattle.std.proofs.lemmas.List.{length-map, take-map, map-append}
use Rattle.std.proofs.lemmas.List.Elements.{All-head, All-tail, All-take, filter_passes}
use Rattle.std.specs.Cmp.Lexicographic.{bytes_decides, pointwise}
use Rattle.std.specs.List.{All, AllByRecursion, list_all}
use Rattle.std.specs.Prelude.{Option, Some, None, IfSome, OnOk, Result, Ok, Err}
use Rattle.wef_event.specs.Events.{Event}
use Rattle.wef_keeper.specs.Access.{IsBehind}
use Rattle.wef_keeper.specs.Rows.{Rows, rows_after}
use Rattle.wef_keeper.specs.Sections.{is_under, last_key, rows_under}
use Rattle.wef_keeper.specs.declared.access.StoreFault.{StoreFault}
use Rattle.wef_keeper.specs.declared.keys.Depth.TheVariants.{Channel}
use Rattle.wef_keeper.specs.declared.keys.Key.{Key}
use Rattle.wef_keeper.specs.declared.keys.Row.{Row}
use Rattle.wef_collector_rows.specs.Forms.{is_formed, is_held_row}
use Rattle.wef_collector_rows.specs.Held.{event_of_row, held_rows, held_after, last_number, own_event}
use Rattle.wef_collector_rows.specs.Judged.{AreAllFormed}
use Rattle.wef_collector_rows.specs.Keys.{held_key}
use Rattle.wef_collector_reports.proofs.Channels.{last_is, page_rises}
use Rattle.wef_collector_reports.specs.Report.{last_row_number}

-- a key under that of a channel's held events is the one of its own number
pub own_key : (u s c : List ℕ) (n : ℕ) (k : Key) → is_under Channel (held_key u s c n) k ≡ true → k ≡ held_key u s c k.number
own_key u s c n k e =
    let outer = and_parts (nat_eq 3 k.kind && pointwise nat_eq u k.sub && pointwise nat_eq s k.source) (pointwise nat_eq c k.channel) e in
    let middle = and_parts (nat_eq 3 k.kind && pointwise nat_eq u k.sub) (pointwise nat_eq s k.source) outer.0 in
    let inner = and_parts (nat_eq 3 k.kind) (pointwise nat_eq u k.sub) middle.0 in
    let kind = sym (eqb-true 3 k.kind inner.0) in
    let sub = sym ((bytes_decides u k.sub).0 inner.1) in
    let source = sym ((bytes_decides s k.source).0 middle.1) in
    let channel = sym ((bytes_decides c k.channel).0 outer.1) in
    λ i. record { kind = kind i; sub = sub i; source = source i; channel = channel i; number = k.number }

-- such a row is of its form where it is a held row of its form
held_formed : (u s c : List ℕ) (row : Row) → row.key ≡ held_key u s c row.key.number → is_held_row row ≡ is_formed row
unfolding is_formed
held_formed u s c row own =
    ap (λ (k : Key). is_held_row (record { key = k; value = row.value; body = row.body })) own
    ∙ sym (ap (λ (k : Key). is_formed (record { key = k; value = row.value; body = row.body })) own)

all_held : (u s c : List ℕ) (after : ℕ) (rows : List Row) → AllByRecursion (IsBehind Channel (held_key u s c after)) rows → list_all is_held_row rows ≡ list_all is_formed rows
all_held u s c after [] behind = refl
all_held u s c after (row ∷ rows) behind = λ i. held_formed u s c row (own_key u s c after row.key behind.0.under) i && all_held u s c after rows behind.1 i

-- so rows behind the key of a channel's held events are of their form where they are held rows of their form
pub held_as_formed : (u s c : List ℕ) (after : ℕ) (start : Key) (page : List Row) → start ≡ held_key u s c after → AllByRecursion (IsBehind Channel start) page
    → list_all is_held_row page ≡ list_all is_formed page
held_as_formed u s c after start page begins behind = all_held u s c after page (subst (λ (k : Key). AllByRecursion (IsBehind Channel k) page) begins behind)

all_own : (u s c : List ℕ) (after : ℕ) (rows : List Row) → AllByRecursion (IsBehind Channel (held_key u s c after)) rows → map own_event rows ≡ map (event_of_row c) rows
all_own u s c after [] behind = refl
all_own u s c after (row ∷ rows) behind = λ i. event_of_row (own_key u s c after row.key behind.0.under i).channel row ∷ all_own u s c after rows behind.1 i

-- and their events are those of the channel
pub own_events : (u s c : List ℕ) (after : ℕ) (start : Key) (page : List Row) → start ≡ held_key u s c after → AllByRecursion (IsBehind Channel start) page
    → map own_event page ≡ map (event_of_row c) page
own_events u s c after start page begins behind = all_own u s c after page (subst (λ (k : Key). AllByRecursion (IsBehind Channel k) page) begins behind)

-- where all rows are under the key of held events, the last row's key is that of the last event's number
pub last_held : (u s c : List ℕ) (after : ℕ) (rows : List Row) → All (λ (row : Row). is_under Channel (held_key u s c after) row.key ≡ true) rows
    → last_key (held_key u s c after) rows ≡ held_key u s c (last_number after (map (event_of_row c) rows))
last_held u s c after [] all = refl
last_held u s c after (row ∷ rows) all =
    let own = own_key u s c after row.key (All-head (λ (r : Row). is_under Channel (held_key u s c after) r.key ≡ true) row rows all) in
    let rest = All-tail (λ (r : Row). is_under Channel (held_key u s c after) r.key ≡ true) row rows all in
    ap (λ (k : Key). last_key k rows) own ∙ last_held u s c row.key.number rows rest

-- a page of held events
pub is_page : (m : ℕ) (rows : Rows) (u s c : List ℕ) (after : ℕ) (start : Key) (page : List Row) → start ≡ held_key u s c after
    → page ≡ take m (rows_under Channel start rows) → map (event_of_row c) page ≡ take m (held_after rows u s c after)
is_page m rows u s c after start page begins is =
    let held : page ≡ take m (held_rows rows u s c after) = is ∙ ap (λ (k : Key). take m (rows_under Channel k rows)) begins in
    ap (map (event_of_row c)) held ∙ sym (take-map (event_of_row c) m (held_rows rows u s c after))

-- the key of its last row is that of its last event's number
last_of_page : (m : ℕ) (rows : Rows) (u s c : List ℕ) (after : ℕ) (start : Key) (page : List Row) → start ≡ held_key u s c after
    → page ≡ take m (rows_under Channel start rows) → last_key start page ≡ held_key u s c (last_number after (map (event_of_row c) page))
last_of_page m rows u s c after start page begins is =
    let passes = filter_passes (λ (row : Row). is_under Channel start row.key) (rows_after start rows) in
    let taken = All-take (λ (row : Row). is_under Channel start row.key ≡ true) m (rows_under Channel start rows) passes in
    let all = subst (λ (xs : List Row). All (λ (row : Row). is_under Channel start row.key ≡ true) xs) (sym is) taken in
    let held = subst (λ (k : Key). All (λ (row : Row). is_under Channel k row.key ≡ true) page) begins all in
    ap (λ (k : Key). last_key k page) begins ∙ last_held u s c after page held

-- and what stands behind it
pub is_rest : (m : ℕ) (rows : Rows) (u s c : List ℕ) (after : ℕ) (start : Key) (page : List Row) → start ≡ held_key u s c after
    → page ≡ take m (rows_under Channel start rows) → rows_under Channel start rows ≡ page ++ rows_under Channel (last_key start page) rows
    → held_after rows u s c after ≡ map (event_of_row c) page ++ held_after rows u s c (last_number after (map (event_of_row c) page))
is_rest m rows u s c after start page begins is splits =
    let last = last_of_page m rows u s c after start page begins is in
    ap (λ (k : Key). map (event_of_row c) (rows_under Channel k rows)) (sym begins) ∙ ap (map (event_of_row c)) splits
    ∙ map-append (event_of_row c) page (rows_under Channel (last_key start page) rows)
    ∙ ap (λ (k : Key). map (event_of_row c) page ++ map (event_of_row c) (rows_under Channel k rows)) last

-- the same of its rows
pub is_rest_of_rows : (m : ℕ) (rows : Rows) (u s c : List ℕ) (after : ℕ) (start : Key) (page : List Row) → start ≡ held_key u s c after
    → page ≡ take m (rows_under Channel start rows) → rows_under Channel start rows ≡ page ++ rows_under Channel (last_key start page) rows
    → held_rows rows u s c after ≡ take m (held_rows rows u s c after) ++ held_rows rows u s c (last_number after (map (event_of_row c) page))
is_rest_of_rows m rows u s c after start page begins is splits =
    let held : page ≡ take m (held_rows rows u s c after) = is ∙ ap (λ (k : Key). take m (rows_under Channel k rows)) begins in
    let last = last_of_page m rows u s c after start page begins is in
    ap (λ (k : Key). rows_under Channel k rows) (sym begins) ∙ splits ∙ (λ i. held i ++ rows_under Channel (last i) rows)

same_last : (after : ℕ) (rows : List Row) → last_number after (map own_event rows) ≡ last_row_number after rows
same_last after [] = refl
same_last after (row ∷ rows) = same_last row.key.number rows

-- the number of its last event is above the one that it was read behind
pub held_rises : (u s c : List ℕ) (after : ℕ) (start : Key) (page : List Row) (events : List Event) → start ≡ held_key u s c after → AllByRecursion (IsBehind Channel start) page
    → events ≡ map own_event page → 0 < length events → after < last_number after events
held_rises u s c after start page events begins behind are some =
    let number : start.number ≡ after = ap (λ (k : Key). k.number) begins in
    let size : length events ≡ length page = ap length are ∙ length-map page own_event in
    let rows : 0 < length page = omega (arith, size, some) in
    let rises : start.number < (last_key start page).number = page_rises start page rows behind in
    let last : (last_key start page).number ≡ last_number after events =
    ap (λ (k : Key). k.number) (last_is start page behind) ∙ ap (λ (n : ℕ). last_row_number n page) number ∙ sym (same_last after page) ∙ ap (last_number after) (sym are) in
    omega (arith, number, rises, last)

-- the number of a list's last event
pub last_number-push : (after : ℕ) (front : List Event) (event : Event) → last_number after (front ++ event ∷ []) ≡ event.number
last_number-push after [] event = refl
last_number-push after (first ∷ front) event = last_number-push first.number front event

-- and its rows are of their form, where each is a held row of its form
pub page_judged : {A : Type 0} (result : Result A StoreFault) (told : Option Rows) (m : ℕ) (u s c : List ℕ) (after : ℕ) (start : Key) (page : List Row) → start ≡ held_key u s c after
    → AllByRecursion (IsBehind Channel start) page → OnOk result (list_all is_held_row page ≡ true) → IfSome told (λ rows. page ≡ take m (rows_under Channel start rows))
    → IfSome told (λ rows. OnOk result (AreAllFormed (take m (held_rows rows u s c after))))
page_judged result None m u s c after start page begins behind held is = tt
page_judged (Ok answer) (Some rows) m u s c after start page begins behind held is =
    let same : page ≡ take m (held_rows rows u s c after) = is ∙ ap (λ (k : Key). take m (rows_under Channel k rows)) begins in
    sym (ap (list_all is_formed) same) ∙ sym (held_as_formed u s c after start page begins behind) ∙ held
page_judged (Err fault) (Some rows) m u s c after start page begins behind held is = tt
