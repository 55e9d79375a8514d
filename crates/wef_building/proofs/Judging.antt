-- A batch rests on rows of their form: each that was read is.
use Rattle.std.proofs.Common.{◌≡◌, ℕ, zero, suc, ◌+◌, ◌-◌, ◌<◌, ◌≤◌, ◌==◌, Bool, true, false, cond, List, [], ◌∷◌, ◌++◌, take, map, length, refl, ap, sym, ◌∙◌, subst, arith, Some, None, ⊎_elim, if◌then◌else◌, nat_lt}
use Rattle.std.proofs.lemmas.Bool.{cases_lt}
use Rattle.std.proofs.lemmas.Bool.Decides.{nat_tests}
use Rattle.std.specs.Cmp.Lexicographic.{nat_list_eq_equiv}
use Rattle.std.specs.List.{AllByRecursion, cons_option, filter_map}
use Rattle.std.specs.Option.{option_to_list}
use Rattle.std.specs.Prelude.{Option, Result, Ok, Err, IfSome, OnOk, is_some}
use Rattle.wef_base.specs.Names.{same}
use Rattle.wef_batch.specs.Cost.{cost}
use Rattle.wef_batch.specs.declared.items.Item.{Item}
use Rattle.wef_batch.specs.declared.items.Item.TheVariants as item
use Rattle.wef_bookmark.specs.Order.{Marks, number_at}
use Rattle.wef_event.specs.Events.{Event}
use Rattle.wef_keeper.specs.Keeping.{Stays as StaysTold}
use Rattle.wef_keeper.specs.Rows.{Rows}
use Rattle.wef_keeper.specs.Sections.{rows_under}
use Rattle.wef_keeper.specs.declared.keys.Depth.TheVariants.{Channel}
use Rattle.wef_keeper.specs.declared.keys.Row.{Row}
use Rattle.wef_query.specs.declared.QueryList.{QueryList}
use Rattle.wef_source_log.specs.Judged.{JudgesFirst, JudgesPage}
use Rattle.wef_source_log.specs.Keys.{record_key}
use Rattle.wef_source_log.specs.LogWindow.{event_of_row, first_of, last_number, last_of, records_after}
use Rattle.wef_source_log.proofs.Records.{nothing_read, page_read, page_within}
use Rattle.wef_building.specs.Building.{candidates, channel_candidates, first_number, has_room, is_of, item_of, left_items, reaches, room_of, session_channels, sized_item, unread}
use Rattle.wef_building.specs.Drafting.{empty_draft, offered, with_item, with_items}
use Rattle.wef_building.specs.Judged.{AreRead, AreReadIn, AreSound, JudgesBatch, JudgesChannel, JudgesChannels, StopsOrGoes}
use Rattle.wef_building.specs.Selecting.{is_wanted}
use Rattle.wef_building.specs.declared.drafting.Draft.{Draft}
use Rattle.wef_building.specs.declared.sessions.Session.{Session}
use Rattle.wef_building.proofs.Drafts.{first_of as first_left, left_taken, reaches_by_first, taken_none}

-- ---- the item that is left is one of those that were offered

one_has : (P : Item → Type 0) (d : Draft) (i : Item) → IfSome d.left P → P i → IfSome (with_item d i).left P
one_has P d i has one = by d.left refl
  where
    room : (b : Bool) → d.left ≡ None → IfSome (if b then record d { items = d.items ++ i ∷ []; items_left = d.items_left - 1; bytes_left = d.bytes_left - cost i } else record d { left = Some i }).left P
    room true none = subst (λ (o : Option Item). IfSome o P) (sym none) tt
    room false none = one

    by : (o : Option Item) → d.left ≡ o → IfSome (offered o d i).left P
    by None none = room (has_room d.items_left d.bytes_left i) none
    by (Some first) is = has

pub left_has : (P : Item → Type 0) (d : Draft) (is : List Item) → IfSome d.left P → AllByRecursion P is → IfSome (with_items d is).left P
left_has P d [] has all = has
left_has P d (i ∷ is) has all = left_has P (with_item d i) is (one_has P d i has all.0) all.1

-- what records give has what each record's item has
items_have : (P : Item → Type 0) (Q : Event → Type 0) (query : QueryList) (room : ℕ) → ((event : Event) → Q event → P (sized_item room event)) → (events : List Event) → AllByRecursion Q events
    → AllByRecursion P (filter_map (item_of query room) events)
items_have P Q query room gives [] all = tt
items_have P Q query room gives (event ∷ events) all = by (items_have P Q query room gives events all.1) (is_wanted query event.channel event.text)
  where
    by : AllByRecursion P (filter_map (item_of query room) events) → (b : Bool) → AllByRecursion P (cons_option (if b then Some (sized_item room event) else None) (filter_map (item_of query room) events))
    by rest true = (gives event all.0, rest)
    by rest false = rest

sized_number : (room : ℕ) (event : Event) → first_number (sized_item room event) ≡ event.number
sized_number room event = by (nat_lt room (cost (item.Event event)))
  where
    by : (b : Bool) → first_number (if b then item.Dropped event.channel event.number event.number else item.Event event) ≡ event.number
    by true = refl
    by false = refl

sized_channel : (room : ℕ) (event : Event) (c : List ℕ) → is_of c (sized_item room event) ≡ same event.channel c
sized_channel room event c = by (nat_lt room (cost (item.Event event)))
  where
    by : (b : Bool) → is_of c (if b then item.Dropped event.channel event.number event.number else item.Event event) ≡ same event.channel c
    by true = refl
    by false = refl

-- ---- pages

-- what is left of a page has a number of it
pub page_left : (m : ℕ) (query : QueryList) (room : ℕ) (d next : Draft) (page : List Event) → IfSome d.left (λ i. first_number i ≤ m) → AllByRecursion (λ (event : Event). event.number ≤ m) page
    → next ≡ with_items d (filter_map (item_of query room) page) → IfSome next.left (λ i. first_number i ≤ m)
page_left m query room d next page before within is =
    subst (λ (d : Draft). IfSome d.left (λ i. first_number i ≤ m)) (sym is)
    (left_has (λ i. first_number i ≤ m) d (filter_map (item_of query room) page) before
    (items_have (λ i. first_number i ≤ m) (λ (event : Event). event.number ≤ m) query room (λ event below. subst (λ n. n ≤ m) (sym (sized_number room event)) below) page within))

left_further : (left : Option Item) (m n : ℕ) → m ≤ n → IfSome left (λ i. first_number i ≤ m) → IfSome left (λ i. first_number i ≤ n)
left_further None m n more below = tt
left_further (Some i) m n more below = omega arith

-- the records up to a page's last are of their form, and what is left of them is there
pub page_judged : (rows : Rows) (c : List ℕ) (query : QueryList) (room position after max : ℕ) (d next : Draft) (page : List Event) (last : ℕ) → page ≡ take max (records_after rows c after) → JudgesPage c after max rows
    → last ≡ last_number after page → after < last → next ≡ with_items d (filter_map (item_of query room) page)
    → AreSound c position after rows × IfSome d.left (λ i. first_number i ≤ after) → AreSound c position last rows × IfSome next.left (λ i. first_number i ≤ last)
page_judged rows c query room position after max d next page last is judged ends higher made before = (
  (λ n above below. ⊎_elim
      (λ later. page_read rows c after max judged n later (subst (λ m. n ≤ m) (ends ∙ ap (last_number after) is) below))
      (λ earlier. before.0 n above earlier)
      (cases_lt after n)),
  page_left last query room d next page (left_further d.left after last (less after last higher) before.1)
      (subst (λ m. AllByRecursion (λ (event : Event). event.number ≤ m) page) (sym ends)
      (subst (λ (page : List Event). AllByRecursion (λ (event : Event). event.number ≤ last_number after page) page) (sym is) (page_within rows c after max))) made,
)
  where
    less : (m n : ℕ) → m < n → m ≤ n
    less m n h = omega arith

-- nothing is read further once an item is left
pub ends_full : (rows : Rows) (c : List ℕ) (position after : ℕ) (left : Option Item) → is_some left ≡ true → AreSound c position after rows × IfSome left (λ i. first_number i ≤ after) → AreRead c position left rows
ends_full rows c position after None full h = λ n above before. let bad : false ≡ true = full in cc
ends_full rows c position after (Some i) full h = λ n above before. h.0 n above (below n (first_number i) after before h.1)
  where
    below : (n m after : ℕ) → n < m → m ≤ after → n ≤ after
    below n m after p q = omega arith

-- and nothing stands behind an empty page
pub ends_empty : (rows : Rows) (c : List ℕ) (position after max : ℕ) (page : List Event) (left : Option Item) → page ≡ take max (records_after rows c after) → (length page == 0) ≡ true → 1 ≤ max
    → AreSound c position after rows → AreRead c position left rows
ends_empty rows c position after max page left is empty some before = λ n above _.
    ⊎_elim (λ later. nothing_read rows c after (none max (records_after rows c after) some (ap (λ (page : List Event). length page == 0) (sym is) ∙ empty)) n later) (λ earlier. before n above earlier) (cases_lt after n)
  where
    never : (n : ℕ) → (suc n == 0) ≡ true → ⊥
    never n e = grind (arith, nat_tests, e)

    none : (max : ℕ) (events : List Event) → 1 ≤ max → (length (take max events) == 0) ≡ true → events ≡ []
    none max [] some empty = refl
    none zero (event ∷ events) some empty = absurd (omega arith)
    none (suc max) (event ∷ events) some empty = absurd (never (length (take max events)) empty)

pub nothing_sound : (c : List ℕ) (position : ℕ) (rows : Rows) → AreSound c position position rows
nothing_sound c position rows = λ n above below. absurd (never position n above below)
  where
    never : (m n : ℕ) → m < n → n ≤ m → ⊥
    never m n p q = omega arith

-- ---- a channel

unread_all : (P : Item → Type 0) (rows : Rows) (c : List ℕ) (position : ℕ) → P (item.Dropped c (position + 1) (first_of rows c - 1)) → AllByRecursion P (unread rows c position)
unread_all P rows c position one = by (nat_lt (position + 1) (first_of rows c))
  where
    by : (b : Bool) → AllByRecursion P (if b then item.Dropped c (position + 1) (first_of rows c - 1) ∷ [] else [])
    by true = (one, tt)
    by false = tt

pub none_has : (P : Item → Type 0) (o : Option Item) → o ≡ None → IfSome o P
none_has P o none = subst (λ (o : Option Item). IfSome o P) (sym none) tt

-- where the range of what left the window is left, no record is in front of it
pub channel_read : (rows : Rows) (c : List ℕ) (position : ℕ) (old mid next : Draft) (is : List Item) → old.left ≡ None → mid ≡ with_items old (unread rows c position) → next ≡ with_items mid is
    → (mid.left ≡ None → AreRead c position next.left rows) → AreRead c position next.left rows
channel_read rows c position old mid next is none made taken read = by mid.left refl
  where
    first : IfSome mid.left (λ i. first_number i ≤ position + 1)
    first = subst (λ (d : Draft). IfSome d.left (λ i. first_number i ≤ position + 1)) (sym made)
        (left_has (λ i. first_number i ≤ position + 1) old (unread rows c position) (none_has (λ i. first_number i ≤ position + 1) old.left none) (unread_all (λ i. first_number i ≤ position + 1) rows c position (most position)))
      where
        most : (n : ℕ) → n + 1 ≤ n + 1
        most n = omega arith

    never : (position n m : ℕ) → position < n → n < m → m ≤ position + 1 → ⊥
    never position n m p q r = omega arith

    by : (o : Option Item) → mid.left ≡ o → AreRead c position next.left rows
    by None left = read left
    by (Some i) left =
        let same : next.left ≡ Some i = ap (λ (d : Draft). d.left) (taken ∙ taken_none mid i is left) ∙ left in
        let low = subst (λ (o : Option Item). IfSome o (λ i. first_number i ≤ position + 1)) left first in
        subst (λ (o : Option Item). AreRead c position o rows) (sym same) (λ n above before. absurd (never position n (first_number i) above before low))

-- the range that left the window, and then the records
pub channel_judged : {E : Type 0} (result : Result (Unit {0}) E) (query : QueryList) (room : ℕ) (c : List ℕ) (position : ℕ) (old mid next : Draft) (before now : Option Rows) → StaysTold before now → IfSome before (JudgesFirst c)
    → IfSome before (λ rows. mid ≡ with_items old (unread rows c position))
    → IfSome now (λ rows. OnOk result (next ≡ with_items mid (filter_map (item_of query room) (records_after rows c position))))
    → (mid.left ≡ None → IfSome now (λ rows. OnOk result (AreRead c position next.left rows)))
    → IfSome now (λ rows. OnOk result (JudgesFirst c rows × (old.left ≡ None → AreRead c position next.left rows)))
channel_judged result query room c position old mid next before None stays first made taken read = tt
channel_judged (Err fault) query room c position old mid next before (Some rows) stays first made taken read = tt
channel_judged (Ok done) query room c position old mid next None (Some rows) stays first made taken read = cc
channel_judged (Ok done) query room c position old mid next (Some found) (Some rows) stays first made taken read =
    let same : found ≡ rows = cc in (
      subst (JudgesFirst c) same first,
      (λ none. channel_read rows c position old mid next (filter_map (item_of query room) (records_after rows c position)) none
          (subst (λ (rows : Rows). mid ≡ with_items old (unread rows c position)) same made) taken read),
    )

section_of : (c : List ℕ) (rows : List Row) → AllByRecursion (λ (event : Event). same event.channel c ≡ true) (map (event_of_row c) rows)
section_of c [] = tt
section_of c (row ∷ rows) = (nat_list_eq_equiv.refl c, section_of c rows)

both_all : (P : Item → Type 0) (xs ys : List Item) → AllByRecursion P xs → AllByRecursion P ys → AllByRecursion P (xs ++ ys)
both_all P [] ys first second = second
both_all P (x ∷ xs) ys first second = (first.0, both_all P xs ys first.1 second)

-- an item that is left of a channel is of it
pub left_of : (rows : Rows) (session : Session) (c : List ℕ) (old next : Draft) → old.left ≡ None → next ≡ with_items old (channel_candidates rows session c) → IfSome next.left (λ i. is_of c i ≡ true)
left_of rows session c old next none made =
    let position = number_at session.positions c in
    let room = room_of session.max_bytes in
    subst (λ (d : Draft). IfSome d.left (λ i. is_of c i ≡ true)) (sym made)
    (left_has (λ i. is_of c i ≡ true) old (channel_candidates rows session c) (none_has (λ i. is_of c i ≡ true) old.left none)
    (both_all (λ i. is_of c i ≡ true) (unread rows c position) (filter_map (item_of session.query room) (records_after rows c position))
    (unread_all (λ i. is_of c i ≡ true) rows c position (nat_list_eq_equiv.refl c))
    (items_have (λ i. is_of c i ≡ true) (λ (event : Event). same event.channel c ≡ true) session.query room (λ event is. sized_channel room event c ∙ is) (records_after rows c position)
    (section_of c (rows_under Channel (record_key c position) rows)))))

-- ---- channels

-- what may be left in the end, where this is left by now
abbrev pub Stays : Option Item → Option Item → Type 0
Stays None left = Unit {0}
Stays (Some i) left = left ≡ Some i

pub stays_itself : (o : Option Item) → Stays o o
stays_itself None = tt
stays_itself (Some i) = refl

-- channels that are still to be read decide, where nothing is left by now
abbrev pub Decides : Rows → Marks → Option Item → List (List ℕ) → (Option Item → Type 0) → Type 0
Decides rows positions by_now cs Fact = (left : Option Item) → Stays by_now left → (by_now ≡ None → AreReadIn rows positions cs left) → Fact left

goes_on : (rows : Rows) (positions : Marks) (c : List ℕ) (cs : List (List ℕ)) (left : Option Item) → AreRead c (number_at positions c) None rows → AreReadIn rows positions cs left → AreReadIn rows positions (c ∷ cs) left
goes_on rows positions c cs None read rest = (read, rest)
goes_on rows positions c cs (Some i) read rest = by (is_of c i)
  where
    by : (t : Bool) → StopsOrGoes t (AreRead c (number_at positions c) (Some i) rows) (AreRead c (number_at positions c) None rows × AreReadIn rows positions cs (Some i))
    by true = λ n above before. read n above tt
    by false = (read, rest)

stops : (rows : Rows) (positions : Marks) (c : List ℕ) (cs : List (List ℕ)) (i : Item) → is_of c i ≡ true → AreRead c (number_at positions c) (Some i) rows → AreReadIn rows positions (c ∷ cs) (Some i)
stops rows positions c cs i of read =
    subst (λ (t : Bool). StopsOrGoes t (AreRead c (number_at positions c) (Some i) rows) (AreRead c (number_at positions c) None rows × AreReadIn rows positions cs (Some i))) (sym of) read

-- one channel more
pub one_more : (rows : Rows) (session : Session) (c : List ℕ) (cs : List (List ℕ)) (d next : Draft) (Fact : Option Item → Type 0) → next ≡ with_items d (channel_candidates rows session c)
    → (d.left ≡ None → AreRead c (number_at session.positions c) next.left rows) → Decides rows session.positions d.left (c ∷ cs) Fact → Decides rows session.positions next.left cs Fact
one_more rows session c cs d next Fact made read before = by d.left next.left refl refl
  where
    some : (i : Item) → d.left ≡ Some i → next.left ≡ Some i
    some i is = ap (λ (d : Draft). d.left) (made ∙ taken_none d i (channel_candidates rows session c) is) ∙ is

    not_none : (i : Item) (o : Option Item) → o ≡ Some i → o ≡ None → ⊥
    not_none i o some none = cc

    by : (o o' : Option Item) → d.left ≡ o → next.left ≡ o' → Decides rows session.positions next.left cs Fact
    by (Some i) o' is is' = λ left stays rest.
        let same : left ≡ Some i = subst (λ (o : Option Item). Stays o left) (some i is) stays in
        before left (subst (λ (o : Option Item). Stays o left) (sym is) same) (λ none. absurd (not_none i d.left is none))
    by None None is is' = λ left stays rest.
        before left (subst (λ (o : Option Item). Stays o left) (sym is) tt)
        (λ none. goes_on rows session.positions c cs left (subst (λ (o : Option Item). AreRead c (number_at session.positions c) o rows) is' (read is)) (rest is'))
    by None (Some i) is is' = λ left stays rest.
        let same : left ≡ Some i = subst (λ (o : Option Item). Stays o left) is' stays in
        let of = subst (λ (o : Option Item). IfSome o (λ i. is_of c i ≡ true)) is' (left_of rows session c d next is made) in
        before left (subst (λ (o : Option Item). Stays o left) (sym is) tt)
        (λ none. subst (AreReadIn rows session.positions (c ∷ cs)) (sym same) (stops rows session.positions c cs i of (subst (λ (o : Option Item). AreRead c (number_at session.positions c) o rows) is' (read is))))

-- what is known of channels in front of one that are read
abbrev pub AreJudgedTo : Rows → Session → Option Item → Option Item → List (List ℕ) → List (List ℕ) → Type 0
AreJudgedTo rows session old left rest all =
    (AllByRecursion (λ c. JudgesFirst c rows) rest → AllByRecursion (λ c. JudgesFirst c rows) all)
    × (old ≡ None → Decides rows session.positions left rest (AreReadIn rows session.positions all))

pub none_judged : (rows : Rows) (session : Session) (old : Option Item) (all : List (List ℕ)) → AreJudgedTo rows session old old all all
none_judged rows session old all = ((λ judged. judged), (λ none left stays rest. rest none))

pub more_judged : (rows : Rows) (session : Session) (old : Option Item) (c : List ℕ) (d next : Draft) (behind rest all : List (List ℕ)) → rest ≡ c ∷ behind → next ≡ with_items d (channel_candidates rows session c)
    → JudgesChannel rows session.positions c d.left next.left → AreJudgedTo rows session old d.left rest all → AreJudgedTo rows session old next.left behind all
more_judged rows session old c d next behind rest all parts made read before = (
  (λ judged. before.0 (subst (AllByRecursion (λ c. JudgesFirst c rows)) (sym parts) (read.0, judged))),
  (λ none. one_more rows session c behind d next (AreReadIn rows session.positions all) made read.1 (subst (λ cs. Decides rows session.positions d.left cs (AreReadIn rows session.positions all)) parts (before.1 none))),
)

pub all_judged : (rows : Rows) (session : Session) (old left : Option Item) (rest all : List (List ℕ)) → rest ≡ [] → AreJudgedTo rows session old left rest all → JudgesChannels rows session.positions all old left
all_judged rows session old left rest all none before = (
  before.0 (subst (AllByRecursion (λ c. JudgesFirst c rows)) (sym none) tt),
  (λ unfilled. before.1 unfilled left (stays_itself left) (λ _. subst (λ cs. AreReadIn rows session.positions cs left) (sym none) tt)),
)

-- ---- the batch

-- what is read of each channel is of its form as far as the channel is read
pub reaches_sound : (rows : Rows) (positions : Marks) (cs : List (List ℕ)) (left : Option Item) → AreReadIn rows positions cs left
    → AllByRecursion (λ (r : List ℕ × ℕ). AreSound r.0 (number_at positions r.0) r.1 rows) (reaches rows cs (option_to_list left))
reaches_sound rows positions [] left read = tt
reaches_sound rows positions (c ∷ cs) None read = ((λ n above below. read.0 n above tt), reaches_sound rows positions cs None read.1)
reaches_sound rows positions (c ∷ cs) (Some i) read = by (λ rest. reaches_sound rows positions cs (Some i) rest) (is_of c i) read
  where
    before : (position n m : ℕ) → position < n → n ≤ m - 1 → n < m
    before position n m p q = omega arith

    by : (AreReadIn rows positions cs (Some i) → AllByRecursion (λ (r : List ℕ × ℕ). AreSound r.0 (number_at positions r.0) r.1 rows) (reaches rows cs (i ∷ []))) → (t : Bool)
        → StopsOrGoes t (AreRead c (number_at positions c) (Some i) rows) (AreRead c (number_at positions c) None rows × AreReadIn rows positions cs (Some i))
        → AllByRecursion (λ (r : List ℕ × ℕ). AreSound r.0 (number_at positions r.0) r.1 rows) (cond t ((c, first_number i - 1) ∷ []) ((c, last_of rows c) ∷ reaches rows cs (i ∷ [])))
    by rest true read = ((λ n above below. read n above (before (number_at positions c) n (first_number i) above below)), tt)
    by rest false read = ((λ n above below. read.0 n above tt), rest read.1)

pub batch_judged : (rows : Rows) (session : Session) (d : Draft) → d ≡ with_items (empty_draft session.max_items (room_of session.max_bytes)) (candidates rows session)
    → JudgesChannels rows session.positions (session_channels session) None d.left → JudgesBatch rows session
batch_judged rows session d made judged =
    let left : d.left ≡ first_left (left_items rows session) = ap (λ (x : Draft). x.left) made ∙ left_taken (empty_draft session.max_items (room_of session.max_bytes)) (candidates rows session) refl in
    record {
      numbers = judged.0;
      records = subst (AllByRecursion (λ (r : List ℕ × ℕ). AreSound r.0 (number_at session.positions r.0) r.1 rows))
          (ap (λ (o : Option Item). reaches rows (session_channels session) (option_to_list o)) left ∙ reaches_by_first rows (session_channels session) (left_items rows session))
          (reaches_sound rows session.positions (session_channels session) d.left (judged.1 refl));
    }
