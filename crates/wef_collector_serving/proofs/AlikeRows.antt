-- Rows that are alike are read alike, and stay so under what a batch changes, at whatever moment it comes, where a source is heard, and
-- under the end of a lease.
use Rattle.std.proofs.Common.{◌≡◌, ℕ, ◌+◌, ◌==◌, Bool, true, false, ◌&&◌, ◌||◌, cond, List, [], ◌∷◌, ◌++◌, refl, ap, sym, subst, ◌∙◌, nat_eq, nat_lt, if◌then◌else◌}
use Rattle.std.proofs.lemmas.Bool.{and_parts, eqb-true}
use Rattle.std.specs.Cmp.Lexicographic.{pointwise}
use Rattle.std.specs.FinMap as finite
use Rattle.std.specs.Fmt.{decimal}
use Rattle.std.specs.List.{filter, filter_map, flat_map}
use Rattle.std.specs.Option.{option_map}
use Rattle.std.specs.Prelude.{Option, Some, None, is_some, max, unwrap_or}
use Rattle.wef_base.specs.Names.{same}
use Rattle.wef_batch.specs.Reach.{loose_sum, reach}
use Rattle.wef_batch.specs.declared.items.Batch.{Batch}
use Rattle.wef_batch.specs.declared.items.Item.{Item}
use Rattle.wef_batch.specs.declared.items.Item.TheVariants.{Event, Dropped, Loose}
use Rattle.wef_collector.proofs.Hits.{found-append, found_if_other, hits, not_both, one_key, refuted}
use Rattle.wef_collector.specs.Offers.{is_offered, offer_from, offers}
use Rattle.wef_collector.specs.Taken.{batch_changes, channel_changes, heard_changes, is_later, item_changes, loose_changes, move_changes, put, reach_changes}
use Rattle.wef_collector_leases.specs.Changes.{delete_named, end_lease}
use Rattle.wef_collector_leases.specs.Leases.{lease_at, lease_of}
use Rattle.wef_collector_leases.specs.declared.leases.Lease.{Lease}
use Rattle.wef_collector_reports.specs.Listing.{listed_of}
use Rattle.wef_collector_reports.specs.declared.listing.Listed.{Listed}
use Rattle.wef_collector_rows.specs.Bookmarks.{bookmark_at, bookmark_of, has_channel, raised_by_rows}
use Rattle.wef_collector_rows.specs.Keys.{bookmark_key, heard_key, held_key, lease_key, loose_key, mark_key, subscription_key}
use Rattle.wef_collector_rows.specs.Standing.{standing, standing_of}
use Rattle.wef_keeper.proofs.Sections.{same_under}
use Rattle.wef_keeper.specs.Kinds.{number_of}
use Rattle.wef_keeper.specs.Laws.{get-applied}
use Rattle.wef_keeper.specs.Rows.{Rows, applied, cell_of, found_after, key_of}
use Rattle.wef_keeper.specs.Sections.{is_under, rows_under}
use Rattle.wef_keeper.specs.declared.keys.Cell.{Cell}
use Rattle.wef_keeper.specs.declared.keys.Change.{Change}
use Rattle.wef_keeper.specs.declared.keys.Depth.{Depth}
use Rattle.wef_keeper.specs.declared.keys.Depth.TheVariants.{Kind, Sub, Source, Channel}
use Rattle.wef_keeper.specs.declared.keys.Key.{Key}
use Rattle.wef_keeper.specs.declared.keys.Row.{Row}
use Rattle.wef_keeper.specs.declared.kinds.RowKind.TheVariants.{Heard}
use Rattle.wef_collector_serving.specs.Clocks.{AreAlike, StandAlike}

-- ---- the same changes

alike_under : (heard t : Bool) (cell one other : Option Cell) → StandAlike heard one other → StandAlike heard (cond t cell one) (cond t cell other)
alike_under true true cell one other alike = refl
alike_under true false cell one other alike = alike
alike_under false true cell one other alike = refl
alike_under false false cell one other alike = alike

alike_found : (heard : Bool) (changes : List Change) (q : Key) (one other : Option Cell) → StandAlike heard one other → StandAlike heard (found_after changes q one) (found_after changes q other)
alike_found heard [] q one other alike = alike
alike_found heard (change ∷ changes) q one other alike =
    alike_found heard changes q (cond (hits (key_of change) q) (cell_of change) one) (cond (hits (key_of change) q) (cell_of change) other)
    (alike_under heard (hits (key_of change) q) (cell_of change) one other alike)

carried : (heard : Bool) (one two other another : Option Cell) → one ≡ two → other ≡ another → StandAlike heard two another → StandAlike heard one other
carried heard one two other another first second alike =
    subst (λ (x : Option Cell). StandAlike heard x other) (sym first) (subst (λ (x : Option Cell). StandAlike heard two x) (sym second) alike)

pub alike_applied : (changes : List Change) (rows other : Rows) → AreAlike rows other → AreAlike (applied changes rows) (applied changes other)
alike_applied changes rows other alike = λ key.
    carried (key.kind == number_of Heard) (finite.get (applied changes rows) key) (found_after changes key (finite.get rows key)) (finite.get (applied changes other) key) (found_after changes key (finite.get other key))
    (get-applied changes rows key) (get-applied changes other key)
    (alike_found (key.kind == number_of Heard) changes key (finite.get rows key) (finite.get other key) (alike key))

-- ---- what is read

-- at a key of another kind the same stands
pub unheard_same : (rows other : Rows) → AreAlike rows other → (q : Key) → (q.kind == number_of Heard) ≡ false → finite.get rows q ≡ finite.get other q
unheard_same rows other alike q is = subst (λ (t : Bool). StandAlike t (finite.get rows q) (finite.get other q)) is (alike q)

-- a section is of one kind
same_kind : (depth : Depth) (a q : Key) → is_under depth a q ≡ true → a.kind ≡ q.kind
same_kind Kind a q e = eqb-true a.kind q.kind e
same_kind Sub a q e = eqb-true a.kind q.kind (and_parts (nat_eq a.kind q.kind) (pointwise nat_eq a.sub q.sub) e).0
same_kind Source a q e =
    let outer = and_parts (nat_eq a.kind q.kind && pointwise nat_eq a.sub q.sub) (pointwise nat_eq a.source q.source) e in
    eqb-true a.kind q.kind (and_parts (nat_eq a.kind q.kind) (pointwise nat_eq a.sub q.sub) outer.0).0
same_kind Channel a q e =
    let outer = and_parts (nat_eq a.kind q.kind && pointwise nat_eq a.sub q.sub && pointwise nat_eq a.source q.source) (pointwise nat_eq a.channel q.channel) e in
    let middle = and_parts (nat_eq a.kind q.kind && pointwise nat_eq a.sub q.sub) (pointwise nat_eq a.source q.source) outer.0 in
    eqb-true a.kind q.kind (and_parts (nat_eq a.kind q.kind) (pointwise nat_eq a.sub q.sub) middle.0).0

same_section : (depth : Depth) (a : Key) (rows other : Rows) → AreAlike rows other → (a.kind == number_of Heard) ≡ false → rows_under depth a rows ≡ rows_under depth a other
same_section depth a rows other alike is =
    same_under depth a rows other (λ q under. unheard_same rows other alike q (ap (λ (kind : ℕ). kind == number_of Heard) (sym (same_kind depth a q under)) ∙ is))

same_bookmark : (rows other : Rows) → AreAlike rows other → (u s c : List ℕ) → bookmark_at rows u s c ≡ bookmark_at other u s c
same_bookmark rows other alike u s c = ap (λ (found : Option Cell). unwrap_or (option_map (λ (cell : Cell). cell.value) found) 0) (unheard_same rows other alike (bookmark_key u s c) refl)

same_marks : (rows other : Rows) → AreAlike rows other → (u s : List ℕ) → bookmark_of rows u s ≡ bookmark_of other u s
same_marks rows other alike u s = ap (λ (found : List Row). raised_by_rows finite.empty (filter has_channel found)) (same_section Source (bookmark_key u s []) rows other alike refl)

same_lease : (rows other : Rows) → AreAlike rows other → (u s : List ℕ) → lease_at rows u s ≡ lease_at other u s
same_lease rows other alike u s = ap (option_map lease_of) (unheard_same rows other alike (lease_key u s) refl)

pub same_standing : (rows other : Rows) → AreAlike rows other → (u : List ℕ) → standing rows u ≡ standing other u
same_standing rows other alike u = ap (standing_of u) (unheard_same rows other alike (subscription_key u) refl)

pub same_offers : (rows other : Rows) → AreAlike rows other → (s host : List ℕ) → offers rows s host ≡ offers other s host
same_offers rows other alike s host = λ i.
    filter_map (λ (l : Listed). if is_offered l then Some (offer_from (same_marks rows other alike l.subscription.name s i) s host l.subscription) else None)
    (filter_map listed_of (same_section Kind (subscription_key []) rows other alike refl i))

-- ---- what is put stands

-- nothing is deleted
abbrev Keeps : List Change → Type 0
Keeps changes = (q : Key) (cell : Option Cell) → is_some cell ≡ true → is_some (found_after changes q cell) ≡ true

nothing_keeps : Keeps []
nothing_keeps = λ q cell there. there

put_keeps : (t : Bool) (key : Key) (value : ℕ) (body : List ℕ) → Keeps (if t then put key value body ∷ [] else [])
put_keeps true key value body = λ q cell there. by (hits key q) cell there
  where
    by : (t : Bool) (cell : Option Cell) → is_some cell ≡ true → is_some (cond t (Some (record { value = value; body = body })) cell) ≡ true
    by true cell there = refl
    by false cell there = there
put_keeps false key value body = λ q cell there. there

append_keeps : (xs ys : List Change) → Keeps xs → Keeps ys → Keeps (xs ++ ys)
append_keeps xs ys first second = λ q cell there. subst (λ (x : Option Cell). is_some x ≡ true) (sym (found-append xs ys q cell)) (second q (found_after xs q cell) (first q cell there))

flat_keeps : {X : Type 0} (changes : X → List Change) (xs : List X) → ((x : X) → Keeps (changes x)) → Keeps (flat_map changes xs)
flat_keeps changes [] keeps = nothing_keeps
flat_keeps changes (x ∷ xs) keeps = append_keeps (changes x) (flat_map changes xs) (keeps x) (flat_keeps changes xs keeps)

item_keeps : (u s c : List ℕ) (b : ℕ) (item : Item) → Keeps (item_changes u s c b item)
item_keeps u s c b (Event e) = put_keeps (same e.channel c && nat_lt b e.number) (held_key u s c e.number) 0 e.text
item_keeps u s c b (Dropped channel first last) = put_keeps (same channel c && nat_lt b last) (mark_key u s c (max first (b + 1))) last []
item_keeps u s c b (Loose count) = nothing_keeps

move_keeps : (u s c : List ℕ) (b t sum : ℕ) → Keeps (move_changes u s c b t sum)
move_keeps u s c b t sum = by (nat_lt b t)
  where
    by : (moves : Bool) → Keeps (cond moves (loose_changes u s c b t sum ++ put (bookmark_key u s c) t [] ∷ []) [])
    by true = append_keeps (loose_changes u s c b t sum) (put (bookmark_key u s c) t [] ∷ [])
        (put_keeps (nat_lt 0 sum) (loose_key u s c (b + 1)) t (decimal sum)) (put_keeps true (bookmark_key u s c) t [])
    by false = nothing_keeps

reach_keeps : (u s c : List ℕ) (b : ℕ) (batch : Batch) (reached : Option ℕ) → Keeps (reach_changes u s c b batch reached)
reach_keeps u s c b batch None = nothing_keeps
reach_keeps u s c b batch (Some t) =
    append_keeps (flat_map (item_changes u s c b) batch.items) (move_changes u s c b t (loose_sum batch.items))
    (flat_keeps (item_changes u s c b) batch.items (item_keeps u s c b)) (move_keeps u s c b t (loose_sum batch.items))

channels_keep : (rows : Rows) (u s : List ℕ) (batch : Batch) (channels : List (List ℕ)) → Keeps (flat_map (channel_changes rows u s batch) channels)
channels_keep rows u s batch channels = flat_keeps (channel_changes rows u s batch) channels (λ c. reach_keeps u s c (bookmark_at rows u s c) batch (reach c batch))

-- ---- the moment at which a source was heard

not_later : (now : ℕ) (cell : Option Cell) → is_later now cell ≡ false → is_some cell ≡ true
not_later now None is = cc
not_later now (Some cell) is = refl

-- at its own key it stands then, whatever the moment
heard_there : (rows : Rows) (u s : List ℕ) (now : ℕ) (q : Key) (cell : Option Cell) → (is_some (finite.get rows (heard_key u s)) ≡ true → hits (heard_key u s) q ≡ true → is_some cell ≡ true)
    → is_some (found_after (heard_changes rows u s now) q cell) ≡ (hits (heard_key u s) q || is_some cell)
heard_there rows u s now q cell stays = by (is_later now (finite.get rows (heard_key u s))) (hits (heard_key u s) q) refl refl
  where
    by : (later hit : Bool) → is_later now (finite.get rows (heard_key u s)) ≡ later → hits (heard_key u s) q ≡ hit
        → is_some (found_after (if later then put (heard_key u s) now [] ∷ [] else []) q cell) ≡ (hit || is_some cell)
    by true true later hit = ap (λ (t : Bool). is_some (cond t (Some (record { value = now; body = [] })) cell)) hit
    by true false later hit = ap (λ (t : Bool). is_some (cond t (Some (record { value = now; body = [] })) cell)) hit
    by false true later hit = stays (not_later now (finite.get rows (heard_key u s)) later) hit
    by false false later hit = refl

-- and no key of another kind changes
heard_elsewhere : (rows : Rows) (u s : List ℕ) (now : ℕ) (q : Key) (cell : Option Cell) → (q.kind == number_of Heard) ≡ false → found_after (heard_changes rows u s now) q cell ≡ cell
heard_elsewhere rows u s now q cell is =
    found_if_other (is_later now (finite.get rows (heard_key u s))) (put (heard_key u s) now []) q cell
    (refuted (hits (heard_key u s) q) (λ hit. not_both (ap (λ (k : Key). k.kind == number_of Heard) (sym (one_key (heard_key u s) q hit))) is))

alike_heard : (rows other : Rows) (u s : List ℕ) (now moment : ℕ) (q : Key) (one two : Option Cell) → StandAlike (q.kind == number_of Heard) one two
    → (is_some (finite.get rows (heard_key u s)) ≡ true → hits (heard_key u s) q ≡ true → is_some one ≡ true)
    → (is_some (finite.get other (heard_key u s)) ≡ true → hits (heard_key u s) q ≡ true → is_some two ≡ true)
    → StandAlike (q.kind == number_of Heard) (found_after (heard_changes rows u s now) q one) (found_after (heard_changes other u s moment) q two)
alike_heard rows other u s now moment q one two alike first second = by (q.kind == number_of Heard) refl alike
  where
    by : (t : Bool) → (q.kind == number_of Heard) ≡ t → StandAlike t one two → StandAlike t (found_after (heard_changes rows u s now) q one) (found_after (heard_changes other u s moment) q two)
    by true is alike = heard_there rows u s now q one first ∙ ap (λ (there : Bool). hits (heard_key u s) q || there) alike ∙ sym (heard_there other u s moment q two second)
    by false is alike = heard_elsewhere rows u s now q one is ∙ alike ∙ sym (heard_elsewhere other u s moment q two is)

-- ---- a batch

same_channels : (rows other : Rows) → AreAlike rows other → (u s : List ℕ) (batch : Batch) (channels : List (List ℕ)) → flat_map (channel_changes rows u s batch) channels ≡ flat_map (channel_changes other u s batch) channels
same_channels rows other alike u s batch channels = λ i. flat_map (λ (c : List ℕ). reach_changes u s c (same_bookmark rows other alike u s c i) batch (reach c batch)) channels

-- what a batch leaves at a key
taken_found : (rows : Rows) (u s : List ℕ) (channels : List (List ℕ)) (batch : Batch) (now : ℕ) (q : Key)
    → finite.get (applied (batch_changes rows u s channels batch now) rows) q ≡ found_after (heard_changes rows u s now) q (found_after (flat_map (channel_changes rows u s batch) channels) q (finite.get rows q))
taken_found rows u s channels batch now q =
    get-applied (batch_changes rows u s channels batch now) rows q ∙ found-append (flat_map (channel_changes rows u s batch) channels) (heard_changes rows u s now) q (finite.get rows q)

stays_there : (rows : Rows) (u s : List ℕ) (changes : List Change) → Keeps changes → (q : Key) → is_some (finite.get rows (heard_key u s)) ≡ true → hits (heard_key u s) q ≡ true → is_some (found_after changes q (finite.get rows q)) ≡ true
stays_there rows u s changes keeps q there hit = keeps q (finite.get rows q) (subst (λ (k : Key). is_some (finite.get rows k) ≡ true) (one_key (heard_key u s) q hit) there)

pub alike_taken : (rows other : Rows) → AreAlike rows other → (u s : List ℕ) (channels : List (List ℕ)) (batch : Batch) (now moment : ℕ)
    → AreAlike (applied (batch_changes rows u s channels batch now) rows) (applied (batch_changes other u s channels batch moment) other)
alike_taken rows other alike u s channels batch now moment = λ q.
    let changes = flat_map (channel_changes rows u s batch) channels in
    carried (q.kind == number_of Heard)
    (finite.get (applied (batch_changes rows u s channels batch now) rows) q) (found_after (heard_changes rows u s now) q (found_after changes q (finite.get rows q)))
    (finite.get (applied (batch_changes other u s channels batch moment) other) q) (found_after (heard_changes other u s moment) q (found_after changes q (finite.get other q)))
    (taken_found rows u s channels batch now q)
    (taken_found other u s channels batch moment q
    ∙ ap (λ (xs : List Change). found_after (heard_changes other u s moment) q (found_after xs q (finite.get other q))) (sym (same_channels rows other alike u s batch channels)))
    (alike_heard rows other u s now moment q (found_after changes q (finite.get rows q)) (found_after changes q (finite.get other q))
    (alike_found (q.kind == number_of Heard) changes q (finite.get rows q) (finite.get other q) (alike q))
    (stays_there rows u s changes (channels_keep rows u s batch channels) q) (stays_there other u s changes (channels_keep rows u s batch channels) q))

-- ---- a heartbeat

pub alike_hearing : (rows other : Rows) → AreAlike rows other → (u s : List ℕ) (now moment : ℕ) → AreAlike (applied (heard_changes rows u s now) rows) (applied (heard_changes other u s moment) other)
alike_hearing rows other alike u s now moment = λ q.
    carried (q.kind == number_of Heard)
    (finite.get (applied (heard_changes rows u s now) rows) q) (found_after (heard_changes rows u s now) q (finite.get rows q))
    (finite.get (applied (heard_changes other u s moment) other) q) (found_after (heard_changes other u s moment) q (finite.get other q))
    (get-applied (heard_changes rows u s now) rows q) (get-applied (heard_changes other u s moment) other q)
    (alike_heard rows other u s now moment q (finite.get rows q) (finite.get other q) (alike q) (stays_there rows u s [] nothing_keeps q) (stays_there other u s [] nothing_keeps q))

-- ---- the end of a lease

pub alike_ended : (rows other : Rows) → AreAlike rows other → (u s identifier : List ℕ) → AreAlike (applied (end_lease rows u s identifier) rows) (applied (end_lease other u s identifier) other)
alike_ended rows other alike u s identifier =
    subst (λ (kept : Option Lease). AreAlike (applied (end_lease rows u s identifier) rows) (applied (delete_named u s identifier kept) other)) (same_lease rows other alike u s)
    (alike_applied (end_lease rows u s identifier) rows other alike)
