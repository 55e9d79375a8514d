-- Rows of their form stay so, whatever the collector does.
use Rattle.std.proofs.Common.{◌≡◌, ℕ, ◌+◌, ◌<◌, ◌≤◌, ◌==◌, nat_le, nat_lt, max, Bool, true, false, ◌&&◌, List, [], ◌∷◌, ◌++◌, refl, ap, sym, ◌∙◌, subst, arith, if◌then◌else◌}
use Rattle.std.proofs.lemmas.Bool.{and_parts}
use Rattle.std.specs.Cmp.Lexicographic.{slice_cmp}
use Rattle.std.specs.FinMap as finite
use Rattle.std.specs.Fmt.{decimal}
use Rattle.std.specs.List.{AllByRecursion, flat_map, list_all}
use Rattle.std.specs.Ordering.{match_ordering, nat_cmp}
use Rattle.std.specs.Prelude.{Option, Some, None, is_some, IfSome}
use Rattle.std.specs.declared.cmp.Ordering.{Ordering}
use Rattle.std.specs.declared.cmp.Ordering.TheVariants.{Less, Equal, Greater}
use Rattle.wef_base.specs.Names.{same}
use Rattle.wef_base.specs.declared.moments.TheConstants.{LAST_MOMENT}
use Rattle.wef_base.specs.declared.numbers.TheConstants.{MAX}
use Rattle.wef_batch.specs.Reach.{last_after, last_in, later, loose_sum, reach, reach_of, span_in}
use Rattle.wef_batch.specs.WellFormed.{is_at_least, is_in_order, is_listed, is_well_formed, rises}
use Rattle.wef_batch.specs.declared.items.Batch.{Batch}
use Rattle.wef_batch.specs.declared.items.Item.{Item}
use Rattle.wef_batch.specs.declared.items.Item.TheVariants.{Event, Dropped, Loose}
use Rattle.wef_event.specs.Events as events
use Rattle.wef_event.specs.Events.{is_event}
use Rattle.wef_documents.proofs.KeptBack.{kept_plain}
use Rattle.wef_documents.specs.Kept.{read_kept}
use Rattle.std.proofs.lemmas.Bool.{cond_both}
use Rattle.wef_query.specs.Laws.{ReadsBack}
use Rattle.wef_query.specs.Items.{QueryItem}
use Rattle.wef_documents.specs.Written.{document_text}
use Rattle.wef_eventing.specs.declared.subscriptions.Subscription.{Subscription}
use Rattle.wef_keeper.proofs.StayFormed.{applied_formed}
use Rattle.wef_keeper.specs.Forms.{ArePut, IsPut}
use Rattle.wef_keeper.specs.Rows.{Rows, key_cmp, row_of}
use Rattle.wef_keeper.specs.declared.keys.Cell.{Cell}
use Rattle.wef_keeper.specs.declared.keys.Change.{Change}
use Rattle.wef_query.specs.Order.{with_name, with_names}
use Rattle.wef_query.specs.Selected.{selects}
use Rattle.wef_collector_rows.specs.Answers.{channels_read}
use Rattle.wef_collector_rows.specs.Bookmarks.{bookmark_at, is_one}
use Rattle.wef_collector.specs.Boots.{boot_of}
use Rattle.wef_collector_rows.specs.Forms.{AreFormed, is_channel_name, is_formed, is_source_name, is_subscription_name, is_subscription_row}
use Rattle.wef_collector.specs.FormsStay.{FormsStay, IsSoundItem, IsSoundBatch}
use Rattle.wef_collector_rows.specs.Keys.{bookmark_key, boot_key, held_key, loose_key, mark_key, subscription_key}
use Rattle.wef_collector_rows.specs.Standing.{kept_body, standing, standing_by, standing_of}
use Rattle.wef_collector.specs.Taken.{batch_changes, channel_changes, heard_changes, item_changes, loose_changes, move_changes, put, reach_changes, taken}
use Rattle.wef_collector_rows.specs.declared.standings.Standing.TheVariants.{Ended, Live}
use Rattle.wef_collector.specs.Keepable.{IsKeepable}
use Rattle.wef_collector.proofs.FormedRows.{AreNames, all_keepable, bookmark_row, boot_row, clipped, held_row, le_holds, loose_row, lt_holds, mark_row, next_within, subscription_row}
use Rattle.wef_collector.proofs.Hearing.{formed_by_hearing, hearing_sound}
use Rattle.wef_collector.proofs.Hits.{one_name, same_self}

-- ---- changes that put rows of their form

put-append : (xs ys : List Change) → ArePut is_formed xs → ArePut is_formed ys → ArePut is_formed (xs ++ ys)
put-append [] ys first second = second
put-append (x ∷ xs) ys first second = (first.0, put-append xs ys first.1 second)

put-flat_map : {X : Type 0} (P : X → Type 0) (changes : X → List Change) (xs : List X) → ((x : X) → P x → ArePut is_formed (changes x)) → AllByRecursion P xs → ArePut is_formed (flat_map changes xs)
put-flat_map P changes [] each all = tt
put-flat_map P changes (x ∷ xs) each all = put-append (changes x) (flat_map changes xs) (each x all.0) (put-flat_map P changes xs each all.1)

put-if : (t : Bool) (change : Change) → (t ≡ true → IsPut is_formed change) → ArePut is_formed (if t then change ∷ [] else [])
put-if true change put = (put refl, tt)
put-if false change put = tt

nothing_formed : AreFormed finite.empty
nothing_formed key = subst (λ (found : Option Cell). IfSome found (λ cell. is_formed (row_of (key, cell)) ≡ true)) (sym (finite.get-empty key_cmp key)) tt

-- ---- the subscription that a live name leads to

-- a name that reads back as itself, and words that keep a subscription of it
record IsKept (u body : List ℕ) (about : Subscription) : Type 0 where
  name : is_subscription_name u ≡ true
  reads : read_kept u body ≡ Some about

row_name : (u body : List ℕ) (value : ℕ) → is_formed (record { key = subscription_key u; value = value; body = body }) ≡ true → is_subscription_name u ≡ true
unfolding is_formed is_subscription_row
row_name u body value e =
    let name = is_subscription_name u in
    let a = and_parts (name && true && true && true && nat_le value 1) (is_some (read_kept u body)) e in
    let b = and_parts (name && true && true && true) (nat_le value 1) a.0 in
    let c = and_parts (name && true && true) true b.0 in
    let d = and_parts (name && true) true c.0 in
    (and_parts name true d.0).0

live_reads : (value : ℕ) (read : Option Subscription) (about : Subscription) → standing_by value read ≡ Live about → read ≡ Some about
live_reads value None about e = cc
live_reads value (Some kept) about e = by (value == 0) e
  where
    by : (t : Bool) → (if t then Live kept else Ended kept) ≡ Live about → Some kept ≡ Some about
    by true is = cc
    by false is = cc

live_kept : (rows : Rows) (u : List ℕ) (about : Subscription) → standing rows u ≡ Live about → AreFormed rows → IsKept u (kept_body (finite.get rows (subscription_key u))) about
live_kept rows u about lives formed = by (finite.get rows (subscription_key u)) lives (formed (subscription_key u))
  where
    by : (found : Option Cell) → standing_of u found ≡ Live about → IfSome found (λ cell. is_formed (row_of (subscription_key u, cell)) ≡ true) → IsKept u (kept_body found) about
    by None is holds = let bad : ⊥ = cc in absurd bad
    by (Some cell) is holds = record { name = row_name u cell.body cell.value holds; reads = live_reads cell.value (read_kept u cell.body) about is }

-- ---- its channels have names that read back as themselves

abbrev IsChannel : List ℕ → Type 0
IsChannel c = is_channel_name c ≡ true

with_name_all : (names : List (List ℕ)) (k : List ℕ) → AllByRecursion IsChannel names → IsChannel k → AllByRecursion IsChannel (with_name names k)
with_name_all [] k all one = (one, tt)
with_name_all (x ∷ xs) k all one = by (with_name_all xs k all.1 one) (slice_cmp nat_cmp k x)
  where
    by : AllByRecursion IsChannel (with_name xs k) → (r : Ordering) → AllByRecursion IsChannel (match_ordering r (k ∷ x ∷ xs) (x ∷ xs) (x ∷ with_name xs k))
    by rest Less = (one, all)
    by rest Equal = all
    by rest Greater = (all.0, rest)

with_names_all : (names more : List (List ℕ)) → AllByRecursion IsChannel names → AllByRecursion IsChannel more → AllByRecursion IsChannel (with_names names more)
with_names_all names [] all rest = all
with_names_all names (k ∷ more) all rest = with_names_all (with_name names k) more (with_name_all names k all rest.0) rest.1

selects_names : (items : List QueryItem) → AllByRecursion ReadsBack items → AllByRecursion IsChannel (selects items)
selects_names [] back = tt
selects_names (item ∷ items) back =
    cond_both item.suppress (selects items) (item.channel ∷ selects items) (AllByRecursion IsChannel) (λ _. selects_names items back.1)
    (λ _. (ap (is_one item.channel) back.0.channel ∙ same_self item.channel, selects_names items back.1))

kept_channels : (u body : List ℕ) (about : Subscription) → read_kept u body ≡ Some about → AllByRecursion IsChannel (channels_read about)
kept_channels u body about e = with_names_all [] (selects about.query.items) tt (selects_names about.query.items (kept_plain u body about e).query.each)

-- ---- what a batch changes in a channel

-- an item that can be kept, and what is known of it by itself
abbrev IsWithin : List ℕ → Item → Type 0
IsWithin c item = IsSoundItem item × IsKeepable c item

-- an event of a channel, by the channel's name
event_there : (c : List ℕ) (event : events.Event) → same event.channel c ≡ true → is_event event ≡ true → is_event (record { channel = c; number = event.number; text = event.text }) ≡ true
event_there c event is says = ap (λ (d : List ℕ). is_event (record { channel = d; number = event.number; text = event.text })) (sym (one_name event.channel c is)) ∙ says

both_all : {X : Type 0} (P Q : X → Type 0) (xs : List X) → AllByRecursion P xs → AllByRecursion Q xs → AllByRecursion (λ x. P x × Q x) xs
both_all P Q [] first second = tt
both_all P Q (x ∷ xs) first second = ((first.0, second.0), both_all P Q xs first.1 second.1)

all_within : (c : List ℕ) (items : List Item) → rises c None items ≡ true → AllByRecursion IsSoundItem items → AllByRecursion (IsWithin c) items
all_within c items e sound = both_all IsSoundItem (IsKeepable c) items sound (all_keepable IsSoundItem c None items (λ channel first last within. within) e sound)

item_sound : (u s c : List ℕ) (b : ℕ) → AreNames u s c → (item : Item) → IsWithin c item → ArePut is_formed (item_changes u s c b item)
item_sound u s c b names (Event event) within =
    put-if (same event.channel c && nat_lt b event.number) (put (held_key u s c event.number) 0 event.text)
    (λ test.
    let both = and_parts (same event.channel c) (nat_lt b event.number) test in
    held_row u s c event.text event.number names within.0.0 (event_there c event both.0 within.0.1))
item_sound u s c b names (Dropped channel first last) within =
    put-if (same channel c && nat_lt b last) (put (mark_key u s c (max first (b + 1))) last [])
    (λ test.
    let both = and_parts (same channel c) (nat_lt b last) test in
    mark_row u s c (max first (b + 1)) last names (clipped b first last (lt_holds b last both.1) (within.1.0 both.0)) within.1.1)
item_sound u s c b names (Loose count) within = tt

-- a number, where there is one, is such as records have
abbrev IsNumberOrNone : Option ℕ → Type 0
IsNumberOrNone None = Unit {0}
IsNumberOrNone (Some n) = n ≤ MAX

later_within : (previous : Option ℕ) (t : Bool) (first last : ℕ) → IsNumberOrNone previous → last ≤ MAX → IsNumberOrNone (later previous (if t then Some (first, last) else None))
later_within previous true first last before within = within
later_within previous false first last before within = before

item_within : (c : List ℕ) (previous : Option ℕ) (item : Item) → IsNumberOrNone previous → IsSoundItem item → IsNumberOrNone (later previous (span_in c item))
item_within c previous (Event event) before number = later_within previous (same event.channel c) event.number event.number before number.0
item_within c previous (Dropped channel first last) before number = later_within previous (same channel c) first last before number
item_within c previous (Loose count) before number = before

last_within : (c : List ℕ) (previous : Option ℕ) (items : List Item) → IsNumberOrNone previous → AllByRecursion IsSoundItem items → IsNumberOrNone (last_after c previous items)
last_within c previous [] before numbers = before
last_within c previous (item ∷ items) before numbers = last_within c (later previous (span_in c item)) items (item_within c previous item before numbers.0) numbers.1

reach_within : (c : List ℕ) (batch : Batch) → IsSoundBatch batch → IsNumberOrNone (reach c batch)
reach_within c batch numbers = by (finite.get batch.to c) (numbers.to c)
  where
    by : (to : Option ℕ) → ((n : ℕ) → to ≡ Some n → n ≤ MAX) → IsNumberOrNone (reach_of to (last_in c batch.items))
    by None each = last_within c None batch.items tt numbers.items
    by (Some n) each = each n refl

loose_changes_sound : (u s c : List ℕ) (b t sum : ℕ) → AreNames u s c → b < t → t ≤ MAX → sum ≤ MAX → ArePut is_formed (loose_changes u s c b t sum)
loose_changes_sound u s c b t sum names above within few =
    put-if (nat_lt 0 sum) (put (loose_key u s c (b + 1)) t (decimal sum)) (λ _. loose_row u s c (b + 1) t sum names (next_within b t above) within few)

move_sound : (u s c : List ℕ) (b t sum : ℕ) → AreNames u s c → t ≤ MAX → sum ≤ MAX → ArePut is_formed (move_changes u s c b t sum)
move_sound u s c b t sum names within few = by (nat_lt b t) (lt_holds b t)
  where
    by : (test : Bool) → (test ≡ true → b < t) → ArePut is_formed (if test then loose_changes u s c b t sum ++ put (bookmark_key u s c) t [] ∷ [] else [])
    by true above =
        put-append (loose_changes u s c b t sum) (put (bookmark_key u s c) t [] ∷ []) (loose_changes_sound u s c b t sum names (above refl) within few) (bookmark_row u s c t names within, tt)
    by false above = tt

reach_sound : (u s c : List ℕ) (b : ℕ) (batch : Batch) (reached : Option ℕ) → AreNames u s c → AllByRecursion (IsWithin c) batch.items → loose_sum batch.items ≤ MAX
    → IsNumberOrNone reached → ArePut is_formed (reach_changes u s c b batch reached)
reach_sound u s c b batch None names items few within = tt
reach_sound u s c b batch (Some t) names items few within =
    put-append (flat_map (item_changes u s c b) batch.items) (move_changes u s c b t (loose_sum batch.items))
    (put-flat_map (IsWithin c) (item_changes u s c b) batch.items (item_sound u s c b names) items) (move_sound u s c b t (loose_sum batch.items) names within few)

-- a channel with a name, in which a batch is in order
abbrev IsReady : Batch → List ℕ → Type 0
IsReady batch c = IsChannel c × (is_in_order batch c ≡ true)

all_ready : (batch : Batch) (channels : List (List ℕ)) → AllByRecursion IsChannel channels → list_all (is_in_order batch) channels ≡ true → AllByRecursion (IsReady batch) channels
all_ready batch [] names e = tt
all_ready batch (c ∷ channels) names e =
    let both = and_parts (is_in_order batch c) (list_all (is_in_order batch) channels) e in
    ((names.0, both.0), all_ready batch channels names.1 both.1)

channel_sound : (rows : Rows) (u s : List ℕ) (batch : Batch) → is_subscription_name u ≡ true → is_source_name s ≡ true → IsSoundBatch batch → loose_sum batch.items ≤ MAX
    → (c : List ℕ) → IsReady batch c → ArePut is_formed (channel_changes rows u s batch c)
channel_sound rows u s batch name source numbers few c ready =
    let order = and_parts (rises c None batch.items) (is_at_least (finite.get batch.to c) (last_in c batch.items)) ready.1 in
    let names : AreNames u s c = λ i. name i && source i && ready.0 i in
    reach_sound u s c (bookmark_at rows u s c) batch (reach c batch) names (all_within c batch.items order.0 numbers.items) few (reach_within c batch numbers)

batch_sound : (rows : Rows) (u s : List ℕ) (channels : List (List ℕ)) (batch : Batch) (now : ℕ) → is_subscription_name u ≡ true → is_source_name s ≡ true → AllByRecursion IsChannel channels
    → is_well_formed channels batch ≡ true → IsSoundBatch batch → now ≤ LAST_MOMENT → ArePut is_formed (batch_changes rows u s channels batch now)
batch_sound rows u s channels batch now name source names formed numbers moment =
    let outer = and_parts (list_all (is_listed channels) batch.items && list_all (is_in_order batch) channels) (nat_le (loose_sum batch.items) MAX) formed in
    let inner = and_parts (list_all (is_listed channels) batch.items) (list_all (is_in_order batch) channels) outer.0 in
    let few = le_holds (loose_sum batch.items) MAX outer.1 in
    put-append (flat_map (channel_changes rows u s batch) channels) (heard_changes rows u s now)
    (put-flat_map (IsReady batch) (channel_changes rows u s batch) channels (channel_sound rows u s batch name source numbers few) (all_ready batch channels names inner.1))
    (hearing_sound rows u s now name source moment)

-- ---- the law

start_formed : (rows : Rows) → nat_lt (boot_of rows) MAX ≡ true → AreFormed rows → AreFormed (finite.insert rows boot_key (record { value = boot_of rows + 1; body = [] }))
start_formed rows left formed =
    applied_formed is_formed (put boot_key (boot_of rows + 1) [] ∷ []) (boot_row (boot_of rows + 1) (next_within (boot_of rows) MAX (lt_holds (boot_of rows) MAX left)), tt) rows formed

take_formed : (rows : Rows) (u s : List ℕ) (about : Subscription) (batch : Batch) (now : ℕ) → standing rows u ≡ Live about → is_source_name s ≡ true → is_well_formed (channels_read about) batch ≡ true
    → IsSoundBatch batch → now ≤ LAST_MOMENT → AreFormed rows → AreFormed (taken rows u s (channels_read about) batch now)
unfolding taken
take_formed rows u s about batch now lives source well numbers moment formed =
    let kept = live_kept rows u about lives formed in
    let names = kept_channels u (kept_body (finite.get rows (subscription_key u))) about kept.reads in
    applied_formed is_formed (batch_changes rows u s (channels_read about) batch now) (batch_sound rows u s (channels_read about) batch now kept.name source names well numbers moment) rows formed

pub forms_stay : FormsStay
forms_stay = record {
  nothing = nothing_formed;
  start = start_formed;
  add = λ rows s name reads formed. applied_formed is_formed (put (subscription_key s.name) 0 (document_text s) ∷ []) (subscription_row s.name (document_text s) 0 (omega arith) name (ap (λ (read : Option Subscription). is_some read) reads), tt) rows formed;
  end = λ rows u about lives formed.
      let kept = live_kept rows u about lives formed in
      applied_formed is_formed (put (subscription_key u) 1 (kept_body (finite.get rows (subscription_key u))) ∷ [])
      (subscription_row u (kept_body (finite.get rows (subscription_key u))) 1 (omega arith) kept.name (ap (λ (read : Option Subscription). is_some read) kept.reads), tt) rows formed;
  take = take_formed;
  hear = λ rows u s about now lives source moment formed. formed_by_hearing rows u s now (live_kept rows u about lives formed).name source moment formed;
}
