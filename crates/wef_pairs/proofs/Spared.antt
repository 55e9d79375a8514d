-- Keys that a batch doesn't touch, and what it leaves at those of one of its channels.
use Rattle.std.proofs.Common.{◌≡◌, ℕ, ◌+◌, Bool, true, false, ◌&&◌, ◌||◌, cond, List, [], ◌∷◌, ◌++◌, refl, ap, ◌∙◌, subst, nat_lt}
use Rattle.std.specs.FinMap as map
use Rattle.std.specs.List.{flat_map}
use Rattle.std.specs.Prelude.{Option, None, Some, max}
use Rattle.wef_base.specs.Names.{same}
use Rattle.wef_batch.specs.declared.items.Batch.{Batch}
use Rattle.wef_batch.specs.declared.items.Item.{Item}
use Rattle.wef_batch.specs.declared.items.Item.TheVariants.{Event, Dropped, Loose}
use Rattle.wef_batch.specs.Reach.{reach, loose_sum}
use Rattle.wef_batch.specs.WellFormed.{is_in}
use Rattle.wef_collector_rows.specs.Bookmarks.{bookmark_at}
use Rattle.wef_collector_rows.specs.Keys.{key, bookmark_key, held_key, mark_key, loose_key, heard_key}
use Rattle.wef_collector.specs.Taken.{batch_changes, channel_changes, heard_changes, is_later, item_changes, loose_changes, move_changes, put, reach_changes, taken}
use Rattle.wef_collector.proofs.Hits.{found-append, found_channels, found_if_other, hits, named-append, named_flat, named_if, not_both, one_key, one_name, refuted, same_self}
use Rattle.wef_keeper.specs.Laws.{found_unnamed, get-applied, get-unnamed}
use Rattle.wef_keeper.specs.Rows.{Rows, found_after, is_named}
use Rattle.wef_keeper.specs.declared.keys.Cell.{Cell}
use Rattle.wef_keeper.specs.declared.keys.Change.{Change}
use Rattle.wef_keeper.specs.declared.keys.Key.{Key}

-- A key is none of those that a batch of a subscription and a source changes in a channel.
pub record IsMissed (u s d : List ℕ) (q : Key) : Type 0 where
  pub bookmark : hits (bookmark_key u s d) q ≡ false
  pub held : (n : ℕ) → hits (held_key u s d n) q ≡ false
  pub marks : (n : ℕ) → hits (mark_key u s d n) q ≡ false
  pub loose : (n : ℕ) → hits (loose_key u s d n) q ≡ false

-- ---- which keys are missed

-- whether a key is of a subscription, a source and a channel
abbrev pub is_at : List ℕ → List ℕ → List ℕ → Key → Bool
is_at u s d q = same u q.sub && (same s q.source && same d q.channel)

own : (k : ℕ) (u s d : List ℕ) (n : ℕ) → is_at u s d (key k u s d n) ≡ true
own k u s d n = λ i. same_self u i && (same_self s i && same_self d i)

apart : (k : ℕ) (u s d : List ℕ) (n : ℕ) (q : Key) → is_at u s d q ≡ false → hits (key k u s d n) q ≡ false
apart k u s d n q other = refuted _ (λ hit. not_both (subst (λ (e : Key). is_at u s d e ≡ true) (one_key (key k u s d n) q hit) (own k u s d n)) other)

-- one that is of another subscription, source or channel
pub missed_apart : (u s d : List ℕ) (q : Key) → is_at u s d q ≡ false → IsMissed u s d q
missed_apart u s d q other = record {
  bookmark = apart 2 u s d 0 q other;
  held = λ n. apart 3 u s d n q other;
  marks = λ n. apart 4 u s d n q other;
  loose = λ n. apart 5 u s d n q other;
}

pub and_no : (a : Bool) → (a && false) ≡ false
and_no true = refl
and_no false = refl

-- a key of a channel is missed by the changes of others
pub missed_channel : (u s c : List ℕ) (q : Key) → q.channel ≡ c → (d : List ℕ) → same d c ≡ false → IsMissed u s d q
missed_channel u s c q channel d other =
    missed_apart u s d q (ap (λ (e : List ℕ). same u q.sub && (same s q.source && same d e)) channel
    ∙ ap (λ (t : Bool). same u q.sub && (same s q.source && t)) other ∙ ap (λ (t : Bool). same u q.sub && t) (and_no (same s q.source)) ∙ and_no (same u q.sub))

-- ---- changes that don't name a missed key

item_names : (u s d : List ℕ) (b : ℕ) (q : Key) → IsMissed u s d q → (item : Item) → is_named (item_changes u s d b item) q ≡ false
item_names u s d b q missed (Event e) = named_if (same e.channel d && nat_lt b e.number) (put (held_key u s d e.number) 0 e.text) q (missed.held e.number)
item_names u s d b q missed (Dropped channel first last) =
    named_if (same channel d && nat_lt b last) (put (mark_key u s d (max first (b + 1))) last []) q (missed.marks (max first (b + 1)))
item_names u s d b q missed (Loose count) = refl

move_names : (u s d : List ℕ) (b t sum : ℕ) (q : Key) → IsMissed u s d q → is_named (move_changes u s d b t sum) q ≡ false
move_names u s d b t sum q missed = by_test (nat_lt b t)
  where
    by_test : (moves : Bool) → is_named (cond moves (loose_changes u s d b t sum ++ put (bookmark_key u s d) t [] ∷ []) []) q ≡ false
    by_test true = named-append (loose_changes u s d b t sum) (put (bookmark_key u s d) t [] ∷ []) q
        (named_if (nat_lt 0 sum) _ q (missed.loose (b + 1))) (named_if true (put (bookmark_key u s d) t []) q missed.bookmark)
    by_test false = refl

reach_names : (u s d : List ℕ) (b : ℕ) (batch : Batch) (reached : Option ℕ) (q : Key) → IsMissed u s d q → is_named (reach_changes u s d b batch reached) q ≡ false
reach_names u s d b batch None q missed = refl
reach_names u s d b batch (Some t) q missed =
    named-append (flat_map (item_changes u s d b) batch.items) (move_changes u s d b t (loose_sum batch.items)) q
    (named_flat (item_changes u s d b) batch.items q (item_names u s d b q missed)) (move_names u s d b t (loose_sum batch.items) q missed)

either : (b : Bool) → (b || true) ≡ true
either true = refl
either false = refl

named_channels : (changes : List ℕ → List Change) (channels : List (List ℕ)) (q : Key) → ((d : List ℕ) → is_in channels d ≡ true → is_named (changes d) q ≡ false) → is_named (flat_map changes channels) q ≡ false
named_channels changes [] q none = refl
named_channels changes (d ∷ channels) q none =
    named-append (changes d) (flat_map changes channels) q
    (none d (ap (λ (t : Bool). t || is_in channels d) (same_self d)))
    (named_channels changes channels q (λ e here. none e (ap (λ (t : Bool). same d e || t) here ∙ either (same d e))))

-- a key that no channel of a batch changes keeps its cell
pub spared : (rows : Rows) (u s : List ℕ) (channels : List (List ℕ)) (batch : Batch) (now : ℕ) (q : Key) →
    ((d : List ℕ) → is_in channels d ≡ true → IsMissed u s d q) → hits (heard_key u s) q ≡ false → map.get (taken rows u s channels batch now) q ≡ map.get rows q
unfolding taken
spared rows u s channels batch now q missed unheard =
    get-unnamed (batch_changes rows u s channels batch now) rows q
    (named-append (flat_map (channel_changes rows u s batch) channels) (heard_changes rows u s now) q
    (named_channels (channel_changes rows u s batch) channels q (λ d here. reach_names u s d (bookmark_at rows u s d) batch (reach d batch) q (missed d here)))
    (named_if (is_later now (map.get rows (heard_key u s))) (put (heard_key u s) now []) q unheard))

-- ---- what a batch leaves at a key of one of its channels

one_channel : (rows : Rows) (u s : List ℕ) (batch : Batch) (c : List ℕ) (q : Key) (H : Option Cell → Option Cell) → ((d : List ℕ) → same d c ≡ false → IsMissed u s d q) →
    ((cell : Option Cell) → found_after (channel_changes rows u s batch c) q cell ≡ H cell) → (d : List ℕ) (cell : Option Cell) →
    found_after (channel_changes rows u s batch d) q cell ≡ cond (same d c) (H cell) cell
one_channel rows u s batch c q H missed leaves d cell =
    elim (same d c) as (λ t. same d c ≡ t → found_after (channel_changes rows u s batch d) q cell ≡ cond t (H cell) cell) [
      | true ↦ λ is. ap (λ (e : List ℕ). found_after (channel_changes rows u s batch e) q cell) (one_name d c is) ∙ leaves cell
      | false ↦ λ is. found_unnamed (channel_changes rows u s batch d) q cell (reach_names u s d (bookmark_at rows u s d) batch (reach d batch) q (missed d is))
    ] refl

pub touched : (rows : Rows) (u s : List ℕ) (channels : List (List ℕ)) (batch : Batch) (now : ℕ) (c : List ℕ) (q : Key) (H : Option Cell → Option Cell) →
    is_in channels c ≡ true → ((d : List ℕ) → same d c ≡ false → IsMissed u s d q) → hits (heard_key u s) q ≡ false →
    ((cell : Option Cell) → found_after (channel_changes rows u s batch c) q cell ≡ H cell) → ((x : Option Cell) → H (H x) ≡ H x) →
    map.get (taken rows u s channels batch now) q ≡ H (map.get rows q)
unfolding taken
touched rows u s channels batch now c q H listed missed unheard leaves twice =
    let cell = map.get rows q in
    get-applied (batch_changes rows u s channels batch now) rows q
    ∙ found-append (flat_map (channel_changes rows u s batch) channels) (heard_changes rows u s now) q cell
    ∙ found_if_other (is_later now (map.get rows (heard_key u s))) (put (heard_key u s) now []) q (found_after (flat_map (channel_changes rows u s batch) channels) q cell) unheard
    ∙ found_channels (channel_changes rows u s batch) c H q (one_channel rows u s batch c q H missed leaves) twice channels cell
    ∙ ap (λ (t : Bool). cond t (H cell) cell) listed

-- ---- a channel that a batch doesn't reach

pub unreached : (rows : Rows) (u s : List ℕ) (channels : List (List ℕ)) (batch : Batch) (now : ℕ) (c : List ℕ) (q : Key) → is_in channels c ≡ true → reach c batch ≡ None →
    ((d : List ℕ) → same d c ≡ false → IsMissed u s d q) → hits (heard_key u s) q ≡ false → map.get (taken rows u s channels batch now) q ≡ map.get rows q
unreached rows u s channels batch now c q listed none missed unheard =
    touched rows u s channels batch now c q (λ cell. cell) listed missed unheard
    (λ cell. ap (λ reached. found_after (reach_changes u s c (bookmark_at rows u s c) batch reached) q cell) none) (λ x. refl)
