-- What taking a batch leaves at the keys of held events and of bookmarks.
use Rattle.std.proofs.Common.{◌≡◌, ℕ, ◌+◌, ◌==◌, Bool, true, false, ◌&&◌, cond, List, [], ◌∷◌, ◌++◌, refl, ap, sym, ◌∙◌, subst, arith, nat_lt, inl, inr}
use Rattle.std.proofs.lemmas.Bool.Decides.{nat_tests}
use Rattle.std.specs.Prelude.{Option, None, Some, max, ◌⊎◌}
use Rattle.std.specs.FinMap as map
use Rattle.std.specs.List.{flat_map}
use Rattle.wef_base.specs.Names.{same}
use Rattle.wef_batch.specs.declared.items.Batch.{Batch}
use Rattle.wef_batch.specs.declared.items.Item.{Item}
use Rattle.wef_batch.specs.declared.items.Item.TheVariants.{Event, Dropped, Loose}
use Rattle.wef_batch.specs.Reach.{reach, reach_of, last_in, last_after, later, span_in, loose_sum}
use Rattle.wef_batch.specs.WellFormed.{is_in}
use Rattle.wef_keeper.specs.declared.keys.Cell.{Cell}
use Rattle.wef_keeper.specs.declared.keys.Key.{Key}
use Rattle.wef_keeper.specs.Laws.{get-applied}
use Rattle.wef_keeper.specs.Rows.{Rows, found_after}
use Rattle.wef_collector_rows.specs.Bookmarks.{bookmark_at}
use Rattle.wef_collector_rows.specs.Keys.{bookmark_key, held_key, mark_key, heard_key}
use Rattle.wef_collector.specs.Laws.{is_new, held_as, held_after_items}
use Rattle.wef_collector.specs.Taken.{batch_changes, channel_changes, heard_changes, is_later, item_changes, loose_changes, move_changes, put, reach_changes, taken}
use Rattle.wef_collector.proofs.Hits.{found-append, found_channels, found_flat_other, found_if, found_if_other, hits, hits_self, not_both, one_key, one_name, refuted, same_self}

-- ---- held events

-- an event's change and a held key: of one channel, the number decides
hits_number : (u s c : List ℕ) (m n : ℕ) → hits (held_key u s c m) (held_key u s c n) ≡ m == n
hits_number u s c m n =
    elim (m == n) as (λ t. m == n ≡ t → hits (held_key u s c m) (held_key u s c n) ≡ t) [
      | true ↦ λ is. let at : m ≡ n = grind (arith, nat_tests) in ap (λ (k : ℕ). hits (held_key u s c k) (held_key u s c n)) at ∙ hits_self (held_key u s c n)
      | false ↦ λ is. refuted _ (λ hit.
          let at : m ≡ n = ap (λ (k : Key). k.number) (one_key (held_key u s c m) (held_key u s c n) hit) in
          let equal : m == n ≡ true = grind (arith, nat_tests) in
          not_both equal is)
    ] refl

-- of another channel, none does
misses_channel : (u s d c : List ℕ) (m n : ℕ) → same d c ≡ false → hits (held_key u s d m) (held_key u s c n) ≡ false
misses_channel u s d c m n other = refuted _ (λ hit.
    let at : d ≡ c = ap (λ (k : Key). k.channel) (one_key (held_key u s d m) (held_key u s c n) hit) in
    not_both (subst (λ (e : List ℕ). same d e ≡ true) at (same_self d)) other)

joined_tests : (a b : Bool) (x y : Option Cell) → cond a (cond b x y) y ≡ cond (a && b) x y
joined_tests true b x y = refl
joined_tests false b x y = refl

-- an item's changes in its own channel
item_found : (u s c : List ℕ) (b n : ℕ) (item : Item) (cell : Option Cell) →
    found_after (item_changes u s c b item) (held_key u s c n) cell ≡ cond (is_new c b n item) (held_as item) cell
item_found u s c b n (Event e) cell =
    found_if (same e.channel c && nat_lt b e.number) (put (held_key u s c e.number) 0 e.text) (held_key u s c n) cell
    ∙ ap (λ (t : Bool). cond (same e.channel c && nat_lt b e.number) (cond t (held_as (Event e)) cell) cell) (hits_number u s c e.number n)
    ∙ joined_tests (same e.channel c && nat_lt b e.number) (e.number == n) (held_as (Event e)) cell
item_found u s c b n (Dropped channel first last) cell =
    found_if_other (same channel c && nat_lt b last) (put (mark_key u s c (max first (b + 1))) last []) (held_key u s c n) cell refl
item_found u s c b n (Loose count) cell = refl

items_found : (u s c : List ℕ) (b n : ℕ) (items : List Item) (cell : Option Cell) →
    found_after (flat_map (item_changes u s c b) items) (held_key u s c n) cell ≡ held_after_items c b n items cell
items_found u s c b n [] cell = refl
items_found u s c b n (item ∷ items) cell =
    found-append (item_changes u s c b item) (flat_map (item_changes u s c b) items) (held_key u s c n) cell
    ∙ ap (found_after (flat_map (item_changes u s c b) items) (held_key u s c n)) (item_found u s c b n item cell)
    ∙ items_found u s c b n items (cond (is_new c b n item) (held_as item) cell)

-- an item's changes in another channel
item_missed : (u s d c : List ℕ) (b n : ℕ) → same d c ≡ false → (item : Item) (cell : Option Cell) →
    found_after (item_changes u s d b item) (held_key u s c n) cell ≡ cell
item_missed u s d c b n other (Event e) cell =
    found_if_other (same e.channel d && nat_lt b e.number) (put (held_key u s d e.number) 0 e.text) (held_key u s c n) cell (misses_channel u s d c e.number n other)
item_missed u s d c b n other (Dropped channel first last) cell =
    found_if_other (same channel d && nat_lt b last) (put (mark_key u s d (max first (b + 1))) last []) (held_key u s c n) cell refl
item_missed u s d c b n other (Loose count) cell = refl

-- moving a bookmark touches no held event
loose_missed : (u s d : List ℕ) (b t sum : ℕ) (u' s' c : List ℕ) (n : ℕ) (cell : Option Cell) → found_after (loose_changes u s d b t sum) (held_key u' s' c n) cell ≡ cell
loose_missed u s d b t sum u' s' c n cell = found_if_other (nat_lt 0 sum) _ (held_key u' s' c n) cell refl

move_missed : (u s d : List ℕ) (b t sum : ℕ) (u' s' c : List ℕ) (n : ℕ) (cell : Option Cell) → found_after (move_changes u s d b t sum) (held_key u' s' c n) cell ≡ cell
move_missed u s d b t sum u' s' c n cell = by_test (nat_lt b t)
  where
    by_test : (moves : Bool) → found_after (cond moves (loose_changes u s d b t sum ++ put (bookmark_key u s d) t [] ∷ []) []) (held_key u' s' c n) cell ≡ cell
    by_test true = found-append (loose_changes u s d b t sum) (put (bookmark_key u s d) t [] ∷ []) (held_key u' s' c n) cell ∙ loose_missed u s d b t sum u' s' c n cell
    by_test false = refl

-- where a batch reaches no number of a channel, it has no event of it
none_later : (previous : Option ℕ) (span : Option (ℕ × ℕ)) → later previous span ≡ None → (previous ≡ None) × (span ≡ None)
none_later previous None e = (e, refl)
none_later previous (Some span) e = cc

none_before : (c : List ℕ) (previous : Option ℕ) (items : List Item) → last_after c previous items ≡ None → previous ≡ None
none_before c previous [] e = e
none_before c previous (item ∷ items) e = (none_later previous (span_in c item) (none_before c (later previous (span_in c item)) items e)).0

no_span : (t : Bool) (span : ℕ × ℕ) → ◌≡◌ {A = Option (ℕ × ℕ)} (cond t (Some span) None) None → t ≡ false
no_span true span e = cc
no_span false span e = refl

not_new : (c : List ℕ) (b n : ℕ) (item : Item) → span_in c item ≡ None → is_new c b n item ≡ false
not_new c b n (Event e) none = ap (λ (t : Bool). (t && nat_lt b e.number) && e.number == n) (no_span (same e.channel c) (e.number, e.number) none)
not_new c b n (Dropped channel first last) none = refl
not_new c b n (Loose count) none = refl

nothing_new : (c : List ℕ) (b n : ℕ) (previous : Option ℕ) (items : List Item) (cell : Option Cell) → last_after c previous items ≡ None → held_after_items c b n items cell ≡ cell
nothing_new c b n previous [] cell e = refl
nothing_new c b n previous (item ∷ items) cell e =
    let before = none_before c (later previous (span_in c item)) items e in
    let here = (none_later previous (span_in c item) before).1 in
    ap (λ (t : Bool). held_after_items c b n items (cond t (held_as item) cell)) (not_new c b n item here)
    ∙ nothing_new c b n (later previous (span_in c item)) items cell e

unreached : (to last : Option ℕ) → reach_of to last ≡ None → last ≡ None
unreached None last e = e
unreached (Some t) last e = cc

-- what a batch's changes in a channel leave at a held key
reach_found : (u s c : List ℕ) (b n : ℕ) (batch : Batch) (reached : Option ℕ) (cell : Option Cell) → reach c batch ≡ reached →
    found_after (reach_changes u s c b batch reached) (held_key u s c n) cell ≡ held_after_items c b n batch.items cell
reach_found u s c b n batch None cell e = sym (nothing_new c b n None batch.items cell (unreached (map.get batch.to c) (last_in c batch.items) e))
reach_found u s c b n batch (Some t) cell e =
    found-append (flat_map (item_changes u s c b) batch.items) (move_changes u s c b t (loose_sum batch.items)) (held_key u s c n) cell
    ∙ move_missed u s c b t (loose_sum batch.items) u s c n (found_after (flat_map (item_changes u s c b) batch.items) (held_key u s c n) cell)
    ∙ items_found u s c b n batch.items cell

reach_missed : (u s d c : List ℕ) (b n : ℕ) (batch : Batch) (reached : Option ℕ) (cell : Option Cell) → same d c ≡ false →
    found_after (reach_changes u s d b batch reached) (held_key u s c n) cell ≡ cell
reach_missed u s d c b n batch None cell other = refl
reach_missed u s d c b n batch (Some t) cell other =
    found-append (flat_map (item_changes u s d b) batch.items) (move_changes u s d b t (loose_sum batch.items)) (held_key u s c n) cell
    ∙ move_missed u s d b t (loose_sum batch.items) u s c n (found_after (flat_map (item_changes u s d b) batch.items) (held_key u s c n) cell)
    ∙ found_flat_other (item_changes u s d b) batch.items (held_key u s c n) cell (item_missed u s d c b n other)

channel_found : (rows : Rows) (u s c : List ℕ) (n : ℕ) (batch : Batch) (d : List ℕ) (cell : Option Cell) →
    found_after (channel_changes rows u s batch d) (held_key u s c n) cell ≡ cond (same d c) (held_after_items c (bookmark_at rows u s c) n batch.items cell) cell
channel_found rows u s c n batch d cell =
    elim (same d c) as (λ t. same d c ≡ t → found_after (channel_changes rows u s batch d) (held_key u s c n) cell ≡ cond t (held_after_items c (bookmark_at rows u s c) n batch.items cell) cell) [
      | true ↦ λ is. ap (λ (e : List ℕ). found_after (channel_changes rows u s batch e) (held_key u s c n) cell) (one_name d c is)
          ∙ reach_found u s c (bookmark_at rows u s c) n batch (reach c batch) cell refl
      | false ↦ λ is. reach_missed u s d c (bookmark_at rows u s d) n batch (reach d batch) cell is
    ] refl

-- the events of items leave one cell, or leave what was there
settles : (c : List ℕ) (b n : ℕ) (items : List Item) →
    ((x y : Option Cell) → held_after_items c b n items x ≡ held_after_items c b n items y) ⊎ ((x : Option Cell) → held_after_items c b n items x ≡ x)
settles c b n [] = inr (λ x. refl)
settles c b n (item ∷ items) = by_test (is_new c b n item) (settles c b n items)
  where
    by_test : (t : Bool) →
        ((x y : Option Cell) → held_after_items c b n items x ≡ held_after_items c b n items y) ⊎ ((x : Option Cell) → held_after_items c b n items x ≡ x) →
        ((x y : Option Cell) → held_after_items c b n items (cond t (held_as item) x) ≡ held_after_items c b n items (cond t (held_as item) y))
        ⊎ ((x : Option Cell) → held_after_items c b n items (cond t (held_as item) x) ≡ x)
    by_test true rest = inl (λ x y. refl)
    by_test false rest = rest

twice_is_once : (c : List ℕ) (b n : ℕ) (items : List Item) (x : Option Cell) → held_after_items c b n items (held_after_items c b n items x) ≡ held_after_items c b n items x
twice_is_once c b n items x = elim (settles c b n items) [ inl one ↦ one _ x | inr stays ↦ stays _ ]

heard_missed : (rows : Rows) (u s : List ℕ) (now : ℕ) (u' s' c : List ℕ) (n : ℕ) (cell : Option Cell) → found_after (heard_changes rows u s now) (held_key u' s' c n) cell ≡ cell
heard_missed rows u s now u' s' c n cell = found_if_other (is_later now (map.get rows (heard_key u s))) (put (heard_key u s) now []) (held_key u' s' c n) cell refl

-- a batch leaves at a held key of a listed channel what its new events leave
pub held_by_taking : (rows : Rows) (u s : List ℕ) (channels : List (List ℕ)) (batch : Batch) (now : ℕ) (c : List ℕ) (n : ℕ) → is_in channels c ≡ true →
    map.get (taken rows u s channels batch now) (held_key u s c n) ≡ held_after_items c (bookmark_at rows u s c) n batch.items (map.get rows (held_key u s c n))
unfolding taken
held_by_taking rows u s channels batch now c n listed =
    let cell = map.get rows (held_key u s c n) in
    get-applied (batch_changes rows u s channels batch now) rows (held_key u s c n)
    ∙ found-append (flat_map (channel_changes rows u s batch) channels) (heard_changes rows u s now) (held_key u s c n) cell
    ∙ heard_missed rows u s now u s c n (found_after (flat_map (channel_changes rows u s batch) channels) (held_key u s c n) cell)
    ∙ found_channels (channel_changes rows u s batch) c (held_after_items c (bookmark_at rows u s c) n batch.items) (held_key u s c n)
    (channel_found rows u s c n batch) (twice_is_once c (bookmark_at rows u s c) n batch.items) channels cell
    ∙ ap (λ (t : Bool). cond t (held_after_items c (bookmark_at rows u s c) n batch.items cell) cell) listed
