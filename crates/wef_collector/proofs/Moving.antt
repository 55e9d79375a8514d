-- What taking a batch leaves at the keys of bookmarks, and at those of other subscriptions and sources.
use Rattle.std.proofs.Common.{◌≡◌, ℕ, ◌+◌, Bool, true, false, ◌&&◌, cond, List, [], ◌∷◌, ◌++◌, refl, ap, ◌∙◌, subst, arith, nat_lt}
use Rattle.std.proofs.lemmas.Bool.Decides.{nat_tests}
use Rattle.std.specs.Prelude.{Option, None, Some, max, unwrap_or}
use Rattle.std.specs.FinMap as map
use Rattle.std.specs.List.{flat_map}
use Rattle.std.specs.Option.{option_map}
use Rattle.wef_base.specs.Names.{same}
use Rattle.wef_batch.specs.declared.items.Batch.{Batch}
use Rattle.wef_batch.specs.declared.items.Item.{Item}
use Rattle.wef_batch.specs.declared.items.Item.TheVariants.{Event, Dropped, Loose}
use Rattle.wef_batch.specs.Reach.{reach, loose_sum}
use Rattle.wef_batch.specs.WellFormed.{is_in}
use Rattle.wef_keeper.specs.declared.keys.Cell.{Cell}
use Rattle.wef_keeper.specs.declared.keys.Key.{Key}
use Rattle.wef_keeper.specs.Laws.{get-applied, get-unnamed}
use Rattle.wef_keeper.specs.Rows.{Rows, found_after, is_named}
use Rattle.wef_collector_rows.specs.Bookmarks.{bookmark_at}
use Rattle.wef_collector_rows.specs.Keys.{key, bookmark_key, held_key, mark_key, heard_key}
use Rattle.wef_collector.specs.Laws.{moved, is_of_pair}
use Rattle.wef_collector.specs.Taken.{batch_changes, channel_changes, heard_changes, is_later, item_changes, loose_changes, move_changes, put, reach_changes, taken}
use Rattle.wef_collector.proofs.Hits.{found-append, found_channels, found_flat_other, found_if_other, hits, hits_self, named-append, named_flat, named_if, not_both, one_key, one_name, refuted, same_self}

-- ---- bookmarks

-- a bookmark's number
number_of : Option Cell → ℕ
number_of cell = unwrap_or (option_map (λ (k : Cell). k.value) cell) 0

-- the cell of a bookmark that a reach moves
moved_cell : ℕ → Option ℕ → Option Cell → Option Cell
moved_cell b None cell = cell
moved_cell b (Some t) cell = cond (nat_lt b t) (Some (record { value = t; body = [] })) cell

misses_bookmark : (u s d c : List ℕ) → same d c ≡ false → hits (bookmark_key u s d) (bookmark_key u s c) ≡ false
misses_bookmark u s d c other = refuted _ (λ hit.
    let at : d ≡ c = ap (λ (k : Key). k.channel) (one_key (bookmark_key u s d) (bookmark_key u s c) hit) in
    not_both (subst (λ (e : List ℕ). same d e ≡ true) at (same_self d)) other)

-- no item touches a bookmark
item_keeps : (u s d : List ℕ) (b : ℕ) (u' s' c : List ℕ) (item : Item) (cell : Option Cell) → found_after (item_changes u s d b item) (bookmark_key u' s' c) cell ≡ cell
item_keeps u s d b u' s' c (Event e) cell = found_if_other (same e.channel d && nat_lt b e.number) (put (held_key u s d e.number) 0 e.text) (bookmark_key u' s' c) cell refl
item_keeps u s d b u' s' c (Dropped channel first last) cell = found_if_other (same channel d && nat_lt b last) (put (mark_key u s d (max first (b + 1))) last []) (bookmark_key u' s' c) cell refl
item_keeps u s d b u' s' c (Loose count) cell = refl

loose_keeps : (u s d : List ℕ) (b t sum : ℕ) (u' s' c : List ℕ) (cell : Option Cell) → found_after (loose_changes u s d b t sum) (bookmark_key u' s' c) cell ≡ cell
loose_keeps u s d b t sum u' s' c cell = found_if_other (nat_lt 0 sum) _ (bookmark_key u' s' c) cell refl

-- a move puts the bookmark of its channel
move_puts : (u s d : List ℕ) (b t sum : ℕ) (c : List ℕ) (cell : Option Cell) →
    found_after (move_changes u s d b t sum) (bookmark_key u s c) cell ≡ cond (nat_lt b t) (cond (hits (bookmark_key u s d) (bookmark_key u s c)) (Some (record { value = t; body = [] })) cell) cell
move_puts u s d b t sum c cell = by_test (nat_lt b t)
  where
    by_test : (moves : Bool) → found_after (cond moves (loose_changes u s d b t sum ++ put (bookmark_key u s d) t [] ∷ []) []) (bookmark_key u s c) cell
        ≡ cond moves (cond (hits (bookmark_key u s d) (bookmark_key u s c)) (Some (record { value = t; body = [] })) cell) cell
    by_test true = found-append (loose_changes u s d b t sum) (put (bookmark_key u s d) t [] ∷ []) (bookmark_key u s c) cell
        ∙ ap (found_after (put (bookmark_key u s d) t [] ∷ []) (bookmark_key u s c)) (loose_keeps u s d b t sum u s c cell)
    by_test false = refl

-- a reach puts the bookmark of its own channel, and no other
reach_puts : (u s c : List ℕ) (b : ℕ) (batch : Batch) (reached : Option ℕ) (cell : Option Cell) → found_after (reach_changes u s c b batch reached) (bookmark_key u s c) cell ≡ moved_cell b reached cell
unfolding moved_cell
reach_puts u s c b batch None cell = refl
reach_puts u s c b batch (Some t) cell =
    found-append (flat_map (item_changes u s c b) batch.items) (move_changes u s c b t (loose_sum batch.items)) (bookmark_key u s c) cell
    ∙ ap (found_after (move_changes u s c b t (loose_sum batch.items)) (bookmark_key u s c)) (found_flat_other (item_changes u s c b) batch.items (bookmark_key u s c) cell (item_keeps u s c b u s c))
    ∙ move_puts u s c b t (loose_sum batch.items) c cell
    ∙ ap (λ (hit : Bool). cond (nat_lt b t) (cond hit (Some (record { value = t; body = [] })) cell) cell) (hits_self (bookmark_key u s c))

both_same : (t : Bool) (cell : Option Cell) → cond t cell cell ≡ cell
both_same true cell = refl
both_same false cell = refl

reach_keeps : (u s d c : List ℕ) (b : ℕ) (batch : Batch) (reached : Option ℕ) (cell : Option Cell) → same d c ≡ false → found_after (reach_changes u s d b batch reached) (bookmark_key u s c) cell ≡ cell
reach_keeps u s d c b batch None cell other = refl
reach_keeps u s d c b batch (Some t) cell other =
    found-append (flat_map (item_changes u s d b) batch.items) (move_changes u s d b t (loose_sum batch.items)) (bookmark_key u s c) cell
    ∙ ap (found_after (move_changes u s d b t (loose_sum batch.items)) (bookmark_key u s c)) (found_flat_other (item_changes u s d b) batch.items (bookmark_key u s c) cell (item_keeps u s d b u s c))
    ∙ move_puts u s d b t (loose_sum batch.items) c cell
    ∙ ap (λ (hit : Bool). cond (nat_lt b t) (cond hit (Some (record { value = t; body = [] })) cell) cell) (misses_bookmark u s d c other)
    ∙ both_same (nat_lt b t) cell

channel_puts : (rows : Rows) (u s c : List ℕ) (batch : Batch) (d : List ℕ) (cell : Option Cell) →
    found_after (channel_changes rows u s batch d) (bookmark_key u s c) cell ≡ cond (same d c) (moved_cell (bookmark_at rows u s c) (reach c batch) cell) cell
channel_puts rows u s c batch d cell =
    elim (same d c) as (λ t. same d c ≡ t → found_after (channel_changes rows u s batch d) (bookmark_key u s c) cell ≡ cond t (moved_cell (bookmark_at rows u s c) (reach c batch) cell) cell) [
      | true ↦ λ is. ap (λ (e : List ℕ). found_after (channel_changes rows u s batch e) (bookmark_key u s c) cell) (one_name d c is)
          ∙ reach_puts u s c (bookmark_at rows u s c) batch (reach c batch) cell
      | false ↦ λ is. reach_keeps u s d c (bookmark_at rows u s d) batch (reach d batch) cell is
    ] refl

moved_twice : (b : ℕ) (reached : Option ℕ) (x : Option Cell) → moved_cell b reached (moved_cell b reached x) ≡ moved_cell b reached x
unfolding moved_cell
moved_twice b None x = refl
moved_twice b (Some t) x = by_test (nat_lt b t)
  where
    by_test : (m : Bool) → cond m (Some (record { value = t; body = [] })) (cond m (Some (record { value = t; body = [] })) x) ≡ cond m (Some (record { value = t; body = [] })) x
    by_test true = refl
    by_test false = refl

greater : (b t n : ℕ) → n ≡ b → cond (nat_lt b t) t n ≡ max b t
greater b t n e = grind (arith, nat_tests, e)

number_under : (m : Bool) (t : ℕ) (cell : Option Cell) → number_of (cond m (Some (record { value = t; body = [] })) cell) ≡ cond m t (number_of cell)
unfolding number_of
number_under true t cell = refl
number_under false t cell = refl

number_moved : (b : ℕ) (reached : Option ℕ) (cell : Option Cell) → number_of cell ≡ b → number_of (moved_cell b reached cell) ≡ moved b reached
unfolding moved_cell
number_moved b None cell e = e
number_moved b (Some t) cell e = number_under (nat_lt b t) t cell ∙ greater b t (number_of cell) e

heard_keeps : (rows : Rows) (u s : List ℕ) (now : ℕ) (u' s' c : List ℕ) (cell : Option Cell) → found_after (heard_changes rows u s now) (bookmark_key u' s' c) cell ≡ cell
heard_keeps rows u s now u' s' c cell = found_if_other (is_later now (map.get rows (heard_key u s))) (put (heard_key u s) now []) (bookmark_key u' s' c) cell refl

under_test : (t : Bool) (a b : Option Cell) (x y : ℕ) → number_of a ≡ x → number_of b ≡ y → number_of (cond t a b) ≡ cond t x y
under_test true a b x y e f = e
under_test false a b x y e f = f

-- a batch moves the bookmark of a listed channel by its reach, and no other of its subscription and source
pub bookmark_by_taking : (rows : Rows) (u s : List ℕ) (channels : List (List ℕ)) (batch : Batch) (now : ℕ) (c : List ℕ) →
    bookmark_at (taken rows u s channels batch now) u s c ≡ cond (is_in channels c) (moved (bookmark_at rows u s c) (reach c batch)) (bookmark_at rows u s c)
unfolding taken number_of
bookmark_by_taking rows u s channels batch now c =
    let cell = map.get rows (bookmark_key u s c) in
    let b = bookmark_at rows u s c in
    ap number_of
    (get-applied (batch_changes rows u s channels batch now) rows (bookmark_key u s c)
    ∙ found-append (flat_map (channel_changes rows u s batch) channels) (heard_changes rows u s now) (bookmark_key u s c) cell
    ∙ heard_keeps rows u s now u s c (found_after (flat_map (channel_changes rows u s batch) channels) (bookmark_key u s c) cell)
    ∙ found_channels (channel_changes rows u s batch) c (moved_cell b (reach c batch)) (bookmark_key u s c) (channel_puts rows u s c batch) (moved_twice b (reach c batch)) channels cell)
    ∙ under_test (is_in channels c) (moved_cell b (reach c batch) cell) cell (moved b (reach c batch)) b (number_moved b (reach c batch) cell refl) refl

-- ---- other subscriptions and sources

other_pair : (k q : Key) → is_of_pair k.sub k.source q ≡ false → hits k q ≡ false
other_pair k q other = refuted _ (λ hit.
    let at = one_key k q hit in
    let own : is_of_pair k.sub k.source k ≡ true = λ i. same_self k.sub i && same_self k.source i in
    not_both (subst (λ (e : Key). is_of_pair k.sub k.source e ≡ true) at own) other)

-- a key that none of the collector's other keys of a subscription and source is
abbrev pub IsApart : List ℕ → List ℕ → Key → Type 0
IsApart u s q = (kind : ℕ) (c : List ℕ) (n : ℕ) → nat_lt 1 kind ≡ true → hits (key kind u s c n) q ≡ false

item_names : (u s d : List ℕ) (b : ℕ) (q : Key) → IsApart u s q → (item : Item) → is_named (item_changes u s d b item) q ≡ false
item_names u s d b q apart (Event e) = named_if (same e.channel d && nat_lt b e.number) (put (held_key u s d e.number) 0 e.text) q (apart 3 d e.number refl)
item_names u s d b q apart (Dropped channel first last) =
    named_if (same channel d && nat_lt b last) (put (mark_key u s d (max first (b + 1))) last []) q (apart 4 d (max first (b + 1)) refl)
item_names u s d b q apart (Loose count) = refl

move_names : (u s d : List ℕ) (b t sum : ℕ) (q : Key) → IsApart u s q → is_named (move_changes u s d b t sum) q ≡ false
move_names u s d b t sum q apart = by_test (nat_lt b t)
  where
    by_test : (moves : Bool) → is_named (cond moves (loose_changes u s d b t sum ++ put (bookmark_key u s d) t [] ∷ []) []) q ≡ false
    by_test true = named-append (loose_changes u s d b t sum) (put (bookmark_key u s d) t [] ∷ []) q
        (named_if (nat_lt 0 sum) _ q (apart 5 d (b + 1) refl)) (named_if true (put (bookmark_key u s d) t []) q (apart 2 d 0 refl))
    by_test false = refl

reach_names : (u s d : List ℕ) (b : ℕ) (batch : Batch) (reached : Option ℕ) (q : Key) → IsApart u s q → is_named (reach_changes u s d b batch reached) q ≡ false
reach_names u s d b batch None q apart = refl
reach_names u s d b batch (Some t) q apart =
    named-append (flat_map (item_changes u s d b) batch.items) (move_changes u s d b t (loose_sum batch.items)) q
    (named_flat (item_changes u s d b) batch.items q (item_names u s d b q apart)) (move_names u s d b t (loose_sum batch.items) q apart)

-- a batch leaves what stands at a key apart
pub apart_by_taking : (rows : Rows) (u s : List ℕ) (channels : List (List ℕ)) (batch : Batch) (now : ℕ) (q : Key) → IsApart u s q →
    map.get (taken rows u s channels batch now) q ≡ map.get rows q
unfolding taken
apart_by_taking rows u s channels batch now q apart =
    get-unnamed (batch_changes rows u s channels batch now) rows q
    (named-append (flat_map (channel_changes rows u s batch) channels) (heard_changes rows u s now) q
    (named_flat (channel_changes rows u s batch) channels q (λ d. reach_names u s d (bookmark_at rows u s d) batch (reach d batch) q apart))
    (named_if (is_later now (map.get rows (heard_key u s))) (put (heard_key u s) now []) q (apart 6 [] 0 refl)))

-- so it leaves the rows of other subscriptions and sources
pub others_by_taking : (rows : Rows) (u s : List ℕ) (channels : List (List ℕ)) (batch : Batch) (now : ℕ) (q : Key) → is_of_pair u s q ≡ false →
    map.get (taken rows u s channels batch now) q ≡ map.get rows q
others_by_taking rows u s channels batch now q other =
    apart_by_taking rows u s channels batch now q (λ kind c n above. other_pair (key kind u s c n) q other)
