-- The items of one channel, and rows of items whose numbers rise.
use Rattle.std.proofs.Common.{◌≡◌, ℕ, ◌-◌, ◌<◌, ◌≤◌, ◌==◌, Bool, true, false, ◌&&◌, ◌||◌, cond, List, [], ◌∷◌, ◌++◌, refl, ap, sym, subst, ◌∙◌, Some, None, inl, inr, arith, nat_le}
use Rattle.std.specs.Prelude.{Option}
use Rattle.std.specs.List.{filter}
use Rattle.wef_base.specs.Names.{same}
use Rattle.wef_batch.specs.Reach.{last_after, later, span_in}
use Rattle.wef_batch.specs.WellFormed.{follows, is_above, is_at_least, rises}
use Rattle.wef_batch.specs.declared.items.Item.{Item}
use Rattle.wef_batch.specs.declared.items.Item.TheVariants.{Event, Dropped, Loose}
use Rattle.wef_building.specs.Building.{first_number, is_of}
use Rattle.wef_building.specs.Fits.{event_at, is_event_at, ranges_in, text_of, with_range}
use Rattle.wef_building.specs.Wanted.{Range, in_ranges}
use Rattle.wef_building.proofs.Cases.{and_true, apart, by_test, eq_refused, le_refused, le_tested, lt_tested}

-- ---- what is said of a channel is said by its own items

-- the items of a channel
abbrev pub own : List ℕ → List Item → List Item
own c items = filter (is_of c) items

no_event : (c : List ℕ) (n : ℕ) (item : Item) → is_of c item ≡ false → is_event_at c n item ≡ false
no_event c n (Event event) other = ap (λ t. t && event.number == n) other
no_event c n (Dropped channel first last) other = refl
no_event c n (Loose count) other = refl

no_range : (c : List ℕ) (item : Item) (ranges : List Range) → is_of c item ≡ false → with_range c item ranges ≡ ranges
no_range c (Event event) ranges other = refl
no_range c (Dropped channel first last) ranges other = ap (λ t. cond t ((first, last) ∷ ranges) ranges) other
no_range c (Loose count) ranges other = refl

no_span : (c : List ℕ) (item : Item) → is_of c item ≡ false → span_in c item ≡ None
no_span c (Event event) other = ap (λ t. cond t (Some (event.number, event.number)) None) other
no_span c (Dropped channel first last) other = ap (λ t. cond t (Some (first, last)) None) other
no_span c (Loose count) other = refl

pub own-event_at : (c : List ℕ) (n : ℕ) (items : List Item) → event_at c n (own c items) ≡ event_at c n items
own-event_at c n [] = refl
own-event_at c n (item ∷ items) =
    by_test (λ t. event_at c n (cond t (item ∷ own c items) (own c items)) ≡ event_at c n (item ∷ items)) (is_of c item)
    (λ _. ap (cond (is_event_at c n item) (text_of item)) (own-event_at c n items))
    (λ other. own-event_at c n items ∙ sym (ap (λ t. cond t (text_of item) (event_at c n items)) (no_event c n item other)))

pub own-ranges : (c : List ℕ) (items : List Item) → ranges_in c (own c items) ≡ ranges_in c items
own-ranges c [] = refl
own-ranges c (item ∷ items) =
    by_test (λ t. ranges_in c (cond t (item ∷ own c items) (own c items)) ≡ ranges_in c (item ∷ items)) (is_of c item)
    (λ _. ap (with_range c item) (own-ranges c items))
    (λ other. own-ranges c items ∙ sym (no_range c item (ranges_in c items) other))

pub own-last : (c : List ℕ) (previous : Option ℕ) (items : List Item) → last_after c previous (own c items) ≡ last_after c previous items
own-last c previous [] = refl
own-last c previous (item ∷ items) =
    by_test (λ t. last_after c previous (cond t (item ∷ own c items) (own c items)) ≡ last_after c previous (item ∷ items)) (is_of c item)
    (λ _. own-last c (later previous (span_in c item)) items)
    (λ other. own-last c previous items ∙ sym (ap (λ span. last_after c (later previous span) items) (no_span c item other)))

pub own-rises : (c : List ℕ) (previous : Option ℕ) (items : List Item) → rises c previous (own c items) ≡ rises c previous items
own-rises c previous [] = refl
own-rises c previous (item ∷ items) =
    by_test (λ t. rises c previous (cond t (item ∷ own c items) (own c items)) ≡ rises c previous (item ∷ items)) (is_of c item)
    (λ _. ap (λ t. follows previous (span_in c item) && t) (own-rises c (later previous (span_in c item)) items))
    (λ other. own-rises c previous items ∙ sym (ap (λ span. follows previous span && rises c (later previous span) items) (no_span c item other)))

-- ---- items whose numbers rise

-- the last number of an item
abbrev pub end_number : Item → ℕ
end_number (Event event) = event.number
end_number (Dropped channel first last) = last
end_number (Loose count) = 0

-- items of a channel whose numbers rise above one
abbrev pub Ordered : List ℕ → ℕ → List Item → Type 0
Ordered c k [] = Unit {0}
Ordered c k (item ∷ items) = (is_of c item ≡ true) × (k < first_number item) × (first_number item ≤ end_number item) × Ordered c (end_number item) items

-- items that end at a number or before
abbrev pub ItemsEndBy : ℕ → List Item → Type 0
ItemsEndBy t [] = Unit {0}
ItemsEndBy t (item ∷ items) = (end_number item ≤ t) × ItemsEndBy t items

span_is : (c : List ℕ) (item : Item) → is_of c item ≡ true → span_in c item ≡ Some (first_number item, end_number item)
span_is c (Event event) own = ap (λ t. cond t (Some (event.number, event.number)) None) own
span_is c (Dropped channel first last) own = ap (λ t. cond t (Some (first, last)) None) own
span_is c (Loose count) own = apart own

-- a number before is at most this one
abbrev IsUpTo : Option ℕ → ℕ → Type 0
IsUpTo None k = Unit {0}
IsUpTo (Some m) k = m ≤ k

above : (previous : Option ℕ) (k n : ℕ) → IsUpTo previous k → k < n → is_above previous n ≡ true
above None k n up more = refl
above (Some m) k n up more = lt_tested m n (omega arith)

ordered_rises : (c : List ℕ) (k : ℕ) (previous : Option ℕ) (items : List Item) → IsUpTo previous k → Ordered c k items → rises c previous items ≡ true
ordered_rises c k previous [] up h = refl
ordered_rises c k previous (item ∷ items) up h =
    subst (λ span. (follows previous span && rises c (later previous span) items) ≡ true) (sym (span_is c item h.0))
    (and_true _ _ (and_true _ _ (above previous k (first_number item) up h.1) (le_tested _ _ h.2))
    (ordered_rises c (end_number item) (Some (end_number item)) items (omega arith) h.3))

pub rises_own : (c : List ℕ) (k : ℕ) (items : List Item) → Ordered c k items → rises c None items ≡ true
rises_own c k items h = ordered_rises c k None items tt h

last_reached : (c : List ℕ) (k t : ℕ) (previous : Option ℕ) (items : List Item) → is_at_least (Some t) previous ≡ true → Ordered c k items → ItemsEndBy t items
    → is_at_least (Some t) (last_after c previous items) ≡ true
last_reached c k t previous [] here h ends = here
last_reached c k t previous (item ∷ items) here h ends =
    subst (λ span. is_at_least (Some t) (last_after c (later previous span) items) ≡ true) (sym (span_is c item h.0))
    (last_reached c (end_number item) t (Some (end_number item)) items (le_tested _ _ ends.0) h.3 ends.1)

-- items that end by a number have no greater last number
pub reached : (c : List ℕ) (k t : ℕ) (items : List Item) → Ordered c k items → ItemsEndBy t items → is_at_least (Some t) (last_after c None items) ≡ true
reached c k t items h ends = last_reached c k t None items refl h ends

-- ---- numbers below and above those of the items

event_apart : (c : List ℕ) (n : ℕ) (item : Item) → (n < first_number item) → is_event_at c n item ≡ false
event_apart c n (Event event) below = by_test (λ t. (t && event.number == n) ≡ false) (same event.channel c) (λ _. eq_refused event.number n (inr below)) (λ _. refl)
event_apart c n (Dropped channel first last) below = refl
event_apart c n (Loose count) below = refl

event_passed : (c : List ℕ) (n : ℕ) (item : Item) → (end_number item < n) → is_event_at c n item ≡ false
event_passed c n (Event event) over = by_test (λ t. (t && event.number == n) ≡ false) (same event.channel c) (λ _. eq_refused event.number n (inl over)) (λ _. refl)
event_passed c n (Dropped channel first last) over = refl
event_passed c n (Loose count) over = refl

-- items that begin above a number have no event at it
pub no_event_below : (c : List ℕ) (k n : ℕ) (items : List Item) → Ordered c k items → n ≤ k → event_at c n items ≡ None
no_event_below c k n [] h below = refl
no_event_below c k n (item ∷ items) h below =
    let starts = h.1 in
    let goes_on = h.2 in
    ap (λ t. cond t (text_of item) (event_at c n items)) (event_apart c n item (omega arith)) ∙ no_event_below c (end_number item) n items h.3 (omega arith)

-- and items that end by one have none above it
pub no_event_above : (c : List ℕ) (t n : ℕ) (items : List Item) → ItemsEndBy t items → t < n → event_at c n items ≡ None
no_event_above c t n [] ends over = refl
no_event_above c t n (item ∷ items) ends over =
    let here = ends.0 in
    ap (λ b. cond b (text_of item) (event_at c n items)) (event_passed c n item (omega arith)) ∙ no_event_above c t n items ends.1 over

-- whether an item is a dropped range of a channel's number
abbrev pub drops : List ℕ → ℕ → Item → Bool
drops c n item = in_ranges (with_range c item []) n

or_nothing : (a b : Bool) → (a || b) ≡ ((a || false) || b)
or_nothing true b = refl
or_nothing false b = refl

or_in_turn : (a b c : Bool) → (a || (b || c)) ≡ ((a || b) || c)
or_in_turn true b c = refl
or_in_turn false b c = refl

pub in_ranges-with : (c : List ℕ) (n : ℕ) (item : Item) (ranges : List Range) → in_ranges (with_range c item ranges) n ≡ (drops c n item || in_ranges ranges n)
in_ranges-with c n (Event event) ranges = refl
in_ranges-with c n (Dropped channel first last) ranges =
    by_test (λ t. in_ranges (cond t ((first, last) ∷ ranges) ranges) n ≡ (in_ranges (cond t ((first, last) ∷ []) []) n || in_ranges ranges n)) (same channel c)
    (λ _. or_nothing (nat_le first n && nat_le n last) (in_ranges ranges n))
    (λ _. refl)
in_ranges-with c n (Loose count) ranges = refl

pub in_ranges-append : (c : List ℕ) (n : ℕ) (front back : List Item) → in_ranges (ranges_in c (front ++ back)) n ≡ (in_ranges (ranges_in c front) n || in_ranges (ranges_in c back) n)
in_ranges-append c n [] back = refl
in_ranges-append c n (item ∷ front) back =
    in_ranges-with c n item (ranges_in c (front ++ back)) ∙ ap (λ t. drops c n item || t) (in_ranges-append c n front back)
    ∙ or_in_turn (drops c n item) (in_ranges (ranges_in c front) n) (in_ranges (ranges_in c back) n)
    ∙ ap (λ t. t || in_ranges (ranges_in c back) n) (sym (in_ranges-with c n item (ranges_in c front)))

not_dropped : (c : List ℕ) (n : ℕ) (item : Item) → n < first_number item → drops c n item ≡ false
not_dropped c n (Event event) below = refl
not_dropped c n (Dropped channel first last) below =
    by_test (λ t. in_ranges (cond t ((first, last) ∷ []) []) n ≡ false) (same channel c)
    (λ _. ap (λ t. (t && nat_le n last) || false) (le_refused first n below))
    (λ _. refl)
not_dropped c n (Loose count) below = refl

-- items that begin above a number drop no range with it
pub no_range_below : (c : List ℕ) (k n : ℕ) (items : List Item) → Ordered c k items → n ≤ k → in_ranges (ranges_in c items) n ≡ false
no_range_below c k n [] h below = refl
no_range_below c k n (item ∷ items) h below =
    let starts = h.1 in
    let goes_on = h.2 in
    in_ranges-with c n item (ranges_in c items) ∙ ap (λ t. t || in_ranges (ranges_in c items) n) (not_dropped c n item (omega arith)) ∙ no_range_below c (end_number item) n items h.3 (omega arith)

-- what is behind other items doesn't count where it has no event at the number
pub event_in_front : (c : List ℕ) (n : ℕ) (front back : List Item) → event_at c n back ≡ None → event_at c n (front ++ back) ≡ event_at c n front
event_in_front c n [] back none = none
event_in_front c n (item ∷ front) back none = ap (cond (is_event_at c n item) (text_of item)) (event_in_front c n front back none)

-- ---- parts of a row

pub ordered_front : (c : List ℕ) (k : ℕ) (front back : List Item) → Ordered c k (front ++ back) → Ordered c k front
ordered_front c k [] back h = tt
ordered_front c k (item ∷ front) back h = (h.0, h.1, h.2, ordered_front c (end_number item) front back h.3)

-- an item within a row: what is before it ends below it, and it is above the row's beginning
pub record Divided (c : List ℕ) (k : ℕ) (front : List Item) (item : Item) (back : List Item) : Type 0 where
  pub front_ends : ItemsEndBy (first_number item - 1) front
  pub back_begins : Ordered c (first_number item - 1) (item ∷ back)
  pub goes_up : k < first_number item

pub divided : (c : List ℕ) (k : ℕ) (front : List Item) (item : Item) (back : List Item) → Ordered c k (front ++ item ∷ back) → Divided c k front item back
divided c k [] item back h = let up = h.1 in record { front_ends = tt; back_begins = (h.0, omega arith, h.2, h.3); goes_up = h.1 }
divided c k (first ∷ front) item back h =
    let begins = h.1 in
    let goes_on = h.2 in
    let rest = divided c (end_number first) front item back h.3 in
    let above = rest.goes_up in
    record { front_ends = (omega arith, rest.front_ends); back_begins = rest.back_begins; goes_up = omega arith }

pub end_front : (t : ℕ) (front back : List Item) → ItemsEndBy t (front ++ back) → ItemsEndBy t front
end_front t [] back h = tt
end_front t (item ∷ front) back h = (h.0, end_front t front back h.1)

pub end_back : (t : ℕ) (front back : List Item) → ItemsEndBy t (front ++ back) → ItemsEndBy t back
end_back t [] back h = h
end_back t (item ∷ front) back h = end_back t front back h.1

-- items above a number that end by it are none
pub nothing_between : (c : List ℕ) (k t : ℕ) (items : List Item) → Ordered c k items → ItemsEndBy t items → t ≤ k → items ≡ []
nothing_between c k t [] h ends le = refl
nothing_between c k t (item ∷ items) h ends le = let a = h.1 in let b = h.2 in let d = ends.0 in absurd (omega arith)
