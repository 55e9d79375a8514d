-- How far each channel is read where some items are left, and what the bookmark of a batch has of it.
use Rattle.std.proofs.Common.{◌≡◌, ℕ, ◌-◌, ◌≤◌, true, false, ◌||◌, cond, List, [], ◌∷◌, ◌++◌, length, max, refl, ap, sym, subst, ◌∙◌, Some, None, ◌⊎◌, inl, inr, ⊎_elim, arith, nat_lt}
use Rattle.std.specs.Prelude.{Option, unwrap_or}
use Rattle.std.specs.Cmp.Lexicographic.{slice_cmp, texts_ties}
use Rattle.std.specs.FinMap as map
use Rattle.std.specs.List.{flat_map}
use Rattle.std.specs.Ordering.{nat_cmp}
use Rattle.wef_base.specs.Names.{same}
use Rattle.wef_batch.specs.WellFormed.{is_in}
use Rattle.wef_batch.specs.declared.items.Item.{Item}
use Rattle.wef_bookmark.proofs.Joining.{get-raised}
use Rattle.wef_bookmark.specs.Order.{Marks, number_at, raised}
use Rattle.wef_keeper.specs.Rows.{Rows}
use Rattle.wef_source_log.specs.LogWindow.{last_of}
use Rattle.wef_building.specs.Building.{first_number, is_of, reaches, with_reach, with_reaches}
use Rattle.wef_building.proofs.Cases.{apart, by_test, either_false, lt_fails, one_name, same_itself}
use Rattle.wef_building.proofs.Channels.{AllOf, AreApart, AreOwn, own-append, own_elsewhere, own_none}
use Rattle.wef_building.proofs.Items.{ItemsEndBy, Ordered, divided, end_back, end_front, nothing_between, own}

-- ---- two ways to part a row

-- An item of a row of two parts stands in the second part, or in the first.
record InSecond (first second front : List Item) (item : Item) (back : List Item) : Type 0 where
  before : List Item
  front_is : front ≡ first ++ before
  second_is : before ++ item ∷ back ≡ second

record InFirst (first front : List Item) (item : Item) : Type 0 where
  after : List Item
  first_is : first ≡ front ++ item ∷ after

one_more : (x a : Item) (first second front : List Item) (item : Item) (back : List Item) → x ≡ a → InSecond first second front item back ⊎ InFirst first front item
    → InSecond (a ∷ first) second (x ∷ front) item back ⊎ InFirst (a ∷ first) (x ∷ front) item
one_more x a first second front item back one (inl h) = inl (record { before = h.before; front_is = λ i. one i ∷ h.front_is i; second_is = h.second_is })
one_more x a first second front item back one (inr h) = inr (record { after = h.after; first_is = λ i. sym one i ∷ h.first_is i })

placed : (first second front : List Item) (item : Item) (back : List Item) → front ++ item ∷ back ≡ first ++ second → InSecond first second front item back ⊎ InFirst first front item
placed [] second front item back e = inl (record { before = front; front_is = refl; second_is = e })
placed (a ∷ first) second [] item back e = let one : a ≡ item = cc in inr (record { after = first; first_is = ap (λ x. x ∷ first) one })
placed (a ∷ first) second (x ∷ front) item back e =
    let one : x ≡ a = cc in
    let rest : front ++ item ∷ back ≡ first ++ second = cc in
    one_more x a first second front item back one (placed first second front item back rest)

nothing_behind : (xs ys : List Item) → xs ++ ys ≡ [] → ys ≡ []
nothing_behind [] ys e = e
nothing_behind (x ∷ xs) ys e = cc

nothing_before : (xs ys : List Item) → xs ++ ys ≡ [] → xs ≡ []
nothing_before [] ys e = refl
nothing_before (x ∷ xs) ys e = cc

own_first : (c : List ℕ) (item : Item) (items : List Item) → is_of c item ≡ true → own c (item ∷ items) ≡ item ∷ own c items
own_first c item items is = ap (λ t. cond t (item ∷ own c items) (own c items)) is

-- ---- the reach of a channel

-- the first reach that stands for a channel
abbrev pub reach_at : List ℕ → List (List ℕ × ℕ) → Option ℕ
reach_at c [] = None
reach_at c (r ∷ rs) = cond (same r.0 c) (Some r.1) (reach_at c rs)

-- a channel that is not of the list has no reach
pub no_reach : (rows : Rows) (cs : List (List ℕ)) (left : List Item) (c : List ℕ) → is_in cs c ≡ false → reach_at c (reaches rows cs left) ≡ None
no_reach rows [] left c none = refl
no_reach rows (d ∷ cs) [] c none =
    let parts = either_false (same d c) (is_in cs c) none in
    ap (λ t. cond t (Some (last_of rows d)) (reach_at c (reaches rows cs []))) parts.0 ∙ no_reach rows cs [] c parts.1
no_reach rows (d ∷ cs) (i ∷ is) c none =
    let parts = either_false (same d c) (is_in cs c) none in
    by_test (λ t. reach_at c (cond t ((d, first_number i - 1) ∷ []) ((d, last_of rows d) ∷ reaches rows cs (i ∷ is))) ≡ None) (is_of d i)
    (λ _. ap (λ t. cond t (Some (first_number i - 1)) None) parts.0)
    (λ _. ap (λ t. cond t (Some (last_of rows d)) (reach_at c (reaches rows cs (i ∷ is)))) parts.0 ∙ no_reach rows cs (i ∷ is) c parts.1)

-- where nothing is left, each channel is read to its last record
all_read : (rows : Rows) (cs : List (List ℕ)) (c : List ℕ) → is_in cs c ≡ true → reach_at c (reaches rows cs []) ≡ Some (last_of rows c)
all_read rows [] c here = apart here
all_read rows (d ∷ cs) c here =
    by_test (λ t. same d c ≡ t → (t || is_in cs c) ≡ true → cond t (Some (last_of rows d)) (reach_at c (reaches rows cs [])) ≡ Some (last_of rows c)) (same d c)
    (λ _ is _. ap (λ x. Some (last_of rows x)) (one_name d c is))
    (λ _ _ later. all_read rows cs c later)
    refl here

-- Up to where items say all of a channel: those in front end there, and those that are left begin above. Without a
-- reach there is no item of the channel.
abbrev pub Stops : List ℕ → ℕ → List Item → List Item → Option ℕ → Type 0
Stops c length front back None = front ≡ []
Stops c length front back (Some t) = ItemsEndBy t front × Ordered c t back × (t ≤ length)

-- where none of a channel's items are left, they end by its last record
stops_last : (c : List ℕ) (last : ℕ) (items front back : List Item) → front ++ back ≡ items → ItemsEndBy last items → back ≡ [] → Stops c last front back (Some last)
stops_last c last items front back parts ends none =
    (end_front last front back (subst (ItemsEndBy last) (sym parts) ends), subst (Ordered c last) (sym none) tt, omega arith)

-- where an item is the first one left, they end below it
stops_before : (c : List ℕ) (last p : ℕ) (items front : List Item) (i : Item) (back rest : List Item) → front ++ back ≡ items → Ordered c p items → ItemsEndBy last items → back ≡ i ∷ rest
    → Stops c last front back (Some (first_number i - 1))
stops_before c last p items front i back rest parts ordered ends is =
    let all = sym parts ∙ ap (λ xs. front ++ xs) is in
    let cut = divided c p front i rest (subst (Ordered c p) all ordered) in
    let first = (end_back last front (i ∷ rest) (subst (ItemsEndBy last) all ends)).0 in
    let begins = cut.back_begins.2 in
    (cut.front_ends, subst (Ordered c (first_number i - 1)) (sym is) cut.back_begins, omega arith)

of_all : (d : List ℕ) (front : List Item) (i : Item) (back : List Item) → AllOf d (front ++ i ∷ back) → is_of d i ≡ true
of_all d [] i back all = all.0
of_all d (x ∷ front) i back all = of_all d front i back all.1

-- The items of a channel, where the first item left is of the first channel.
stops_here : (g : List ℕ → List Item) (c : List ℕ) (last p : ℕ) → AreOwn g → Ordered c p (g c) → ItemsEndBy last (g c)
    → (d : List ℕ) (cs : List (List ℕ)) (front : List Item) (i : Item) (is : List Item) → is_in cs d ≡ false → front ++ i ∷ is ≡ g d ++ flat_map g cs
    → own c front ++ own c (i ∷ is) ≡ g c → is_of d i ≡ true → Stops c last (own c front) (own c (i ∷ is)) (cond (same d c) (Some (first_number i - 1)) None)
stops_here g c last p own_items ordered ends d cs front i is once parts mine of_d =
    by_test (λ t. same d c ≡ t → Stops c last (own c front) (own c (i ∷ is)) (cond t (Some (first_number i - 1)) None)) (same d c)
    (λ _ one. stops_before c last p (g c) (own c front) i (own c (i ∷ is)) (own c is) mine ordered ends (own_first c i is (subst (λ (x : List ℕ). is_of x i ≡ true) (one_name d c one) of_d)))
    (λ _ other.
    ⊎_elim
    (λ (h : InSecond (g d) (flat_map g cs) front i is).
    let none : own d (i ∷ is) ≡ [] = nothing_behind (own d h.before) (own d (i ∷ is)) (sym (own-append d h.before (i ∷ is)) ∙ ap (own d) h.second_is ∙ own_elsewhere g cs d own_items once) in
    let some : own d (i ∷ is) ≡ i ∷ own d is = own_first d i is of_d in
    cc)
    (λ (h : InFirst (g d) front i).
    nothing_before (own c front) (own c (i ∷ h.after)) (sym (own-append c front (i ∷ h.after)) ∙ ap (own c) (sym h.first_is) ∙ own_none d c (g d) (own_items d) other))
    (placed (g d) (flat_map g cs) front i is parts))
    refl

-- The items of a channel, where the first item left is of a channel behind the first one.
stops_later : (rows : Rows) (g : List ℕ → List Item) (c : List ℕ) (last : ℕ) → AreOwn g → last ≡ last_of rows c → ItemsEndBy last (g c)
    → (d : List ℕ) (cs : List (List ℕ)) (front : List Item) (i : Item) (is : List Item) → is_in cs d ≡ false → front ++ i ∷ is ≡ g d ++ flat_map g cs
    → own c front ++ own c (i ∷ is) ≡ g c → is_of d i ≡ false → (same d c || is_in cs c) ≡ true
    → ((before : List Item) → is_in cs c ≡ true → before ++ i ∷ is ≡ flat_map g cs → own c before ++ own c (i ∷ is) ≡ g c → Stops c last (own c before) (own c (i ∷ is)) (reach_at c (reaches rows cs (i ∷ is))))
    → Stops c last (own c front) (own c (i ∷ is)) (cond (same d c) (Some (last_of rows d)) (reach_at c (reaches rows cs (i ∷ is))))
stops_later rows g c last own_items last_is ends d cs front i is once parts mine of_other here goes_on =
    ⊎_elim
    (λ (h : InSecond (g d) (flat_map g cs) front i is).
    by_test (λ t. same d c ≡ t → (t || is_in cs c) ≡ true → Stops c last (own c front) (own c (i ∷ is)) (cond t (Some (last_of rows d)) (reach_at c (reaches rows cs (i ∷ is))))) (same d c)
    (λ _ is_c _.
    let one = one_name d c is_c in
    let once_c = subst (λ (x : List ℕ). is_in cs x ≡ false) one once in
    let none : own c (i ∷ is) ≡ [] = nothing_behind (own c h.before) (own c (i ∷ is)) (sym (own-append c h.before (i ∷ is)) ∙ ap (own c) h.second_is ∙ own_elsewhere g cs c own_items once_c) in
    subst (Stops c last (own c front) (own c (i ∷ is))) (ap Some (last_is ∙ ap (last_of rows) (sym one)))
    (stops_last c last (g c) (own c front) (own c (i ∷ is)) mine ends none))
    (λ _ other later.
    let same_own : own c front ≡ own c h.before = ap (own c) h.front_is ∙ own-append c (g d) h.before ∙ ap (λ xs. xs ++ own c h.before) (own_none d c (g d) (own_items d) other) in
    subst (λ xs. Stops c last xs (own c (i ∷ is)) (reach_at c (reaches rows cs (i ∷ is)))) (sym same_own)
    (goes_on h.before later h.second_is (ap (λ xs. xs ++ own c (i ∷ is)) (sym same_own) ∙ mine)))
    refl here)
    (λ (h : InFirst (g d) front i).
    apart (sym of_other ∙ of_all d front i h.after (subst (AllOf d) h.first_is (own_items d))))
    (placed (g d) (flat_map g cs) front i is parts)

-- The items of each channel stop at its reach.
pub stops : (rows : Rows) (g : List ℕ → List Item) (c : List ℕ) (last p : ℕ) → AreOwn g → last ≡ last_of rows c → Ordered c p (g c) → ItemsEndBy last (g c)
    → (cs : List (List ℕ)) (front back : List Item) → AreApart cs → is_in cs c ≡ true → front ++ back ≡ flat_map g cs → own c front ++ own c back ≡ g c
    → Stops c last (own c front) (own c back) (reach_at c (reaches rows cs back))
stops rows g c last p own_items last_is ordered ends cs front [] once here parts mine =
    subst (Stops c last (own c front) []) (ap Some last_is ∙ sym (all_read rows cs c here))
    (stops_last c last (g c) (own c front) [] mine ends refl)
stops rows g c last p own_items last_is ordered ends [] front (i ∷ is) once here parts mine = apart here
stops rows g c last p own_items last_is ordered ends (d ∷ cs) front (i ∷ is) once here parts mine =
    by_test (λ t. is_of d i ≡ t → Stops c last (own c front) (own c (i ∷ is)) (reach_at c (cond t ((d, first_number i - 1) ∷ []) ((d, last_of rows d) ∷ reaches rows cs (i ∷ is))))) (is_of d i)
    (λ _ of_d. stops_here g c last p own_items ordered ends d cs front i is once.0 parts mine of_d)
    (λ _ of_other.
    stops_later rows g c last own_items last_is ends d cs front i is once.0 parts mine of_other here
    (λ before there rest mine_before. stops rows g c last p own_items last_is ordered ends cs before (i ∷ is) once.1 there rest mine_before))
    refl

-- ---- what the bookmark of a batch has

-- a reach that is above a position
abbrev pub reach_above : ℕ → Option ℕ → Option ℕ
reach_above p None = None
reach_above p (Some t) = cond (nat_lt p t) (Some t) None

-- what a raised bookmark has
pub get-raised_one : (b : Marks) (c : List ℕ) (to : ℕ) (q : List ℕ) → map.get (raised b c to) q ≡ cond (same q c) (Some (max (number_at b c) to)) (map.get b q)
get-raised_one b c to q = get-raised b c to q ∙ ap (λ t. cond t (Some (max (number_at b c) to)) (map.get b q)) (sym (texts_ties q c))

turned : (a b : List ℕ) → same a b ≡ false → same b a ≡ false
turned a b other = by_test (λ t. same b a ≡ t → t ≡ false) (same b a) (λ _ is. apart (sym other ∙ subst (λ (x : List ℕ). same x b ≡ true) (one_name b a is) (same_itself b))) (λ _ _. refl) refl

-- a reach leaves other channels as they are
reach_elsewhere : (positions to : Marks) (reach : List ℕ × ℕ) (c : List ℕ) → same reach.0 c ≡ false → map.get (with_reach positions to reach) c ≡ map.get to c
reach_elsewhere positions to reach c other =
    by_test (λ t. map.get (cond t (raised to reach.0 reach.1) to) c ≡ map.get to c) (nat_lt (number_at positions reach.0) reach.1)
    (λ _. get-raised_one to reach.0 reach.1 c ∙ ap (λ t. cond t (Some (max (number_at to reach.0) reach.1)) (map.get to c)) (turned reach.0 c other))
    (λ _. refl)

-- a reach of a channel that has none yet stands where it is above the position
reach_here : (positions to : Marks) (reach : List ℕ × ℕ) (c : List ℕ) → same reach.0 c ≡ true → map.get to c ≡ None
    → map.get (with_reach positions to reach) c ≡ reach_above (number_at positions c) (Some reach.1)
reach_here positions to reach c is none =
    let one = one_name reach.0 c is in
    let nothing : number_at to reach.0 ≡ 0 = ap (λ x. unwrap_or (map.get to x) 0) one ∙ ap (λ o. unwrap_or o 0) none in
    let greater : max (number_at to reach.0) reach.1 ≡ reach.1 = omega arith in
    by_test (λ t. map.get (cond t (raised to reach.0 reach.1) to) c ≡ cond t (Some reach.1) None) (nat_lt (number_at positions reach.0) reach.1)
    (λ _. get-raised_one to reach.0 reach.1 c ∙ ap (λ t. cond t (Some (max (number_at to reach.0) reach.1)) (map.get to c)) (subst (λ (x : List ℕ). same c x ≡ true) (sym one) (same_itself c)) ∙ ap Some greater)
    (λ _. none)
    ∙ ap (λ x. cond (nat_lt (number_at positions x) reach.1) (Some reach.1) None) one

-- no reach of these channels is a channel's
pub reaches_elsewhere : (positions to : Marks) (rs : List (List ℕ × ℕ)) (c : List ℕ) → reach_at c rs ≡ None → map.get (with_reaches positions to rs) c ≡ map.get to c
reaches_elsewhere positions to [] c none = refl
reaches_elsewhere positions to (r ∷ rs) c none =
    by_test (λ t. same r.0 c ≡ t → cond t (Some r.1) (reach_at c rs) ≡ None → map.get (with_reaches positions (with_reach positions to r) rs) c ≡ map.get to c) (same r.0 c)
    (λ _ _ some. cc)
    (λ _ other rest. reaches_elsewhere positions (with_reach positions to r) rs c rest ∙ reach_elsewhere positions to r c other)
    refl none

-- reaches of which one at most is a channel's
abbrev IsOnce : List ℕ → List (List ℕ × ℕ) → Type 0
IsOnce c [] = Unit {0}
IsOnce c (r ∷ rs) = (same r.0 c ≡ true → reach_at c rs ≡ None) × IsOnce c rs

reaches_here : (positions to : Marks) (rs : List (List ℕ × ℕ)) (c : List ℕ) → IsOnce c rs → map.get to c ≡ None
    → map.get (with_reaches positions to rs) c ≡ reach_above (number_at positions c) (reach_at c rs)
reaches_here positions to [] c once none = none
reaches_here positions to (r ∷ rs) c once none =
    by_test (λ t. same r.0 c ≡ t → map.get (with_reaches positions (with_reach positions to r) rs) c ≡ reach_above (number_at positions c) (cond t (Some r.1) (reach_at c rs))) (same r.0 c)
    (λ _ is. reaches_elsewhere positions (with_reach positions to r) rs c (once.0 is) ∙ reach_here positions to r c is none)
    (λ _ other. reaches_here positions (with_reach positions to r) rs c once.1 (reach_elsewhere positions to r c other ∙ none))
    refl

read_once : (rows : Rows) (cs : List (List ℕ)) (left : List Item) (c : List ℕ) → AreApart cs → IsOnce c (reaches rows cs left)
read_once rows [] left c once = tt
read_once rows (d ∷ cs) [] c once =
    ((λ is. no_reach rows cs [] c (subst (λ (x : List ℕ). is_in cs x ≡ false) (one_name d c is) once.0)), read_once rows cs [] c once.1)
read_once rows (d ∷ cs) (i ∷ is) c once =
    by_test (λ t. IsOnce c (cond t ((d, first_number i - 1) ∷ []) ((d, last_of rows d) ∷ reaches rows cs (i ∷ is)))) (is_of d i)
    (λ _. ((λ _. refl), tt))
    (λ _. ((λ is_c. no_reach rows cs (i ∷ is) c (subst (λ (x : List ℕ). is_in cs x ≡ false) (one_name d c is_c) once.0)), read_once rows cs (i ∷ is) c once.1))

-- The bookmark has a channel at its reach, where that is above the position.
pub to_is : (rows : Rows) (positions : Marks) (cs : List (List ℕ)) (left : List Item) (c : List ℕ) → AreApart cs
    → map.get (with_reaches positions map.empty (reaches rows cs left)) c ≡ reach_above (number_at positions c) (reach_at c (reaches rows cs left))
to_is rows positions cs left c once = reaches_here positions map.empty (reaches rows cs left) c (read_once rows cs left c once) (map.get-empty (slice_cmp nat_cmp) c)

-- It has no channel that isn't of the list.
pub to_has_no_other : (rows : Rows) (positions : Marks) (cs : List (List ℕ)) (left : List Item) (c : List ℕ) → is_in cs c ≡ false
    → map.get (with_reaches positions map.empty (reaches rows cs left)) c ≡ None
to_has_no_other rows positions cs left c none = reaches_elsewhere positions map.empty (reaches rows cs left) c (no_reach rows cs left c none) ∙ map.get-empty (slice_cmp nat_cmp) c

-- Items that stop at a reach stop where the bookmark says, since there are none where it says nothing.
pub stops_above : (c : List ℕ) (last p : ℕ) (front back : List Item) (reach : Option ℕ) → Ordered c p front → Stops c last front back reach → Stops c last front back (reach_above p reach)
stops_above c last p front back None ordered h = h
stops_above c last p front back (Some t) ordered h =
    by_test (λ b. nat_lt p t ≡ b → Stops c last front back (cond b (Some t) None)) (nat_lt p t)
    (λ _ _. h)
    (λ _ low. nothing_between c p t front ordered h.0 (lt_fails p t low))
    refl
