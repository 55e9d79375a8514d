-- Where groups never fall, what items select is what their first run of one group does, or else what those behind it do.
use Rattle.std.proofs.Common.{◌≡◌, ℕ, suc, ◌+◌, ◌<◌, ◌==◌, Bool, true, false, not, cond, ◌&&◌, ◌||◌, List, [], ◌∷◌, ◌++◌, take, drop, refl, sym, ap, subst, ◌∙◌, arith}
use Rattle.std.specs.Prelude.{nat_le}
use Rattle.std.specs.List.{list_any, list_all, prefix_len}
use Rattle.std.proofs.Math.Bool.{or-false}
use Rattle.std.proofs.lemmas.Bool.{and_from, and_parts, eqb-true}
use Rattle.std.proofs.lemmas.Bool.Decides.{nat_tests}
use Rattle.std.proofs.lemmas.List.{take-append-drop}
use Rattle.std.proofs.lemmas.List.Folds.{list_any-append}
use Rattle.wef_base.specs.declared.tree.Element.{Element}
use Rattle.wef_query.specs.Items.{QueryItem}
use Rattle.wef_query.specs.Runs.{is_giving_select, is_of, is_select_of_all, never_fall}
use Rattle.wef_query.specs.Selected.{is_suppress_at, is_suppress_of}

one_more : (n : ℕ) → 1 + n ≡ suc n
one_more n = omega arith

absurd_test : {A : Type 0} (b : Bool) → b ≡ true → b ≡ false → A
absurd_test b is other = cc

above : (g x : ℕ) → nat_le g x ≡ true → (x == g) ≡ false → g < x
above g x e f = grind (arith, nat_tests, e, f)

still_above : (g h x : ℕ) → g < h → nat_le h x ≡ true → g < x
still_above g h x below e = grind (arith, nat_tests, below, e)

another : (g x : ℕ) → g < x → (x == g) ≡ false
another g x below = grind (arith, nat_tests, below)

other_way : (g h : ℕ) → (h == g) ≡ false → (g == h) ≡ false
other_way g h e = grind (arith, nat_tests, e)

no_lower : (g : ℕ) → nat_le g g ≡ true
no_lower g = grind (arith, nat_tests)

least : (x : ℕ) → nat_le 0 x ≡ true
least x = grind (arith, nat_tests)

none_of_both : (a b : Bool) → a ≡ false → b ≡ false → (a || b) ≡ false
none_of_both a b p q = λ i. p i || q i

or_parts : (a b : Bool) → (a || b) ≡ false → (a ≡ false) × (b ≡ false)
or_parts true b e = absurd_test true refl e
or_parts false b e = (refl, e)

spread : (a b c : Bool) → ((a && c) || (b && c)) ≡ ((a || b) && c)
spread true true true = refl
spread true true false = refl
spread true false true = refl
spread true false false = refl
spread false b c = refl

-- ---- the run in front

run_is_of : (g : ℕ) (items : List QueryItem) → list_all (is_of g) (take (prefix_len (is_of g) items) items) ≡ true
run_is_of g [] = refl
run_is_of g (item ∷ items) = by (is_of g item) refl (run_is_of g items)
  where
    by : (is : Bool) → is_of g item ≡ is → list_all (is_of g) (take (prefix_len (is_of g) items) items) ≡ true →
        list_all (is_of g) (take (cond is (1 + prefix_len (is_of g) items) 0) (item ∷ items)) ≡ true
    by true e more =
        subst (λ (n : ℕ). list_all (is_of g) (take n (item ∷ items)) ≡ true) (sym (one_more (prefix_len (is_of g) items)))
        (and_from (is_of g item) _ e more)
    by false e more = refl

none_above : (g h : ℕ) (items : List QueryItem) → g < h → never_fall h items ≡ true → list_any (is_of g) items ≡ false
none_above g h [] below e = refl
none_above g h (item ∷ items) below e =
    let parts = and_parts (nat_le h item.group) (never_fall item.group items) e in
    let higher : g < item.group = still_above g h item.group below parts.0 in
    none_of_both (is_of g item) (list_any (is_of g) items) (another g item.group higher) (none_above g item.group items higher parts.1)

-- behind the first run no item is of its group, and groups never fall
abbrev IsBehind : ℕ → List QueryItem → Type 0
IsBehind g items = (list_any (is_of g) items ≡ false) × (never_fall 0 items ≡ true)

behind_run : (g : ℕ) (items : List QueryItem) → never_fall g items ≡ true → IsBehind g (drop (prefix_len (is_of g) items) items)
behind_run g [] e = (refl, refl)
behind_run g (item ∷ items) e =
    let parts = and_parts (nat_le g item.group) (never_fall item.group items) e in
    by (is_of g item) refl parts.0 parts.1 (λ same. behind_run g items (subst (λ (h : ℕ). never_fall h items ≡ true) same parts.1))
  where
    by : (is : Bool) → is_of g item ≡ is → nat_le g item.group ≡ true → never_fall item.group items ≡ true →
        (item.group ≡ g → IsBehind g (drop (prefix_len (is_of g) items) items)) →
        IsBehind g (drop (cond is (1 + prefix_len (is_of g) items) 0) (item ∷ items))
    by true e first rest more =
        subst (λ (n : ℕ). IsBehind g (drop n (item ∷ items))) (sym (one_more (prefix_len (is_of g) items))) (more (eqb-true item.group g e))
    by false e first rest more =
        let higher : g < item.group = above g item.group first e in (
          none_of_both (is_of g item) (list_any (is_of g) items) e (none_above g item.group items higher rest),
          and_from (nat_le 0 item.group) (never_fall item.group items) (least item.group) rest,
        )

-- ---- a test of Selects, and one of the Suppresses of a group

-- the item asks, and none of all items suppresses its group
abbrev in_force : (QueryItem → Bool) → (ℕ → QueryItem → Bool) → List QueryItem → QueryItem → Bool
in_force asks suppresses all item = asks item && not (list_any (suppresses item.group) all)

-- Some of the items is in force exactly where some of the run is, or some of those behind it, whose groups never fall.
abbrev Turned : (QueryItem → Bool) → (ℕ → QueryItem → Bool) → List QueryItem → List QueryItem → List QueryItem → ℕ → Type 0
Turned asks suppresses items run behind group =
    (list_any (in_force asks suppresses items) items ≡ ((list_any asks run && not (list_any (suppresses group) run)) || list_any (in_force asks suppresses behind) behind))
    × (never_fall 0 behind ≡ true)

module _ (asks : QueryItem → Bool) (suppresses : ℕ → QueryItem → Bool) (own : (group : ℕ) (item : QueryItem) → suppresses group item ≡ true → is_of group item ≡ true) where
  none_suppresses : (g : ℕ) (items : List QueryItem) → list_any (is_of g) items ≡ false → list_any (suppresses g) items ≡ false
  none_suppresses g [] e = refl
  none_suppresses g (item ∷ items) e =
      let parts = or_parts (is_of g item) (list_any (is_of g) items) e in
      none_of_both (suppresses g item) (list_any (suppresses g) items) (by (suppresses g item) refl parts.0) (none_suppresses g items parts.1)
    where
      by : (b : Bool) → suppresses g item ≡ b → is_of g item ≡ false → b ≡ false
      by true is other = absurd_test (is_of g item) (own g item is) other
      by false is other = refl

  none_of_another : (g h : ℕ) (run : List QueryItem) → list_all (is_of g) run ≡ true → (h == g) ≡ false → list_any (is_of h) run ≡ false
  none_of_another g h [] all other = refl
  none_of_another g h (item ∷ run) all other =
      let parts = and_parts (is_of g item) (list_all (is_of g) run) all in
      none_of_both (is_of h item) (list_any (is_of h) run)
      (ap (λ (x : ℕ). x == h) (eqb-true item.group g parts.0) ∙ other_way g h other)
      (none_of_another g h run parts.1 other)

  -- the items of a run are in force together
  run_in_force : (g : ℕ) (all run : List QueryItem) → list_all (is_of g) run ≡ true →
      list_any (in_force asks suppresses all) run ≡ (list_any asks run && not (list_any (suppresses g) all))
  run_in_force g all [] is = refl
  run_in_force g all (item ∷ run) is =
      let parts = and_parts (is_of g item) (list_all (is_of g) run) is in
      let own_group = eqb-true item.group g parts.0 in
      (λ i. (asks item && not (list_any (suppresses (own_group i)) all)) || run_in_force g all run parts.1 i)
      ∙ spread (asks item) (list_any asks run) (not (list_any (suppresses g) all))

  -- for an item of another group a run in front doesn't count
  front_is_nothing : (g h : ℕ) (run behind : List QueryItem) → list_all (is_of g) run ≡ true → (h == g) ≡ false →
      list_any (suppresses h) (run ++ behind) ≡ list_any (suppresses h) behind
  front_is_nothing g h run behind is other =
      list_any-append (suppresses h) run behind
      ∙ ap (λ (b : Bool). b || list_any (suppresses h) behind) (none_suppresses h run (none_of_another g h run is other))

  behind_in_force : (g : ℕ) (run behind items : List QueryItem) → list_all (is_of g) run ≡ true → list_any (is_of g) items ≡ false →
      list_any (in_force asks suppresses (run ++ behind)) items ≡ list_any (in_force asks suppresses behind) items
  behind_in_force g run behind [] is none = refl
  behind_in_force g run behind (item ∷ items) is none =
      let parts = or_parts (is_of g item) (list_any (is_of g) items) none in
      λ i. (asks item && not (front_is_nothing g item.group run behind is parts.0 i)) || behind_in_force g run behind items is parts.1 i

  split_in_force : (g : ℕ) (run behind : List QueryItem) → list_all (is_of g) run ≡ true → list_any (is_of g) behind ≡ false →
      list_any (in_force asks suppresses (run ++ behind)) (run ++ behind)
      ≡ ((list_any asks run && not (list_any (suppresses g) run)) || list_any (in_force asks suppresses behind) behind)
  split_in_force g run behind is none =
      let suppressed : list_any (suppresses g) (run ++ behind) ≡ list_any (suppresses g) run =
      list_any-append (suppresses g) run behind ∙ ap (λ (b : Bool). list_any (suppresses g) run || b) (none_suppresses g behind none) ∙ or-false (list_any (suppresses g) run) in
      let here : list_any (in_force asks suppresses (run ++ behind)) run ≡ (list_any asks run && not (list_any (suppresses g) run)) =
      run_in_force g (run ++ behind) run is ∙ ap (λ (b : Bool). list_any asks run && not b) suppressed in
      list_any-append (in_force asks suppresses (run ++ behind)) run behind ∙ (λ i. here i || behind_in_force g run behind behind is none i)

  turned : {items run behind : List QueryItem} {first : QueryItem} {more : List QueryItem} {group n : ℕ} → items ≡ first ∷ more → group ≡ first.group → n ≡ prefix_len (is_of group) items →
      run ≡ take n items → behind ≡ drop n items → never_fall 0 items ≡ true → Turned asks suppresses items run behind group
  turned {items} {run} {behind} {first} {more} {group} {n} is its count front back together =
      let rises : never_fall group items ≡ true =
      subst (λ (all : List QueryItem). never_fall group all ≡ true) (sym is)
      (and_from (nat_le group first.group) (never_fall first.group more) (subst (λ (x : ℕ). nat_le group x ≡ true) its (no_lower group))
      (and_parts (nat_le 0 first.group) (never_fall first.group more) (subst (λ (all : List QueryItem). never_fall 0 all ≡ true) is together)).1) in
      let all : list_all (is_of group) run ≡ true =
      subst (λ (part : List QueryItem). list_all (is_of group) part ≡ true) (sym (front ∙ ap (λ (m : ℕ). take m items) count)) (run_is_of group items) in
      let left : IsBehind group behind = subst (λ (part : List QueryItem). IsBehind group part) (sym (back ∙ ap (λ (m : ℕ). drop m items) count)) (behind_run group items rises) in
      let joined : run ++ behind ≡ items = (λ i. front i ++ back i) ∙ take-append-drop n items in (
        subst (λ (part : List QueryItem). list_any (in_force asks suppresses part) part
            ≡ ((list_any asks run && not (list_any (suppresses group) run)) || list_any (in_force asks suppresses behind) behind)) joined
            (split_in_force group run behind all left.0),
        left.1,
      )

pub turned_selecting : (channel : List ℕ) (node : Element) {items run behind : List QueryItem} {first : QueryItem} {more : List QueryItem} {group n : ℕ} → items ≡ first ∷ more → group ≡ first.group →
    n ≡ prefix_len (is_of group) items → run ≡ take n items → behind ≡ drop n items → never_fall 0 items ≡ true →
    Turned (is_giving_select channel node) (λ (g : ℕ). is_suppress_of g channel node) items run behind group
turned_selecting channel node =
    turned (is_giving_select channel node) (λ (g : ℕ). is_suppress_of g channel node) (λ (g : ℕ) (item : QueryItem) e. (and_parts (item.group == g) _ e).0)

pub turned_asking : (channel : List ℕ) {items run behind : List QueryItem} {first : QueryItem} {more : List QueryItem} {group n : ℕ} → items ≡ first ∷ more → group ≡ first.group →
    n ≡ prefix_len (is_of group) items → run ≡ take n items → behind ≡ drop n items → never_fall 0 items ≡ true →
    Turned (is_select_of_all channel) (λ (g : ℕ). is_suppress_at g channel) items run behind group
turned_asking channel =
    turned (is_select_of_all channel) (λ (g : ℕ). is_suppress_at g channel) (λ (g : ℕ) (item : QueryItem) e. (and_parts (item.group == g) _ e).0)

-- ---- what a turn of a loop over runs says of the whole

pub found : {whole run : Bool} (behind : Bool) → whole ≡ (run || behind) → run ≡ true → true ≡ whole
found behind parted here = sym (parted ∙ ap (λ (b : Bool). b || behind) here)

pub not_found : {whole run behind : Bool} → whole ≡ (run || behind) → run ≡ false → behind ≡ whole
not_found {behind} parted here = sym (parted ∙ ap (λ (b : Bool). b || behind) here)
