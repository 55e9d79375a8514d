-- Items of several channels, one channel after the other, and how far each is read where some of them are left.
use Rattle.std.proofs.Common.{◌≡◌, ℕ, ◌+◌, Bool, true, false, ◌||◌, cond, List, [], ◌∷◌, ◌++◌, refl, ap, sym, subst, ◌∙◌, arith}
use Rattle.std.specs.Cmp.{tied_itself}
use Rattle.std.specs.Cmp.Lexicographic.{nat_list_cmp_total, slice_cmp}
use Rattle.std.specs.List.{AllByRecursion, flat_map, list_all}
use Rattle.std.specs.List.Sorted.{IsStrictlySortedBy}
use Rattle.std.specs.Ordering.{nat_cmp}
use Rattle.std.specs.declared.cmp.Ordering.TheVariants.{Less}
use Rattle.std.proofs.lemmas.List.{append-nil}
use Rattle.std.proofs.lemmas.List.Elements.{filter-append}
use Rattle.std.proofs.lemmas.List.Folds.{list_all-append}
use Rattle.wef_base.specs.Names.{same}
use Rattle.wef_batch.specs.Reach.{loose_of, loose_sum}
use Rattle.wef_batch.specs.WellFormed.{is_in, is_listed}
use Rattle.wef_batch.specs.declared.items.Item.{Item}
use Rattle.wef_batch.specs.declared.items.Item.TheVariants.{Event, Dropped, Loose}
use Rattle.wef_query.specs.Order.{IsInOrder}
use Rattle.wef_building.specs.Building.{is_of}
use Rattle.wef_building.proofs.Cases.{and_true, apart, both_true, by_test, either_false, one_name, or_true, same_itself}
use Rattle.wef_building.proofs.Items.{Ordered, end_number, own}

-- ---- channels, each once

-- no channel stands among those behind it
abbrev pub AreApart : List (List ℕ) → Type 0
AreApart [] = Unit {0}
AreApart (c ∷ cs) = (is_in cs c ≡ false) × AreApart cs

not_below_itself : (c : List ℕ) → slice_cmp nat_cmp c c ≡ Less → {A : Type 0} → A
not_below_itself c e = cc (tied_itself nat_list_cmp_total c)

not_among : (c : List ℕ) (cs : List (List ℕ)) → AllByRecursion (λ y. slice_cmp nat_cmp c y ≡ Less) cs → is_in cs c ≡ false
not_among c [] below = refl
not_among c (d ∷ cs) below =
    by_test (λ t. same d c ≡ t → (t || is_in cs c) ≡ false) (same d c)
    (λ _ is. not_below_itself c (subst (λ (x : List ℕ). slice_cmp nat_cmp c x ≡ Less) (one_name d c is) below.0))
    (λ _ _. not_among c cs below.1)
    refl

pub in_order_apart : (cs : List (List ℕ)) → IsInOrder cs → AreApart cs
unfolding IsStrictlySortedBy
in_order_apart [] sorted = tt
in_order_apart (c ∷ cs) sorted = (not_among c cs sorted.0, in_order_apart cs sorted.1)

-- what holds of each channel of a list holds of all
pub holds_of_all : (p : List ℕ → Bool) (cs : List (List ℕ)) → ((c : List ℕ) → is_in cs c ≡ true → p c ≡ true) → list_all p cs ≡ true
holds_of_all p [] holds = refl
holds_of_all p (d ∷ cs) holds =
    and_true (p d) (list_all p cs) (holds d (ap (λ t. t || is_in cs d) (same_itself d)))
    (holds_of_all p cs (λ c there. holds c (or_true (same d c) (is_in cs c) there)))

-- ---- items of one channel alone

abbrev pub AllOf : List ℕ → List Item → Type 0
AllOf c [] = Unit {0}
AllOf c (item ∷ items) = (is_of c item ≡ true) × AllOf c items

pub ordered_of : (c : List ℕ) (k : ℕ) (items : List Item) → Ordered c k items → AllOf c items
ordered_of c k [] h = tt
ordered_of c k (item ∷ items) h = (h.0, ordered_of c (end_number item) items h.3)

of_another : (d c : List ℕ) (item : Item) → is_of d item ≡ true → same d c ≡ false → is_of c item ≡ false
of_another d c (Event event) is other = subst (λ (x : List ℕ). same x c ≡ false) (sym (one_name event.channel d is)) other
of_another d c (Dropped channel first last) is other = subst (λ (x : List ℕ). same x c ≡ false) (sym (one_name channel d is)) other
of_another d c (Loose count) is other = refl

own_all : (c : List ℕ) (items : List Item) → AllOf c items → own c items ≡ items
own_all c [] all = refl
own_all c (item ∷ items) all = ap (λ t. cond t (item ∷ own c items) (own c items)) all.0 ∙ ap (λ rest. item ∷ rest) (own_all c items all.1)

pub own_none : (d c : List ℕ) (items : List Item) → AllOf d items → same d c ≡ false → own c items ≡ []
own_none d c [] all other = refl
own_none d c (item ∷ items) all other = ap (λ t. cond t (item ∷ own c items) (own c items)) (of_another d c item all.0 other) ∙ own_none d c items all.1 other

-- ---- items of several channels

pub own-append : (c : List ℕ) (front back : List Item) → own c (front ++ back) ≡ own c front ++ own c back
own-append c front back = filter-append (is_of c) front back

-- each channel's items are of it
abbrev pub AreOwn : (List ℕ → List Item) → Type 0
AreOwn g = (c : List ℕ) → AllOf c (g c)

pub own_elsewhere : (g : List ℕ → List Item) (cs : List (List ℕ)) (c : List ℕ) → AreOwn g → is_in cs c ≡ false → own c (flat_map g cs) ≡ []
own_elsewhere g [] c all none = refl
own_elsewhere g (d ∷ cs) c all none =
    let apart_from = either_false (same d c) (is_in cs c) none in
    own-append c (g d) (flat_map g cs) ∙ (λ i. own_none d c (g d) (all d) apart_from.0 i ++ own_elsewhere g cs c all apart_from.1 i)

pub own_among : (g : List ℕ → List Item) (cs : List (List ℕ)) (c : List ℕ) → AreOwn g → AreApart cs → is_in cs c ≡ true → own c (flat_map g cs) ≡ g c
own_among g [] c all once here = apart here
own_among g (d ∷ cs) c all once here =
    own-append c (g d) (flat_map g cs)
    ∙ by_test (λ t. same d c ≡ t → (t || is_in cs c) ≡ true → own c (g d) ++ own c (flat_map g cs) ≡ g c) (same d c)
    (λ _ is _.
    let one = one_name d c is in
    let none = own_elsewhere g cs c all (subst (λ (x : List ℕ). is_in cs x ≡ false) one once.0) in
    (λ i. (ap (λ x. own c (g x)) one ∙ own_all c (g c) (all c)) i ++ none i) ∙ append-nil (g c))
    (λ _ other later. ap (λ front. front ++ own c (flat_map g cs)) (own_none d c (g d) (all d) other) ∙ own_among g cs c all once.1 later)
    refl here

-- ---- what is true of all of them

listed_one : (cs : List (List ℕ)) (c : List ℕ) (item : Item) → is_in cs c ≡ true → is_of c item ≡ true → is_listed cs item ≡ true
listed_one cs c (Event event) here is = subst (λ (x : List ℕ). is_in cs x ≡ true) (sym (one_name event.channel c is)) here
listed_one cs c (Dropped channel first last) here is = subst (λ (x : List ℕ). is_in cs x ≡ true) (sym (one_name channel c is)) here
listed_one cs c (Loose count) here is = refl

listed_own : (cs : List (List ℕ)) (c : List ℕ) (items : List Item) → is_in cs c ≡ true → AllOf c items → list_all (is_listed cs) items ≡ true
listed_own cs c [] here all = refl
listed_own cs c (item ∷ items) here all = and_true (is_listed cs item) _ (listed_one cs c item here all.0) (listed_own cs c items here all.1)

-- the items of some of the channels are listed ones
listed_some : (g : List ℕ → List Item) (all some : List (List ℕ)) → AreOwn g → ((c : List ℕ) → is_in some c ≡ true → is_in all c ≡ true) → list_all (is_listed all) (flat_map g some) ≡ true
listed_some g all [] own_items among = refl
listed_some g all (d ∷ some) own_items among =
    list_all-append (is_listed all) (g d) (flat_map g some)
    ∙ and_true _ _ (listed_own all d (g d) (among d (ap (λ t. t || is_in some d) (same_itself d))) (own_items d))
    (listed_some g all some own_items (λ c there. among c (or_true (same d c) (is_in some c) there)))

-- the first of all items are listed ones
pub front_listed : (g : List ℕ → List Item) (cs : List (List ℕ)) (front back : List Item) → AreOwn g → front ++ back ≡ flat_map g cs → list_all (is_listed cs) front ≡ true
front_listed g cs front back own_items parts =
    (both_true (list_all (is_listed cs) front) (list_all (is_listed cs) back)
    (sym (list_all-append (is_listed cs) front back) ∙ ap (list_all (is_listed cs)) parts ∙ listed_some g cs cs own_items (λ c here. here))).0

-- where no channel is the one, nothing of it is said
unlisted : (cs : List (List ℕ)) (c d : List ℕ) → is_in cs d ≡ true → is_in cs c ≡ false → same d c ≡ false
unlisted cs c d here none = elim (same d c) as (λ t. same d c ≡ t → t ≡ false) [
  | true ↦ λ is. sym here ∙ ap (is_in cs) (one_name d c is) ∙ none
  | false ↦ λ _. refl
] refl

unlisted_item : (cs : List (List ℕ)) (c : List ℕ) (item : Item) → is_listed cs item ≡ true → is_in cs c ≡ false → is_of c item ≡ false
unlisted_item cs c (Event event) here none = unlisted cs c event.channel here none
unlisted_item cs c (Dropped channel first last) here none = unlisted cs c channel here none
unlisted_item cs c (Loose count) here none = refl

pub own_unlisted : (cs : List (List ℕ)) (c : List ℕ) (items : List Item) → list_all (is_listed cs) items ≡ true → is_in cs c ≡ false → own c items ≡ []
own_unlisted cs c [] all none = refl
own_unlisted cs c (item ∷ items) all none =
    let parts = both_true (is_listed cs item) (list_all (is_listed cs) items) all in
    ap (λ t. cond t (item ∷ own c items) (own c items)) (unlisted_item cs c item parts.0 none) ∙ own_unlisted cs c items parts.1 none

loose-append : (front back : List Item) → loose_sum (front ++ back) ≡ loose_sum front + loose_sum back
loose-append [] back = omega arith
loose-append (item ∷ front) back = let rest = loose-append front back in omega arith

not_loose : (c : List ℕ) (item : Item) → is_of c item ≡ true → loose_of item ≡ 0
not_loose c (Event event) is = refl
not_loose c (Dropped channel first last) is = refl
not_loose c (Loose count) is = apart is

no_loose : (c : List ℕ) (items : List Item) → AllOf c items → loose_sum items ≡ 0
no_loose c [] all = refl
no_loose c (item ∷ items) all = let here = not_loose c item all.0 in let rest = no_loose c items all.1 in omega arith

none_loose : (g : List ℕ → List Item) (cs : List (List ℕ)) → AreOwn g → loose_sum (flat_map g cs) ≡ 0
none_loose g [] all = refl
none_loose g (c ∷ cs) all =
    let here = no_loose c (g c) (all c) in
    let rest = none_loose g cs all in
    loose-append (g c) (flat_map g cs) ∙ omega arith

-- the first of all items count nothing as gone
pub front_not_loose : (g : List ℕ → List Item) (cs : List (List ℕ)) (front back : List Item) → AreOwn g → front ++ back ≡ flat_map g cs → loose_sum front ≡ 0
front_not_loose g cs front back all parts =
    let sum = sym (loose-append front back) ∙ ap loose_sum parts ∙ none_loose g cs all in
    omega arith
