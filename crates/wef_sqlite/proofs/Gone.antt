-- A table loses the rows whose rowids are those of the rows that pass a test.
use Rattle.std.proofs.Common.{◌≡◌, ℤ, Bool, true, false, not, ◌&&◌, ◌||◌, cond, List, [], ◌∷◌, filter, refl, sym, ap, subst, ◌∙◌, inl, inr, Ordering, Less, Equal, Greater, is_eq, true≢false}
use Rattle.std.proofs.lemmas.Cmp.{tied_itself}
use Rattle.std.specs.List.{list_any}
use Rattle.sqlite_rules.proofs.ListLemmas.{all_has, all_from, some_has, some_from}
use Rattle.sqlite_rules.proofs.PlaceLemmas.{tied_same}
use Rattle.sqlite_rules.proofs.TableLemmas.{int_is}
use Rattle.sqlite_rules.specs.Calls.{ids_of}
use Rattle.sqlite_rules.specs.Edit.{id_in, without_all}
use Rattle.sqlite_rules.specs.Lists.{Has}
use Rattle.sqlite_trees.proofs.ListLemmas.{filter_all, filter_same, all_of}
use Rattle.sqlite_trees.specs.Tree.{rowid, has_rowid, without_rowid}
use Rattle.sqlite_trees.specs.View.{IsShaped}
use Rattle.sqlite_trees.specs.declared.store.Shape.TheVariants.{Table}
use Rattle.sqlite_value.proofs.OrderLemmas.{value_cmp_total}
use Rattle.sqlite_value.specs.Order.{Row as Columns, value_cmp}
use Rattle.sqlite_value.specs.declared.value.Value.TheVariants.{Int}

-- rows of rowids are those of the rows that pass
pub record AreIds (p : Columns → Bool) (rows found : List Columns) : Type 0 where
  pub sound : (x : Columns) → Has found x → (r : Columns) × Has rows r × (p r ≡ true) × (x ≡ rowid r ∷ [])
  pub complete : (r : Columns) → Has rows r → p r ≡ true → Has found (rowid r ∷ [])

filter_twice : {A : Type 0} (p q : A → Bool) (xs : List A) → filter p (filter q xs) ≡ filter (λ x. q x && p x) xs
filter_twice p q [] = refl
filter_twice p q (x ∷ xs) = go (filter_twice p q xs) (q x)
  where
    go : filter p (filter q xs) ≡ filter (λ y. q y && p y) xs → (b : Bool) → filter p (cond b (x ∷ filter q xs) (filter q xs)) ≡ cond (b && p x) (x ∷ filter (λ y. q y && p y) xs) (filter (λ y. q y && p y) xs)
    go more true = ap (λ l. cond (p x) (x ∷ l) l) more
    go more false = more

not_either : (a b : Bool) → (not a && not b) ≡ not (a || b)
not_either true b = refl
not_either false b = refl

-- the row has one of the rowids
abbrev is_among : List ℤ → Columns → Bool
is_among ids r = list_any (λ id. has_rowid id r) ids

left_is : (rows : List Columns) (ids : List ℤ) → without_all rows ids ≡ filter (λ r. not (is_among ids r)) rows
left_is rows [] = sym (filter_all (λ r. true) rows (all_of _ (λ r. refl) rows))
left_is rows (id ∷ ids) =
    left_is (without_rowid id rows) ids
    ∙ filter_twice (λ r. not (is_among ids r)) (λ r. not (has_rowid id r)) rows
    ∙ filter_same _ (λ r. not (is_among (id ∷ ids) r)) rows (all_of _ (λ r. not_either (has_rowid id r) (is_among ids r)) rows)

same_tests : (a b : Bool) → (a ≡ true → b ≡ true) → (b ≡ true → a ≡ true) → a ≡ b
same_tests true true f g = refl
same_tests true false f g = sym (f refl)
same_tests false true f g = g refl
same_tests false false f g = refl

pub equal_is : (o : Ordering) → is_eq o ≡ true → o ≡ Equal
equal_is Less h = absurd (true≢false (sym h))
equal_is Equal h = refl
equal_is Greater h = absurd (true≢false (sym h))

id_has : (ids : List Columns) (x : Columns) → Has ids x → Has (ids_of ids) (id_in (rowid x))
id_has [] x h = absurd h
id_has (y ∷ ids) x (inl e) = inl (ap (λ c. id_in (rowid c)) e)
id_has (y ∷ ids) x (inr h) = inr (id_has ids x h)

has_id : (ids : List Columns) (id : ℤ) → Has (ids_of ids) id → (x : Columns) × Has ids x × (id ≡ id_in (rowid x))
has_id [] id h = absurd h
has_id (y ∷ ids) id (inl e) = (y, inl refl, e)
has_id (y ∷ ids) id (inr h) = let it = has_id ids id h in (it.0, inr it.1, it.2)

-- what is left without them are the rows that don't pass
pub gone_is : (p : Columns → Bool) (rows found : List Columns) → IsShaped Table rows → AreIds p rows found → without_all rows (ids_of found) ≡ filter (λ r. not (p r)) rows
gone_is p rows found shaped ids =
    left_is rows (ids_of found)
    ∙ filter_same _ (λ r. not (p r)) rows (all_from _ rows (λ r here. ap not (sym (same_tests (p r) (is_among (ids_of found) r)
    (λ passes.
    let listed = id_has found (rowid r ∷ []) (ids.complete r here passes) in
    some_from (λ id. has_rowid id r) (ids_of found) (id_in (rowid r)) listed
    (ap (λ v. is_eq (value_cmp (rowid r) v)) (sym (int_is (rowid r) (all_has _ rows r shaped.1 here))) ∙ ap is_eq (tied_itself value_cmp_total (rowid r))))
    (λ among.
    let some = some_has (λ id. has_rowid id r) (ids_of found) among in
    let at = has_id found some.0 some.1 in
    let from = ids.sound at.0 at.1 in
    let keyed : Int some.0 ≡ rowid from.0 = ap Int (at.2 ∙ ap (λ c. id_in (rowid c)) from.3) ∙ sym (int_is (rowid from.0) (all_has _ rows from.0 shaped.1 from.1)) in
    let tie = subst (λ v. value_cmp (rowid r) v ≡ Equal) keyed (equal_is _ some.2) in
    ap p (tied_same rows r from.0 shaped.0 here from.1 tie) ∙ from.2)))))
