-- Where a request stands among those that wait, and where one goes.
use Rattle.std.proofs.Common.{◌≡◌, ℕ, suc, ◌+◌, cond, Bool, true, false, List, [], ◌∷◌, ◌++◌, get_or, set, refl, ap, sym, subst, ◌∙◌, Some, None, arith}
use Rattle.std.specs.List.{insert, position, position_from, remove}
use Rattle.std.specs.Ordering.{is_eq, is_le}
use Rattle.std.specs.declared.cmp.Ordering.{Ordering}
use Rattle.std.specs.declared.cmp.Ordering.TheVariants.{Less, Equal, Greater}
use Rattle.std.proofs.lemmas.Iterator.Adapters.{position_from-zero}
use Rattle.wef_collector_leases.specs.Waiting.{first_of, has_id, pair_cmp, placed, stands_at, with_waiting, without_first}
use Rattle.wef_collector_leases.specs.declared.waiting.Waiting.{Waiting}

-- ---- how two compare

less_where : (r : Ordering) → is_le r ≡ true → is_eq r ≡ false → r ≡ Less
less_where Less le ne = refl
less_where Equal le ne = cc
less_where Greater le ne = cc

greater_where : (r : Ordering) → is_le r ≡ false → r ≡ Greater
greater_where Less le = cc
greater_where Equal le = cc
greater_where Greater le = refl

pub equal_where : (r : Ordering) → is_eq r ≡ true → r ≡ Equal
equal_where Less eq = cc
equal_where Equal eq = refl
equal_where Greater eq = cc

-- ---- the first that passes a test, of which more is known by the place

placed_from : (test : Waiting → Bool) (P : List Waiting → ℕ → Type 0) → ((w : Waiting) (ws : List Waiting) → test w ≡ true → P (w ∷ ws) 0)
    → ((w : Waiting) (ws : List Waiting) (k : ℕ) → test w ≡ false → P ws k → P (w ∷ ws) (suc k))
    → (ws : List Waiting) (n i : ℕ) → position_from test n ws ≡ Some i → (k : ℕ) × (i ≡ n + k) × P ws k
placed_from test P here further [] n i e = cc
placed_from test P here further (w ∷ ws) n i e = by (placed_from test P here further ws (n + 1) i) (test w) refl e
  where
    by : (position_from test (n + 1) ws ≡ Some i → (k : ℕ) × (i ≡ n + 1 + k) × P ws k) → (b : Bool) → test w ≡ b → cond b (Some n) (position_from test (n + 1) ws) ≡ Some i → (k : ℕ) × (i ≡ n + k) × P (w ∷ ws) k
    by behind true is found = let same : n ≡ i = cc in (0, omega arith, here w ws is)
    by behind false is found =
        let rest = behind found in
        (suc rest.0, omega (arith, rest.1), further w ws rest.0 is rest.2)

placed_at : (test : Waiting → Bool) (P : List Waiting → ℕ → Type 0) → ((w : Waiting) (ws : List Waiting) → test w ≡ true → P (w ∷ ws) 0)
    → ((w : Waiting) (ws : List Waiting) (k : ℕ) → test w ≡ false → P ws k → P (w ∷ ws) (suc k))
    → (ws : List Waiting) (k : ℕ) → position test ws ≡ Some k → P ws k
placed_at test P here further ws k e =
    let found = placed_from test P here further ws 0 k (sym (position_from-zero test ws) ∙ e) in
    let same : found.0 ≡ k = omega (arith, found.1) in
    subst (P ws) same found.2

nowhere_from : (test : Waiting → Bool) (P : List Waiting → Type 0) → P [] → ((w : Waiting) (ws : List Waiting) → test w ≡ false → P ws → P (w ∷ ws))
    → (ws : List Waiting) (n : ℕ) → position_from test n ws ≡ None → P ws
nowhere_from test P none further [] n e = none
nowhere_from test P none further (w ∷ ws) n e = by (nowhere_from test P none further ws (n + 1)) (test w) refl e
  where
    by : (position_from test (n + 1) ws ≡ None → P ws) → (b : Bool) → test w ≡ b → cond b (Some n) (position_from test (n + 1) ws) ≡ None → P (w ∷ ws)
    by behind true is found = cc
    by behind false is found = further w ws is (behind found)

nowhere : (test : Waiting → Bool) (P : List Waiting → Type 0) → P [] → ((w : Waiting) (ws : List Waiting) → test w ≡ false → P ws → P (w ∷ ws))
    → (ws : List Waiting) → position test ws ≡ None → P ws
nowhere test P none further ws e = nowhere_from test P none further ws 0 (sym (position_from-zero test ws) ∙ e)

-- ---- taking one out

record IsFirst (id : ℕ) (ws : List Waiting) (k : ℕ) : Type 0 where
  found : (d : Waiting) → first_of id ws ≡ Some (get_or ws k d)
  others : without_first id ws ≡ remove ws k

first_at : (id : ℕ) (ws : List Waiting) (k : ℕ) → position (has_id id) ws ≡ Some k → IsFirst id ws k
first_at id = placed_at (has_id id) (IsFirst id)
    (λ w ws is. record { found = λ d. rw is refl; others = rw is refl })
    (λ w ws k is rest. record { found = λ d. rw is (rest.found d); others = rw is (ap (λ more. w ∷ more) rest.others) })

pub taken_at : (id : ℕ) (ws : List Waiting) (k : ℕ) (w : Waiting) → position (has_id id) ws ≡ Some k → w ≡ get_or ws k w → Some w ≡ first_of id ws
taken_at id ws k w e read = sym ((first_at id ws k e).found w ∙ ap Some (sym read))

pub left_at : (id : ℕ) (ws : List Waiting) (k : ℕ) → position (has_id id) ws ≡ Some k → remove ws k ≡ without_first id ws
left_at id ws k e = sym (first_at id ws k e).others

pub none_taken : (id : ℕ) (ws : List Waiting) → position (has_id id) ws ≡ None → None ≡ first_of id ws
none_taken id = nowhere (has_id id) (λ ws. None ≡ first_of id ws) refl (λ w ws is rest. rw is rest)

pub all_left : (id : ℕ) (ws : List Waiting) → position (has_id id) ws ≡ None → ws ≡ without_first id ws
all_left id = nowhere (has_id id) (λ ws. ws ≡ without_first id ws) refl (λ w ws is rest. rw is (ap (λ more. w ∷ more) rest))

-- ---- putting one at its place

record IsPlace (new : Waiting) (ws : List Waiting) (k : ℕ) : Type 0 where
  over : (d : Waiting) → is_eq (pair_cmp new (get_or ws k d)) ≡ true → set ws k new ≡ with_waiting ws new
  before : (d : Waiting) → is_eq (pair_cmp new (get_or ws k d)) ≡ false → insert ws k new ≡ with_waiting ws new

by_order : (new w : Waiting) (ws : List Waiting) (r : Ordering) → pair_cmp new w ≡ r → placed r new w ws (with_waiting ws new) ≡ with_waiting (w ∷ ws) new
by_order new w ws r is = sym (ap (λ o. placed o new w ws (with_waiting ws new)) is)

place_at : (new : Waiting) (ws : List Waiting) (k : ℕ) → position (stands_at new) ws ≡ Some k → IsPlace new ws k
place_at new = placed_at (stands_at new) (IsPlace new)
    (λ w ws is. record {
      over = λ d eq. by_order new w ws Equal (equal_where (pair_cmp new w) eq);
      before = λ d ne. by_order new w ws Less (less_where (pair_cmp new w) is ne);
    })
    (λ w ws k is rest. record {
      over = λ d eq. ap (λ more. w ∷ more) (rest.over d eq) ∙ by_order new w ws Greater (greater_where (pair_cmp new w) is);
      before = λ d ne. ap (λ more. w ∷ more) (rest.before d ne) ∙ by_order new w ws Greater (greater_where (pair_cmp new w) is);
    })

pub put_over : (new : Waiting) (ws : List Waiting) (k : ℕ) (w : Waiting) → position (stands_at new) ws ≡ Some k → w ≡ get_or ws k w → is_eq (pair_cmp new w) ≡ true → set ws k new ≡ with_waiting ws new
put_over new ws k w e read eq = (place_at new ws k e).over w (subst (λ (x : Waiting). is_eq (pair_cmp new x) ≡ true) read eq)

pub put_before : (new : Waiting) (ws : List Waiting) (k : ℕ) (w : Waiting) → position (stands_at new) ws ≡ Some k → w ≡ get_or ws k w → is_eq (pair_cmp new w) ≡ false → insert ws k new ≡ with_waiting ws new
put_before new ws k w e read ne = (place_at new ws k e).before w (subst (λ (x : Waiting). is_eq (pair_cmp new x) ≡ false) read ne)

pub put_last : (new : Waiting) (ws : List Waiting) → position (stands_at new) ws ≡ None → ws ++ new ∷ [] ≡ with_waiting ws new
put_last new = nowhere (stands_at new) (λ ws. ws ++ new ∷ [] ≡ with_waiting ws new) refl
    (λ w ws is rest. ap (λ more. w ∷ more) rest ∙ by_order new w ws Greater (greater_where (pair_cmp new w) is))
