-- The items that fit are the longest row of candidates, from the first on, that the limits allow.
use Rattle.std.proofs.Common.{◌≡◌, ℕ, ◌+◌, ◌-◌, ◌<◌, ◌≤◌, true, false, cond, List, [], ◌∷◌, ◌++◌, length, refl, ap, sym, ◌∙◌, arith, nat_lt, nat_le}
use Rattle.std.specs.Prelude.{sum_by}
use Rattle.std.proofs.lemmas.List.Sums.{sum_by-cons}
use Rattle.wef_batch.specs.Cost.{cost}
use Rattle.wef_batch.specs.declared.items.Item.{Item}
use Rattle.wef_building.specs.Building.{built_items, candidates, fitting, has_room, left_items, left_over, room_of}
use Rattle.wef_building.specs.Laws.{BuiltItemsAreInFront, BuiltItemsAreMost, IsFull}
use Rattle.wef_building.specs.declared.sessions.Session.{Session}
use Rattle.wef_building.proofs.Cases.{and_true, both_true, by_test, lt_holds, lt_tested, le_holds, le_fails, apart}

-- what fits, followed by what is left, is all
pub parts : (n k : ℕ) (items : List Item) → fitting n k items ++ left_over n k items ≡ items
parts n k [] = refl
parts n k (i ∷ is) =
    by_test (λ t. cond t (i ∷ fitting (n - 1) (k - cost i) is) [] ++ cond t (left_over (n - 1) (k - cost i) is) (i ∷ is) ≡ i ∷ is) (has_room n k i)
    (λ _. ap (λ rest. i ∷ rest) (parts (n - 1) (k - cost i) is))
    (λ _. refl)

few : (n k : ℕ) (items : List Item) → length (fitting n k items) ≤ n
few n k [] = omega arith
few n k (i ∷ is) =
    by_test (λ t. length (cond t (i ∷ fitting (n - 1) (k - cost i) is) []) ≤ n) (has_room n k i)
    (λ fits. let some = lt_holds 0 n (both_true (nat_lt 0 n) _ fits).0 in let rest = few (n - 1) (k - cost i) is in omega arith)
    (λ _. omega arith)

cheap : (n k : ℕ) (items : List Item) → sum_by cost (fitting n k items) ≤ k
cheap n k [] = omega arith
cheap n k (i ∷ is) =
    by_test (λ t. sum_by cost (cond t (i ∷ fitting (n - 1) (k - cost i) is) []) ≤ k) (has_room n k i)
    (λ fits.
    let room = le_holds (cost i) k (both_true (nat_lt 0 n) (nat_le (cost i) k) fits).1 in
    let rest = cheap (n - 1) (k - cost i) is in
    rw (sum_by-cons cost i (fitting (n - 1) (k - cost i) is)) (omega arith))
    (λ _. omega arith)

-- one item more than those that fit would be too many, or cost too much
abbrev IsFullAt : ℕ → ℕ → List Item → List Item → Type 0
IsFullAt n k items [] = Unit {0}
IsFullAt n k items (next ∷ left) = (length items + 1 ≤ n) → k < sum_by cost (items ++ next ∷ [])

-- with one item in front, and the limits greater by it, it still would
one_more : (n k : ℕ) (i : Item) (items left : List Item) → has_room n k i ≡ true → IsFullAt (n - 1) (k - cost i) items left → IsFullAt n k (i ∷ items) left
one_more n k i items [] fits full = tt
one_more n k i items (next ∷ left) fits full = λ some.
    let room = le_holds (cost i) k (both_true (nat_lt 0 n) (nat_le (cost i) k) fits).1 in
    let over = full (omega arith) in
    rw (sum_by-cons cost i (items ++ next ∷ [])) (omega arith)

none_more : (n k : ℕ) (i : Item) → has_room n k i ≡ false → 0 + 1 ≤ n → k < sum_by cost (i ∷ [])
none_more n k i fails some =
    by_test (λ t. nat_le (cost i) k ≡ t → k < sum_by cost (i ∷ [])) (nat_le (cost i) k)
    (λ _ fits. apart (sym fails ∙ and_true (nat_lt 0 n) (nat_le (cost i) k) (lt_tested 0 n (omega arith)) fits))
    (λ _ over. let more = le_fails (cost i) k over in rw (sum_by-cons cost i []) (omega arith))
    refl

full : (n k : ℕ) (items : List Item) → IsFullAt n k (fitting n k items) (left_over n k items)
full n k [] = tt
full n k (i ∷ is) =
    by_test (λ t. has_room n k i ≡ t → IsFullAt n k (cond t (i ∷ fitting (n - 1) (k - cost i) is) []) (cond t (left_over (n - 1) (k - cost i) is) (i ∷ is))) (has_room n k i)
    (λ _ fits. one_more n k i (fitting (n - 1) (k - cost i) is) (left_over (n - 1) (k - cost i) is) fits (full (n - 1) (k - cost i) is))
    (λ _ fails. none_more n k i fails)
    refl

full_session : (session : Session) (items left : List Item) → IsFullAt session.max_items (room_of session.max_bytes) items left → IsFull session items left
full_session session items [] h = tt
full_session session items (next ∷ left) h = h

pub in_front : BuiltItemsAreInFront
in_front rows session =
    let n = session.max_items in
    let k = room_of session.max_bytes in
    (parts n k (candidates rows session), few n k (candidates rows session), cheap n k (candidates rows session))

pub most : BuiltItemsAreMost
most rows session =
    full_session session (built_items rows session) (left_items rows session) (full session.max_items (room_of session.max_bytes) (candidates rows session))
