-- Counters of the nodes that come to predicates, node by node and predicate by predicate.
use Rattle.std.proofs.Common.{◌≡◌, ℕ, ◌+◌, ◌-◌, ◌<◌, ◌≤◌, inl, inr, true, false, List, [], ◌∷◌, ◌++◌, get_or, length, replicate, sym, ◌∙◌, ap, subst, arith}
use Rattle.std.proofs.Math.Nat.{eq-or-lt_of_le}
use Rattle.std.proofs.lemmas.Bool.{cases_lt}
use Rattle.std.proofs.lemmas.List.{get_or-replicate, length-replicate, get_or-set_other, get_or-set_same, length-set}
use Rattle.wef_query_paths.specs.declared.path.Step.{Step}
use Rattle.wef_query_values.specs.Places.{Place}
use Rattle.wef_query_values.specs.Meaning.{left_by}
use Rattle.wef_query_values.specs.Walk.{AreCounts, ahead, leaves, raised, tests}
use Rattle.wef_query_values.proofs.Ahead.{ahead_within}
use Rattle.wef_query_values.proofs.Leaving.{count_no, count_yes, left_none, left_within, tests_gone}

-- a node is counted at the predicates before i, which leave it, and not yet at the others
abbrev pub IsCounted : Step → ℕ → ℕ → ℕ → List Place → Place → List ℕ → Type 0
IsCounted s k e i xs x counts = record {
  stays : leaves (tests s i) xs x ≡ true;
  before : (j : ℕ) → j < length counts → k + j < i → get_or counts j 0 ≡ length (left_by (tests s (k + j)) (xs ++ (x ∷ [])));
  behind : (j : ℕ) → j < length counts → i ≤ k + j → k + j < e → get_or counts j 0 ≡ length (left_by (tests s (k + j)) xs);
}

pub counted_start : (s : Step) (k e : ℕ) (xs : List Place) (x : Place) (counts : List ℕ) → leaves (tests s k) xs x ≡ true → AreCounts s k e xs counts → IsCounted s k e k xs x counts
counted_start s k e xs x counts stays are = record {
  stays = stays;
  before = λ j _ under. absurd (omega arith);
  behind = λ j within _ under. are j within under;
}

-- the counter of the predicate at i
raised_here : (s : Step) (k i j : ℕ) (xs : List Place) (x : Place) (counts : List ℕ) → j ≡ i - k → j < length counts → k + j ≡ i → leaves (tests s i) xs x ≡ true
    → get_or counts j 0 ≡ length (left_by (tests s (k + j)) xs) → get_or (raised counts (i - k)) j 0 ≡ length (left_by (tests s (k + j)) (xs ++ (x ∷ [])))
raised_here s k i j xs x counts here within at_i stays old =
    ap (λ m. get_or (raised counts m) j 0) (sym here) ∙ get_or-set_same counts j (get_or counts j 0 + 1) 0 within ∙ ap (λ n. n + 1) old
    ∙ sym (count_yes (tests s (k + j)) xs x (subst (λ m. leaves (tests s m) xs x ≡ true) (sym at_i) stays))

pub counted_next : (s : Step) (k e i : ℕ) (xs : List Place) (x : Place) (counts after : List ℕ) → IsCounted s k e i xs x counts → k ≤ i → i < e → after ≡ raised counts (i - k)
    → leaves (tests s (i + 1)) xs x ≡ true → IsCounted s k e (i + 1) xs x after
counted_next s k e i xs x counts after is under within same stays = subst (IsCounted s k e (i + 1) xs x) (sym same) record {
  stays = stays;
  before = λ j inside h.
      let there : j < length counts = subst (λ n. j < n) (length-set counts (i - k) (get_or counts (i - k) 0 + 1)) inside in
      elim (cases_lt (k + j) i) [
        | inl g ↦ get_or-set_other counts (i - k) j (get_or counts (i - k) 0 + 1) 0 (omega arith) ∙ is.before j there g
        | inr g ↦ raised_here s k i j xs x counts (omega arith) there (omega arith) is.stays (is.behind j there g (omega arith))
      ];
  behind = λ j inside h g.
      let there : j < length counts = subst (λ n. j < n) (length-set counts (i - k) (get_or counts (i - k) 0 + 1)) inside in
      get_or-set_other counts (i - k) j (get_or counts (i - k) 0 + 1) 0 (omega arith) ∙ is.behind j there (omega arith) g;
}

pub counted_gone : (s : Step) (k e i : ℕ) (xs : List Place) (x : Place) (counts after : List ℕ) → IsCounted s k e i xs x counts → k ≤ i → i < e → after ≡ raised counts (i - k)
    → leaves (tests s (i + 1)) xs x ≡ false → AreCounts s k e (xs ++ (x ∷ [])) after
counted_gone s k e i xs x counts after is under within same gone = subst (AreCounts s k e (xs ++ (x ∷ []))) (sym same) (λ j inside h.
    let there : j < length counts = subst (λ n. j < n) (length-set counts (i - k) (get_or counts (i - k) 0 + 1)) inside in
    elim (cases_lt (k + j) i) [
      | inl g ↦ get_or-set_other counts (i - k) j (get_or counts (i - k) 0 + 1) 0 (omega arith) ∙ is.before j there g
      | inr g ↦ elim (eq-or-lt_of_le g) [
        | inl here ↦ raised_here s k i j xs x counts (omega arith) there (sym here) is.stays (is.behind j there g h)
        | inr above ↦
            get_or-set_other counts (i - k) j (get_or counts (i - k) 0 + 1) 0 (omega arith) ∙ is.behind j there g h
            ∙ sym (count_no (tests s (k + j)) xs x (tests_gone s (i + 1) (k + j) xs x (omega arith) gone))
      ]
    ])

pub counts_passes : (s : Step) (k e : ℕ) (xs : List Place) (x : Place) (counts : List ℕ) → leaves (tests s k) xs x ≡ false → AreCounts s k e xs counts → AreCounts s k e (xs ++ (x ∷ [])) counts
counts_passes s k e xs x counts gone are = λ j inside h. are j inside h ∙ sym (count_no (tests s (k + j)) xs x (tests_gone s k (k + j) xs x (omega arith) gone))

pub counts_start : (s : Step) (k e n : ℕ) → AreCounts s k e [] (replicate n 0)
counts_start s k e n = λ j inside h. get_or-replicate n j 0 0 (subst (λ m. j < m) (length-replicate n 0) inside) ∙ ap length (sym (left_none (tests s (k + j))))

-- the counter of the predicate at i, before it is raised
pub counted_here : (s : Step) (k e i : ℕ) (xs : List Place) (x : Place) (counts : List ℕ) → IsCounted s k e i xs x counts → k ≤ i → i < e
    → i - k < length counts → get_or counts (i - k) 0 ≡ length (left_by (tests s i) xs)
counted_here s k e i xs x counts is under within inside =
    let same : k + (i - k) ≡ i = omega arith in
    is.behind (i - k) inside (omega arith) (omega arith) ∙ ap (λ m. length (left_by (tests s m) xs)) same

-- no more nodes are left than there are children or attributes
pub left_at_most : (s : Step) (x : Place) (e left at : ℕ) → left ≡ length (left_by (tests s e) (ahead s x at)) → left ≤ at
left_at_most s x e left at is = omega (arith, is, left_within (tests s e) (ahead s x at), ahead_within s x at)
