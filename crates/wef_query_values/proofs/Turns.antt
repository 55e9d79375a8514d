-- A turn of the loops over the children or attributes of a node.
use Rattle.std.proofs.Common.{◌≡◌, ℕ, ◌+◌, ◌<◌, ◌≤◌, Bool, true, false, List, [], ◌∷◌, ◌++◌, get_or, length, map, replicate, take, drop, subst, sym, ◌∙◌, ap}
use Rattle.std.specs.List.{list_any}
use Rattle.std.proofs.Math.Seq.{take-length}
use Rattle.wef_query_paths.specs.declared.path.Predicate.{Predicate}
use Rattle.wef_query_paths.specs.declared.path.Step.{Step, out-Step}
use Rattle.wef_query_values.specs.Places.{Place}
use Rattle.wef_query_values.specs.Meaning.{Finds, after, goes, holds, left_by, somes}
use Rattle.wef_query_values.specs.Walk.{AllIgnore, AreCounts, ahead, leaves, tests}
use Rattle.wef_query_values.proofs.Ahead.{ahead_all, ahead_front, slots_of}
use Rattle.wef_query_values.proofs.Counting.{counts_passes, counts_start}
use Rattle.wef_query_values.proofs.Layers.{goes_out}
use Rattle.wef_query_values.proofs.Leaving.{asked_next, count_no, count_yes, found, found_fails, found_front, found_gone, found_here, found_none, leaves_gone, left_none, tests_gone}
use Rattle.wef_query_values.proofs.Placeless.{ignores_at}

-- the first predicates of a step, where they are read from its list
pub passed : (s : Step) (k : ℕ) (ps : List Predicate) (xs : List Place) (y : Place) (b r : Bool) → ps ≡ (out-Step s).predicates → b ≡ leaves (map holds (take k ps)) xs y → b ≡ r
    → leaves (tests s k) xs y ≡ r
passed s k ps xs y b r same is value = ap (λ qs. leaves (map holds (take k qs)) xs y) (sym same) ∙ sym is ∙ value

pub stays_all : (s : Step) (ps : List Predicate) (xs : List Place) (y : Place) (b r : Bool) → ps ≡ (out-Step s).predicates → b ≡ leaves (tests s (length ps)) xs y → b ≡ r
    → leaves (map holds (out-Step s).predicates) xs y ≡ r
stays_all s ps xs y b r same is value =
    ap (λ qs. leaves (map holds qs) xs y) (sym (take-length (out-Step s).predicates) ∙ ap (λ qs. take (length qs) (out-Step s).predicates) (sym same)) ∙ sym is ∙ value

-- one predicate more of a step, which is asked with some number that does for its place
pub stays_next : (s : Step) (k : ℕ) (ps : List Predicate) (d : Predicate) (xs : List Place) (y : Place) (place : ℕ) (b : Bool) → ps ≡ (out-Step s).predicates → k < length (out-Step s).predicates
    → d ≡ get_or ps k d → leaves (tests s k) xs y ≡ true
    → holds (get_or (out-Step s).predicates k d) y place ≡ holds (get_or (out-Step s).predicates k d) y (length (left_by (tests s k) xs) + 1) → b ≡ holds d y place
    → leaves (tests s (k + 1)) xs y ≡ b
stays_next s k ps d xs y place b same h is stays placed asked =
    asked_next (out-Step s).predicates k d xs y place b h (is ∙ ap (λ qs. get_or qs k d) same) stays placed asked

-- one predicate more of those that ignore a node's place
pub passes_next : (ps : List Predicate) (k : ℕ) (d : Predicate) (xs : List Place) (y : Place) (b : Bool) → k < length ps → d ≡ get_or ps k d → AllIgnore (map holds ps)
    → leaves (map holds (take k ps)) xs y ≡ true → b ≡ holds d y 1 → leaves (map holds (take (k + 1) ps)) xs y ≡ b
passes_next ps k d xs y b h is ignore stays asked =
    asked_next ps k d xs y 1 b h is stays (ignores_at holds ps k d h ignore y 1 (length (left_by (map holds (take k ps)) xs) + 1)) asked

-- of the first children or attributes none leads to a node that passes, and the counters count them
abbrev pub NoneSoFar : (Place → Bool) → List Finds → Step → Place → ℕ → ℕ → List ℕ → ℕ → Type 0
NoneSoFar w ss s x k e counts at = record {
  counts : AreCounts s k e (ahead s x at) counts;
  none : found w ss (map holds (out-Step s).predicates) (ahead s x at) ≡ false;
}

pub none_start : (w : Place → Bool) (ss : List Finds) (s : Step) (x : Place) (k e n : ℕ) → NoneSoFar w ss s x k e (replicate n 0) 0
none_start w ss s x k e n = record {
  counts = counts_start s k e n;
  none = found_none w ss (map holds (out-Step s).predicates);
}

pub none_skipped : (w : Place → Bool) (ss : List Finds) (s : Step) (x : Place) (k e : ℕ) (counts : List ℕ) (at : ℕ) → NoneSoFar w ss s x k e counts at → ahead s x (at + 1) ≡ ahead s x at
    → NoneSoFar w ss s x k e counts (at + 1)
none_skipped w ss s x k e counts at so same = record {
  counts = subst (λ xs. AreCounts s k e xs counts) (sym same) so.counts;
  none = ap (found w ss (map holds (out-Step s).predicates)) same ∙ so.none;
}

pub none_passes : (w : Place → Bool) (ss : List Finds) (s : Step) (x : Place) (k e : ℕ) (counts : List ℕ) (at : ℕ) (y : Place) → NoneSoFar w ss s x k e counts at
    → ahead s x (at + 1) ≡ ahead s x at ++ (y ∷ []) → leaves (tests s k) (ahead s x at) y ≡ false → NoneSoFar w ss s x k e counts (at + 1)
none_passes w ss s x k e counts at y so more gone = record {
  counts = subst (λ xs. AreCounts s k e xs counts) (sym more) (counts_passes s k e (ahead s x at) y counts gone so.counts);
  none = ap (found w ss (map holds (out-Step s).predicates)) more ∙ found_gone w ss (map holds (out-Step s).predicates) (ahead s x at) y (leaves_gone (out-Step s).predicates k (ahead s x at) y gone) so.none;
}

pub none_stays : (w : Place → Bool) (ss : List Finds) (s : Step) (x : Place) (k e : ℕ) (counts next : List ℕ) (at : ℕ) (y : Place) → NoneSoFar w ss s x k e counts at
    → ahead s x (at + 1) ≡ ahead s x at ++ (y ∷ []) → AreCounts s k e (ahead s x at ++ (y ∷ [])) next → leaves (map holds (out-Step s).predicates) (ahead s x at) y ≡ false
    → NoneSoFar w ss s x k e next (at + 1)
none_stays w ss s x k e counts next at y so more are gone = record {
  counts = subst (λ xs. AreCounts s k e xs next) (sym more) are;
  none = ap (found w ss (map holds (out-Step s).predicates)) more ∙ found_gone w ss (map holds (out-Step s).predicates) (ahead s x at) y gone so.none;
}

pub none_reached : (w : Place → Bool) (ss : List Finds) (s : Step) (x : Place) (k e : ℕ) (counts next : List ℕ) (at : ℕ) (y : Place) → NoneSoFar w ss s x k e counts at
    → ahead s x (at + 1) ≡ ahead s x at ++ (y ∷ []) → AreCounts s k e (ahead s x at ++ (y ∷ [])) next → list_any w (after ss (y ∷ [])) ≡ false → NoneSoFar w ss s x k e next (at + 1)
none_reached w ss s x k e counts next at y so more are fails = record {
  counts = subst (λ xs. AreCounts s k e xs next) (sym more) are;
  none = ap (found w ss (map holds (out-Step s).predicates)) more ∙ found_fails w ss (map holds (out-Step s).predicates) (ahead s x at) y fails so.none;
}

-- of the first children or attributes so many stay by the predicates before e, and the counters count them
abbrev pub LeftSoFar : Step → Place → ℕ → ℕ → List ℕ → ℕ → ℕ → Type 0
LeftSoFar s x k e counts left at = record {
  counts : AreCounts s k e (ahead s x at) counts;
  stay : left ≡ length (left_by (tests s e) (ahead s x at));
}

pub left_start : (s : Step) (x : Place) (k e n : ℕ) → LeftSoFar s x k e (replicate n 0) 0 0
left_start s x k e n = record {
  counts = counts_start s k e n;
  stay = ap length (sym (left_none (tests s e)));
}

pub left_skipped : (s : Step) (x : Place) (k e : ℕ) (counts : List ℕ) (left at : ℕ) → LeftSoFar s x k e counts left at → ahead s x (at + 1) ≡ ahead s x at → LeftSoFar s x k e counts left (at + 1)
left_skipped s x k e counts left at so same = record {
  counts = subst (λ xs. AreCounts s k e xs counts) (sym same) so.counts;
  stay = so.stay ∙ ap (λ xs. length (left_by (tests s e) xs)) (sym same);
}

pub left_passes : (s : Step) (x : Place) (k e : ℕ) (counts : List ℕ) (left at : ℕ) (y : Place) → k ≤ e → LeftSoFar s x k e counts left at → ahead s x (at + 1) ≡ ahead s x at ++ (y ∷ [])
    → leaves (tests s k) (ahead s x at) y ≡ false → LeftSoFar s x k e counts left (at + 1)
left_passes s x k e counts left at y under so more gone = record {
  counts = subst (λ xs. AreCounts s k e xs counts) (sym more) (counts_passes s k e (ahead s x at) y counts gone so.counts);
  stay = so.stay ∙ sym (ap (λ xs. length (left_by (tests s e) xs)) more ∙ count_no (tests s e) (ahead s x at) y (tests_gone s k e (ahead s x at) y under gone));
}

pub left_goes : (s : Step) (x : Place) (k e : ℕ) (counts next : List ℕ) (left at : ℕ) (y : Place) → LeftSoFar s x k e counts left at → ahead s x (at + 1) ≡ ahead s x at ++ (y ∷ [])
    → AreCounts s k e (ahead s x at ++ (y ∷ [])) next → leaves (tests s e) (ahead s x at) y ≡ false → LeftSoFar s x k e next left (at + 1)
left_goes s x k e counts next left at y so more are gone = record {
  counts = subst (λ xs. AreCounts s k e xs next) (sym more) are;
  stay = so.stay ∙ sym (ap (λ xs. length (left_by (tests s e) xs)) more ∙ count_no (tests s e) (ahead s x at) y gone);
}

pub left_stays : (s : Step) (x : Place) (k e : ℕ) (counts next : List ℕ) (left at : ℕ) (y : Place) → LeftSoFar s x k e counts left at → ahead s x (at + 1) ≡ ahead s x at ++ (y ∷ [])
    → AreCounts s k e (ahead s x at ++ (y ∷ [])) next → leaves (tests s e) (ahead s x at) y ≡ true → LeftSoFar s x k e next (left + 1) (at + 1)
left_stays s x k e counts next left at y so more are stays = record {
  counts = subst (λ xs. AreCounts s k e xs next) (sym more) are;
  stay = ap (λ n. n + 1) so.stay ∙ sym (ap (λ xs. length (left_by (tests s e) xs)) more ∙ count_yes (tests s e) (ahead s x at) y stays);
}

-- ---- the end

pub reached : (w : Place → Bool) (ss : List Finds) (s : Step) (x : Place) (at : ℕ) (y : Place) → ahead s x (at + 1) ≡ ahead s x at ++ (y ∷ [])
    → leaves (map holds (out-Step s).predicates) (ahead s x at) y ≡ true → list_any w (after ss (y ∷ [])) ≡ true → list_any w (after ss (goes s x)) ≡ true
reached w ss s x at y more stays here =
    ap (λ xs. list_any w (after ss xs)) (goes_out s x) ∙ ap (found w ss (map holds (out-Step s).predicates)) (sym (ahead_front s x (at + 1)))
    ∙ found_front w ss (map holds (out-Step s).predicates) (ahead s x (at + 1)) (somes (drop (at + 1) (slots_of s x)))
    (ap (found w ss (map holds (out-Step s).predicates)) more ∙ found_here w ss (map holds (out-Step s).predicates) (ahead s x at) y stays here)

pub none_reached_at_all : (w : Place → Bool) (ss : List Finds) (s : Step) (x : Place) (at : ℕ) → length (slots_of s x) ≤ at → found w ss (map holds (out-Step s).predicates) (ahead s x at) ≡ false
    → list_any w (after ss (goes s x)) ≡ false
none_reached_at_all w ss s x at h none =
    ap (λ xs. list_any w (after ss xs)) (goes_out s x) ∙ ap (found w ss (map holds (out-Step s).predicates)) (sym (ahead_all s x at h)) ∙ none
