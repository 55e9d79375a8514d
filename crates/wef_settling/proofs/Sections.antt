-- A row that stands is among those of each section that its key is in; and what is found among elements is found among those that are
-- made of them.
use Rattle.std.proofs.Common.{◌≡◌, ◌⊎◌, Bool, true, false, cond, List, [], ◌∷◌, inl, inr, map, refl, ap, sym, ◌∙◌}
use Rattle.std.proofs.lemmas.Option.{none-some, same_Some}
use Rattle.std.specs.FinMap as finite
use Rattle.std.specs.FinMap.{find}
use Rattle.std.specs.List.{cons_option, filter, filter_map}
use Rattle.std.specs.Ordering.{eq_by_cmp}
use Rattle.std.specs.Prelude.{Option, Some, None}
use Rattle.wef_collector.proofs.Hits.{one_key}
use Rattle.wef_keeper.specs.Rows.{Rows, is_after, key_cmp, row_of, rows_after}
use Rattle.wef_keeper.specs.Sections.{is_under, rows_under}
use Rattle.wef_keeper.specs.declared.keys.Cell.{Cell}
use Rattle.wef_keeper.specs.declared.keys.Depth.{Depth}
use Rattle.wef_keeper.specs.declared.keys.Key.{Key}
use Rattle.wef_keeper.specs.declared.keys.Row.{Row}
use Rattle.wef_settling.specs.Settles.{IsAmong}

-- ---- elements

pub among_map : {X Y : Type 0} (f : X → Y) (x : X) (xs : List X) → IsAmong x xs → IsAmong (f x) (map f xs)
among_map f x [] among = absurd among
among_map f x (y ∷ ys) (inl is) = inl (ap f is)
among_map f x (y ∷ ys) (inr among) = inr (among_map f x ys among)

pub among_filter : {X : Type 0} (test : X → Bool) (x : X) (xs : List X) → test x ≡ true → IsAmong x xs → IsAmong x (filter test xs)
among_filter test x [] passes among = absurd among
among_filter test x (y ∷ ys) passes among = by_test (test y) refl among (among_filter test x ys passes)
  where
    by_test : (t : Bool) → test y ≡ t → (y ≡ x) ⊎ IsAmong x ys → (IsAmong x ys → IsAmong x (filter test ys)) → IsAmong x (cond t (y ∷ filter test ys) (filter test ys))
    by_test true is (inl own) later = inl own
    by_test true is (inr other) later = inr (later other)
    by_test false is (inl own) later = let no = ap test own ∙ passes in cc
    by_test false is (inr other) later = later other

behind_option : {Y : Type 0} (o : Option Y) (y : Y) (ys : List Y) → (o ≡ Some y) ⊎ IsAmong y ys → IsAmong y (cons_option o ys)
behind_option None y ys (inl is) = absurd (none-some y is)
behind_option None y ys (inr among) = among
behind_option (Some x) y ys (inl is) = inl (same_Some x y is)
behind_option (Some x) y ys (inr among) = inr among

pub among_filter_map : {X Y : Type 0} (f : X → Option Y) (x : X) (y : Y) (xs : List X) → f x ≡ Some y → IsAmong x xs → IsAmong y (filter_map f xs)
among_filter_map f x y [] gives among = absurd among
among_filter_map f x y (z ∷ zs) gives (inl is) = behind_option (f z) y (filter_map f zs) (inl (ap f is ∙ gives))
among_filter_map f x y (z ∷ zs) gives (inr among) = behind_option (f z) y (filter_map f zs) (inr (among_filter_map f x y zs gives among))

-- ---- rows

entry_among : (es : List (Key × Cell)) (q : Key) (cell : Cell) → find key_cmp q es ≡ Some cell → IsAmong (q, cell) es
entry_among [] q cell found = absurd (none-some cell found)
entry_among (e ∷ es) q cell found = by_test (eq_by_cmp key_cmp q e.0) refl found (entry_among es q cell)
  where
    by_test : (t : Bool) → eq_by_cmp key_cmp q e.0 ≡ t → cond t (Some e.1) (find key_cmp q es) ≡ Some cell → (find key_cmp q es ≡ Some cell → IsAmong (q, cell) es) →
        (e ≡ (q, cell)) ⊎ IsAmong (q, cell) es
    by_test true is here later =
        let key = sym (one_key q e.0 is) in
        let same = same_Some e.1 cell here in
        inl (λ i. (key i, same i))
    by_test false is there later = inr (later there)

pub row_among : (depth : Depth) (a : Key) (rows : Rows) (q : Key) (cell : Cell) → is_after a q ≡ true → is_under depth a q ≡ true → finite.get rows q ≡ Some cell →
    IsAmong (row_of (q, cell)) (rows_under depth a rows)
row_among depth a rows q cell after under there =
    among_filter (λ (row : Row). is_under depth a row.key) (row_of (q, cell)) (rows_after a rows) under
    (among_map row_of (q, cell) (filter (λ (e : Key × Cell). is_after a e.0) (finite.entries rows))
    (among_filter (λ (e : Key × Cell). is_after a e.0) (q, cell) (finite.entries rows) after (entry_among (finite.entries rows) q cell (sym (finite.get-entries rows q) ∙ there))))
