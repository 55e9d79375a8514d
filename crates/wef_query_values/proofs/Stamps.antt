-- The instant that is read byte by byte is the one that its text is.
use Rattle.std.proofs.Common.{◌≡◌, ℕ, ◌+◌, ◌<◌, ◌≤◌, Bool, true, false, cond, List, [], ◌∷◌, ◌++◌, length, refl, ap, sym, ◌∙◌, arith, append_assoc, append-nil, length-append}
use Rattle.std.specs.Prelude.{ℤ, Option, None, nat_lt}
use Rattle.std.specs.List.{fold}
use Rattle.std.proofs.lemmas.Bool.Decides.{nat_tests}
use Rattle.wef_base.specs.Names.{is_space, without_end, without_start}
use Rattle.wef_times.specs.Instants.{instant_at}
use Rattle.wef_times.proofs.InstantTexts.{no_instant_past_35, no_instant_with_space}
use Rattle.wef_query_values.specs.Comparisons.{instant_of_text}
use Rattle.wef_query_values.specs.Stamps.{Kept, Ended, Other, instant_taken, take_byte}
use Rattle.wef_query_values.proofs.Ends.{ends, ends_by, goes_on, other}

other_stays : (cs : List ℕ) → instant_taken (fold take_byte Other cs) ≡ None
other_stays [] = refl
other_stays (c ∷ cs) = by_space (is_space c) (other_stays cs)
  where
    by_space : (t : Bool) → instant_taken (fold take_byte Other cs) ≡ None → instant_taken (fold take_byte (cond t Other Other) cs) ≡ None
    by_space true e = e
    by_space false e = e

-- an instant, unless something stands behind it
abbrev unless_more : Option ℤ → List ℕ → Option ℤ
unless_more o [] = o
unless_more o (c ∷ cs) = None

ended_is : (taken cs : List ℕ) → instant_taken (fold take_byte (Ended taken) cs) ≡ unless_more (instant_at taken) (without_end cs)
ended_is taken [] = refl
ended_is taken (c ∷ cs) =
    by_space (is_space c) (without_end cs) (ended_is taken cs) ∙ ap (unless_more (instant_at taken)) (sym (ends c (without_end cs)))
  where
    by_space : (t : Bool) (ys : List ℕ) → instant_taken (fold take_byte (Ended taken) cs) ≡ unless_more (instant_at taken) ys →
        instant_taken (fold take_byte (cond t (Ended taken) Other) cs) ≡ unless_more (instant_at taken) (ends_by t c ys)
    by_space true [] e = e
    by_space true (d ∷ ds) e = e
    by_space false [] e = other_stays cs
    by_space false (d ∷ ds) e = other_stays cs

from_below : (n l : ℕ) → nat_lt n l ≡ true → n < l
from_below n l h = grind (arith, nat_tests)

from_not_below : (n l : ℕ) → nat_lt n l ≡ false → l ≤ n
from_not_below n l h = grind (arith, nat_tests)

kept_is : (k : ℕ) (ks cs : List ℕ) → instant_taken (fold take_byte (Kept (k ∷ ks)) cs) ≡ instant_at ((k ∷ ks) ++ without_end cs)
kept_is k ks [] = ap instant_at (sym (append-nil (k ∷ ks)))
kept_is k ks (c ∷ cs) =
    by_space (is_space c) refl (kept_is k (ks ++ c ∷ []) cs) ∙ ap (λ ys. instant_at ((k ∷ ks) ++ ys)) (sym (ends c (without_end cs)))
  where
    spaced : (ys : List ℕ) → is_space c ≡ true → unless_more (instant_at (k ∷ ks)) ys ≡ instant_at ((k ∷ ks) ++ ends_by true c ys)
    spaced [] space = ap instant_at (sym (append-nil (k ∷ ks)))
    spaced (d ∷ ds) space = sym (no_instant_with_space (k ∷ ks) (d ∷ ds) c space)

    by_room : (t : Bool) → nat_lt (length (k ∷ ks)) 35 ≡ t →
        instant_taken (fold take_byte (Kept (k ∷ (ks ++ c ∷ []))) cs) ≡ instant_at ((k ∷ (ks ++ c ∷ [])) ++ without_end cs) →
        instant_taken (fold take_byte (cond t (Kept ((k ∷ ks) ++ c ∷ [])) Other) cs) ≡ instant_at ((k ∷ ks) ++ c ∷ without_end cs)
    by_room true room e = e ∙ ap (λ ys. instant_at (k ∷ ys)) (append_assoc ks (c ∷ []) (without_end cs))
    by_room false room e =
        let full : 35 ≤ length (k ∷ ks) = from_not_below (length (k ∷ ks)) 35 room in
        let lengths : length ((k ∷ ks) ++ c ∷ without_end cs) ≡ length (k ∷ ks) + length (c ∷ without_end cs) = length-append (k ∷ ks) (c ∷ without_end cs) in
        other_stays cs ∙ sym (no_instant_past_35 ((k ∷ ks) ++ c ∷ without_end cs) (omega arith))

    by_space : (t : Bool) → is_space c ≡ t →
        instant_taken (fold take_byte (Kept (k ∷ (ks ++ c ∷ []))) cs) ≡ instant_at ((k ∷ (ks ++ c ∷ [])) ++ without_end cs) →
        instant_taken (fold take_byte (cond t (Ended (k ∷ ks)) (cond (nat_lt (length (k ∷ ks)) 35) (Kept ((k ∷ ks) ++ c ∷ [])) Other)) cs)
        ≡ instant_at ((k ∷ ks) ++ ends_by t c (without_end cs))
    by_space true space e = ended_is (k ∷ ks) cs ∙ spaced (without_end cs) space
    by_space false space e =
        by_room (nat_lt (length (k ∷ ks)) 35) refl e ∙ ap (λ ys. instant_at ((k ∷ ks) ++ ys)) (sym (goes_on c (without_end cs)))

empty_is : (cs : List ℕ) → instant_taken (fold take_byte (Kept []) cs) ≡ instant_at (without_end (without_start cs))
empty_is [] = refl
empty_is (c ∷ cs) = by_space (is_space c) refl (empty_is cs)
  where
    by_space : (t : Bool) → is_space c ≡ t → instant_taken (fold take_byte (Kept []) cs) ≡ instant_at (without_end (without_start cs)) →
        instant_taken (fold take_byte (cond t (Kept []) (Kept (c ∷ []))) cs) ≡ instant_at (without_end (cond t (without_start cs) (c ∷ cs)))
    by_space true space e = e
    by_space false space e = kept_is c [] cs ∙ ap instant_at (sym (other c (without_end cs) space))

pub instant_is : (text : List ℕ) → instant_taken (fold take_byte (Kept []) text) ≡ instant_of_text text
unfolding instant_of_text
instant_is text = empty_is text
