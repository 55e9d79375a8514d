-- Loops whose turns say whether they go on: what each turn keeps, all keep.
use Rattle.std.proofs.Common.{◌≡◌, ℕ, zero, suc, Bool, true, false, cond, refl, sym, ◌∙◌, subst}
use Rattle.wef_machine.specs.Rounds.{Turn, turned}

pub turned_keeps : (S : Type 0) (P : S → Type 0) (turn : S → Turn S) → ((s : S) → P s → P (turn s).0) → (n : ℕ) (s : S) → P s → P (turned turn n s)
turned_keeps S P turn keeps zero s is = is
turned_keeps S P turn keeps (suc n) s is = by_test (turn s).1 (keeps s is) (turned_keeps S P turn keeps n (turn s).0 (keeps s is))
  where
    by_test : (t : Bool) → P (turn s).0 → P (turned turn n (turn s).0) → P (cond t (turned turn n (turn s).0) (turn s).0)
    by_test true here rest = rest
    by_test false here rest = here

-- A loop of one thing goes as that of another, of which each turn shows the same.
pub record AreAlike (S R : Type 0) (shown : S → R) (turn : S → Turn S) (other : R → Turn R) : Type 0 where
  pub same : (s : S) → shown (turn s).0 ≡ (other (shown s)).0
  pub goes : (s : S) → (turn s).1 ≡ (other (shown s)).1

pub turned_alike : (S R : Type 0) (shown : S → R) (turn : S → Turn S) (other : R → Turn R) → AreAlike S R shown turn other → (n : ℕ) (s : S) →
    shown (turned turn n s) ≡ turned other n (shown s)
turned_alike S R shown turn other alike zero s = refl
turned_alike S R shown turn other alike (suc n) s =
    by_test (turn s).1
    ∙ ((λ i. cond (alike.goes s i) (shown (turned turn n (turn s).0)) (shown (turn s).0))
    ∙ ((λ i. cond (other (shown s)).1 (turned_alike S R shown turn other alike n (turn s).0 i) (alike.same s i))
    ∙ (λ i. cond (other (shown s)).1 (turned other n (alike.same s i)) (other (shown s)).0)))
  where
    by_test : (t : Bool) → shown (cond t (turned turn n (turn s).0) (turn s).0) ≡ cond t (shown (turned turn n (turn s).0)) (shown (turn s).0)
    by_test true = refl
    by_test false = refl
