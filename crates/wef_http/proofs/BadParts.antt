-- What is malformed, and what ends too soon.
use Rattle.std.proofs.Common.{◌≡◌, ◌⊎◌, refl, sym, ◌∙◌, inl, inr}
use Rattle.wef_http_heads.specs.declared.ends.HttpEnd.{HttpEnd}
use Rattle.wef_http_heads.specs.declared.ends.HttpEnd.TheVariants.{NoMemory, End, BadHead, Method, Path, NoLength, TooLarge, Media, Cut, ReadFault}
use Rattle.wef_http.specs.Chunks.{BadOrCut}

pub which : {Bad Waits : Type 0} (e : HttpEnd) → BadOrCut Bad Waits e → ((e ≡ BadHead) × Bad) ⊎ ((e ≡ Cut) × Waits)
which BadHead refused = inl (refl, refused)
which Cut refused = inr (refl, refused)
which NoMemory refused = absurd refused
which End refused = absurd refused
which Method refused = absurd refused
which Path refused = absurd refused
which NoLength refused = absurd refused
which TooLarge refused = absurd refused
which Media refused = absurd refused
which ReadFault refused = absurd refused

-- what is neither is no refusal
pub neither : {Bad Waits : Type 0} (e : HttpEnd) → (Bad → ⊥) → (Waits → ⊥) → BadOrCut Bad Waits e → ⊥
neither {Bad} {Waits} e good whole refused = by (which e refused)
  where
    by : ((e ≡ BadHead) × Bad) ⊎ ((e ≡ Cut) × Waits) → ⊥
    by (inl bad) = good bad.1
    by (inr cut) = whole cut.1

-- the two are never there at once, so there is one reason
pub one_of_two : {Bad Waits : Type 0} (e f : HttpEnd) → (Bad → Waits → ⊥) → BadOrCut Bad Waits e → BadOrCut Bad Waits f → e ≡ f
one_of_two {Bad} {Waits} e f apart refused also = by (which e refused) (which f also)
  where
    by : ((e ≡ BadHead) × Bad) ⊎ ((e ≡ Cut) × Waits) → ((f ≡ BadHead) × Bad) ⊎ ((f ≡ Cut) × Waits) → e ≡ f
    by (inl (is, bad)) (inl (are, again)) = is ∙ sym are
    by (inl (is, bad)) (inr (are, waits)) = absurd (apart bad waits)
    by (inr (is, waits)) (inl (are, bad)) = absurd (apart bad waits)
    by (inr (is, waits)) (inr (are, again)) = is ∙ sym are
