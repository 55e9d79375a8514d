-- Connections that are served one after the other, each with what is sent behind it.
use Rattle.std.proofs.Common.{◌≡◌, ◌⊎◌, inl, inr, ℕ, suc, ◌+◌, ◌<◌, ◌≤◌, List, [], ◌∷◌, ◌++◌, length, refl, ap, sym, subst, ◌∙◌, append_assoc, append-nil, arith}
use Rattle.std.specs.Io.KnownBytes.{Appends}
use Rattle.std.specs.Prelude.{Option, Some, None, Result, Ok, Err}
use Rattle.wef_commands.proofs.Written.{both, nothing}
use Rattle.wef_commands.specs.Endings.{Told}
use Rattle.wef_commands.specs.declared.ending.Ending.{Ending}
use Rattle.wef_commands.specs.declared.ending.Ending.TheVariants as ends
use Rattle.wef_running.specs.Forwarding.{IsSent}
use Rattle.wef_subscribing.proofs.Behind.{fails_from}
use Rattle.wef_subscribing.specs.Serving.{AreRounds, IsRound, Listening, Round, RoundEnds, RoundFailsBy, ServesAll, ServingStopsBy, round_text, rounds_text}
use Rattle.wef_subscribing.specs.Serving.{no_round, one_round}

module _ (clock : Option ℕ) where
  -- So many connections were served and told, each with what was sent behind it.
  abbrev pub SoFar : Option (List ℕ) → Option (List ℕ) → Listening → ℕ → Listening → Type 0
  SoFar a b x n y = (rs : List Round) × (length rs ≡ n) × AreRounds (IsSent clock) clock x rs y × Appends a b (rounds_text 1 rs)

  pub none_yet : (a : Option (List ℕ)) (x : Listening) → SoFar a a x 0 x
  none_yet a x = ([], refl, no_round x, nothing a)

  one_more : {x y : Listening} {rs : List Round} (z : Listening) (r : Round) → AreRounds (IsSent clock) clock x rs y → IsRound (IsSent clock) clock y r z → AreRounds (IsSent clock) clock x (rs ++ r ∷ []) z
  one_more z r (no_round x) is = one_round x z z r [] is (no_round z)
  one_more z r (one_round x v y q qs first are) is = one_round x v z q (qs ++ r ∷ []) first (one_more z r are is)

  length_more : (rs : List Round) (r : Round) → length (rs ++ r ∷ []) ≡ length rs + 1
  length_more [] r = refl
  length_more (q ∷ qs) r = let more = length_more qs r in omega (arith, more)

  shifted : (n m : ℕ) → suc n + m ≡ n + suc m
  shifted n m = omega arith

  text_more : (n : ℕ) (rs : List Round) (r : Round) → rounds_text n (rs ++ r ∷ []) ≡ rounds_text n rs ++ round_text (n + length rs) r
  text_more n [] r = append-nil (round_text n r) ∙ ap (λ (k : ℕ). round_text k r) (omega arith)
  text_more n (q ∷ qs) r =
      ap (λ (text : List ℕ). round_text n q ++ text) (text_more (suc n) qs r)
      ∙ sym (append_assoc (round_text n q) (rounds_text (suc n) qs) (round_text (suc n + length qs) r))
      ∙ ap (λ (k : ℕ). (round_text n q ++ rounds_text (suc n) qs) ++ round_text k r) (shifted n (length qs))

  -- one more was, and told
  pub one_further : (now_clock : Option ℕ) (a b c : Option (List ℕ)) (m k n : ℕ) (x y z : Listening) → now_clock ≡ clock
      → SoFar a b x n y → RoundEnds now_clock (n + 1) (Ok tt) (record { before = b; after = c; faults_before = m; faults_after = k }) y z → SoFar a c x (n + 1) z
  one_further now_clock a b c m k n x y z same (rs, long, are, told) (r, is, tells) =
      let is_now : IsRound (IsSent clock) clock y r z = subst (λ (t : Option ℕ). IsRound (IsSent t) t y r z) same is in
      let number : n + 1 ≡ 1 + length rs = omega (arith, long) in (
        rs ++ r ∷ [],
        length_more rs r ∙ ap (λ (l : ℕ). l + 1) long,
        one_more z r are is_now,
        subst (Appends a c) (sym (text_more 1 rs r ∙ ap (λ (l : ℕ). rounds_text 1 rs ++ round_text l r) (sym number)))
            (both a b c (rounds_text 1 rs) (round_text (n + 1) r) told tells),
      )

  -- it ends at the next one
  pub round_fails : (now_clock : Option ℕ) (a b c : Option (List ℕ)) (m k l count n : ℕ) (x y z : Listening) (ending : Ending) → now_clock ≡ clock → m ≤ k
      → SoFar a b x n y → n < count → RoundEnds now_clock (n + 1) (Err ending) (record { before = b; after = c; faults_before = k; faults_after = l }) y z
      → ServesAll clock [] count ending (record { before = a; after = c; faults_before = m; faults_after = l }) x z
  round_fails now_clock a b c m k l count n x y z ending same later (rs, long, are, told) below fails =
      let out : Told = record { before = a; after = c; faults_before = m; faults_after = l } in
      let text = rounds_text 1 rs in
      let inner : Told = record { before = b; after = c; faults_before = k; faults_after = l } in
      let number : n + 1 ≡ suc (length rs) = omega (arith, long) in
      let now_fails : RoundFailsBy (IsSent clock) clock (n + 1) [] ending inner y z = subst (λ (t : Option ℕ). RoundFailsBy (IsSent t) t (n + 1) [] ending inner y z) same fails in
      let behind : RoundFailsBy (IsSent clock) clock (n + 1) text ending out y z =
      subst (λ (t : List ℕ). RoundFailsBy (IsSent clock) clock (n + 1) t ending out y z) (append-nil text) (fails_from a b c m k l text later told (IsSent clock) clock (n + 1) [] ending y z now_fails) in
      record {
        rounds = rs;
        mid = y;
        are_served = are;
        stops = inr (subst (λ (j : ℕ). j < count) (sym long) below, subst (λ (j : ℕ). RoundFailsBy (IsSent clock) clock j text ending out y z) number behind);
      }

  -- all were served
  pub all_served : (a b : Option (List ℕ)) (m k count : ℕ) (x y : Listening) → SoFar a b x count y
      → ServesAll clock [] count ends.Done (record { before = a; after = b; faults_before = m; faults_after = k }) x y
  all_served a b m k count x y (rs, long, are, told) = record { rounds = rs; mid = y; are_served = are; stops = inl (long, refl, refl, told) }
