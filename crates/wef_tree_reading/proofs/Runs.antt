-- What is read at once is what is read character by character.
use Rattle.std.proofs.Common.{◌≡◌, ℕ, suc, ◌+◌, ◌<◌, ◌≤◌, ◌==◌, Bool, true, false, cond, List, [], ◌∷◌, ◌++◌, length, take, drop, encode_utf8, encode_utf8_all, refl, sym, ap, ◌∙◌, append_assoc, append-nil, length-drop, subst, arith, eq-eqb}
use Rattle.std.specs.Prelude.{Option, Some, None, ◌&&◌, ◌||◌, not, is_some, map, if◌then◌else◌}
use Rattle.std.proofs.lemmas.Bool.Decides.{nat_tests}
use Rattle.std.specs.List.{prefix_len}
use Rattle.std.specs.Option.{option_map}
use Rattle.wef_base.specs.Characters.{is_xml_char}
use Rattle.wef_base.specs.Names.{is_space, without_start}
use Rattle.wef_xml.specs.Fronts.{strip}
use Rattle.wef_tree_pieces.specs.Pieces.{markup_at, piece_at}
use Rattle.wef_tree_pieces.specs.References.{reference_at}
use Rattle.wef_tree_pieces.specs.declared.pieces.Piece.{Piece}
use Rattle.wef_tree_pieces.specs.declared.pieces.Piece.TheVariants.{Letter, Reference}
use Rattle.wef_tree_pieces.proofs.Runs.{one_more}
use Rattle.wef_tree_reading.specs.Building.{is_outside, taken}
use Rattle.wef_tree_reading.specs.Runs.{is_letter}
use Rattle.wef_tree_reading.specs.Spelling.{Leads}
use Rattle.wef_tree_reading.specs.declared.building.Builder.{Builder}

turned_round : (c d : ℕ) → (c == d) ≡ false → (d == c) ≡ false
turned_round c d f = grind (arith, nat_tests, f)

-- a character by itself is a letter
letter_piece : (c : ℕ) (cs : List ℕ) → is_letter c ≡ true → piece_at (c ∷ cs) ≡ Some (Letter c, cs)
unfolding piece_at
letter_piece c cs = by (c == 60) (c == 38) (c == 93) (is_xml_char c) refl
  where
    by : (l a b x : Bool) → (c == 93) ≡ b → (not (l || a || b) && x) ≡ true →
        cond {A = Option (Piece × List ℕ)} l (markup_at cs) (cond a (option_map (λ read. (Reference read.0, read.1)) (reference_at cs)) (cond (x && not (is_some (cond (93 == c) (strip (93 ∷ 62 ∷ []) cs) None))) (Some (Letter c, cs)) None))
        ≡ Some (Letter c, cs)
    by true a b x f e = absurd cc
    by false true b x f e = absurd cc
    by false false true x f e = absurd cc
    by false false false false f e = absurd cc
    by false false false true f e = rw (turned_round c 93 f) refl

-- letters inside an element are text of it
abbrev grown : Builder → List ℕ → Builder
grown b [] = b
grown b (c ∷ cs) = grown (record b { begun = true; text = b.text ++ encode_utf8 c }) cs

abbrev with_one : Builder → ℕ → Builder
with_one b c = record b { begun = true; text = b.text ++ encode_utf8 c }

abbrev LeadsBehind : ℕ → List ℕ → Builder → Type 0
LeadsBehind n cs b = Leads b (map Letter (take n cs)) cs (grown b (take n cs)) (drop n cs)

letter_taken : (b : Builder) (c : ℕ) → is_outside b ≡ false → taken b (Letter c) ≡ Some (with_one b c)
unfolding taken
letter_taken b c inside = rw inside refl

letters_lead : (cs : List ℕ) (b : Builder) → is_outside b ≡ false → LeadsBehind (prefix_len is_letter cs) cs b
letters_lead [] b inside = (refl, refl)
letters_lead (c ∷ cs) b inside = by (is_letter c) refl (letters_lead cs (with_one b c) inside)
  where
    by : (is : Bool) → is_letter c ≡ is → LeadsBehind (prefix_len is_letter cs) cs (with_one b c) →
        LeadsBehind (cond is (1 + prefix_len is_letter cs) 0) (c ∷ cs) b
    by true e more =
        let P : ℕ → Type 0 = λ m. LeadsBehind m (c ∷ cs) b in
        subst P (sym (one_more (prefix_len is_letter cs))) (with_one b c, cs, letter_piece c cs e, letter_taken b c inside, more)
    by false e more = (refl, refl)

-- what grows by letters has all of them at its end
grown_is : (cs : List ℕ) (b : Builder) → grown (record b { begun = true }) cs ≡ record b { begun = true; text = b.text ++ encode_utf8_all cs }
grown_is [] b = ap (λ (t : List ℕ). record b { begun = true; text = t }) (sym (append-nil b.text))
grown_is (c ∷ cs) b = grown_is cs (with_one b c) ∙ ap (λ (t : List ℕ). record b { begun = true; text = t }) (append_assoc b.text (encode_utf8 c) (encode_utf8_all cs))

first_grown : (c : ℕ) (cs : List ℕ) (b : Builder) → grown b (c ∷ cs) ≡ record b { begun = true; text = b.text ++ encode_utf8_all (c ∷ cs) }
first_grown c cs b = grown_is (c ∷ cs) b

is_inside : (b : Builder) → ¬ (length b.around ≡ 0) → is_outside b ≡ false
is_inside b h = grind (arith, nat_tests, h)

-- Letters inside an element were taken at once.
pub letters_walk : (text behind letters : List ℕ) (n : ℕ) (before after : Builder) → n ≡ prefix_len is_letter text → ¬ (n ≡ 0) → ¬ (length before.around ≡ 0) →
    letters ≡ take n text → behind ≡ drop n text → after ≡ record before { begun = true; text = before.text ++ encode_utf8_all letters } →
    (ps : List Piece) × (Leads before ps text after behind) × (length behind < length text)
letters_walk [] behind letters n before after is some inside front back now = absurd (some is)
letters_walk (c ∷ cs) behind letters n before after is some inside front back now = by (is_letter c) refl
  where
    by : (here : Bool) → is_letter c ≡ here → (ps : List Piece) × (Leads before ps (c ∷ cs) after behind) × (length behind < length (c ∷ cs))
    by true e =
        let k = prefix_len is_letter cs in
        let count : prefix_len is_letter (c ∷ cs) ≡ suc k = (λ i. cond (e i) (1 + k) 0) ∙ one_more k in
        let P : ℕ → Type 0 = λ m. LeadsBehind m (c ∷ cs) before in
        let leads : LeadsBehind (suc k) (c ∷ cs) before = subst P count (letters_lead (c ∷ cs) before (is_inside before inside)) in
        let front_is : letters ≡ c ∷ take k cs = front ∙ ap (λ m. take m (c ∷ cs)) (is ∙ count) in
        let back_is : behind ≡ drop k cs = back ∙ ap (λ m. drop m (c ∷ cs)) (is ∙ count) in
        let now_is : after ≡ grown before (c ∷ take k cs) =
        now ∙ ap (λ (ls : List ℕ). record before { begun = true; text = before.text ++ encode_utf8_all ls }) front_is ∙ sym (first_grown c (take k cs) before) in
        let Q : Builder → Type 0 = λ b. Leads before (map Letter (c ∷ take k cs)) (c ∷ cs) b (drop k cs) in
        let R : List ℕ → Type 0 = λ rest. Leads before (map Letter (c ∷ take k cs)) (c ∷ cs) after rest in
        let shorter : length behind < length (c ∷ cs) = let l = length-drop k cs in let same = ap length back_is in omega arith in
        (map Letter (c ∷ take k cs), subst R (sym back_is) (subst Q (sym now_is) leads), shorter)
    by false e = absurd (some (is ∙ (λ i. cond (e i) (1 + prefix_len is_letter cs) 0)))

space_is_letter : (c : ℕ) → is_space c ≡ true → is_letter c ≡ true
space_is_letter c h = grind (arith, nat_tests, h)

space_taken : (b : Builder) (c : ℕ) → is_outside b ≡ true → is_space c ≡ true → taken b (Letter c) ≡ Some (record b { begun = true })
unfolding taken
space_taken b c outside h = rw outside (rw h refl)

-- the spaces that a text begins with, as pieces
abbrev spaces : List ℕ → List Piece
spaces [] = []
spaces (c ∷ cs) = if is_space c then Letter c ∷ spaces cs else []

-- spaces outside of the root change nothing, once a piece has come
spaces_lead : (cs : List ℕ) (b : Builder) → is_outside b ≡ true → Leads (record b { begun = true }) (spaces cs) cs (record b { begun = true }) (without_start cs)
spaces_lead [] b outside = (refl, refl)
spaces_lead (c ∷ cs) b outside = by (is_space c) refl (spaces_lead cs b outside)
  where
    by : (is : Bool) → is_space c ≡ is → Leads (record b { begun = true }) (spaces cs) cs (record b { begun = true }) (without_start cs) →
        Leads (record b { begun = true }) (cond is (Letter c ∷ spaces cs) []) (c ∷ cs) (record b { begun = true }) (cond is (without_start cs) (c ∷ cs))
    by true e more = (record b { begun = true }, cs, letter_piece c cs (space_is_letter c e), space_taken (record b { begun = true }) c outside e, more)
    by false e more = (refl, refl)

start_no_longer : (cs : List ℕ) → length (without_start cs) ≤ length cs
start_no_longer [] = omega arith
start_no_longer (c ∷ cs) = by (is_space c) (start_no_longer cs)
  where
    by : (is : Bool) → length (without_start cs) ≤ length cs → length (cond is (without_start cs) (c ∷ cs)) ≤ suc (length cs)
    by true h = omega arith
    by false h = omega arith

-- Spaces outside of the root were taken at once.
pub spaces_walk : (text behind : List ℕ) (before after : Builder) → behind ≡ without_start text → ¬ (length behind ≡ length text) → length before.around ≡ 0 →
    after ≡ record before { begun = true } → (ps : List Piece) × (Leads before ps text after behind) × (length behind < length text)
spaces_walk [] behind before after back some outside now = absurd (some (ap length back))
spaces_walk (c ∷ cs) behind before after back some outside now = by (is_space c) refl
  where
    by : (here : Bool) → is_space c ≡ here → (ps : List Piece) × (Leads before ps (c ∷ cs) after behind) × (length behind < length (c ∷ cs))
    by true e =
        let is_out : is_outside before ≡ true = eq-eqb (length before.around) 0 outside in
        let back_is : behind ≡ without_start cs = back ∙ (λ i. cond (e i) (without_start cs) (c ∷ cs)) in
        let leads : Leads before (Letter c ∷ spaces cs) (c ∷ cs) (record before { begun = true }) (without_start cs) =
        (record before { begun = true }, cs, letter_piece c cs (space_is_letter c e), space_taken before c is_out e, spaces_lead cs before is_out) in
        let Q : Builder → Type 0 = λ b. Leads before (Letter c ∷ spaces cs) (c ∷ cs) b (without_start cs) in
        let R : List ℕ → Type 0 = λ rest. Leads before (Letter c ∷ spaces cs) (c ∷ cs) after rest in
        let shorter : length behind < length (c ∷ cs) = let l = start_no_longer cs in let same = ap length back_is in omega arith in
        (Letter c ∷ spaces cs, subst R (sym back_is) (subst Q (sym now) leads), shorter)
    by false e = absurd (some (ap length (back ∙ (λ i. cond (e i) (without_start cs) (c ∷ cs)))))
