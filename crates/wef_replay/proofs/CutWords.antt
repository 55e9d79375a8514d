-- A word that is cut at its first three colons says what its pieces between all colons say.
use Rattle.std.proofs.Common.{◌≡◌, ℕ, ◌==◌, Bool, true, false, ◌&&◌, ◌||◌, cond, List, [], ◌∷◌, refl, ap, sym, ◌∙◌, append-nil, arith}
use Rattle.std.specs.Cmp.Lexicographic.{nat_list_eq_equiv}
use Rattle.std.specs.List.{list_any, onto_first}
use Rattle.std.specs.Prelude.{None, codes, not}
use Rattle.std.proofs.lemmas.Bool.Decides.{nat_tests}
use Rattle.wef_base.specs.Names.{same}
use Rattle.wef_base.specs.Words.{parts}
use Rattle.wef_replay_values.specs.Values.{joined}
use Rattle.wef_replay.specs.BatchWords.{dropped_word, event_word, if_word, is_nothing, long_word, word_of}
use Rattle.wef_replay.specs.Pieces.{dropped_in, event_in, is_colon}
use Rattle.wef_replay.proofs.Cuts.{has_first}

-- ---- a text and its parts

some_part : (text : List ℕ) → is_nothing (parts 58 text) ≡ false
some_part text = ap is_nothing (has_first 58 text).are

same_byte : (b c : ℕ) → (b == c) ≡ true → b ≡ c
same_byte b c e = grind (arith, nat_tests, e)

-- the parts, joined
abbrev whole : List (List ℕ) → List ℕ
whole [] = []
whole (piece ∷ pieces) = joined 58 piece pieces

whole_parts : (text : List ℕ) → whole (parts 58 text) ≡ text
whole_parts [] = refl
whole_parts (b ∷ bs) = by (b == 58) refl (parts 58 bs) (some_part bs) (whole_parts bs)
  where
    by : (ends : Bool) → (b == 58) ≡ ends → (ps : List (List ℕ)) → is_nothing ps ≡ false → whole ps ≡ bs → whole (cond ends ([] ∷ ps) (onto_first b ps)) ≡ b ∷ bs
    by ends e [] none is = cc none
    by true e (p ∷ ps) some is = λ i. sym (same_byte b 58 e) i ∷ is i
    by false e (p ∷ ps) some is = ap (λ text. b ∷ text) is

-- all but the first
abbrev behind : List (List ℕ) → List (List ℕ)
behind [] = []
behind (piece ∷ pieces) = pieces

behind_parts : (text : List ℕ) → is_nothing (behind (parts 58 text)) ≡ not (list_any is_colon text)
behind_parts [] = refl
behind_parts (b ∷ bs) = by (b == 58) (parts 58 bs) (some_part bs) (behind_parts bs)
  where
    by : (ends : Bool) → (ps : List (List ℕ)) → is_nothing ps ≡ false → is_nothing (behind ps) ≡ not (list_any is_colon bs)
        → is_nothing (behind (cond ends ([] ∷ ps) (onto_first b ps))) ≡ not (ends || list_any is_colon bs)
    by ends [] none is = cc none
    by true (p ∷ ps) some is = some
    by false (p ∷ ps) some is = is

-- ---- the words of four pieces or more

both : (kind : List ℕ) → same kind (codes "e") ≡ true → same kind (codes "d") ≡ true → false ≡ true
both kind e d = sym (nat_list_eq_equiv.congr kind (codes "e") (codes "d") e) ∙ d

only_piece : (text piece : List ℕ) (more : List (List ℕ)) → joined 58 piece more ≡ text → is_nothing more ≡ true → text ≡ piece
only_piece text piece [] is nothing = sym is ∙ append-nil piece
only_piece text piece (p ∷ more) is nothing = cc nothing

four : (kind channel number text piece : List ℕ) (more : List (List ℕ)) → parts 58 text ≡ piece ∷ more
    → cond (same kind (codes "e")) (event_in channel number text) (if_word kind (codes "d") (dropped_in channel number text)) ≡ long_word kind channel number piece more
four kind channel number text piece more cut = by (same kind (codes "e")) (same kind (codes "d")) refl refl
  where
    is : joined 58 piece more ≡ text
    is = sym (ap whole cut) ∙ whole_parts text

    nothing : is_nothing more ≡ not (list_any is_colon text)
    nothing = sym (ap (λ ps. is_nothing (behind ps)) cut) ∙ behind_parts text

    dropped : (colon : Bool) → list_any is_colon text ≡ colon → cond colon None (dropped_word channel number text) ≡ cond (is_nothing more) (dropped_word channel number piece) None
    dropped true some = ap (λ b. cond b (dropped_word channel number piece) None) (sym (nothing ∙ ap not some))
    dropped false none =
        ap (dropped_word channel number) (only_piece text piece more is (nothing ∙ ap not none)) ∙ ap (λ b. cond b (dropped_word channel number piece) None) (sym (nothing ∙ ap not none))

    by : (e d : Bool) → same kind (codes "e") ≡ e → same kind (codes "d") ≡ d
        → cond e (event_in channel number text) (cond d (dropped_in channel number text) None) ≡ cond (d && is_nothing more) (dropped_word channel number piece) (cond e (event_word channel number piece more) None)
    by true true is_e is_d = cc (both kind is_e is_d)
    by true false is_e is_d = ap (event_in channel number) (sym is)
    by false true is_e is_d = dropped (list_any is_colon text) refl
    by false false is_e is_d = refl

pub four_pieces : (word kind channel number text : List ℕ) → parts 58 word ≡ kind ∷ channel ∷ number ∷ parts 58 text
    → cond (same kind (codes "e")) (event_in channel number text) (if_word kind (codes "d") (dropped_in channel number text)) ≡ word_of (parts 58 word)
four_pieces word kind channel number text cut =
    let some = has_first 58 text in
    four kind channel number text some.first some.more some.are ∙ sym (ap word_of (cut ∙ ap (λ ps. kind ∷ channel ∷ number ∷ ps) some.are))
