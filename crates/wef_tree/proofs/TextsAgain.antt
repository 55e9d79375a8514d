-- What is written of a text is read as the text: its characters, the references for some of them, and the two forms in
-- which it stands, between tags and in a value.
use Rattle.std.proofs.Common.{◌≡◌, ℕ, zero, suc, ◌<◌, ◌==◌, Bool, true, false, ◌&&◌, ◌||◌, not, is_some, cond, if◌then◌else◌, List, [], ◌∷◌, ◌++◌, length, codes, encode_utf8, encode_utf8_all, Option, Some, None, refl, ap, sym, subst, ◌∙◌, append_assoc, append-nil, length-append, arith}
use Rattle.std.specs.List.{flat_map, list_all}
use Rattle.std.specs.Option.{option_map, option_and_then}
use Rattle.std.specs.Str.{all_scalars, chars}
use Rattle.std.proofs.Math.Utf8.{scalar}
use Rattle.std.proofs.lemmas.Bool.{and_from, and_parts, eqb-true}
use Rattle.std.proofs.lemmas.Bool.Decides.{nat_tests}
use Rattle.std.proofs.lemmas.Str.{chars-encodes}
use Rattle.wef_base.specs.Characters.{is_xml_char}
use Rattle.wef_base.specs.Names.{is_space}
use Rattle.wef_tree_reading.specs.Building.{is_outside, taken}
use Rattle.wef_xml.specs.Canonical.{text_char, value_char, value_of}
use Rattle.wef_xml.specs.Fronts.{strip}
use Rattle.wef_xml.specs.Good.{IsLocalName, IsXmlText}
use Rattle.wef_xml.specs.Letters.{is_name_char, is_name_start}
use Rattle.wef_tree_pieces.specs.Names.{with_front}
use Rattle.wef_tree_pieces.specs.Pieces.{markup_at, piece_at}
use Rattle.wef_tree_pieces.specs.References.{reference_at}
use Rattle.wef_tree_reading.specs.Spelling.{Leads}
use Rattle.wef_tree_pieces.specs.Tags.{value_in, value_on, value_turn}
use Rattle.wef_tree_reading.specs.declared.building.Builder.{Builder}
use Rattle.wef_tree_pieces.specs.declared.pieces.Piece.{Piece}
use Rattle.wef_tree_pieces.specs.declared.pieces.Piece.TheVariants.{Letter, Reference}
use Rattle.wef_tree.proofs.Spelled.{TextAgain}

-- characters

-- a character of XML is one that UTF-8 can spell, and those of names are characters of XML
pub xml_is_scalar : (c : ℕ) → is_xml_char c ≡ true → scalar c ≡ true
xml_is_scalar c h = grind (arith, nat_tests)

pub start_is_xml : (c : ℕ) → is_name_start c ≡ true → is_xml_char c ≡ true
start_is_xml c h = grind (arith, nat_tests)

pub name_is_xml : (c : ℕ) → is_name_char c ≡ true → is_xml_char c ≡ true
name_is_xml c h = grind (arith, nat_tests)

-- what all of some characters are, where each that is one is the other
all_by : (p q : ℕ → Bool) → ((c : ℕ) → p c ≡ true → q c ≡ true) → (cs : List ℕ) → list_all p cs ≡ true → list_all q cs ≡ true
all_by p q so [] h = refl
all_by p q so (c ∷ cs) h = let parts = and_parts (p c) (list_all p cs) h in and_from _ _ (so c parts.0) (all_by p q so cs parts.1)

pub scalars_are : (cs : List ℕ) → list_all is_xml_char cs ≡ true → all_scalars cs ≡ true
scalars_are [] h = refl
scalars_are (c ∷ cs) h = let parts = and_parts (is_xml_char c) (list_all is_xml_char cs) h in and_from _ _ (xml_is_scalar c parts.0) (scalars_are cs parts.1)

-- the characters of a text, and of a name
pub text_chars : (text : List ℕ) (good : IsXmlText text) → chars text ≡ good.characters
text_chars text good = ap chars good.spelt ∙ chars-encodes good.characters (scalars_are good.characters good.allowed)

pub name_chars : (name : List ℕ) (good : IsLocalName name) → chars name ≡ good.first ∷ good.more
name_chars name good =
    ap chars good.spelt ∙ chars-encodes (good.first ∷ good.more)
    (scalars_are (good.first ∷ good.more) (and_from _ _ (start_is_xml good.first good.begins) (all_by is_name_char is_xml_char name_is_xml good.more good.goes_on)))

-- a choice by a test, whatever it tells
by_case : (P : List ℕ → Type 0) (t : Bool) (x y : List ℕ) → (t ≡ true → P x) → (t ≡ false → P y) → P (cond t x y)
by_case P true x y so otherwise = so refl
by_case P false x y so otherwise = otherwise refl

-- a true test tells the character
at_test : (P : ℕ → Type 0) (n c : ℕ) → P n → (c == n) ≡ true → P c
at_test P n c p e = subst P (sym (eqb-true c n e)) p

-- a test of two numbers, the other way round
other_way : (n c : ℕ) → (c == n) ≡ false → (n == c) ≡ false
other_way n c e = grind (arith, nat_tests)

-- What holds of each form in which a character stands between two tags: of the six references, and of the character
-- itself where it is none of these six.
by_form :
    (P : ℕ → List ℕ → Type 0) (c : ℕ) → P 38 (codes "&amp;") → P 60 (codes "&lt;") → P 62 (codes "&gt;") → P 9 (codes "&#x9;") → P 10 (codes "&#xA;") → P 13 (codes "&#xD;") →
    ((c == 38) ≡ false → (c == 60) ≡ false → (c == 62) ≡ false → (c == 9) ≡ false → (c == 10) ≡ false → P c (c ∷ [])) →
    P c (text_char c)
by_form P c amp lt gt tab lf cr plain =
    by_case (P c) (c == 38) _ _ (at_test (λ n. P n (codes "&amp;")) 38 c amp) (λ no_amp.
    by_case (P c) (c == 60) _ _ (at_test (λ n. P n (codes "&lt;")) 60 c lt) (λ no_lt.
    by_case (P c) (c == 62) _ _ (at_test (λ n. P n (codes "&gt;")) 62 c gt) (λ no_gt.
    by_case (P c) (c == 9) _ _ (at_test (λ n. P n (codes "&#x9;")) 9 c tab) (λ no_tab.
    by_case (P c) (c == 10) _ _ (at_test (λ n. P n (codes "&#xA;")) 10 c lf) (λ no_lf.
    by_case (P c) (c == 13) _ _ (at_test (λ n. P n (codes "&#xD;")) 13 c cr) (λ _. plain no_amp no_lt no_gt no_tab no_lf))))))

-- values

-- this stands for this character at the front of a value
abbrev ValueOne : List ℕ → ℕ → List ℕ → Type 0
ValueOne rest c front = value_turn 34 (front ++ rest) ≡ Some (Some c, rest)

-- a character that no reference stands for, in a value
plain_value : (c : ℕ) (rest : List ℕ) → (c == 34) ≡ false → (c == 38) ≡ false → (c == 60) ≡ false → (c == 9) ≡ false → (c == 10) ≡ false → is_xml_char c ≡ true → ValueOne rest c (c ∷ [])
plain_value c rest no_quote no_amp no_lt no_tab no_lf allowed =
    λ i. cond (no_quote i) (Some (None, rest)) (cond (no_amp i) (option_map (λ read. (Some read.0, read.1)) (reference_at rest)) (cond (no_lt i) None (cond (allowed i) (Some (Some (cond (no_tab i || no_lf i) 32 c), rest)) None)))

-- each character, as it stands in a value
value_one : (c : ℕ) (rest : List ℕ) → is_xml_char c ≡ true → ValueOne rest c (value_char c)
unfolding reference_at
value_one c rest allowed =
    by_case (ValueOne rest c) (c == 34) (codes "&quot;") (text_char c) (at_test (λ n. ValueOne rest n (codes "&quot;")) 34 c refl) (λ no_quote.
    by_form (ValueOne rest) c refl refl refl refl refl refl (λ no_amp no_lt no_gt no_tab no_lf. plain_value c rest no_quote no_amp no_lt no_tab no_lf allowed))

-- the characters of a value, and its end
value_in_again : (cs : List ℕ) (n : ℕ) (rest : List ℕ) → list_all is_xml_char cs ≡ true → length cs < n → value_in n 34 (flat_map value_char cs ++ 34 ∷ rest) ≡ Some (encode_utf8_all cs, rest)
value_in_again cs zero rest allowed h = absurd (omega arith)
value_in_again [] (suc n) rest allowed h = refl
value_in_again (c ∷ cs) (suc n) rest allowed h =
    let parts = and_parts (is_xml_char c) (list_all is_xml_char cs) allowed in
    let shorter : length cs < n = omega arith in
    ap (λ text. option_and_then (value_on (value_in n 34)) (value_turn 34 text)) (append_assoc (value_char c) (flat_map value_char cs) (34 ∷ rest))
    ∙ ap (option_and_then (value_on (value_in n 34))) (value_one c (flat_map value_char cs ++ 34 ∷ rest) parts.0)
    ∙ ap (option_map (with_front (encode_utf8 c))) (value_in_again cs n rest parts.1 shorter)

-- each takes at least a character of text, so the steps are enough
value_char_long : (c : ℕ) → 0 < length (value_char c)
value_char_long c = by_case (λ front. 0 < length front) (c == 34) (codes "&quot;") (text_char c) (λ _. omega arith) (λ _.
    by_form (λ _ front. 0 < length front) c (omega arith) (omega arith) (omega arith) (omega arith) (omega arith) (omega arith) (λ _ _ _ _ _. omega arith))

value_long : (cs rest : List ℕ) → length cs < length (flat_map value_char cs ++ 34 ∷ rest)
value_long [] rest = omega arith
value_long (c ∷ cs) rest =
    omega (arith, length-append (value_char c ++ flat_map value_char cs) (34 ∷ rest), length-append (value_char c) (flat_map value_char cs), length-append (flat_map value_char cs) (34 ∷ rest), value_char_long c, value_long cs rest)

-- a value and its quote
pub value_again : (value rest : List ℕ) → IsXmlText value → value_in (length (value_of value ++ 34 ∷ rest)) 34 (value_of value ++ 34 ∷ rest) ≡ Some (value, rest)
value_again value rest good =
    let cs = good.characters in
    ap (λ characters. value_in (length (flat_map value_char characters ++ 34 ∷ rest)) 34 (flat_map value_char characters ++ 34 ∷ rest)) (text_chars value good)
    ∙ value_in_again cs (length (flat_map value_char cs ++ 34 ∷ rest)) rest good.allowed (value_long cs rest)
    ∙ ap (λ text. Some (text, rest)) (sym good.spelt)

-- texts

-- a text in front of a tag
abbrev texts : List ℕ → List ℕ → List ℕ
texts cs rest = flat_map text_char cs ++ 60 ∷ rest

-- the first character of a text, and what is behind it
texts_cons : (c : ℕ) (cs rest : List ℕ) → texts (c ∷ cs) rest ≡ text_char c ++ texts cs rest
texts_cons c cs rest = append_assoc (text_char c) (flat_map text_char cs) (60 ∷ rest)

-- nothing is left behind a front that isn't there
only_if : (b : Bool) (o : Option (List ℕ)) → o ≡ None → cond b o None ≡ None
only_if true o e = e
only_if false o e = refl

-- no `>` stands in a text itself, so `]]>` doesn't either
no_greater_one : (c : ℕ) (more : List ℕ) → strip (62 ∷ []) (text_char c ++ more) ≡ None
no_greater_one c more =
    by_form (λ _ front. strip (62 ∷ []) (front ++ more) ≡ None) c refl refl refl refl refl refl
    (λ _ _ no_gt _ _. ap (λ t. cond t (Some more) None) (other_way 62 c no_gt))

no_greater : (cs rest : List ℕ) → strip (62 ∷ []) (texts cs rest) ≡ None
no_greater [] rest = refl
no_greater (c ∷ cs) rest = ap (strip (62 ∷ [])) (texts_cons c cs rest) ∙ no_greater_one c (texts cs rest)

no_end_one : (c : ℕ) (more : List ℕ) → strip (62 ∷ []) more ≡ None → strip (93 ∷ 62 ∷ []) (text_char c ++ more) ≡ None
no_end_one c more none =
    by_form (λ _ front. strip (93 ∷ 62 ∷ []) (front ++ more) ≡ None) c refl refl refl refl refl refl (λ _ _ _ _ _. only_if (93 == c) (strip (62 ∷ []) more) none)

no_end : (cs rest : List ℕ) → strip (93 ∷ 62 ∷ []) (texts cs rest) ≡ None
no_end [] rest = refl
no_end (c ∷ cs) rest = ap (strip (93 ∷ 62 ∷ [])) (texts_cons c cs rest) ∙ no_end_one c (texts cs rest) (no_greater cs rest)

-- This stands at the front for a piece that appends this character.
record ReadsOne (more : List ℕ) (c : ℕ) (front : List ℕ) : Type 0 where
  piece : Piece
  reads : piece_at (front ++ more) ≡ Some (piece, more)
  takes : (b : Builder) → is_outside b ≡ false → b.begun ≡ true → taken b piece ≡ Some (record b { text = b.text ++ encode_utf8 c })

-- a reference, and a character that stands for itself
reference_one : (more : List ℕ) (c : ℕ) (front : List ℕ) → piece_at (front ++ more) ≡ Some (Reference c, more) → ReadsOne more c front
unfolding taken
reference_one more c front e = record {
  piece = Reference c;
  reads = e;
  takes = λ b inside begun. λ i. cond (inside i) None (Some (record b { begun = sym begun i; text = b.text ++ encode_utf8 c }));
}

letter_one : (more : List ℕ) (c : ℕ) → (c == 60) ≡ false → (c == 38) ≡ false → is_xml_char c ≡ true → strip (93 ∷ 62 ∷ []) more ≡ None → ReadsOne more c (c ∷ [])
unfolding taken piece_at
letter_one more c no_lt no_amp allowed none = record {
  piece = Letter c;
  reads =
      (let ends = only_if (93 == c) (strip (93 ∷ 62 ∷ []) more) none in
      λ i. cond (no_lt i) (markup_at more) (cond (no_amp i) (option_map (λ read. (Reference read.0, read.1)) (reference_at more)) (cond (allowed i && not (is_some (ends i))) (Some (Letter c, more)) None)));
  takes = λ b inside begun. λ i.
      cond (inside i) (if is_space c then Some (record b { begun = true }) else None) (cond (inside i) None (Some (record b { begun = sym begun i; text = b.text ++ encode_utf8 c })));
}

-- each character, as it stands between two tags
one_again : (c : ℕ) (more : List ℕ) → is_xml_char c ≡ true → strip (93 ∷ 62 ∷ []) more ≡ None → ReadsOne more c (text_char c)
unfolding piece_at reference_at
one_again c more allowed none =
    by_form (ReadsOne more) c
    (reference_one more 38 (codes "&amp;") refl) (reference_one more 60 (codes "&lt;") refl) (reference_one more 62 (codes "&gt;") refl)
    (reference_one more 9 (codes "&#x9;") refl) (reference_one more 10 (codes "&#xA;") refl) (reference_one more 13 (codes "&#xD;") refl)
    (λ no_amp no_lt _ _ _. letter_one more c no_lt no_amp allowed none)

-- a text in front of a tag is read piece by piece
pieces_again :
    (cs : List ℕ) (b : Builder) (rest : List ℕ) → list_all is_xml_char cs ≡ true → is_outside b ≡ false → b.begun ≡ true →
    (ps : List Piece) × Leads b ps (texts cs rest) (record b { text = b.text ++ encode_utf8_all cs }) (60 ∷ rest)
pieces_again [] b rest allowed inside begun = ([], (λ i. record b { text = sym (append-nil b.text) i }, refl))
pieces_again (c ∷ cs) b rest allowed inside begun =
    let parts = and_parts (is_xml_char c) (list_all is_xml_char cs) allowed in
    let one = one_again c (texts cs rest) parts.0 (no_end cs rest) in
    let longer : Builder = record b { text = b.text ++ encode_utf8 c } in
    let further = pieces_again cs longer rest parts.1 inside begun in
    let leads = subst (λ (text : List ℕ). Leads longer further.0 (texts cs rest) (record b { text = text }) (60 ∷ rest)) (append_assoc b.text (encode_utf8 c) (encode_utf8_all cs)) further.1 in
    (one.piece ∷ further.0, (longer, texts cs rest, ap piece_at (texts_cons c cs rest) ∙ one.reads, one.takes b inside begun, leads))

pub text_again : TextAgain
text_again b text rest good inside begun =
    subst (λ (cs : List ℕ). (ps : List Piece) × Leads b ps (flat_map text_char cs ++ 60 ∷ rest) (record b { text = b.text ++ text }) (60 ∷ rest)) (sym (text_chars text good))
    (subst (λ (t : List ℕ). (ps : List Piece) × Leads b ps (texts good.characters rest) (record b { text = b.text ++ t }) (60 ∷ rest)) (sym good.spelt)
    (pieces_again good.characters b rest good.allowed inside begun))
