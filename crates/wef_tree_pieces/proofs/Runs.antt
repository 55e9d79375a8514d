-- What is read at once is what is read character by character.
use Rattle.std.proofs.Common.{◌≡◌, ℕ, suc, ◌+◌, ◌==◌, Bool, true, false, cond, List, [], ◌∷◌, ◌++◌, length, take, drop, encode_utf8, encode_utf8_all, refl, sym, ap, ◌∙◌, arith}
use Rattle.std.proofs.Math.Seq.{take-add}
use Rattle.std.proofs.lemmas.List.{append-nil, drop-drop}
use Rattle.std.proofs.lemmas.Str.{encodes-append}
use Rattle.std.specs.Prelude.{Option, Some, None, codes, ◌&&◌, ◌||◌, not}
use Rattle.std.specs.List.{prefix_len}
use Rattle.std.specs.Option.{option_map, option_and_then}
use Rattle.wef_base.specs.Characters.{is_xml_char}
use Rattle.wef_xml.specs.Letters.{is_name_char, is_name_start}
use Rattle.wef_xml.specs.Fronts.{behind, strip}
use Rattle.wef_tree_pieces.specs.Names.{name_tail, plain_name_at, with_front}
use Rattle.wef_tree_pieces.specs.Pieces.{section_tail}
use Rattle.wef_tree_pieces.specs.References.{reference_at}
use Rattle.wef_tree_pieces.specs.Runs.{is_plain, plain_name_length}
use Rattle.wef_tree_pieces.specs.Tags.{value_in, value_on, value_turn}
use Rattle.wef_tree_pieces.proofs.Turns.{with_front_twice}

pub one_more : (n : ℕ) → 1 + n ≡ suc n
one_more n = omega arith

-- what a text is cut into behind so many characters
abbrev cut : ℕ → List ℕ → List ℕ × List ℕ
cut n text = (encode_utf8_all (take n text), drop n text)

cut_more : (n c : ℕ) (cs : List ℕ) → with_front (encode_utf8 c) (cut n cs) ≡ cut (1 + n) (c ∷ cs)
cut_more n c cs = ap (λ m. cut m (c ∷ cs)) (sym (one_more n))

tail_is : (cs : List ℕ) → name_tail cs ≡ cut (prefix_len is_name_char cs) cs
tail_is [] = refl
tail_is (c ∷ cs) = by (is_name_char c) (tail_is cs)
  where
    by : (is : Bool) → name_tail cs ≡ cut (prefix_len is_name_char cs) cs →
        cond is (with_front (encode_utf8 c) (name_tail cs)) ([], c ∷ cs) ≡ cut (cond is (1 + prefix_len is_name_char cs) 0) (c ∷ cs)
    by true more = ap (with_front (encode_utf8 c)) more ∙ cut_more (prefix_len is_name_char cs) c cs
    by false more = refl

start_stands : (c : ℕ) → is_name_start c ≡ true → is_name_char c ≡ true
start_stands c e = rw e refl

-- the name at the front of a text is cut off
pub plain_is : (text : List ℕ) (n : ℕ) → n ≡ plain_name_length text → ¬ (n ≡ 0) → Some (cut n text) ≡ plain_name_at text
plain_is [] n is some = absurd (some is)
plain_is (c ∷ cs) n is some = by (is_name_start c) refl
  where
    by : (starts : Bool) → is_name_start c ≡ starts → Some (cut n (c ∷ cs)) ≡ cond starts (Some (with_front (encode_utf8 c) (name_tail cs))) None
    by true e =
        let count : n ≡ 1 + prefix_len is_name_char cs = is ∙ (λ i. cond (e i) (cond (start_stands c e i) (1 + prefix_len is_name_char cs) 0) 0) in
        ap (λ m. Some (cut m (c ∷ cs))) count ∙ sym (ap Some (cut_more (prefix_len is_name_char cs) c cs)) ∙ sym (ap (λ read. Some (with_front (encode_utf8 c) read)) (tail_is cs))
    by false e = absurd (some (is ∙ (λ i. cond (e i) (prefix_len is_name_char (c ∷ cs)) 0)))

pub plain_none : (text : List ℕ) (n : ℕ) → n ≡ plain_name_length text → n ≡ 0 → None ≡ plain_name_at text
plain_none [] n is none = refl
plain_none (c ∷ cs) n is none = by (is_name_start c) refl
  where
    by : (starts : Bool) → is_name_start c ≡ starts → None ≡ cond starts (Some (with_front (encode_utf8 c) (name_tail cs))) None
    by true e =
        let count : n ≡ 1 + prefix_len is_name_char cs = is ∙ (λ i. cond (e i) (cond (start_stands c e i) (1 + prefix_len is_name_char cs) 0) 0) in
        absurd (omega (arith, count, none))
    by false e = refl

nothing_in_front : (o : Option (List ℕ × List ℕ)) → option_map (with_front []) o ≡ o
nothing_in_front None = refl
nothing_in_front (Some read) = refl

abbrev Turned : Type 0
Turned = Option (Option ℕ × List ℕ)

-- a plain character is the next of its value
plain_turn : (quote c : ℕ) (cs : List ℕ) → is_plain quote c ≡ true → value_turn quote (c ∷ cs) ≡ Some (Some c, cs)
plain_turn quote c cs = by (c == quote) (c == 38) (c == 60) (c == 9) (c == 10) (is_xml_char c)
  where
    by : (q a l t f x : Bool) → (not (q || a || l || t || f) && x) ≡ true →
        cond {A = Turned} q (Some (None, cs)) (cond a (option_map (λ read. (Some read.0, read.1)) (reference_at cs)) (cond l None (cond x (Some (Some (cond (t || f) 32 c), cs)) None)))
        ≡ Some (Some c, cs)
    by true a l t f x e = absurd cc
    by false true l t f x e = absurd cc
    by false false true t f x e = absurd cc
    by false false false true f x e = absurd cc
    by false false false false true x e = absurd cc
    by false false false false false false e = absurd cc
    by false false false false false true e = refl

-- a value from behind its first so many characters on, with these in front
abbrev valued : ℕ → ℕ → List ℕ → Option (List ℕ × List ℕ)
valued quote n cs = option_map (with_front (encode_utf8_all (take n cs))) (value_in (length (drop n cs)) quote (drop n cs))

value_runs : (quote : ℕ) (cs : List ℕ) → valued quote (prefix_len (is_plain quote) cs) cs ≡ value_in (length cs) quote cs
value_runs quote [] = refl
value_runs quote (c ∷ cs) = by (is_plain quote c) refl (value_runs quote cs)
  where
    by : (is : Bool) → is_plain quote c ≡ is → valued quote (prefix_len (is_plain quote) cs) cs ≡ value_in (length cs) quote cs →
        valued quote (cond is (1 + prefix_len (is_plain quote) cs) 0) (c ∷ cs) ≡ value_in (length (c ∷ cs)) quote (c ∷ cs)
    by true e more =
        ap (λ m. valued quote m (c ∷ cs)) (one_more (prefix_len (is_plain quote) cs))
        ∙ sym (with_front_twice (encode_utf8 c) (encode_utf8_all (take (prefix_len (is_plain quote) cs) cs)) _)
        ∙ ap (option_map (with_front (encode_utf8 c))) more
        ∙ sym (ap (option_and_then (value_on (value_in (length cs) quote))) (plain_turn quote c cs e))
    by false e more = nothing_in_front _

-- the plain characters at the front of a value, and what is behind them, are the value
pub value_is : (quote : ℕ) (cs : List ℕ) (n : ℕ) → n ≡ prefix_len (is_plain quote) cs → valued quote n cs ≡ value_in (length cs) quote cs
value_is quote cs n is = ap (λ m. valued quote m cs) is ∙ value_runs quote cs

-- a section from behind its first so many characters on, with these in front
abbrev sectioned : ℕ → List ℕ → List ℕ → Option (List ℕ × List ℕ)
sectioned n text rest = option_map (with_front (encode_utf8_all (take n text))) (section_tail rest)

-- the first characters, with the one behind them
front_further : (n c : ℕ) (text more : List ℕ) → drop n text ≡ c ∷ more → encode_utf8_all (take (n + 1) text) ≡ encode_utf8_all (take n text) ++ encode_utf8 c
front_further n c text more behind =
    ap encode_utf8_all (take-add n 1 text)
    ∙ encodes-append (take n text) (take 1 (drop n text))
    ∙ ap (λ (rest : List ℕ). encode_utf8_all (take n text) ++ encode_utf8_all (take 1 rest)) behind
    ∙ ap (λ (bytes : List ℕ). encode_utf8_all (take n text) ++ bytes) (append-nil (encode_utf8 c))

-- a character that doesn't end a section stands in it
section_goes_on : (c : ℕ) (more : List ℕ) → None ≡ strip (codes "]]>") (c ∷ more) → true ≡ is_xml_char c → section_tail (c ∷ more) ≡ option_map (with_front (encode_utf8 c)) (section_tail more)
section_goes_on c more none is =
    ap (λ found. behind found (λ rest. Some ([], rest)) (cond (is_xml_char c) (option_map (with_front (encode_utf8 c)) (section_tail more)) None)) (sym none)
    ∙ ap (λ allowed. cond allowed (option_map (with_front (encode_utf8 c)) (section_tail more)) None) (sym is)

pub section_further :
    (n c : ℕ) (text rest more : List ℕ) → rest ≡ c ∷ more → None ≡ strip (codes "]]>") rest → true ≡ is_xml_char c →
    record { within : n + length rest ≡ length text; behind : drop n text ≡ rest; read : sectioned n text rest ≡ section_tail text } →
    record { within : n + 1 + length more ≡ length text; behind : drop (n + 1) text ≡ more; read : sectioned (n + 1) text more ≡ section_tail text }
section_further n c text rest more is none allowed held = record {
  within = omega (arith, ap length is, held.within);
  behind = sym (drop-drop 1 n text) ∙ ap (drop 1) (held.behind ∙ is);
  read =
      ap (λ front. option_map (with_front front) (section_tail more)) (front_further n c text more (held.behind ∙ is))
      ∙ sym (with_front_twice (encode_utf8_all (take n text)) (encode_utf8 c) (section_tail more))
      ∙ ap (option_map (with_front (encode_utf8_all (take n text)))) (sym (section_goes_on c more (none ∙ ap (strip (codes "]]>")) is) allowed))
      ∙ ap (sectioned n text) (sym is)
      ∙ held.read;
}
