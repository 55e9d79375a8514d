-- Runs of characters, one behind the other, and what is passed of a text.
use Rattle.std.proofs.Common.{◌≡◌, ℕ, ◌<◌, ◌≤◌, ◌==◌, Bool, true, false, cond, if◌then◌else◌, List, [], ◌∷◌, ◌++◌, codes, encode_utf8, encode_utf8_all, refl, ap, sym, ◌∙◌, append_assoc, append-nil, arith}
use Rattle.std.specs.Prelude.{Option, Some, None, IfSome}
use Rattle.std.specs.List.{flat_map, list_all}
use Rattle.std.proofs.Math.Utf8.{encode}
use Rattle.std.proofs.lemmas.Bool.{and_from, and_parts, eqb-true}
use Rattle.std.proofs.lemmas.Bool.Decides.{nat_tests}
use Rattle.std.proofs.lemmas.Grind.{flat_map-append}
use Rattle.std.proofs.lemmas.List.Folds.{list_all-append}
use Rattle.std.proofs.lemmas.Str.{encode_ascii, encodes-append}
use Rattle.wef_base.specs.Characters.{is_xml_char}
use Rattle.wef_xml.specs.Canonical.{text_char, value_char}
use Rattle.wef_canonical.specs.Passing.{AreNameLetters, IsPlainRun, IsReference, IsRun, IsRunOf, IsTextRun, IsValueRun, LeadsOn, Passes, is_plain, is_plain_byte, itself, stands_in_name}
use Rattle.wef_canonical.specs.declared.characters.Run.{Run}
use Rattle.wef_canonical.specs.declared.characters.Run.TheVariants.{Letters, Plain, Value, Text}

-- a fact of what there is, if there is one
pub some_weaker : {T : Type 0} (o : Option T) (P Q : T → Type 0) → ((x : T) → P x → Q x) → IfSome o P → IfSome o Q
some_weaker None P Q so h = tt
some_weaker (Some x) P Q so h = so x h

-- ---- what is passed

-- one front behind another
pub passes_on : (Is : List ℕ → Type 0) → ((a b : List ℕ) → Is a → Is b → Is (a ++ b)) → (text rest behind : List ℕ) → Passes Is text rest → Passes Is rest behind → Passes Is text behind
passes_on Is joins text rest behind first more =
    (first.0 ++ more.0, joins first.0 more.0 first.1 more.1, first.2 ∙ ap (λ (t : List ℕ). first.0 ++ t) more.2 ∙ sym (append_assoc first.0 more.0 behind))

-- a turn that passes one more
pub leads_further : (Is : List ℕ → Type 0) → ((a b : List ℕ) → Is a → Is b → Is (a ++ b)) → (text rest more : List ℕ) → LeadsOn Is text rest → Passes Is rest more → LeadsOn Is text more
leads_further Is joins text rest more leads step behind ahead = leads behind (passes_on Is joins rest more behind step ahead)

-- and the end
pub leads_here : (Is : List ℕ → Type 0) → Is [] → (text rest : List ℕ) → LeadsOn Is text rest → Passes Is text rest
leads_here Is none text rest leads = leads rest ([], none, refl)

-- ---- names

pub letters_joined : (a b : List ℕ) → AreNameLetters a → AreNameLetters b → AreNameLetters (a ++ b)
letters_joined a b first more = list_all-append stands_in_name a b ∙ and_from _ _ first more

pub one_letter : (c : ℕ) → stands_in_name c ≡ true → AreNameLetters (c ∷ [])
one_letter c h = and_from (stands_in_name c) true h refl

-- ---- runs

pub no_run : (test : ℕ → Bool) (spelt : ℕ → List ℕ) → IsRun test spelt []
no_run test spelt = record { characters = []; pass = refl; are_spelt = refl }

pub one_run : (test : ℕ → Bool) (spelt : ℕ → List ℕ) (c : ℕ) → test c ≡ true → IsRun test spelt (encode_utf8_all (spelt c))
one_run test spelt c h = record {
  characters = c ∷ [];
  pass = and_from (test c) true h refl;
  are_spelt = ap encode_utf8_all (sym (append-nil (spelt c)));
}

pub runs_joined : (test : ℕ → Bool) (spelt : ℕ → List ℕ) (a b : List ℕ) → IsRun test spelt a → IsRun test spelt b → IsRun test spelt (a ++ b)
runs_joined test spelt a b first more = record {
  characters = first.characters ++ more.characters;
  pass = list_all-append test first.characters more.characters ∙ and_from _ _ first.pass more.pass;
  are_spelt =
      (λ i. first.are_spelt i ++ more.are_spelt i)
      ∙ sym (encodes-append (flat_map spelt first.characters) (flat_map spelt more.characters))
      ∙ ap encode_utf8_all (sym (flat_map-append spelt first.characters more.characters));
}

-- each kind of run
pub none_of : (run : Run) → IsRunOf run []
none_of Letters = refl
none_of Plain = no_run is_plain itself
none_of Value = no_run is_xml_char value_char
none_of Text = no_run is_xml_char text_char

pub of_joined : (run : Run) (a b : List ℕ) → IsRunOf run a → IsRunOf run b → IsRunOf run (a ++ b)
of_joined Letters = letters_joined
of_joined Plain = runs_joined is_plain itself
of_joined Value = runs_joined is_xml_char value_char
of_joined Text = runs_joined is_xml_char text_char

-- a character that a text begins with
pub one_passed : (test : ℕ → Bool) (spelt : ℕ → List ℕ) (c : ℕ) (text rest : List ℕ) → test c ≡ true → text ≡ encode_utf8_all (spelt c) ++ rest → Passes (IsRun test spelt) text rest
one_passed test spelt c text rest h parts = (encode_utf8_all (spelt c), one_run test spelt c h, parts)

-- ---- plain characters

-- a character that passes a test isn't one that fails it
other : (test : ℕ → Bool) (n c : ℕ) → test n ≡ false → test c ≡ true → (c == n) ≡ false
other test n c fails h = by (c == n) refl
  where
    by : (same : Bool) → (c == n) ≡ same → same ≡ false
    by false e = refl
    by true e = let both : true ≡ false = sym h ∙ ap test (eqb-true c n e) ∙ fails in cc

-- so it stands for itself between two tags, where all for which references stand fail the test
pub text_itself : (test : ℕ → Bool) (c : ℕ) → test 38 ≡ false → test 60 ≡ false → test 62 ≡ false → test 9 ≡ false → test 10 ≡ false → test 13 ≡ false → test c ≡ true → text_char c ≡ c ∷ []
text_itself test c amp lt gt tab lf cr h = rw (other test 38 c amp h, other test 60 c lt h, other test 62 c gt h, other test 9 c tab h, other test 10 c lf h, other test 13 c cr h) refl

pub plain_text_char : (c : ℕ) → is_plain_byte c ≡ true → text_char c ≡ c ∷ []
plain_text_char c h = text_itself is_plain_byte c refl refl refl refl refl refl h

pub plain_value_char : (c : ℕ) → is_plain_byte c ≡ true → value_char c ≡ c ∷ []
plain_value_char c h = ap (λ quote. if quote then codes "&quot;" else text_char c) (other is_plain_byte 34 c refl h) ∙ plain_text_char c h

-- a byte of ASCII that is plain is allowed
pub plain_ascii : (b : ℕ) → b < 128 → is_plain_byte b ≡ true → is_plain b ≡ true
plain_ascii b small h = and_from (is_xml_char b) (is_plain_byte b) (allowed small h) h
  where
    allowed : b < 128 → is_plain_byte b ≡ true → is_xml_char b ≡ true
    allowed small h = grind (arith, nat_tests, small, h)

-- and so is one past ASCII that is allowed
pub plain_wide : (c : ℕ) → 128 ≤ c → is_xml_char c ≡ true → is_plain c ≡ true
plain_wide c large h = and_from (is_xml_char c) (is_plain_byte c) h (plain large)
  where
    plain : 128 ≤ c → is_plain_byte c ≡ true
    plain large = grind (arith, nat_tests, large)

-- characters that are plain are allowed, and stand for themselves
plain_parts : (spelt : ℕ → List ℕ) → ((c : ℕ) → is_plain_byte c ≡ true → spelt c ≡ c ∷ []) → (cs : List ℕ) → list_all is_plain cs ≡ true
    → (list_all is_xml_char cs ≡ true) × (flat_map itself cs ≡ flat_map spelt cs)
plain_parts spelt each [] h = (refl, refl)
plain_parts spelt each (c ∷ cs) h =
    let parts = and_parts (is_plain c) (list_all is_plain cs) h in
    let one = and_parts (is_xml_char c) (is_plain_byte c) parts.0 in
    let more = plain_parts spelt each cs parts.1 in
    (and_from _ _ one.0 more.0, λ i. sym (each c one.1) i ++ more.1 i)

pub plain_values : (cs : List ℕ) → list_all is_plain cs ≡ true → (list_all is_xml_char cs ≡ true) × (flat_map itself cs ≡ flat_map value_char cs)
plain_values = plain_parts value_char plain_value_char

plain_run : (spelt : ℕ → List ℕ) → ((c : ℕ) → is_plain_byte c ≡ true → spelt c ≡ c ∷ []) → (front : List ℕ) → IsPlainRun front → IsRun is_xml_char spelt front
plain_run spelt each front run =
    let parts = plain_parts spelt each run.characters run.pass in
    record { characters = run.characters; pass = parts.0; are_spelt = run.are_spelt ∙ ap encode_utf8_all parts.1 }

pub plain_is_value : (text rest : List ℕ) → Passes IsPlainRun text rest → Passes IsValueRun text rest
plain_is_value text rest passed = (passed.0, plain_run value_char plain_value_char passed.0 passed.1, passed.2)

pub plain_is_text : (text rest : List ℕ) → Passes IsPlainRun text rest → Passes IsTextRun text rest
plain_is_text text rest passed = (passed.0, plain_run text_char plain_text_char passed.0 passed.1, passed.2)

-- a byte of ASCII that is plain
pub ascii_passed : (b : ℕ) (text rest : List ℕ) → is_plain_byte b ≡ true → b < 128 → text ≡ b ∷ rest → Passes IsPlainRun text rest
ascii_passed b text rest h small parts =
    one_passed is_plain itself b text rest (plain_ascii b small h) (parts ∙ ap (λ (t : List ℕ). (t ++ []) ++ rest) (sym (encode_ascii b small)))

-- a character past ASCII
pub wide_passed : (c : ℕ) (text rest : List ℕ) → is_xml_char c ≡ true → 128 ≤ c → text ≡ encode_utf8 c ++ rest → Passes IsPlainRun text rest
wide_passed c text rest h large parts =
    one_passed is_plain itself c text rest (plain_wide c large h) (parts ∙ ap (λ (t : List ℕ). t ++ rest) (sym (append-nil (encode_utf8 c))))

-- ---- references

-- a reference, by its character, with what stands behind its `&`
pub referred : (c : ℕ) (name text amp rest : List ℕ) → is_xml_char c ≡ true → (c == 34) ≡ false → encode_utf8_all (text_char c) ≡ 38 ∷ name → text ≡ 38 ∷ amp → amp ≡ name ++ rest
    → Passes IsReference text rest
referred c name text amp rest allowed other spelt first behind =
    (38 ∷ name, record { character = c; allowed = allowed; no_quote = other; is_spelt = sym spelt }, first ∙ ap (λ (t : List ℕ). 38 ∷ t) behind)

-- what stands for a character between two tags, and in a value
pub record References : Type 0 where
  pub amp : encode_utf8_all (text_char 38) ≡ codes "&amp;"
  pub lt : encode_utf8_all (text_char 60) ≡ codes "&lt;"
  pub gt : encode_utf8_all (text_char 62) ≡ codes "&gt;"
  pub tab : encode_utf8_all (text_char 9) ≡ codes "&#x9;"
  pub lf : encode_utf8_all (text_char 10) ≡ codes "&#xA;"
  pub cr : encode_utf8_all (text_char 13) ≡ codes "&#xD;"
  pub quote : encode_utf8_all (value_char 34) ≡ codes "&quot;"
  pub sign : encode_utf8_all (text_char 34) ≡ codes "\""

pub references : References
unfolding encode
references = record { amp = refl; lt = refl; gt = refl; tab = refl; lf = refl; cr = refl; quote = refl; sign = refl }

pub quote_passed : (text rest : List ℕ) → text ≡ codes "&quot;" ++ rest → Passes IsValueRun text rest
quote_passed text rest parts = one_passed is_xml_char value_char 34 text rest refl (parts ∙ ap (λ (t : List ℕ). t ++ rest) (sym references.quote))

pub sign_passed : (text rest : List ℕ) → text ≡ codes "\"" ++ rest → Passes IsTextRun text rest
sign_passed text rest parts = one_passed is_xml_char text_char 34 text rest refl (parts ∙ ap (λ (t : List ℕ). t ++ rest) (sym references.sign))

-- in a text and in a value
pub reference_in_text : (text rest : List ℕ) → Passes IsReference text rest → Passes IsTextRun text rest
reference_in_text text rest passed =
    let is = passed.1 in
    one_passed is_xml_char text_char is.character text rest is.allowed (passed.2 ∙ ap (λ (t : List ℕ). t ++ rest) is.is_spelt)

pub reference_in_value : (text rest : List ℕ) → Passes IsReference text rest → Passes IsValueRun text rest
reference_in_value text rest passed =
    let is = passed.1 in
    let as_text : text_char is.character ≡ value_char is.character = ap (λ (b : Bool). cond b (codes "&quot;") (text_char is.character)) (sym is.no_quote) in
    one_passed is_xml_char value_char is.character text rest is.allowed (passed.2 ∙ ap (λ (t : List ℕ). t ++ rest) (is.is_spelt ∙ ap encode_utf8_all as_text))

-- plain characters stand for themselves in a text
pub plain_itself : (front : List ℕ) (run : IsPlainRun front)
    → (flat_map text_char run.characters ≡ run.characters) × (list_all is_xml_char run.characters ≡ true) × (front ≡ encode_utf8_all run.characters)
plain_itself front run =
    let parts = plain_parts text_char plain_text_char run.characters run.pass in
    (sym parts.1 ∙ themselves run.characters, parts.0, run.are_spelt ∙ ap encode_utf8_all (themselves run.characters))
  where
    themselves : (cs : List ℕ) → flat_map itself cs ≡ cs
    themselves [] = refl
    themselves (c ∷ cs) = ap (λ (t : List ℕ). c ∷ t) (themselves cs)
