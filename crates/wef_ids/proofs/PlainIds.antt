-- The text of an id is one that XML allows, without spaces at its ends, and has the value that it was written for.
use Rattle.std.proofs.Common.{◌≡◌, ℕ, zero, suc, ◌<◌, ◌%◌, ◌/◌, ◌==◌, Bool, true, false, cond, List, [], ◌∷◌, ◌++◌, encode_utf8_all, length, ◌^◌, refl, ap, sym, ◌∙◌, inl, arith}
use Rattle.std.specs.Prelude.{Some, codes, slice_index}
use Rattle.std.specs.Int.{byte_at, bytes_high_first, to_be_bytes, w128}
use Rattle.std.specs.List.{All, list_all}
use Rattle.std.proofs.lemmas.Bool.{and_from}
use Rattle.std.proofs.lemmas.Bool.Decides.{nat_tests}
use Rattle.std.proofs.lemmas.List.Folds.{list_all-append}
use Rattle.std.proofs.lemmas.Str.{chars-encodes}
use Rattle.std.proofs.Math.Utf8.{scalar}
use Rattle.std.specs.Str.{chars}
use Rattle.uuid.proofs.RoundTrips.{parses_hyphenated}
use Rattle.uuid.specs.Text.{by_index, digit_place, hex_digit, hyphen, hyphenated_text, is_hyphen_place, lower, nibble}
use Rattle.wef_base.specs.Characters.{is_xml_char}
use Rattle.wef_base.specs.Names.{is_space, trimmed, trimmed_characters, unless_last_space, without_end}
use Rattle.wef_ids.specs.IdTexts.{id_text, id_value}
use Rattle.wef_ids.proofs.IdTexts.{reads_back}
use Rattle.wef_xml.specs.Good.{IsXmlText}
use Rattle.wef_xml.proofs.Ascii.{is_plain, plain_is, plain_text_is}

-- what one text passes and another does, both joined do
joined : (test : ℕ → Bool) (cs ds : List ℕ) → list_all test cs ≡ true → list_all test ds ≡ true → list_all test (cs ++ ds) ≡ true
joined test cs ds one other = list_all-append test cs ds ∙ and_from _ _ one other

indexed : (test : ℕ → Bool) (n : ℕ) (at : ℕ → ℕ) → ((k : ℕ) → test (at k) ≡ true) → list_all test (by_index n at) ≡ true
unfolding by_index
indexed test zero at all = refl
indexed test (suc n) at all = joined test (by_index n at) (at n ∷ []) (indexed test n at all) (and_from _ _ (all n) refl)

half_below : (xs : List ℕ) (k : ℕ) → nibble xs k < 16
half_below xs k = by (k % 2 == 0)
  where
    by : (even : Bool) → cond even (slice_index xs (k / 2) / 16 % 16) (slice_index xs (k / 2) % 16) < 16
    by true = omega arith
    by false = omega arith

-- what stands at a place of a hyphenated text
abbrev digit_in : List ℕ → ℕ → ℕ
digit_in xs k = cond (is_hyphen_place k) hyphen (hex_digit lower (nibble xs (digit_place k)))

-- a test of hyphens and of small digits
passed : (test : ℕ → Bool) → test hyphen ≡ true → ((d : ℕ) → d < 16 → test (hex_digit lower d) ≡ true) → (xs : List ℕ) → list_all test (hyphenated_text lower xs) ≡ true
passed test dash digit xs = indexed test 36 _ (λ k. by (is_hyphen_place k) (nibble xs (digit_place k)) (half_below xs (digit_place k)))
  where
    by : (here : Bool) (d : ℕ) → d < 16 → test (cond here hyphen (hex_digit lower d)) ≡ true
    by true d less = dash
    by false d less = digit d less

digit_plain : (d : ℕ) → d < 16 → is_plain (hex_digit lower d) ≡ true
digit_plain d less = grind (arith, nat_tests)

digit_allowed : (d : ℕ) → d < 16 → is_xml_char (hex_digit lower d) ≡ true
digit_allowed d less = grind (arith, nat_tests)

pub id_text_good : (value : ℕ) → IsXmlText (id_text value)
unfolding id_text
id_text_good value =
    let digits = hyphenated_text lower (to_be_bytes w128 value) in
    plain_text_is (id_text value) (joined is_plain (codes "uuid:") digits refl (passed is_plain refl digit_plain (to_be_bytes w128 value)))
    (joined is_xml_char (codes "uuid:") digits refl (passed is_xml_char refl digit_allowed (to_be_bytes w128 value)))

-- ---- trimming

digit_scalar : (d : ℕ) → d < 16 → scalar (hex_digit lower d) ≡ true
digit_scalar d less = grind (arith, nat_tests)

digit_no_space : (d : ℕ) → d < 16 → is_space (hex_digit lower d) ≡ false
digit_no_space d less = grind (arith, nat_tests)

-- what ends with no space ends so without spaces
behind_more : (x c : ℕ) (cs : List ℕ) → unless_last_space x (cs ++ c ∷ []) ≡ x ∷ (cs ++ c ∷ [])
behind_more x c [] = refl
behind_more x c (d ∷ ds) = refl

end_stays : (cs : List ℕ) (c : ℕ) → is_space c ≡ false → without_end (cs ++ c ∷ []) ≡ cs ++ c ∷ []
end_stays [] c solid = ap (λ (b : Bool). cond b [] (c ∷ [])) solid
end_stays (x ∷ cs) c solid = ap (unless_last_space x) (end_stays cs c solid) ∙ behind_more x c cs

-- no space is trimmed off the text of an id
pub id_text_trimmed : (value : ℕ) → trimmed (id_text value) ≡ id_text value
unfolding id_text by_index
id_text_trimmed value =
    let bytes = to_be_bytes w128 value in
    let digits = hyphenated_text lower bytes in
    let plain : id_text value ≡ encode_utf8_all (id_text value) = plain_is (id_text value) (joined is_plain (codes "uuid:") digits refl (passed is_plain refl digit_plain bytes)) in
    let read : chars (id_text value) ≡ id_text value =
    ap chars plain ∙ chars-encodes (id_text value) (joined scalar (codes "uuid:") digits refl (passed scalar refl digit_scalar bytes)) in
    ap (λ cs. encode_utf8_all (trimmed_characters cs)) read
    ∙ ap encode_utf8_all (end_stays (codes "uuid:" ++ by_index 35 (digit_in bytes)) (digit_in bytes 35) (digit_no_space (nibble bytes 31) (half_below bytes 31)))
    ∙ sym plain

-- ---- the value

bytes_long : (k n : ℕ) → length (bytes_high_first k n) ≡ k
bytes_long zero n = refl
bytes_long (suc k) n = ap suc (bytes_long k n)

rest_below : (n : ℕ) → n % 256 < 256
rest_below n = omega arith

byte_below : (i n : ℕ) → byte_at i n < 256
byte_below zero n = rest_below n
byte_below (suc i) n = rest_below (n / 256 ^ suc i)

bytes_small : (k n : ℕ) → All (λ b. b < 256) (bytes_high_first k n)
bytes_small zero n j d less = absurd (omega arith)
bytes_small (suc k) n zero d less = byte_below k n
bytes_small (suc k) n (suc j) d less = bytes_small k n j d (omega arith)

-- the text of a value that is no greater than ids are has this value
pub id_text_valued : (value : ℕ) → value < 2 ^ 128 → id_value (id_text value) ≡ Some value
id_text_valued value small =
    let bytes = to_be_bytes w128 value in
    reads_back value bytes (hyphenated_text lower bytes) small refl refl (parses_hyphenated lower bytes (inl refl) (bytes_long 16 value) (bytes_small 16 value))
