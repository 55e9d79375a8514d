-- The addresses that batches go to are of printed characters: XML allows them, and there are no spaces at their ends.
use Rattle.std.proofs.Common.{◌≡◌, ℕ, ◌<◌, ◌/◌, ◌%◌, Bool, true, false, cond, List, [], ◌∷◌, ◌++◌, encode_utf8_all, refl, ap, sym, ◌∙◌, arith}
use Rattle.std.proofs.lemmas.Bool.{and_from, and_parts}
use Rattle.std.proofs.lemmas.Bool.Decides.{nat_tests}
use Rattle.std.proofs.lemmas.List.Folds.{list_all-append}
use Rattle.std.proofs.lemmas.Str.{chars-encodes}
use Rattle.std.proofs.Math.Utf8.{scalar}
use Rattle.std.specs.Fmt.{digit_glyph}
use Rattle.std.specs.List.{list_all}
use Rattle.std.specs.Prelude.{codes}
use Rattle.std.specs.Str.{chars}
use Rattle.percent_encoding.specs.Percent.{percent_encode_byte}
use Rattle.wef_base.specs.Characters.{is_xml_char}
use Rattle.wef_base.specs.Names.{is_space, trimmed, trimmed_characters, unless_last_space, without_end, without_start}
use Rattle.wef_eventing.specs.Addresses.{IsHost, delivery_address, is_printed, is_unreserved, segment, segment_byte}
use Rattle.wef_xml.proofs.Ascii.{is_plain, plain_is, plain_text_is}
use Rattle.wef_xml.specs.Good.{IsXmlText}

-- ---- texts without spaces

printed_plain : (c : ℕ) → is_printed c ≡ true → is_plain c ≡ true
printed_plain c e = grind (arith, nat_tests)

printed_allowed : (c : ℕ) → is_printed c ≡ true → is_xml_char c ≡ true
printed_allowed c e = grind (arith, nat_tests)

printed_scalar : (c : ℕ) → is_printed c ≡ true → scalar c ≡ true
printed_scalar c e = grind (arith, nat_tests)

printed_no_space : (c : ℕ) → is_printed c ≡ true → is_space c ≡ false
printed_no_space c e = grind (arith, nat_tests)

-- what holds of each character that passes one test holds of texts of these
all_pass : (test other : ℕ → Bool) → ((c : ℕ) → test c ≡ true → other c ≡ true) → (cs : List ℕ) → list_all test cs ≡ true → list_all other cs ≡ true
all_pass test other passes [] e = refl
all_pass test other passes (c ∷ cs) e =
    let parts = and_parts (test c) (list_all test cs) e in
    and_from (other c) (list_all other cs) (passes c parts.0) (all_pass test other passes cs parts.1)

start_stays : (cs : List ℕ) → list_all is_printed cs ≡ true → without_start cs ≡ cs
start_stays [] e = refl
start_stays (c ∷ cs) e =
    ap (λ (b : Bool). cond b (without_start cs) (c ∷ cs)) (printed_no_space c (and_parts (is_printed c) (list_all is_printed cs) e).0)

last_stays : (c : ℕ) (cs : List ℕ) → is_space c ≡ false → unless_last_space c cs ≡ c ∷ cs
last_stays c [] solid = ap (λ (b : Bool). cond b [] (c ∷ [])) solid
last_stays c (d ∷ ds) solid = refl

end_stays : (cs : List ℕ) → list_all is_printed cs ≡ true → without_end cs ≡ cs
end_stays [] e = refl
end_stays (c ∷ cs) e =
    let parts = and_parts (is_printed c) (list_all is_printed cs) e in
    ap (unless_last_space c) (end_stays cs parts.1) ∙ last_stays c cs (printed_no_space c parts.0)

-- a text of such characters has no space at its ends, and is one that XML allows
pub printed_text : (text : List ℕ) → list_all is_printed text ≡ true → (trimmed text ≡ text) × IsXmlText text
printed_text text solid =
    let plain = all_pass is_printed is_plain printed_plain text solid in
    let spelt : text ≡ encode_utf8_all text = plain_is text plain in
    let read : chars text ≡ text = ap chars spelt ∙ chars-encodes text (all_pass is_printed scalar printed_scalar text solid) in (
      ap (λ cs. encode_utf8_all (trimmed_characters cs)) read ∙ ap (λ cs. encode_utf8_all (without_end cs)) (start_stays text solid)
          ∙ ap encode_utf8_all (end_stays text solid) ∙ sym spelt,
      plain_text_is text plain (all_pass is_printed is_xml_char printed_allowed text solid),
    )

-- ---- addresses

joined : (cs ds : List ℕ) → list_all is_printed cs ≡ true → list_all is_printed ds ≡ true → list_all is_printed (cs ++ ds) ≡ true
joined cs ds one other = list_all-append is_printed cs ds ∙ and_from _ _ one other

unreserved_printed : (b : ℕ) → is_unreserved b ≡ true → is_printed b ≡ true
unreserved_printed b e = grind (arith, nat_tests)

digit_printed : (d : ℕ) → d < 16 → is_printed (digit_glyph true d) ≡ true
digit_printed d less = grind (arith, nat_tests)

small_digit : (n : ℕ) → n % 16 < 16
small_digit n = omega arith

byte_printed : (b : ℕ) → list_all is_printed (segment_byte b) ≡ true
unfolding percent_encode_byte
byte_printed b = by (is_unreserved b) refl
  where
    by : (t : Bool) → is_unreserved b ≡ t → list_all is_printed (cond t (b ∷ []) (percent_encode_byte b)) ≡ true
    by true is = and_from (is_printed b) true (unreserved_printed b is) refl
    by false is =
        let high = digit_glyph true (b / 16 % 16) in
        let low = digit_glyph true (b % 16) in
        and_from (is_printed high) (list_all is_printed (low ∷ [])) (digit_printed (b / 16 % 16) (small_digit (b / 16))) (and_from (is_printed low) true (digit_printed (b % 16) (small_digit b)) refl)

segment_printed : (name : List ℕ) → list_all is_printed (segment name) ≡ true
unfolding segment
segment_printed [] = refl
segment_printed (b ∷ bs) = joined (segment_byte b) (segment bs) (byte_printed b) (segment_printed bs)

pub address_printed : (host u s : List ℕ) → list_all is_printed host ≡ true → list_all is_printed (delivery_address host u s) ≡ true
unfolding delivery_address
address_printed host u s is =
    let front = codes "http://" ++ host in
    let path = front ++ codes "/wsman/subscriptions/" in
    joined (path ++ segment u) (47 ∷ segment s)
    (joined path (segment u) (joined front (codes "/wsman/subscriptions/") (joined (codes "http://") host refl is) refl) (segment_printed u)) (segment_printed s)

-- so is the address of a subscription and a source at a host
pub address_is_plain : (host u s : List ℕ) → IsHost host → (trimmed (delivery_address host u s) ≡ delivery_address host u s) × IsXmlText (delivery_address host u s)
address_is_plain host u s is = printed_text (delivery_address host u s) (address_printed host u s is.1)
