-- The text of a value is read as this value, and a text that is no UUID has none.
use Rattle.std.proofs.Common.{◌≡◌, ℕ, ◌<◌, ◌^◌, ◌↔◌, List, ◌++◌, codes, refl, ap, sym, subst, ◌∙◌, true≢false}
use Rattle.std.specs.Prelude.{Option, Some, None, Result, Err, IsOk}
use Rattle.std.specs.Int.{from_be_bytes, to_be_bytes, w128}
use Rattle.std.specs.Option.{option_map}
use Rattle.uuid.proofs.OrderLemmas.{from_be_bytes-to_be_bytes_16}
use Rattle.uuid.specs.Text.{hyphenated_text, lower, parsed}
use Rattle.wef_ids.specs.IdTexts.{id_text, id_value}

-- what stands behind `uuid:` is what is parsed
digits_parsed : (digits : List ℕ) → id_value (codes "uuid:" ++ digits) ≡ option_map (from_be_bytes w128) (parsed digits)
unfolding id_value
digits_parsed digits = refl

pub reads_back : (value : ℕ) (u digits : List ℕ) → value < 2 ^ 128 → u ≡ to_be_bytes w128 value → digits ≡ hyphenated_text lower u → Some u ≡ parsed digits → id_value (id_text value) ≡ Some value
unfolding id_text
reads_back value u digits small bytes spelt same =
    digits_parsed (hyphenated_text lower (to_be_bytes w128 value))
    ∙ ap (λ (x : List ℕ). option_map (from_be_bytes w128) (parsed (hyphenated_text lower x))) (sym bytes)
    ∙ ap (λ (x : List ℕ). option_map (from_be_bytes w128) (parsed x)) (sym spelt)
    ∙ ap (option_map (from_be_bytes w128)) (sym same)
    ∙ ap (λ (x : List ℕ). Some (from_be_bytes w128 x)) bytes
    ∙ ap Some (from_be_bytes-to_be_bytes_16 value small)

-- a parser that refuses a text leaves it without a value
pub refused : {E : Type 0} (text : List ℕ) (result : Result (List ℕ) E) (fault : E) → result ≡ Err fault → (IsOk result ↔ ((u : _) × (parsed text ≡ Some u)))
    → ◌≡◌ {A = Option ℕ} (option_map (from_be_bytes w128) (parsed text)) None
refused text result fault is ok = by (parsed text) refl
  where
    by : (found : Option (List ℕ)) → parsed text ≡ found → ◌≡◌ {A = Option ℕ} (option_map (from_be_bytes w128) found) None
    by None same = refl
    by (Some u) same = absurd (true≢false (sym (subst (λ (r : Result (List ℕ) _). IsOk r) is (ok.1 (u, same)))))
