-- The text of a good tree is UTF-8, and what is UTF-8 is decoded, with a byte order mark or without.
use Rattle.std.proofs.Common.{◌≡◌, ℕ, ◌==◌, Bool, true, false, cond, List, [], ◌∷◌, ◌++◌, encode_utf8_all, refl, ap, sym, ◌∙◌}
use Rattle.std.specs.Prelude.{Option, Some, None, Result}
use Rattle.std.specs.declared.result.Result.TheVariants.{Ok, Err}
use Rattle.std.specs.List.{flat_map}
use Rattle.std.specs.Str.{IsUtf8, chars}
use Rattle.std.specs.Str.Lossy.{utf8_valid_len}
use Rattle.std.proofs.lemmas.Bool.{eqb-true}
use Rattle.std.proofs.lemmas.Str.{IsUtf8-past_char, is_utf8-from_IsUtf8}
use lib.Utf8.{encode}
use Rattle.wef_base.specs.declared.tree.Charset.TheVariants.{Utf8}
use Rattle.wef_base.specs.declared.tree.Element.{Element}
use Rattle.wef_xml.specs.Canonical.{canonical, character_bytes}
use Rattle.wef_xml.specs.Decoding.{decoded, joined, mark_length, utf8_mark, without_front, without_mark}
use Rattle.wef_xml.specs.Fronts.{strip}
use Rattle.wef_xml.specs.Good.{IsGoodTree}
use Rattle.wef_tree.proofs.PlainTexts.{canonical_plain, plain_scalars}
use Rattle.wef_event.specs.Events.{text_of_tree}

-- characters in UTF-8, one by one and all together
all_encoded : (cs : List ℕ) → flat_map (character_bytes Utf8) cs ≡ encode_utf8_all cs
all_encoded [] = refl
all_encoded (c ∷ cs) = ap (λ t. encode c ++ t) (all_encoded cs)

pub tree_is_utf8 : (node : Element) → IsGoodTree node → IsUtf8 (text_of_tree node)
tree_is_utf8 node good =
    (canonical node, (plain_scalars (canonical node) (canonical_plain node good), sym (all_encoded (canonical node))))

-- a text that begins with a front is the front and what is left
pub stripped : (front text rest : List ℕ) → strip front text ≡ Some rest → text ≡ front ++ rest
stripped [] text rest e = cc
stripped (w ∷ ws) [] rest e = let bad : ⊥ = cc in absurd bad
stripped (w ∷ ws) (c ∷ cs) rest e = by (w == c) refl e (stripped ws cs rest)
  where
    by : (b : Bool) → (w == c) ≡ b → cond b (strip ws cs) None ≡ Some rest → (strip ws cs ≡ Some rest → cs ≡ ws ++ rest) → c ∷ cs ≡ (w ∷ ws) ++ rest
    by true same e further = λ i. sym (eqb-true w c same) i ∷ further e i
    by false same e further = let bad : ⊥ = cc in absurd bad

-- the byte order mark is one character
mark_is : (rest : List ℕ) → utf8_mark ++ rest ≡ encode 0xFEFF ++ rest
unfolding encode
mark_is rest = refl

without_mark_utf8 : (text : List ℕ) → IsUtf8 text → IsUtf8 (without_mark Utf8 text)
without_mark_utf8 text good = by (strip utf8_mark text) refl
  where
    by : (o : Option (List ℕ)) → strip utf8_mark text ≡ o → IsUtf8 (without_front text o)
    by None e = good
    by (Some rest) e = IsUtf8-past_char text rest 0xFEFF good (stripped utf8_mark text rest e ∙ mark_is rest)

-- UTF-8 has no place where it stops to be
pub is_decoded : (text : List ℕ) (at : ℕ) → IsUtf8 text → decoded Utf8 text ≡ Err at → ⊥
is_decoded text at good e = bad (sym decodes ∙ e)
  where
    after : List ℕ
    after = without_mark Utf8 text

    decodes : decoded Utf8 text ≡ Ok (chars after)
    decodes = ap (λ b. joined [] (mark_length Utf8 text) (cond b (Ok (chars after)) (Err (utf8_valid_len after)))) (is_utf8-from_IsUtf8 after (without_mark_utf8 text good))

    bad : ◌≡◌ {A = Result (List ℕ) ℕ} (Ok (chars after)) (Err at) → ⊥
    bad e = cc
