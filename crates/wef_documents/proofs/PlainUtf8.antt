-- The text of a good tree is UTF-8, and doesn't begin with a byte order mark.
use Rattle.std.proofs.Common.{◌≡◌, ℕ, false, cond, List, [], ◌∷◌, ◌++◌, encode_utf8_all, refl, ap, sym, ◌∙◌}
use Rattle.std.specs.Prelude.{Some}
use Rattle.std.specs.List.{flat_map}
use Rattle.std.specs.Str.{IsUtf8}
use lib.Utf8.{encode}
use Rattle.wef_base.specs.declared.tree.Charset.TheVariants.{Utf8, Utf16}
use Rattle.wef_base.specs.declared.tree.Element.{Element}
use Rattle.wef_tree.proofs.PlainTexts.{canonical_plain, plain_scalars}
use Rattle.wef_tree.proofs.SpellsAgain.{spells_again}
use Rattle.wef_tree_reading.specs.Documents.{tree_of}
use Rattle.wef_tree_reading.proofs.Functions.{is_given}
use Rattle.wef_xml.specs.Canonical.{canonical, character_bytes, encoded}
use Rattle.wef_xml.specs.Good.{IsGoodTree}
use Rattle.wef_documents.specs.Bytes.{charset_of, has_wide_mark}

-- characters in UTF-8, one by one and all together
all_encoded : (cs : List ℕ) → flat_map (character_bytes Utf8) cs ≡ encode_utf8_all cs
all_encoded [] = refl
all_encoded (c ∷ cs) = ap (λ t. encode c ++ t) (all_encoded cs)

pub tree_is_utf8 : (root : Element) → IsGoodTree root → IsUtf8 (encoded Utf8 (canonical root))
tree_is_utf8 root good =
    (canonical root, (plain_scalars (canonical root) (canonical_plain root good), sym (all_encoded (canonical root))))

-- the text of a good tree is read as this tree
pub tree_again : (root : Element) → IsGoodTree root → tree_of Utf8 (encoded Utf8 (canonical root)) ≡ Some root
tree_again root good = is_given Utf8 (encoded Utf8 (canonical root)) root (spells_again Utf8 root good)

-- what begins with `<` has no mark
no_mark : (rest : List ℕ) → has_wide_mark (60 ∷ rest) ≡ false
no_mark [] = refl
no_mark (b ∷ rest) = refl

-- a text that begins with `<`
marked : (cs : List ℕ) → has_wide_mark (encoded Utf8 (60 ∷ cs)) ≡ false
unfolding encode
marked cs = no_mark (flat_map (character_bytes Utf8) cs)

begins : (root : Element) → (cs : List ℕ) × (canonical root ≡ 60 ∷ cs)
begins root = (_, refl)

-- so the text of a tree is taken for UTF-8
pub charset_again : (root : Element) → charset_of (encoded Utf8 (canonical root)) ≡ Utf8
charset_again root =
    let start = begins root in
    ap (λ cs. charset_of (encoded Utf8 cs)) start.1 ∙ ap (λ b. cond b Utf16 Utf8) (marked start.0)
