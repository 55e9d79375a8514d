-- What is written for a good tree is a document of this tree.
use Rattle.std.proofs.Common.{◌≡◌, ℕ, List, ◌∷◌, refl, sym, subst}
use Rattle.std.specs.declared.result.Result.TheVariants.{Ok}
use Rattle.wef_base.specs.declared.tree.Charset.{Charset}
use Rattle.wef_base.specs.declared.tree.Charset.TheVariants.{Utf8}
use Rattle.wef_base.specs.declared.tree.Element.{Element}
use Rattle.wef_xml.specs.Canonical.{canonical, encoded}
use Rattle.wef_xml.specs.Decoding.{decoded}
use Rattle.wef_tree.specs.Laws.{HasOneTree, ReadsBack}
use Rattle.wef_tree_reading.specs.Spelling.{Spells, TextSpells}
use Rattle.wef_tree.proofs.EncodedAgain.{encoded_again, line_ends_kept}
use Rattle.wef_tree.proofs.PlainTexts.{ArePlain, canonical_plain, plain_has_no_cr, plain_scalars}
use Rattle.wef_tree_reading.proofs.Readings.{has_one_root}
use Rattle.wef_tree.proofs.TreesAgain.{behind_first, root_again}

-- the text of a tree begins with a tag
begins : (root : Element) → canonical root ≡ 60 ∷ behind_first (canonical root)
begins root = refl

-- its bytes are these characters
pub decodes : (charset : Charset) (text rest : List ℕ) → text ≡ 60 ∷ rest → ArePlain text → decoded charset (encoded charset text) ≡ Ok text
decodes charset text rest is plain =
    let P : List ℕ → Type 0 = λ t. ArePlain t → decoded charset (encoded charset t) ≡ Ok t in
    subst P (sym is) (λ h. encoded_again charset (60 ∷ rest) (plain_scalars (60 ∷ rest) h) refl) plain

pub spells_again : ReadsBack
spells_again charset root good =
    let plain = canonical_plain root good in
    let P : List ℕ → Type 0 = λ t. TextSpells t root in (
      canonical root,
      decodes charset (canonical root) (behind_first (canonical root)) (begins root) plain,
      subst P (sym (line_ends_kept (canonical root) (plain_has_no_cr (canonical root) plain))) (root_again root good),
    )

pub has_one_tree : HasOneTree
has_one_tree one other good better same =
    let P : List ℕ → Type 0 = λ t. Spells Utf8 (encoded Utf8 t) other in
    has_one_root Utf8 (encoded Utf8 (canonical one)) one other (spells_again Utf8 one good) (subst P (sym same) (spells_again Utf8 other better))
