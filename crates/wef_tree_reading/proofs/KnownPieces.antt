-- What is known of the namespaces so far, as pieces come.
use Rattle.std.proofs.Common.{◌≡◌, ℕ, Bool, true, false, cond, List, [], ◌∷◌, refl, ap, sym, ◌∙◌, subst}
use Rattle.std.specs.Prelude.{Option, Some, None, Result, IfSome, OnOk}
use Rattle.std.specs.declared.result.Result.TheVariants.{Ok, Err}
use Rattle.std.specs.BTreeMap.{is_at}
use Rattle.std.specs.Ordering.{nat_cmp}
use Rattle.std.specs.Cmp.{eq_by_cmp_equiv}
use Rattle.std.specs.Cmp.Lexicographic.{slice_cmp, nat_list_cmp_total}
use Rattle.std.proofs.lemmas.Map.Lookups.{exact_bytes}
use Rattle.wef_base.specs.Digests.{digest_of, is_long}
use Rattle.wef_base.specs.declared.tree.Element.{Element}
use Rattle.wef_xml.specs.Spaces.{xml_space}
use Rattle.wef_xml.specs.Told.{IsFound, IsTold}
use Rattle.wef_tree_reading.specs.Building.{taken}
use Rattle.wef_tree_reading.specs.Known.{AreGivensIn, Grows, Holds, IsPieceIn, IsRootIn, KnowsBuilder, found_in}
use Rattle.wef_tree_reading.specs.Reads.{Takes}
use Rattle.wef_tree_reading.specs.Scopes.{declares}
use Rattle.wef_tree_reading.specs.declared.building.Builder.{Builder}
use Rattle.wef_tree_pieces.specs.declared.faults.Halt.{Halt}
use Rattle.wef_tree_reading.specs.declared.known.Known.{Known}
use Rattle.wef_tree_pieces.specs.declared.pieces.Piece.{Piece}
use Rattle.wef_tree_pieces.specs.declared.tags.Given.{Given}
use Rattle.wef_tree_reading.proofs.GoodOpens.{equal_if}
use Rattle.wef_tree_pieces.proofs.Inversions.{none_some}
use Rattle.wef_tree_reading.proofs.KnownTrees.{taken_in}

-- more and more is known
pub grows_further : (first second third : Known) → Grows first second → Grows second third → Grows first third
grows_further first second third one two told =
    let here = two told in
    let before = one here.0 in
    (before.0, λ digest space e. here.1 digest space (before.1 digest space e))

-- what holds of what was known holds of what is
pub holds_further : (first second : Known) (P : (List ℕ → Option (List ℕ)) → Type 0) → Grows first second → Holds first P → Holds second P
holds_further first second P grows holds told find extends =
    let here = grows told in
    holds here.0 find (λ digest space e. extends digest space (here.1 digest space e))

short_found : (find : List ℕ → Option (List ℕ)) (space : List ℕ) → is_long space ≡ false → IsFound find space
short_found find space short long = absurd (let e = sym short ∙ long in cc)

no_space_short : is_long [] ≡ false
no_space_short = refl

xml_space_short : is_long xml_space ≡ false
unfolding xml_space
xml_space_short = refl

-- what is found where a namespace was put in
found_there : (key digest : List ℕ) (space s : List ℕ) (old : Option (List ℕ)) → (is_at (slice_cmp nat_cmp key) digest ≡ true → old ≡ None) → old ≡ Some s
    → cond (is_at (slice_cmp nat_cmp key) digest) (Some space) old ≡ Some s
found_there key digest space s old new e = by (is_at (slice_cmp nat_cmp key) digest) new
  where
    by : (b : Bool) → (b ≡ true → old ≡ None) → cond b (Some space) old ≡ Some s
    by true none = absurd (none_some s (sym (none refl) ∙ e))
    by false none = e

pub put_grows :
    (old new : Known) (key space : List ℕ) → key ≡ digest_of space → new.told ≡ old.told → found_in old (digest_of space) ≡ None →
    ((digest : List ℕ) → found_in new digest ≡ cond (is_at (slice_cmp nat_cmp key) digest) (Some space) (found_in old digest)) → Grows old new
put_grows old new key space key_is same_told none put told = (
  sym same_told ∙ told,
  λ digest s e.
      put digest ∙ found_there key digest space s (found_in old digest) (λ at.
      let equal : key ≡ digest = exact_bytes key digest (equal_if (slice_cmp nat_cmp key digest) at) in
      ap (found_in old) (sym equal ∙ key_is) ∙ none) e,
)

pub put_knows :
    (old new : Known) (key space : List ℕ) → key ≡ digest_of space →
    ((digest : List ℕ) → found_in new digest ≡ cond (is_at (slice_cmp nat_cmp key) digest) (Some space) (found_in old digest)) → Holds new (λ find. IsFound find space)
put_knows old new key space key_is put told find extends long =
    ap find (sym key_is)
    ∙ extends key space (put key ∙ ap (λ b. cond b (Some space) (found_in old key)) ((eq_by_cmp_equiv nat_list_cmp_total).refl key))

-- one declaration more of a tag
pub all_known :
    (old new : Known) (given : List Given) (one : Given) (rest more : List Given) → rest ≡ one ∷ more → Grows old new →
    Holds old (λ find. AreGivensIn (IsFound find) rest → AreGivensIn (IsFound find) given) →
    Holds new (λ find. IfSome (declares one.name) (λ prefix. IsFound find one.value)) →
    Holds new (λ find. AreGivensIn (IsFound find) more → AreGivensIn (IsFound find) given)
all_known old new given one rest more next grows before here told find extends behind =
    let kept = holds_further old new (λ find. AreGivensIn (IsFound find) rest → AreGivensIn (IsFound find) given) grows before in
    let P : List Given → Type 0 = λ gs. AreGivensIn (IsFound find) gs in
    kept told find extends (subst P (sym next) (here told find extends, behind))

-- a piece that is taken, whose declarations are known
pub known_taken :
    (old new : Known) (b c : Builder) (p : Piece) (result : Result (Unit {0}) Halt) → KnowsBuilder old b → Grows old new → Holds new (λ find. IsPieceIn (IsFound find) p) →
    Takes result (taken b p) c → OnOk result (KnowsBuilder new c)
known_taken old new b c p (Ok done) known grows piece e = λ told find extends.
    let here = grows told in
    taken_in (IsFound find) b c p (short_found find [] no_space_short) (short_found find xml_space xml_space_short)
    (known here.0 find (λ digest space e. extends digest space (here.1 digest space e)))
    (piece told find extends) e
known_taken old new b c p (Err halt) known grows piece e = tt

-- the root of a builder whose namespaces are known
pub told_root : (known : Known) (b : Builder) (root : Element) → KnowsBuilder known b → b.root ≡ Some root → IsTold known.told root
told_root known b root knows is told =
    let Q : Option Element → Type 0 = λ o. IsRootIn (IsFound (found_in known)) o in
    (found_in known, subst Q is (knows told (found_in known) (λ digest space e. e)).1)
