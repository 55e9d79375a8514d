-- The prefixes that a writer uses are names without `:`, and their namespaces may be declared.
use Rattle.std.proofs.Common.{◌≡◌, ℕ, suc, ◌<◌, Bool, true, false, ◌&&◌, not, is_some, if◌then◌else◌, List, [], ◌∷◌, ◌++◌, length, codes, Option, Some, None, refl, sym, subst, ⊎_elim}
use Rattle.std.specs.Fmt.{digit_glyph}
use Rattle.std.specs.List.{list_all, list_any}
use Rattle.std.proofs.lemmas.Bool.{and_from, and_parts}
use Rattle.wef_base.specs.Characters.{is_xml_char}
use Rattle.wef_base.specs.Names.{same}
use Rattle.wef_base.specs.declared.tree.Attribute.{Attribute}
use Rattle.wef_xml.proofs.Ascii.{is_plain, plain_name, plain_name_is, plain_text_is}
use Rattle.wef_xml.proofs.Glyphs.{digits_pass, each_glyph}
use Rattle.wef_xml.specs.Good.{AreGoodAttributes, IsLocalName, IsXmlText}
use Rattle.wef_xml.specs.Letters.{is_name_char, is_name_start}
use Rattle.wef_xml.specs.Prefixes.{attribute_prefix, bindings_from, bound_by, element_prefix, in_digits, needs_prefix, new_bindings, new_spaces, next_free, nine, numbered_prefix, outer_prefixes, prefix_of, soap_space, unless_bound, with_space}
use Rattle.wef_xml.specs.Spaces.{is_empty, is_xml_prefix, is_xml_space, is_xmlns, xml_space}
use Rattle.wef_xml.specs.declared.bindings.Binding.{Binding}
use Rattle.wef_tree_pieces.proofs.Inversions.{cond_is, none_some, some_is, unless_some}
use Rattle.wef_tree.proofs.Spelled.{AreGoodBindings, IsGoodBinding}

-- the two reserved prefixes
pub xml_is_name : IsLocalName (codes "xml")
xml_is_name = plain_name (codes "xml") refl

pub xmlns_is_name : IsLocalName (codes "xmlns")
xmlns_is_name = plain_name (codes "xmlns") refl

-- the nine prefixes

-- a prefix of one letter, with its namespace
one_letter :
    (c : ℕ) (space : List ℕ) → list_all is_plain (c ∷ []) ≡ true → is_name_start c ≡ true → is_xml_prefix (c ∷ []) ≡ false → is_xmlns (c ∷ []) ≡ false →
    list_all is_plain space ≡ true → list_all is_xml_char space ≡ true → is_empty space ≡ false → is_xml_space space ≡ false →
    IsGoodBinding (record { prefix = c ∷ []; space = space })
one_letter c space plain begins no_xml no_xmlns plain_space allowed some no_xml_space = record {
  prefix = plain_name_is c [] plain begins refl;
  space = plain_text_is space plain_space allowed;
  some = some;
  no_xml_space = no_xml_space;
  no_xml = no_xml;
  no_xmlns = no_xmlns;
}

-- the nine prefixes may be declared
pub nine_are_good : AreGoodBindings nine
unfolding nine soap_space is_xml_prefix is_xmlns is_xml_space xml_space
nine_are_good = (
  one_letter 115 _ refl refl refl refl refl refl refl refl,
  (
    one_letter 97 _ refl refl refl refl refl refl refl refl,
    (
      one_letter 101 _ refl refl refl refl refl refl refl refl,
      (
        one_letter 110 _ refl refl refl refl refl refl refl refl,
        (
          one_letter 119 _ refl refl refl refl refl refl refl refl,
          (
            one_letter 112 _ refl refl refl refl refl refl refl refl,
            (
              one_letter 109 _ refl refl refl refl refl refl refl refl,
              (
                one_letter 105 _ refl refl refl refl refl refl refl refl,
                (one_letter 117 _ refl refl refl refl refl refl refl refl, tt),
              ),
            ),
          ),
        ),
      ),
    ),
  ),
)

-- what binds

-- bindings further in than others
pub bound_by_good : (bound bs : List Binding) → AreGoodBindings bound → AreGoodBindings bs → AreGoodBindings (bound_by bound bs)
bound_by_good bound [] good more = good
bound_by_good bound (b ∷ bs) good more = bound_by_good (b ∷ bound) bs (more.0, good) more.1

-- a prefix that is found is one that was found further out
unless_bound_is : (front : List ℕ) (o : Option (List ℕ)) (prefix : List ℕ) → unless_bound front o ≡ Some prefix → o ≡ Some prefix
unless_bound_is front None prefix e = absurd (none_some prefix e)
unless_bound_is front (Some found) prefix e = (unless_some (same front found) (Some found) prefix e).1

-- a prefix in scope is a name, and so is that of an element or an attribute
pub prefix_of_good : (bound : List Binding) (space prefix : List ℕ) → AreGoodBindings bound → prefix_of bound space ≡ Some prefix → IsLocalName prefix
prefix_of_good [] space prefix good e = absurd (none_some prefix e)
prefix_of_good (b ∷ bs) space prefix good e = ⊎_elim
    (λ h. subst IsLocalName (some_is b.prefix prefix h.1) good.0.prefix)
    (λ h. prefix_of_good bs space prefix good.1 (unless_bound_is b.prefix (prefix_of bs space) prefix h.1))
    (cond_is (same b.space space) (Some b.prefix) (unless_bound b.prefix (prefix_of bs space)) (Some prefix) e)

pub element_prefix_good : (soap : Bool) (space prefix : List ℕ) → element_prefix soap space ≡ Some prefix → IsLocalName prefix
element_prefix_good soap space prefix e = ⊎_elim
    (λ h. subst IsLocalName (some_is (codes "xml") prefix h.1) xml_is_name)
    (λ h. ⊎_elim (λ k. prefix_of_good nine space prefix nine_are_good k.1) (λ k. absurd (none_some prefix k.1))
    (cond_is soap (prefix_of nine space) None (Some prefix) h.1))
    (cond_is (is_xml_space space) (Some (codes "xml")) (if soap then prefix_of nine space else None) (Some prefix) e)

pub attribute_prefix_good : (bound : List Binding) (space prefix : List ℕ) → AreGoodBindings bound → attribute_prefix bound space ≡ Some prefix → IsLocalName prefix
attribute_prefix_good bound space prefix good e = ⊎_elim
    (λ h. absurd (none_some prefix h.1))
    (λ h. ⊎_elim (λ k. subst IsLocalName (some_is (codes "xml") prefix k.1) xml_is_name) (λ k. prefix_of_good bound space prefix good k.1)
    (cond_is (is_xml_space space) (Some (codes "xml")) (prefix_of bound space) (Some prefix) h.1))
    (cond_is (is_empty space) None (if is_xml_space space then Some (codes "xml") else prefix_of bound space) (Some prefix) e)

-- the numbered prefixes

-- a digit is one character of a name, of ASCII
is_plain_digit : ℕ → Bool
is_plain_digit c = is_plain c && is_name_char c

-- each of the ten
glyph_is : (d : ℕ) → d < 10 → is_plain_digit (digit_glyph false d) ≡ true
unfolding is_plain_digit
glyph_is = each_glyph (λ _ c. is_plain_digit c ≡ true) refl refl refl refl refl refl refl refl refl refl

-- all digits of a number
digits_of_number : (n : ℕ) → list_all is_plain_digit (in_digits n) ≡ true
unfolding in_digits
digits_of_number n = digits_pass is_plain_digit glyph_is (suc n) n [] refl

-- what holds of all by two tests holds by each
halves : {A : Type 0} (p q : A → Bool) (xs : List A) → list_all (λ x. p x && q x) xs ≡ true → (list_all p xs ≡ true) × (list_all q xs ≡ true)
halves p q [] h = (refl, refl)
halves p q (x ∷ xs) h =
    let parts = and_parts (p x && q x) (list_all (λ x. p x && q x) xs) h in
    let here = and_parts (p x) (q x) parts.0 in
    let further = halves p q xs parts.1 in
    (and_from _ _ here.0 further.0, and_from _ _ here.1 further.1)

-- `p` and a number is a name
pub numbered_is_name : (n : ℕ) → IsLocalName (numbered_prefix n)
unfolding is_plain_digit
numbered_is_name n =
    let both = halves is_plain is_name_char (in_digits n) (digits_of_number n) in
    plain_name_is 112 (in_digits n) both.0 refl both.1

-- a namespace that a prefix may be declared for
record IsGoodSpace (space : List ℕ) : Type 0 where
  text : IsXmlText space
  some : is_empty space ≡ false
  no_xml_space : is_xml_space space ≡ false

abbrev AreGoodSpaces : List (List ℕ) → Type 0
AreGoodSpaces [] = Unit {0}
AreGoodSpaces (s ∷ ss) = IsGoodSpace s × AreGoodSpaces ss

-- namespaces with one more
one_space_more : (spaces : List (List ℕ)) (space : List ℕ) → AreGoodSpaces spaces → IsGoodSpace space → AreGoodSpaces (spaces ++ space ∷ [])
one_space_more [] space good more = (more, tt)
one_space_more (s ∷ ss) space good more = (good.0, one_space_more ss space good.1 more)

-- a test that must fail
not_true : (b : Bool) → not b ≡ true → b ≡ false
not_true true e = sym e
not_true false e = refl

-- an attribute needs a prefix only for a namespace that one may be declared for
needs_good : (bound : List Binding) (space : List ℕ) → IsXmlText space → needs_prefix bound space ≡ true → IsGoodSpace space
needs_good bound space text e =
    let parts = and_parts (not (is_empty space) && not (is_xml_space space)) (not (is_some (prefix_of bound space))) e in
    let front = and_parts (not (is_empty space)) (not (is_xml_space space)) parts.0 in
    record { text = text; some = not_true (is_empty space) front.0; no_xml_space = not_true (is_xml_space space) front.1 }

-- some namespaces, with that of one more attribute
with_space_good : (bound : List Binding) (spaces : List (List ℕ)) (space : List ℕ) → AreGoodSpaces spaces → IsXmlText space → AreGoodSpaces (with_space bound spaces space)
with_space_good bound spaces space good text = by (needs_prefix bound space && not (list_any (same space) spaces)) refl
  where
    by : (b : Bool) → (needs_prefix bound space && not (list_any (same space) spaces)) ≡ b → AreGoodSpaces (if b then spaces ++ space ∷ [] else spaces)
    by true e = one_space_more spaces space good (needs_good bound space text (and_parts (needs_prefix bound space) (not (list_any (same space) spaces)) e).0)
    by false e = good

-- the namespaces that the attributes need prefixes for
new_spaces_good : (bound : List Binding) (spaces : List (List ℕ)) (attributes : List Attribute) → AreGoodSpaces spaces → AreGoodAttributes attributes → AreGoodSpaces (new_spaces bound spaces attributes)
new_spaces_good bound spaces [] good attributed = good
new_spaces_good bound spaces (a ∷ more) good attributed =
    new_spaces_good bound (with_space bound spaces a.space) more (with_space_good bound spaces a.space good attributed.0.space) attributed.1

-- the binding of a numbered prefix
numbered_good : (n : ℕ) (space : List ℕ) → IsGoodSpace space → IsGoodBinding (record { prefix = numbered_prefix n; space = space })
unfolding is_xml_prefix is_xmlns
numbered_good n space good = record {
  prefix = numbered_is_name n;
  space = good.text;
  some = good.some;
  no_xml_space = good.no_xml_space;
  no_xml = refl;
  no_xmlns = refl;
}

-- the bindings of some namespaces
bindings_good : (taken : List (List ℕ)) (n : ℕ) (spaces : List (List ℕ)) → AreGoodSpaces spaces → AreGoodBindings (bindings_from taken n spaces)
bindings_good taken n [] good = tt
bindings_good taken n (space ∷ spaces) good =
    (numbered_good (next_free (length taken) taken n) space good.0, bindings_good taken (suc (next_free (length taken) taken n)) spaces good.1)

-- what an element declares for its attributes may be declared
pub new_are_good : (bound : List Binding) (attributes : List Attribute) → AreGoodAttributes attributes → AreGoodBindings (new_bindings bound attributes)
new_are_good bound attributes attributed =
    bindings_good (outer_prefixes bound attributes) 1 (new_spaces bound [] attributes) (new_spaces_good bound [] attributes tt attributed)
