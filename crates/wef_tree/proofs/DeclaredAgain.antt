-- The declarations of a written tag are read again: each is good, the first of its prefix, and stands for what its binding
-- says.
use Rattle.std.proofs.Common.{◌≡◌, ℕ, Bool, true, false, ◌&&◌, ◌||◌, cond, List, [], ◌∷◌, ◌++◌, map, refl, ap, sym, ◌∙◌}
use Rattle.std.specs.Prelude.{Some, None, is_some, not, codes}
use Rattle.std.specs.Option.{option_or, option_and_then}
use Rattle.std.specs.Ordering.{nat_cmp}
use Rattle.std.specs.Cmp.Lexicographic.{nat_list_cmp_total, slice_cmp, texts_ties}
use Rattle.std.specs.FinMap as map
use Rattle.wef_base.specs.Names.{same}
use Rattle.wef_xml.specs.Prefixes.{Scope, element_prefix, nine, prefix_of}
use Rattle.wef_tree_reading.specs.Scopes.{Declared, declared_by, may_declare, with_declaration}
use Rattle.wef_xml.specs.Spaces.{is_empty, is_xml_prefix, is_xml_space, is_xmlns}
use Rattle.wef_xml.specs.declared.bindings.Binding.{Binding}
use Rattle.wef_tree_pieces.specs.declared.tags.Given.{Given}
use Rattle.wef_tree_writing.specs.Levels.{bound_to}
use Rattle.wef_tree.proofs.BoundPrefixes.{AreDistinct, at_other, same_self, same_turned}
use Rattle.wef_tree_reading.proofs.GoodOpens.{one_name, or_right}
use Rattle.wef_tree_pieces.proofs.Inversions.{none_some}
use Rattle.wef_tree.proofs.Spelled.{AreGoodBindings, IsGoodBinding, declaration_given, default_given}

-- one more declaration, at each prefix
pub get_more : (own : Declared) (p s q : List ℕ) → map.get (map.insert own p s) q ≡ cond (same p q) (Some s) (map.get own q)
get_more own p s q = map.get-insert nat_list_cmp_total own p s q ∙ ap (λ b. cond b (Some s) (map.get own q)) (sym (texts_ties q p) ∙ same_turned q p)

-- a binding may be declared
binding_may : (b : Binding) → IsGoodBinding b → may_declare b.prefix b.space ≡ true
binding_may b good =
    ap (λ t. cond t (is_xml_space b.space) (not (is_xmlns b.prefix) && not (is_xml_space b.space) && (is_empty b.prefix || not (is_empty b.space)))) good.no_xml
    ∙ (λ i. not (good.no_xmlns i) && not (good.no_xml_space i) && (is_empty b.prefix || not (is_empty b.space)))
    ∙ or_right (is_empty b.prefix) (not (is_empty b.space)) (ap not good.some)

-- what may be declared is, once
declared_once : (own : Declared) (p s : List ℕ) → may_declare p s ≡ true → map.get own p ≡ None → with_declaration own p s ≡ Some (map.insert own p s)
declared_once own p s may free = λ i. cond (may i && not (is_some (free i))) (Some (map.insert own p s)) None

binding_step :
    (own : Declared) (b : Binding) (rest : List Given) → IsGoodBinding b → map.get own b.prefix ≡ None →
    declared_by own (declaration_given b ∷ rest) ≡ declared_by (map.insert own b.prefix b.space) rest
unfolding is_xmlns
binding_step own b rest good free =
    ap (option_and_then (λ more. declared_by more rest)) (declared_once own b.prefix b.space (binding_may b good) free)

-- what the declarations of some bindings add to others
pub record DeclaresThese (own : Declared) (bs : List Binding) : Type 0 where
  pub all : Declared
  pub declared : (rest : List Given) → declared_by own (map declaration_given bs ++ rest) ≡ declared_by all rest
  pub at : (q : List ℕ) → map.get all q ≡ option_or (bound_to bs q) (map.get own q)

pub these_declared :
    (bs : List Binding) (own : Declared) → AreGoodBindings bs → AreDistinct bs → ((q s : List ℕ) → bound_to bs q ≡ Some s → map.get own q ≡ None) →
    DeclaresThese own bs
these_declared [] own good distinct apart = record { all = own; declared = λ rest. refl; at = λ q. refl }
these_declared (b ∷ bs) own good distinct apart = with (these_declared bs (map.insert own b.prefix b.space) good.1 distinct.1 further)
  where
    free : map.get own b.prefix ≡ None
    free = apart b.prefix b.space (ap (λ t. cond t (Some b.space) (bound_to bs b.prefix)) (same_self b.prefix))

    apart_behind : (q s : List ℕ) → bound_to bs q ≡ Some s → (t : Bool) → same b.prefix q ≡ t → cond t (Some b.space) (map.get own q) ≡ None
    apart_behind q s is true e = absurd (none_some s (sym distinct.0 ∙ ap (bound_to bs) (one_name b.prefix q e) ∙ is))
    apart_behind q s is false e = apart q s (at_other b bs q e ∙ is)

    further : (q s : List ℕ) → bound_to bs q ≡ Some s → map.get (map.insert own b.prefix b.space) q ≡ None
    further q s is = get_more own b.prefix b.space q ∙ apart_behind q s is (same b.prefix q) refl

    here : (q : List ℕ) (t : Bool) → same b.prefix q ≡ t →
        option_or (bound_to bs q) (cond t (Some b.space) (map.get own q)) ≡ option_or (cond t (Some b.space) (bound_to bs q)) (map.get own q)
    here q true e = ap (λ o. option_or o (Some b.space)) (ap (bound_to bs) (sym (one_name b.prefix q e)) ∙ distinct.0)
    here q false e = refl

    with : DeclaresThese (map.insert own b.prefix b.space) bs → DeclaresThese own (b ∷ bs)
    with more = record {
      all = more.all;
      declared = λ rest. binding_step own b (map declaration_given bs ++ rest) good.0 free ∙ more.declared rest;
      at = λ q. more.at q ∙ ap (option_or (bound_to bs q)) (get_more own b.prefix b.space q) ∙ here q (same b.prefix q) refl;
    }

-- the default namespace that a tag declares, if it does
abbrev pub defaults : Bool → List ℕ → Declared
defaults true space = map.empty
defaults false space = map.insert map.empty [] space

default_may : (space : List ℕ) → is_xml_space space ≡ false → may_declare [] space ≡ true
unfolding is_xml_prefix is_xmlns
default_may space e = ap (λ t. not t && true) e

default_step : (space : List ℕ) (rest : List Given) → is_xml_space space ≡ false →
    declared_by map.empty (record { name = record { prefix = []; local = codes "xmlns" }; value = space } ∷ rest) ≡ declared_by (map.insert map.empty [] space) rest
unfolding is_xmlns
default_step space rest e =
    ap (option_and_then (λ more. declared_by more rest)) (declared_once map.empty [] space (default_may space e) (map.get-empty (slice_cmp nat_cmp) []))

-- a namespace without a prefix isn't that of `xml`
no_xml_space : (soap : Bool) (space : List ℕ) → is_some (element_prefix soap space) ≡ false → is_xml_space space ≡ false
no_xml_space soap space e = by (is_xml_space space) e
  where
    by : (t : Bool) → is_some (cond t (Some (codes "xml")) (cond soap (prefix_of nine space) None)) ≡ false → t ≡ false
    by true f = absurd cc
    by false f = refl

pub default_declared :
    (scope : Scope) (space : List ℕ) (rest : List Given) →
    declared_by map.empty (default_given scope space ++ rest) ≡ declared_by (defaults (is_some (element_prefix scope.soap space) || same scope.default space) space) rest
default_declared scope space rest = by (is_some (element_prefix scope.soap space)) (same scope.default space) refl
  where
    by : (t u : Bool) → is_some (element_prefix scope.soap space) ≡ t →
        declared_by map.empty (cond (t || u) [] (record { name = record { prefix = []; local = codes "xmlns" }; value = space } ∷ []) ++ rest) ≡ declared_by (defaults (t || u) space) rest
    by true u e = refl
    by false true e = refl
    by false false e = default_step space rest (no_xml_space scope.soap space e)

-- it is the only prefix that is declared so
pub default_alone : (t : Bool) (space p : List ℕ) → is_empty p ≡ false → map.get (defaults t space) p ≡ None
default_alone true space p e = map.get-empty (slice_cmp nat_cmp) p
default_alone false space p e = get_more map.empty [] space p ∙ of p e
  where
    of : (p : List ℕ) → is_empty p ≡ false → cond (same [] p) (Some space) (map.get {R = slice_cmp nat_cmp} map.empty p) ≡ None
    of [] e = absurd cc
    of (c ∷ cs) e = map.get-empty (slice_cmp nat_cmp) (c ∷ cs)
