-- What is open holds good parts: names, namespaces, attributes that differ, children that are good and apart.
use Rattle.std.proofs.Common.{◌≡◌, ℕ, suc, Bool, true, false, ◌&&◌, ◌||◌, cond, List, [], ◌∷◌, ◌++◌, refl, ap, sym, ◌∙◌, subst, append_assoc, append-nil}
use Rattle.std.specs.Prelude.{Option, Some, None, is_some, not, codes}
use Rattle.std.specs.List.{list_any}
use Rattle.std.specs.Option.{option_or, option_and_then}
use Rattle.std.specs.Ordering.{eq_by_cmp, nat_cmp}
use Rattle.std.specs.Cmp.Lexicographic.{bytes_decides, slice_cmp, nat_list_cmp_total}
use Rattle.std.specs.declared.cmp.Ordering.{Ordering}
use Rattle.std.specs.declared.cmp.Ordering.TheVariants.{Less, Equal, Greater}
use Rattle.std.specs.FinMap as map
use lib.Utf8.{encode}
use Rattle.std.proofs.lemmas.Map.Lookups.{exact_bytes}
use Rattle.wef_base.specs.Names.{same}
use Rattle.wef_base.specs.declared.tree.Attribute.{Attribute}
use Rattle.wef_base.specs.declared.tree.Element.{Element}
use Rattle.wef_base.specs.declared.tree.Node.{Node, Chars}
use Rattle.wef_base.specs.declared.tree.Node.TheVariants.{Element as Child}
use Rattle.wef_xml.specs.Good.{IsXmlText, IsGoodAttribute, AreGoodAttributes, differ_behind, are_different, is_text, are_apart, IsGoodText, IsGoodNode, AreGoodNodes, IsGoodElement}
use Rattle.wef_tree_reading.specs.Scopes.{Declared, attribute_one, attribute_space, attributes_by, declare_one, declared_by, declared_outside, declares, in_scope, may_declare, undeclared, with_attribute, with_declaration}
use Rattle.wef_xml.specs.Spaces.{is_attribute, is_empty, is_xml_prefix, is_xml_space, is_xmlns, xml_space}
use Rattle.wef_tree_pieces.specs.declared.names.Name.{Name}
use Rattle.wef_tree_reading.specs.declared.stack.Open.{Open}
use Rattle.wef_tree_pieces.specs.declared.tags.Given.{Given}
use Rattle.wef_xml.proofs.GoodNodes.{good_child, is_no_text}
use Rattle.wef_tree_pieces.proofs.GoodPieces.{AreGoodGivens, IsGoodGiven, IsGoodName, no_text}
use Rattle.wef_tree_pieces.proofs.Inversions.{and_then_some, if_some, none_some, some_is, unless_some}

-- declarations

-- a namespace that a prefix may stand for
abbrev pub IsGoodSpace : List ℕ → List ℕ → Type 0
IsGoodSpace prefix space = IsXmlText space × ((is_empty prefix || not (is_empty space)) ≡ true)

abbrev pub AreGoodSpaces : Declared → Type 0
AreGoodSpaces own = (prefix space : List ℕ) → map.get own prefix ≡ Some space → IsGoodSpace prefix space

pub none_declared : AreGoodSpaces map.empty
none_declared prefix space e = absurd (none_some space (sym (map.get-empty (slice_cmp nat_cmp) prefix) ∙ e))

pub equal_if : (o : Ordering) → eq_by_cmp (λ (x y : Unit {0}). o) tt tt ≡ true → o ≡ Equal
equal_if Less e = cc
equal_if Equal e = refl
equal_if Greater e = cc

one_more : (own : Declared) (prefix space : List ℕ) → AreGoodSpaces own → IsGoodSpace prefix space → AreGoodSpaces (map.insert own prefix space)
one_more own prefix space good is q s e = by (eq_by_cmp (slice_cmp nat_cmp) q prefix) refl (sym (map.get-insert nat_list_cmp_total own prefix space q) ∙ e)
  where
    by : (b : Bool) → eq_by_cmp (slice_cmp nat_cmp) q prefix ≡ b → cond b (Some space) (map.get own q) ≡ Some s → IsGoodSpace q s
    by true equal found =
        let P : List ℕ → Type 0 = λ x. IsGoodSpace q x in
        let Q : List ℕ → Type 0 = λ x. IsGoodSpace x space in
        subst P (some_is space s found) (subst Q (sym (exact_bytes q prefix (equal_if (slice_cmp nat_cmp q prefix) equal))) is)
    by false equal found = good q s found

pub front_true : (b c : Bool) → (b && c) ≡ true → b ≡ true
front_true true c e = refl
front_true false c e = e

pub and_true : (b c : Bool) → b ≡ true → c ≡ true → (b && c) ≡ true
and_true true c e f = f
and_true false c e f = e

pub last_true : (b c : Bool) → (b && c) ≡ true → c ≡ true
last_true true c e = e
last_true false true e = refl
last_true false false e = e

pub or_right : (b c : Bool) → c ≡ true → (b || c) ≡ true
or_right true c e = refl
or_right false c e = e

pub one_name : (x y : List ℕ) → same x y ≡ true → x ≡ y
one_name x y e = (bytes_decides x y).0 e

xml_is_some : (is_empty xml_space) ≡ false
unfolding xml_space
xml_is_some = refl

-- a namespace that may be declared isn't empty, but for the default one
may_stand : (prefix space : List ℕ) → may_declare prefix space ≡ true → (is_empty prefix || not (is_empty space)) ≡ true
unfolding is_xml_space
may_stand prefix space = by (is_xml_prefix prefix)
  where
    by : (b : Bool) → cond b (same space xml_space) (not (is_xmlns prefix) && not (same space xml_space) && (is_empty prefix || not (is_empty space))) ≡ true →
        (is_empty prefix || not (is_empty space)) ≡ true
    by true e = or_right (is_empty prefix) (not (is_empty space)) (ap (λ x. not (is_empty x)) (one_name space xml_space e) ∙ ap not xml_is_some)
    by false e = last_true _ _ e

one_declared : (own more : Declared) (prefix space : List ℕ) → IsXmlText space → AreGoodSpaces own → with_declaration own prefix space ≡ Some more → AreGoodSpaces more
one_declared own more prefix space text good e =
    let found = if_some (may_declare prefix space && not (is_some (map.get own prefix))) (Some (map.insert own prefix space)) more e in
    subst AreGoodSpaces (some_is (map.insert own prefix space) more found.1) (one_more own prefix space good (text, may_stand prefix space (front_true _ _ found.0)))

-- declared by one attribute, and by those of a tag
declared_one : (g : Given) (own more : Declared) (o : Option (List ℕ)) → IsGoodGiven g → AreGoodSpaces own → declare_one own g o ≡ Some more → AreGoodSpaces more
declared_one g own more None good spaces e = subst AreGoodSpaces (some_is own more e) spaces
declared_one g own more (Some prefix) good spaces e = one_declared own more prefix g.value good.value spaces e

pub all_declared : (given : List Given) (own more : Declared) → AreGoodGivens given → AreGoodSpaces own → declared_by own given ≡ Some more → AreGoodSpaces more
all_declared [] own more good spaces e = subst AreGoodSpaces (some_is own more e) spaces
all_declared (g ∷ gs) own more good spaces e =
    let first = and_then_some (λ m. declared_by m gs) (declare_one own g (declares g.name)) more e in
    all_declared gs first.0 more good.1 (declared_one g own first.0 (declares g.name) good.0 spaces first.1) first.2

-- an element that is open, whose children may hold so many elements in one another
pub record IsGoodOpen (o : Open) (room : ℕ) : Type 0 where
  pub named : IsGoodName o.name
  pub in_space : IsXmlText o.space
  pub attributed : AreGoodAttributes o.attributes
  pub different : are_different o.attributes ≡ true
  pub spaces : AreGoodSpaces o.declared
  pub apart : are_apart false o.children ≡ true
  pub children : AreGoodNodes o.children room

abbrev pub AreGoodOpens : List Open → ℕ → Type 0
AreGoodOpens [] room = Unit {0}
AreGoodOpens (o ∷ os) room = IsGoodOpen o room × AreGoodOpens os (suc room)

-- namespaces in scope

good_outside : (os : List Open) (room : ℕ) (prefix space : List ℕ) → AreGoodOpens os room → declared_outside os prefix ≡ Some space → IsGoodSpace prefix space
good_outside [] room prefix space good e = absurd (none_some space e)
good_outside (o ∷ os) room prefix space good e = by (map.get o.declared prefix) (good.0.spaces prefix) (good_outside os (suc room) prefix space good.1) e
  where
    by :
        (found : Option (List ℕ)) → ((s : List ℕ) → found ≡ Some s → IsGoodSpace prefix s) → (declared_outside os prefix ≡ Some space → IsGoodSpace prefix space) →
        option_or found (declared_outside os prefix) ≡ Some space → IsGoodSpace prefix space
    by None here further e = further e
    by (Some s) here further e = here space e

xml_is_text : IsXmlText xml_space
unfolding xml_space encode
xml_is_text = record { characters = codes "http://www.w3.org/XML/1998/namespace"; spelt = refl; allowed = refl }

good_undeclared : (prefix space : List ℕ) → undeclared prefix ≡ Some space → IsGoodSpace prefix space
good_undeclared prefix space e =
    let found = if_some (is_empty prefix) (Some []) space e in
    let P : List ℕ → Type 0 = λ x. IsGoodSpace prefix x in
    subst P (some_is [] space found.1) (no_text, ap (λ b. b || false) found.0)

pub good_in_scope :
    (own : Declared) (os : List Open) (room : ℕ) (prefix space : List ℕ) → AreGoodSpaces own → AreGoodOpens os room →
    in_scope own os prefix ≡ Some space → IsGoodSpace prefix space
good_in_scope own os room prefix space good around =
    by (is_xml_prefix prefix) (map.get own prefix) (declared_outside os prefix) (good prefix) (good_outside os room prefix space around)
  where
    by :
        (b : Bool) (here outside : Option (List ℕ)) → ((s : List ℕ) → here ≡ Some s → IsGoodSpace prefix s) →
        (outside ≡ Some space → IsGoodSpace prefix space) →
        cond b (Some xml_space) (option_or here (option_or outside (undeclared prefix))) ≡ Some space → IsGoodSpace prefix space
    by true here outside first second e =
        let P : List ℕ → Type 0 = λ x. IsGoodSpace prefix x in
        subst P (some_is xml_space space e) (xml_is_text, or_right (is_empty prefix) _ (ap not xml_is_some))
    by false (Some s) outside first second e = first space e
    by false None (Some s) first second e = second e
    by false None None first second e = good_undeclared prefix space e

-- attributes

-- the namespace of an attribute that is no declaration
good_attribute_space :
    (own : Declared) (os : List Open) (room : ℕ) (name : Name) (space : List ℕ) → AreGoodSpaces own → AreGoodOpens os room →
    is_some (declares name) ≡ false → attribute_space own os name.prefix ≡ Some space → IsXmlText space × ((is_empty space && is_xmlns name.local) ≡ false)
good_attribute_space own os room name space good around = by (is_empty name.prefix) (is_xmlns name.local) (good_in_scope own os room name.prefix space good around)
  where
    absent : (x : Bool) → is_some (cond {A = Option (List ℕ)} x (Some []) None) ≡ false → x ≡ false
    absent true e = e
    absent false e = refl

    shut : (x y : Bool) → not x ≡ true → (x && y) ≡ false
    shut true y e = absurd (cc)
    shut false y e = refl

    by :
        (b x : Bool) → (in_scope own os name.prefix ≡ Some space → IsXmlText space × ((b || not (is_empty space)) ≡ true)) →
        is_some (cond b (cond x (Some []) None) (cond (is_xmlns name.prefix) (Some name.local) None)) ≡ false →
        cond b (Some []) (in_scope own os name.prefix) ≡ Some space → IsXmlText space × ((is_empty space && x) ≡ false)
    by true true so none e = absurd (cc)
    by true false so none e =
        let P : List ℕ → Type 0 = λ s. IsXmlText s × ((is_empty s && false) ≡ false) in subst P (some_is [] space e) (no_text, refl)
    by false x so none e = ((so e).0, shut (is_empty space) x (so e).1)

good_more_attributes : (before : List Attribute) (a : Attribute) → AreGoodAttributes before → IsGoodAttribute a → AreGoodAttributes (before ++ a ∷ [])
good_more_attributes [] a good is = (is, tt)
good_more_attributes (b ∷ bs) a good is = (good.0, good_more_attributes bs a good.1 is)

differ_more :
    (front before : List Attribute) (a : Attribute) → differ_behind front before ≡ true → list_any (is_attribute a.space a.name) (front ++ before) ≡ false →
    differ_behind front (before ++ a ∷ []) ≡ true
differ_more front [] a differ none = and_true _ _ (ap not (ap (list_any (is_attribute a.space a.name)) (sym (append-nil front)) ∙ none)) refl
differ_more front (b ∷ bs) a differ none =
    and_true _ _ (front_true _ _ differ) (differ_more (front ++ b ∷ []) bs a (last_true _ _ differ) (ap (list_any (is_attribute a.space a.name)) (append_assoc front (b ∷ []) bs) ∙ none))

-- attributes that are good and differ
pub record AreGood (attributes : List Attribute) : Type 0 where
  pub good : AreGoodAttributes attributes
  pub differ : are_different attributes ≡ true

good_one :
    (own : Declared) (os : List Open) (room : ℕ) (before more : List Attribute) (g : Given) → AreGoodSpaces own → AreGoodOpens os room → IsGoodGiven g →
    AreGood before → attribute_one own os before g ≡ Some more → AreGood more
good_one own os room before more g spaces around is good = by (is_some (declares g.name)) refl
  where
    with : (space : List ℕ) → IsXmlText space × ((is_empty space && is_xmlns g.name.local) ≡ false) → with_attribute before g space ≡ Some more → AreGood more
    with space here e =
        let found = unless_some (list_any (is_attribute space g.name.local) before) (Some (before ++ record { space = space; name = g.name.local; value = g.value } ∷ [])) more e in
        let attribute : Attribute = record { space = space; name = g.name.local; value = g.value } in
        subst AreGood (some_is (before ++ attribute ∷ []) more found.1) (record {
          good = good_more_attributes before attribute good.good (record { name = is.named.local; space = here.0; value = is.value; no_declaration = here.1 });
          differ = differ_more [] before attribute good.differ found.0;
        })

    by : (b : Bool) → is_some (declares g.name) ≡ b → cond b (Some before) (option_and_then (with_attribute before g) (attribute_space own os g.name.prefix)) ≡ Some more → AreGood more
    by true none e = subst AreGood (some_is before more e) good
    by false none e =
        let space = and_then_some (with_attribute before g) (attribute_space own os g.name.prefix) more e in
        with space.0 (good_attribute_space own os room g.name space.0 spaces around none space.1) space.2

pub good_attributes :
    (given : List Given) (own : Declared) (os : List Open) (room : ℕ) (before more : List Attribute) → AreGoodSpaces own → AreGoodOpens os room →
    AreGoodGivens given → AreGood before → attributes_by own os before given ≡ Some more → AreGood more
good_attributes [] own os room before more spaces around is good e = subst AreGood (some_is before more e) good
good_attributes (g ∷ gs) own os room before more spaces around is good e =
    let first = and_then_some (λ b. attributes_by own os b gs) (attribute_one own os before g) more e in
    good_attributes gs own os room first.0 more spaces around is.1 (good_one own os room before first.0 g spaces around is.0 good first.1) first.2

-- children

-- whether the last of some nodes is a text; `after`: whether one stands before them
abbrev pub ends_with_text : Bool → List Node → Bool
ends_with_text after [] = after
ends_with_text after (n ∷ ns) = ends_with_text (is_text n) ns

ends_more : (after : Bool) (ns : List Node) (n : Node) → ends_with_text after (ns ++ n ∷ []) ≡ is_text n
ends_more after [] n = refl
ends_more after (m ∷ ms) n = ends_more (is_text m) ms n

apart_more : (after : Bool) (ns : List Node) (n : Node) → are_apart after ns ≡ true → (ends_with_text after ns && is_text n) ≡ false → are_apart after (ns ++ n ∷ []) ≡ true
apart_more after [] n apart here = and_true _ _ (ap not here) refl
apart_more after (m ∷ ms) n apart here = and_true _ _ (front_true _ _ apart) (apart_more (is_text m) ms n (last_true _ _ apart) here)

good_more : (ns : List Node) (n : Node) (room : ℕ) → AreGoodNodes ns room → IsGoodNode n room → AreGoodNodes (ns ++ n ∷ []) room
good_more [] n room good is = (is, tt)
good_more (m ∷ ms) n room good is = (good.0, good_more ms n room good.1 is)

-- nodes that may be children
pub record AreGoodChildren (ns : List Node) (room : ℕ) : Type 0 where
  pub apart : are_apart false ns ≡ true
  pub good : AreGoodNodes ns room

pub with_good_text : (ns : List Node) (text : List ℕ) (room : ℕ) → AreGoodChildren ns room → ends_with_text false ns ≡ false → IsGoodText text → AreGoodChildren (ns ++ Chars text ∷ []) room
with_good_text ns text room good fresh is = record {
  apart = apart_more false ns (Chars text) good.apart (ap (λ b. b && true) fresh);
  good = good_more ns (Chars text) room good.good is;
}

pub with_good_child : (ns : List Node) (e : Element) (room : ℕ) → AreGoodChildren ns room → IsGoodElement e room → AreGoodChildren (ns ++ Child e ∷ []) room
with_good_child ns e room good is = record {
  apart = apart_more false ns (Child e) good.apart (ap (λ b. ends_with_text false ns && b) (is_no_text e) ∙ never (ends_with_text false ns));
  good = good_more ns (Child e) room good.good (good_child (Child e) e room refl is);
}
  where
    never : (x : Bool) → (x && false) ≡ false
    never true = refl
    never false = refl

pub ends_with_child : (ns : List Node) (e : Element) → ends_with_text false (ns ++ Child e ∷ []) ≡ false
ends_with_child ns e = ends_more false ns (Child e) ∙ is_no_text e
