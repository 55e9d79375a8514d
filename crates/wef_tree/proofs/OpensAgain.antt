-- A written start tag opens its element again: its namespaces are those of the element and its attributes, and what is in
-- force inside is the same to the writer and the reader.
use Rattle.std.proofs.Common.{◌≡◌, ℕ, Bool, true, false, ◌&&◌, ◌||◌, cond, List, [], ◌∷◌, ◌++◌, map, refl, ap, sym, ◌∙◌, subst, ◌⊎◌, inl, inr, append_assoc, append-nil, arith}
use Rattle.std.specs.Prelude.{Option, Some, None, is_some, unwrap_or, not, codes}
use Rattle.std.specs.List.{list_any}
use Rattle.std.specs.Option.{option_or, option_map, option_and_then}
use Rattle.std.specs.Ordering.{nat_cmp}
use Rattle.std.specs.Cmp.Lexicographic.{slice_cmp}
use Rattle.std.specs.FinMap as map
use Rattle.std.proofs.lemmas.Bool.Decides.{nat_tests}
use Rattle.wef_base.specs.Names.{same}
use Rattle.wef_base.specs.declared.tree.Attribute.{Attribute}
use Rattle.wef_tree_reading.specs.Building.{has_room, opened, opened_with}
use Rattle.wef_xml.specs.Good.{IsGoodAttribute, AreGoodAttributes, IsGoodHead, IsXmlText, differ_behind}
use Rattle.wef_xml.specs.Prefixes.{Scope, attribute_prefix, bound_by, element_prefix, inside, new_bindings, nine, prefix_of}
use Rattle.wef_tree_reading.specs.Scopes.{Declared, attribute_one, attribute_space, attributes_by, declare_one, declared_by, declared_outside, declares, in_scope, undeclared, with_attribute}
use Rattle.wef_xml.specs.Spaces.{is_attribute, is_empty, is_xml_prefix, is_xml_space, is_xmlns, xml_space}
use Rattle.wef_xml.specs.declared.bindings.Binding.{Binding}
use Rattle.wef_tree_reading.specs.declared.building.Builder.{Builder}
use Rattle.wef_tree_reading.specs.declared.stack.Open.{Open}
use Rattle.wef_tree_pieces.specs.declared.tags.Given.{Given}
use Rattle.wef_tree_writing.specs.Levels.{bound_to}
use Rattle.wef_tree.proofs.BoundPrefixes.{AreDistinct, AreLetters, bound_good, bound_letter, has_space, inside_bound, name_some, never, none_empty, prefix_good, prefix_letter, unchanged}
use Rattle.wef_tree.proofs.DeclaredAgain.{DeclaresThese, default_alone, default_declared, defaults, get_more, these_declared}
use Rattle.wef_tree_reading.proofs.GoodOpens.{front_true, last_true, one_name}
use Rattle.wef_tree.proofs.GoodPrefixes.{bound_by_good, new_are_good, nine_are_good}
use Rattle.wef_tree_pieces.proofs.Inversions.{none_some, some_is}
use Rattle.wef_tree.proofs.NewBindings.{AreNew, IsOneOf, has_prefix, new_are}
use Rattle.wef_tree.proofs.Spelled.{Agrees, AreGoodBindings, IsGoodBinding, OpenedAgain, Opens, attribute_given, declaration_given, default_given, spelled, spelled_name}

-- the first of several answers

or_more : (x y z : Option (List ℕ)) (s : List ℕ) → option_or x y ≡ Some s → option_or x (option_or y z) ≡ Some s
or_more None y z s e = ap (λ o. option_or o z) e
or_more (Some r) y z s e = e

or_assoc : (x y z : Option (List ℕ)) → option_or (option_or x y) z ≡ option_or x (option_or y z)
or_assoc None y z = refl
or_assoc (Some r) y z = refl

or_none : (x : Option (List ℕ)) → option_or x None ≡ x
or_none None = refl
or_none (Some r) = refl

empty_is : (x : List ℕ) → is_empty x ≡ true → [] ≡ x
empty_is [] e = refl
empty_is (c ∷ cs) e = absurd (grind (arith, nat_tests))

-- what the writer has in force inside an element, as a reader of its tag has it
record IsInForce (own : Declared) (around : List Open) (scope : Scope) : Type 0 where
  default : option_or (map.get own []) (option_or (declared_outside around []) (Some [])) ≡ Some scope.default
  default_is : IsXmlText scope.default
  bindings : AreGoodBindings scope.bound
  bound : (space prefix : List ℕ) → prefix_of scope.bound space ≡ Some prefix → option_or (map.get own prefix) (declared_outside around prefix) ≡ Some space
  nine_bound : scope.soap ≡ true → (space prefix : List ℕ) → prefix_of nine space ≡ Some prefix → prefix_of scope.bound space ≡ Some prefix

-- so the inner elements agree
agrees_inside :
    (o : Open) (around os : List Open) (scope : Scope) → IsInForce o.declared around scope → ((prefix : List ℕ) → declared_outside os prefix ≡ declared_outside around prefix) →
    Agrees [] scope (o ∷ os)
agrees_inside o around os scope force alike = record {
  default =
      ap (λ x. option_or (option_or (map.get o.declared []) x) (Some [])) (alike [])
      ∙ or_assoc (map.get o.declared []) (declared_outside around []) (Some []) ∙ force.default;
  default_is = force.default_is;
  bindings = force.bindings;
  bound = λ s p e. ap (option_or (map.get o.declared p)) (alike p) ∙ force.bound s p e;
  nine_bound = force.nine_bound;
}

-- what a prefix of the element's stands for
stands_for : (own : Declared) (around : List Open) (p s : List ℕ) → is_xml_prefix p ≡ false → option_or (map.get own p) (declared_outside around p) ≡ Some s → in_scope own around p ≡ Some s
stands_for own around p s other e =
    ap (λ t. cond t (Some xml_space) (option_or (map.get own p) (option_or (declared_outside around p) (undeclared p)))) other
    ∙ or_more (map.get own p) (declared_outside around p) (undeclared p) s e

xml_stands : (own : Declared) (around : List Open) (s : List ℕ) → is_xml_space s ≡ true → in_scope own around (codes "xml") ≡ Some s
unfolding is_xml_prefix is_xml_space
xml_stands own around s e = ap Some (sym (one_name s xml_space e))

none_stands : (own : Declared) (around : List Open) (s : List ℕ) → option_or (map.get own []) (option_or (declared_outside around []) (Some [])) ≡ Some s → in_scope own around [] ≡ Some s
unfolding is_xml_prefix
none_stands own around s e = e

-- the element's own namespace
own_space :
    (own : Declared) (around : List Open) (scope : Scope) (space name : List ℕ) (attributes : List Attribute) → IsInForce own around (inside scope space attributes) →
    in_scope own around (spelled_name scope space name).prefix ≡ Some space
own_space own around scope space name attributes force = by (element_prefix scope.soap space) refl force.default
  where
    bound : (p : List ℕ) → prefix_of (inside scope space attributes).bound space ≡ Some p → in_scope own around p ≡ Some space
    bound p e =
        let b = prefix_good (inside scope space attributes).bound space p force.bindings e in
        stands_for own around p space (ap is_xml_prefix (sym b.2) ∙ b.1.no_xml) (force.bound space p e)

    plain : (p : List ℕ) (soap : Bool) → scope.soap ≡ soap → cond soap (prefix_of nine space) None ≡ Some p → in_scope own around p ≡ Some space
    plain p true is e = bound p (force.nine_bound is space p e)
    plain p false is e = absurd (none_some p e)

    some : (p : List ℕ) (xml : Bool) → is_xml_space space ≡ xml → cond xml (Some (codes "xml")) (cond scope.soap (prefix_of nine space) None) ≡ Some p → in_scope own around p ≡ Some space
    some p true is e = ap (in_scope own around) (sym (some_is (codes "xml") p e)) ∙ xml_stands own around space is
    some p false is e = plain p scope.soap refl e

    by : (o : Option (List ℕ)) → element_prefix scope.soap space ≡ o →
        option_or (map.get own []) (option_or (declared_outside around []) (Some [])) ≡ Some (cond (is_some o) scope.default space) → in_scope own around (unwrap_or o []) ≡ Some space
    by None e default = none_stands own around space default
    by (Some p) e default = some p (is_xml_space space) refl e

-- an attribute that is read under this prefix is no declaration, and of its namespace
abbrev IsReadUnder : Declared → List Open → Attribute → List ℕ → Type 0
IsReadUnder own around a p = (declares (record { prefix = p; local = a.name }) ≡ None) × (attribute_space own around p ≡ Some a.space)

read_plain : (own : Declared) (around : List Open) (a : Attribute) → IsGoodAttribute a → is_empty a.space ≡ true → IsReadUnder own around a []
read_plain own around a good empty =
    (ap (λ t. cond t (Some []) None) (sym (ap (λ t. t && is_xmlns a.name) empty) ∙ good.no_declaration), ap Some (empty_is a.space empty))

read_xml : (own : Declared) (around : List Open) (a : Attribute) → is_xml_space a.space ≡ true → IsReadUnder own around a (codes "xml")
unfolding is_xmlns
read_xml own around a e = (refl, xml_stands own around a.space e)

read_bound :
    (own : Declared) (around : List Open) (a : Attribute) (b : Binding) → IsGoodBinding b →
    option_or (map.get own b.prefix) (declared_outside around b.prefix) ≡ Some a.space → IsReadUnder own around a b.prefix
read_bound own around a b good e =
    let some : is_empty b.prefix ≡ false = name_some b.prefix good.prefix in (
      (λ i. cond (some i) (cond (is_xmlns a.name) (Some []) None) (cond (good.no_xmlns i) (Some a.name) None)),
      ap (λ t. cond t (Some []) (in_scope own around b.prefix)) some ∙ stands_for own around b.prefix a.space good.no_xml e,
    )

read_again :
    (own : Declared) (around : List Open) (scope : Scope) (a : Attribute) → IsInForce own around scope → IsGoodAttribute a →
    (is_empty a.space ≡ false → is_xml_space a.space ≡ false → (q : List ℕ) × (prefix_of scope.bound a.space ≡ Some q)) →
    IsReadUnder own around a (unwrap_or (attribute_prefix scope.bound a.space) [])
read_again own around scope a force good known = by (is_empty a.space) refl
  where
    bound : (q : List ℕ) × (prefix_of scope.bound a.space ≡ Some q) → IsReadUnder own around a (unwrap_or (prefix_of scope.bound a.space) [])
    bound found =
        let b = prefix_good scope.bound a.space found.0 force.bindings found.1 in
        let P : List ℕ → Type 0 = λ p. IsReadUnder own around a p in
        let at : prefix_of scope.bound a.space ≡ Some b.0.prefix = found.1 ∙ ap Some (sym b.2) in
        subst P (sym (ap (λ (o : Option (List ℕ)). unwrap_or o []) at)) (read_bound own around a b.0 b.1 (force.bound a.space b.0.prefix at))

    other : is_empty a.space ≡ false → (t : Bool) → is_xml_space a.space ≡ t → IsReadUnder own around a (unwrap_or (cond t (Some (codes "xml")) (prefix_of scope.bound a.space)) [])
    other some true e = read_xml own around a e
    other some false e = bound (known some e)

    by : (t : Bool) → is_empty a.space ≡ t →
        IsReadUnder own around a (unwrap_or (cond t None (cond (is_xml_space a.space) (Some (codes "xml")) (prefix_of scope.bound a.space))) [])
    by true e = read_plain own around a good e
    by false e = other e (is_xml_space a.space) refl

-- attributes that are read so
abbrev AreRead : Declared → List Open → List Binding → List Attribute → Type 0
AreRead own around bound [] = Unit {0}
AreRead own around bound (a ∷ more) = IsReadUnder own around a (unwrap_or (attribute_prefix bound a.space) []) × AreRead own around bound more

all_read :
    (own : Declared) (around : List Open) (scope : Scope) (attributes : List Attribute) → IsInForce own around scope → AreGoodAttributes attributes →
    ((a : Attribute) → IsOneOf a attributes → is_empty a.space ≡ false → is_xml_space a.space ≡ false → (q : List ℕ) × (prefix_of scope.bound a.space ≡ Some q)) →
    AreRead own around scope.bound attributes
all_read own around scope [] force good known = tt
all_read own around scope (a ∷ more) force good known =
    (read_again own around scope a force good.0 (known a (inl refl)), all_read own around scope more force good.1 (λ b is. known b (inr is)))

-- they declare nothing
none_declared : (own : Declared) (around : List Open) (bound : List Binding) (attributes : List Attribute) → AreRead own around bound attributes →
    declared_by own (map (attribute_given bound) attributes) ≡ Some own
none_declared own around bound [] read = refl
none_declared own around bound (a ∷ more) read =
    ap (λ o. option_and_then (λ next. declared_by next (map (attribute_given bound) more)) (declare_one own (attribute_given bound a) o)) read.0.0
    ∙ none_declared own around bound more read.1

-- and are the attributes themselves
attributes_again : (own : Declared) (around : List Open) (bound : List Binding) (attributes before : List Attribute) → AreRead own around bound attributes → differ_behind before attributes ≡ true →
    attributes_by own around before (map (attribute_given bound) attributes) ≡ Some (before ++ attributes)
attributes_again own around bound [] before read differ = ap Some (sym (append-nil before))
attributes_again own around bound (a ∷ more) before read differ =
    ap (option_and_then next) one ∙ attributes_again own around bound more (before ++ a ∷ []) read.1 (last_true _ _ differ) ∙ ap Some (append_assoc before (a ∷ []) more)
  where
    next : List Attribute → Option (List Attribute)
    next so_far = attributes_by own around so_far (map (attribute_given bound) more)

    fresh : list_any (is_attribute a.space a.name) before ≡ false
    fresh = of (list_any (is_attribute a.space a.name) before) (front_true _ _ differ)
      where
        of : (t : Bool) → not t ≡ true → t ≡ false
        of true e = absurd cc
        of false e = refl

    one : attribute_one own around before (attribute_given bound a) ≡ Some (before ++ a ∷ [])
    one =
        ap (λ o. cond (is_some o) (Some before) (option_and_then (with_attribute before (attribute_given bound a))
        (attribute_space own around (attribute_given bound a).name.prefix))) read.0.0
        ∙ ap (option_and_then (with_attribute before (attribute_given bound a))) read.0.1
        ∙ ap (λ t. cond t None (Some (before ++ a ∷ []))) fresh

-- declarations are no attributes
bindings_passed : (own : Declared) (around : List Open) (bs : List Binding) (rest : List Given) → attributes_by own around [] (map declaration_given bs ++ rest) ≡ attributes_by own around [] rest
unfolding is_xmlns
bindings_passed own around [] rest = refl
bindings_passed own around (b ∷ bs) rest = bindings_passed own around bs rest

default_passed : (own : Declared) (around : List Open) (scope : Scope) (space : List ℕ) (rest : List Given) →
    attributes_by own around [] (default_given scope space ++ rest) ≡ attributes_by own around [] rest
unfolding is_xmlns
default_passed own around scope space rest = by (is_some (element_prefix scope.soap space) || same scope.default space)
  where
    by : (t : Bool) → attributes_by own around [] (cond t [] (record { name = record { prefix = []; local = codes "xmlns" }; value = space } ∷ []) ++ rest) ≡ attributes_by own around [] rest
    by true = refl
    by false = refl

-- the bindings that the root may declare first
record AreFirst (first : List Binding) : Type 0 where
  good : AreGoodBindings first
  distinct : AreDistinct first
  letters : AreLetters first

nine_distinct : AreDistinct nine
unfolding nine
nine_distinct = (refl, (refl, (refl, (refl, (refl, (refl, (refl, (refl, (refl, tt)))))))))

nine_letters : AreLetters nine
unfolding nine
nine_letters = (refl, (refl, (refl, (refl, (refl, (refl, (refl, (refl, (refl, tt)))))))))

are_first : (first : List Binding) (scope : Scope) (around : List Open) → (first ≡ []) ⊎ ((first ≡ nine) × (around ≡ []) × (scope.soap ≡ true)) → AreFirst first
are_first first scope around (inl e) = subst AreFirst (sym e) (record { good = tt; distinct = tt; letters = tt })
are_first first scope around (inr e) = subst AreFirst (sym e.0) (record { good = nine_are_good; distinct = nine_distinct; letters = nine_letters })

-- one letter is no new prefix
not_both : (first bs : List Binding) (scope : Scope) (attributes : List Attribute) (q s : List ℕ) → AreFirst first → AreNew scope.bound attributes bs → bound_to bs q ≡ Some s → bound_to first q ≡ None
not_both first bs scope attributes q s is new e = by (bound_to first q) refl
  where
    by : (o : Option (List ℕ)) → bound_to first q ≡ o → o ≡ None
    by None f = refl
    by (Some r) f = absurd (none_some s (sym (new.letters q (bound_letter first q r is.letters f)) ∙ e))

-- a prefix that is bound isn't empty
bound_some : (bs : List Binding) (q s : List ℕ) → AreGoodBindings bs → bound_to bs q ≡ Some s → is_empty q ≡ false
bound_some bs q s good e = let b = bound_good bs q s good e in ap is_empty (sym b.2) ∙ name_some b.0.prefix b.1.prefix

-- what a tag declares in all, at each prefix
record DeclaresAll (first bs : List Binding) (base : Declared) : Type 0 where
  all : Declared
  declared : (rest : List Given) → declared_by base (map declaration_given first ++ (map declaration_given bs ++ rest)) ≡ declared_by all rest
  at : (q : List ℕ) → map.get all q ≡ option_or (bound_to bs q) (option_or (bound_to first q) (map.get base q))

all_declared :
    (first bs : List Binding) (base : Declared) → AreFirst first → AreGoodBindings bs → AreDistinct bs →
    ((p : List ℕ) → is_empty p ≡ false → map.get base p ≡ None) → ((q s : List ℕ) → bound_to bs q ≡ Some s → bound_to first q ≡ None) →
    DeclaresAll first bs base
all_declared first bs base is good distinct alone apart = of (these_declared first base is.good is.distinct (λ q s e. alone q (bound_some first q s is.good e)))
  where
    of : DeclaresThese base first → DeclaresAll first bs base
    of one = more (these_declared bs one.all good distinct (λ q s e. one.at q ∙ (λ i. option_or (apart q s e i) (alone q (bound_some bs q s good e) i))))
      where
        more : DeclaresThese one.all bs → DeclaresAll first bs base
        more two = record {
          all = two.all;
          declared = λ rest. one.declared (map declaration_given bs ++ rest) ∙ two.declared rest;
          at = λ q. two.at q ∙ ap (option_or (bound_to bs q)) (one.at q);
        }

-- a prefix from outside that is still in force inside
still_in_force :
    (first bs : List Binding) (own base : Declared) (around : List Open) (p s : List ℕ) → map.get own p ≡ option_or (bound_to bs p) (option_or (bound_to first p) (map.get base p)) →
    map.get base p ≡ None → bound_to bs p ≡ None → option_or (bound_to first p) (declared_outside around p) ≡ Some s →
    option_or (map.get own p) (declared_outside around p) ≡ Some s
still_in_force first bs own base around p s at alone free outer =
    ap (λ o. option_or o (declared_outside around p)) (at ∙ (λ i. option_or (free i) (option_or (bound_to first p) (alone i))) ∙ or_none (bound_to first p)) ∙ outer

newly_in_force :
    (first bs : List Binding) (own base : Declared) (around : List Open) (p s : List ℕ) → map.get own p ≡ option_or (bound_to bs p) (option_or (bound_to first p) (map.get base p)) →
    bound_to bs p ≡ Some s → option_or (map.get own p) (declared_outside around p) ≡ Some s
newly_in_force first bs own base around p s at is =
    ap (λ o. option_or o (declared_outside around p)) (at ∙ ap (λ o. option_or o (option_or (bound_to first p) (map.get base p))) is)

-- the default namespace inside
default_in_force :
    (around : List Open) (scope : Scope) (space : List ℕ) → option_or (declared_outside around []) (Some []) ≡ Some scope.default →
    option_or (map.get (defaults (is_some (element_prefix scope.soap space) || same scope.default space) space) []) (option_or (declared_outside around []) (Some []))
    ≡ Some (cond (is_some (element_prefix scope.soap space)) scope.default space)
default_in_force around scope space outer = by (is_some (element_prefix scope.soap space)) (same scope.default space) refl
  where
    kept : (s : List ℕ) → scope.default ≡ s → option_or (map.get (defaults true space) []) (option_or (declared_outside around []) (Some [])) ≡ Some s
    kept s e = ap (λ o. option_or o (option_or (declared_outside around []) (Some []))) (map.get-empty (slice_cmp nat_cmp) []) ∙ outer ∙ ap Some e

    by : (t u : Bool) → same scope.default space ≡ u →
        option_or (map.get (defaults (t || u) space) []) (option_or (declared_outside around []) (Some [])) ≡ Some (cond t scope.default space)
    by true u e = kept scope.default refl
    by false true e = kept space (one_name scope.default space e)
    by false false e = ap (λ o. option_or o (option_or (declared_outside around []) (Some []))) (get_more map.empty [] space [])

-- a namespace that has a prefix gets no other
none_new :
    (scope : Scope) (attributes : List Attribute) (bs : List Binding) (s p : List ℕ) → AreNew scope.bound attributes bs → prefix_of scope.bound s ≡ Some p → has_space bs s ≡ false
none_new scope attributes bs s p new e = by (has_space bs s) refl
  where
    by : (t : Bool) → has_space bs s ≡ t → t ≡ false
    by true is = never (not (is_some (prefix_of scope.bound s))) (last_true (not (is_empty s) && not (is_xml_space s)) (not (is_some (prefix_of scope.bound s))) (new.needed s is)) (ap (λ o. not (is_some o)) e)
    by false is = refl

-- what an element declares makes all that the writer has in force inside
in_force :
    (first : List Binding) (scope : Scope) (around : List Open) (space name : List ℕ) (attributes : List Attribute)
    (own : DeclaresAll first (new_bindings scope.bound attributes) (defaults (is_some (element_prefix scope.soap space) || same scope.default space) space)) →
    AreFirst first → IsGoodHead space name attributes → Agrees first scope around → AreNew scope.bound attributes (new_bindings scope.bound attributes) →
    AreGoodBindings (new_bindings scope.bound attributes) →
    IsInForce own.all around (inside scope space attributes)
in_force first scope around space name attributes own is head agrees new good = record {
  default = ap (λ o. option_or o (option_or (declared_outside around []) (Some []))) none ∙ default_in_force around scope space agrees.default;
  default_is = text (is_some (element_prefix scope.soap space));
  bindings = inner;
  bound = λ s p e. stands s p e (inside_bound bs scope.bound s p new.distinct e);
  nine_bound = λ soap s p e.
      unchanged bs scope.bound s p (agrees.nine_bound soap s p e) (new.letters p (prefix_letter nine s p nine_letters e))
      (none_new scope attributes bs s p new (agrees.nine_bound soap s p e));
}
  where
    bs : List Binding
    bs = new_bindings scope.bound attributes

    base : Declared
    base = defaults (is_some (element_prefix scope.soap space) || same scope.default space) space

    inner : AreGoodBindings (bound_by scope.bound bs)
    inner = bound_by_good scope.bound bs agrees.bindings good

    none : map.get own.all [] ≡ map.get base []
    none = own.at [] ∙ (λ i. option_or (none_empty bs [] good refl i) (option_or (none_empty first [] is.good refl i) (map.get base [])))

    text : (t : Bool) → IsXmlText (cond t scope.default space)
    text true = agrees.default_is
    text false = head.in_space

    stands : (s p : List ℕ) → prefix_of (bound_by scope.bound bs) s ≡ Some p → (bound_to bs p ≡ Some s) ⊎ ((bound_to bs p ≡ None) × (prefix_of scope.bound s ≡ Some p)) →
        option_or (map.get own.all p) (declared_outside around p) ≡ Some s
    stands s p e (inl here) = newly_in_force first bs own.all base around p s (own.at p) here
    stands s p e (inr outer) =
        let b = prefix_good (bound_by scope.bound bs) s p inner e in
        let some : is_empty p ≡ false = ap is_empty (sym b.2) ∙ name_some b.0.prefix b.1.prefix in
        still_in_force first bs own.all base around p s (own.at p)
        (default_alone (is_some (element_prefix scope.soap space) || same scope.default space) space p some) outer.0 (agrees.bound s p outer.1)

-- the element that a written tag opens
abbrev element_again : Declared → Scope → List ℕ → List ℕ → List Attribute → Open
element_again own scope space name attributes = record { name = spelled_name scope space name; space = space; attributes = attributes; declared = own; children = [] }

opens_it :
    (b : Builder) (first : List Binding) (scope : Scope) (space name : List ℕ) (attributes : List Attribute) (own : Declared) → has_room b ≡ true →
    declared_by map.empty (spelled first scope space name attributes).given ≡ Some own →
    in_scope own b.around (spelled_name scope space name).prefix ≡ Some space →
    attributes_by own b.around [] (spelled first scope space name attributes).given ≡ Some attributes →
    opened b (spelled first scope space name attributes) ≡ Some (element_again own scope space name attributes)
opens_it b first scope space name attributes own room declared in_space attributed =
    ap (λ t. cond t (option_and_then (opened_with b.around (spelled first scope space name attributes)) (declared_by map.empty (spelled first scope space name attributes).given)) None) room
    ∙ ap (option_and_then (opened_with b.around (spelled first scope space name attributes))) declared
    ∙ ap (option_and_then (λ s. option_map (λ more. record { name = spelled_name scope space name; space = s; attributes = more; declared = own; children = [] })
    (attributes_by own b.around [] (spelled first scope space name attributes).given))) in_space
    ∙ ap (option_map (element_again own scope space name)) attributed

-- the attributes of a written tag, one kind after the other
given_is :
    (first : List Binding) (scope : Scope) (space name : List ℕ) (attributes : List Attribute) →
    (spelled first scope space name attributes).given
    ≡ default_given scope space ++ (map declaration_given first ++ (map declaration_given (new_bindings scope.bound attributes) ++ map (attribute_given (inside scope space attributes).bound) attributes))
given_is first scope space name attributes =
    let kept = map (attribute_given (inside scope space attributes).bound) attributes in
    let new_given = map declaration_given (new_bindings scope.bound attributes) in
    append_assoc (default_given scope space ++ map declaration_given first) new_given kept
    ∙ append_assoc (default_given scope space) (map declaration_given first) (new_given ++ kept)

opened_so :
    (b : Builder) (first : List Binding) (scope : Scope) (space name : List ℕ) (attributes : List Attribute)
    (own : DeclaresAll first (new_bindings scope.bound attributes) (defaults (is_some (element_prefix scope.soap space) || same scope.default space) space)) →
    AreFirst first → IsGoodHead space name attributes → has_room b ≡ true → Agrees first scope b.around → AreNew scope.bound attributes (new_bindings scope.bound attributes) →
    IsInForce own.all b.around (inside scope space attributes) →
    Opens b first scope space name attributes
opened_so b first scope space name attributes own is head room agrees new force = record {
  element = element_again own.all scope space name attributes;
  opens = opens_it b first scope space name attributes own.all room
      (ap (declared_by map.empty) (given_is first scope space name attributes) ∙ declared) (own_space own.all b.around scope space name attributes force)
      (ap (attributes_by own.all b.around []) (given_is first scope space name attributes) ∙ attributed);
  named = refl;
  in_space = refl;
  attributed = refl;
  childless = refl;
  agrees = λ os alike. agrees_inside (element_again own.all scope space name attributes) b.around os (inside scope space attributes) force alike;
}
  where
    inner : List Binding
    inner = (inside scope space attributes).bound

    kept : List Given
    kept = map (attribute_given inner) attributes

    new_given : List Given
    new_given = map declaration_given (new_bindings scope.bound attributes)

    read : AreRead own.all b.around inner attributes
    read =
        all_read own.all b.around (inside scope space attributes) attributes force head.attributed
        (λ a one some other. has_prefix scope.bound attributes (new_bindings scope.bound attributes) a new one some other)

    declared : declared_by map.empty (default_given scope space ++ (map declaration_given first ++ (new_given ++ kept))) ≡ Some own.all
    declared =
        default_declared scope space (map declaration_given first ++ (new_given ++ kept)) ∙ own.declared kept ∙ none_declared own.all b.around inner attributes read

    attributed : attributes_by own.all b.around [] (default_given scope space ++ (map declaration_given first ++ (new_given ++ kept))) ≡ Some attributes
    attributed =
        default_passed own.all b.around scope space (map declaration_given first ++ (new_given ++ kept))
        ∙ bindings_passed own.all b.around first (new_given ++ kept) ∙ bindings_passed own.all b.around (new_bindings scope.bound attributes) kept
        ∙ attributes_again own.all b.around inner attributes [] read head.different

-- a written start tag opens its element again
pub opened_again : OpenedAgain
opened_again b first scope space name attributes head room agrees root =
    let is = are_first first scope b.around root in
    let bs = new_bindings scope.bound attributes in
    let new = new_are scope.bound attributes in
    let good = new_are_good scope.bound attributes head.attributed in
    let own = all_declared first bs (defaults (is_some (element_prefix scope.soap space) || same scope.default space) space) is good new.distinct
    (default_alone (is_some (element_prefix scope.soap space) || same scope.default space) space) (λ q s e. not_both first bs scope attributes q s is new e) in
    opened_so b first scope space name attributes own is head room agrees new (in_force first scope b.around space name attributes own is head agrees new good)
