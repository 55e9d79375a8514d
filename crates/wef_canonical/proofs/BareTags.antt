-- Tags with no prefixes, as they stand in the one text of a tree.
use Rattle.std.proofs.Common.{◌≡◌, ℕ, Bool, true, false, cond, ◌&&◌, ◌||◌, not, List, [], ◌∷◌, ◌++◌, codes, encode_utf8_all, refl, ap, sym, ◌∙◌, append_assoc, append-nil, arith, subst}
use Rattle.std.specs.Prelude.{Option, Some, None, is_some}
use Rattle.std.specs.List.{flat_map, list_all, list_any}
use Rattle.std.specs.Str.{all_scalars, chars}
use Rattle.std.specs.Cmp.Lexicographic.{bytes_decides, nat_list_eq_equiv}
use Rattle.std.proofs.Math.Utf8.{encode, scalar}
use Rattle.std.proofs.lemmas.Bool.{and_from, and_parts}
use Rattle.std.proofs.lemmas.Bool.Decides.{nat_tests}
use Rattle.std.proofs.lemmas.Str.{chars-encodes, encodes-append}
use Rattle.wef_base.specs.Characters.{is_xml_char}
use Rattle.wef_base.specs.Names.{same}
use Rattle.wef_base.specs.declared.tree.Attribute.{Attribute}
use Rattle.wef_xml.specs.Canonical.{assigned, attribute_of, declaration_of, default_of, name_of, value_char, value_of}
use Rattle.wef_xml.specs.Good.{IsLocalName, IsXmlText}
use Rattle.wef_xml.specs.Letters.{is_name_char, is_name_start}
use Rattle.wef_xml.specs.Prefixes.{bindings_from, bound_by, is_soap, new_bindings, new_spaces, outer_prefixes, soap_space, with_space}
use Rattle.wef_xml.specs.Spaces.{is_attribute, is_empty, is_xml_space, is_xmlns, xml_space}
use Rattle.wef_xml.specs.declared.bindings.Binding.{Binding}
use Rattle.wef_xml.proofs.Ascii as ascii
use Rattle.wef_canonical.specs.Passing.{IsAsciiName, IsAssigned, IsPlainRun, IsValueRun, Passes, begins_name, itself, stands_in_name}
use Rattle.wef_canonical.specs.Tags.{AreBare, AreKept, BeginsWithAttributes, HasAttributes, HasSpace, IsBareSpace, IsDeclared, IsOpen, IsStart, KeepsMore, attribute_bytes, attributes_bytes, bare_scope, is_kept, open_of}
use Rattle.wef_canonical.specs.declared.tags.Names.{Names}
use Rattle.wef_canonical.specs.declared.tags.Start.{Start}
use Rattle.wef_canonical.proofs.Runs.{plain_values}

-- ---- characters

-- characters that pass a test which UTF-8 can spell are read back from their bytes
chars_again : (test : ℕ → Bool) → ((c : ℕ) → test c ≡ true → scalar c ≡ true) → (cs : List ℕ) → list_all test cs ≡ true → chars (encode_utf8_all cs) ≡ cs
chars_again test so cs h = chars-encodes cs (scalars cs h)
  where
    scalars : (cs : List ℕ) → list_all test cs ≡ true → all_scalars cs ≡ true
    scalars [] h = refl
    scalars (c ∷ cs) h = let parts = and_parts (test c) (list_all test cs) h in and_from _ _ (so c parts.0) (scalars cs parts.1)

plain_scalar : (c : ℕ) → ascii.is_plain c ≡ true → scalar c ≡ true
plain_scalar c h = grind (arith, nat_tests)

xml_scalar : (c : ℕ) → is_xml_char c ≡ true → scalar c ≡ true
xml_scalar c h = grind (arith, nat_tests)

-- ---- names

begins_plain : (c : ℕ) → begins_name c ≡ true → ascii.is_plain c ≡ true
begins_plain c h = grind (arith, nat_tests)

begins_so : (c : ℕ) → begins_name c ≡ true → is_name_start c ≡ true
begins_so c h = grind (arith, nat_tests)

stands_plain : (c : ℕ) → stands_in_name c ≡ true → ascii.is_plain c ≡ true
stands_plain c h = grind (arith, nat_tests)

stands_so : (c : ℕ) → stands_in_name c ≡ true → is_name_char c ≡ true
stands_so c h = grind (arith, nat_tests)

letters : (cs : List ℕ) → list_all stands_in_name cs ≡ true → (list_all ascii.is_plain cs ≡ true) × (list_all is_name_char cs ≡ true)
letters [] h = (refl, refl)
letters (c ∷ cs) h =
    let parts = and_parts (stands_in_name c) (list_all stands_in_name cs) h in
    let more = letters cs parts.1 in
    (and_from _ _ (stands_plain c parts.0) more.0, and_from _ _ (stands_so c parts.0) more.1)

plain_name : (name : List ℕ) → IsAsciiName name → list_all ascii.is_plain name ≡ true
plain_name [] h = let bad : ⊥ = cc in absurd bad
plain_name (c ∷ cs) h =
    let parts = and_parts (begins_name c) (list_all stands_in_name cs) h in
    and_from _ _ (begins_plain c parts.0) (letters cs parts.1).0

local_name : (name : List ℕ) → IsAsciiName name → IsLocalName name
local_name [] h = let bad : ⊥ = cc in absurd bad
local_name (c ∷ cs) h =
    let parts = and_parts (begins_name c) (list_all stands_in_name cs) h in
    ascii.plain_name_is c cs (plain_name (c ∷ cs) h) (begins_so c parts.0) (letters cs parts.1).1

some_name : (name : List ℕ) → IsAsciiName name → is_empty name ≡ false
some_name [] h = let bad : ⊥ = cc in absurd bad
some_name (c ∷ cs) h = grind (arith, nat_tests)

-- a name's characters in UTF-8 are the name
name_again : (name : List ℕ) → IsAsciiName name → encode_utf8_all (chars name) ≡ name
name_again name is =
    let plain = plain_name name is in
    let spelt = ascii.plain_is name plain in
    ap encode_utf8_all (ap chars spelt ∙ chars_again ascii.is_plain plain_scalar name plain) ∙ sym spelt

-- ---- attributes without a namespace need no prefix

none_new : (attributes : List Attribute) → AreBare attributes → new_spaces [] [] attributes ≡ []
none_new [] bare = refl
none_new (a ∷ more) bare = ap (λ (space : List ℕ). new_spaces [] (with_space [] [] space) more) bare.0 ∙ none_new more bare.1

pub no_bindings : (attributes : List Attribute) → AreBare attributes → ◌≡◌ {A = List Binding} (new_bindings [] attributes) []
no_bindings attributes bare = ap (bindings_from (outer_prefixes [] attributes) 1) (none_new attributes bare)

-- ---- attributes in UTF-8

attributes_again : (attributes : List Attribute) → encode_utf8_all (flat_map (attribute_of []) attributes) ≡ attributes_bytes attributes
attributes_again [] = refl
attributes_again (a ∷ more) =
    encodes-append (attribute_of [] a) (flat_map (attribute_of []) more) ∙ ap (λ (bytes : List ℕ). attribute_bytes a ++ bytes) (attributes_again more)

abbrev bare : List ℕ → List ℕ → Attribute
bare name value = record { space = []; name = name; value = value }

attribute_is : (name value : List ℕ) → IsAsciiName name → attribute_bytes (bare name value) ≡ 32 ∷ name ++ encode_utf8_all (assigned value)
unfolding encode
attribute_is name value is =
    ap (λ (bytes : List ℕ). 32 ∷ bytes) (encodes-append (chars name) (assigned value) ∙ ap (λ (bytes : List ℕ). bytes ++ encode_utf8_all (assigned value)) (name_again name is))

-- ---- values

value_again : (cs : List ℕ) → list_all is_xml_char cs ≡ true → value_of (encode_utf8_all cs) ≡ flat_map value_char cs
value_again cs allowed = ap (flat_map value_char) (chars_again is_xml_char xml_scalar cs allowed)

assigned_is : (value : List ℕ) → encode_utf8_all (assigned value) ≡ codes "=\"" ++ encode_utf8_all (value_of value) ++ 34 ∷ []
unfolding encode
assigned_is value = ap (λ (bytes : List ℕ). 61 ∷ 34 ∷ bytes) (encodes-append (value_of value) (34 ∷ []))

pub value_assigned : (text value end rest : List ℕ) → text ≡ codes "=\"" ++ value → Passes IsValueRun value end → end ≡ 34 ∷ rest → Passes IsAssigned text rest
value_assigned text value end rest begins run ends =
    let cs = run.1.characters in
    let word : List ℕ = encode_utf8_all cs in (
      codes "=\"" ++ run.0 ++ 34 ∷ [],
      (
        word,
        record { characters = cs; spelt = refl; allowed = run.1.pass },
        sym (assigned_is word ∙ ap (λ (bytes : List ℕ). codes "=\"" ++ bytes ++ 34 ∷ []) (ap encode_utf8_all (value_again cs run.1.pass) ∙ sym run.1.are_spelt)),
      ),
      begins ∙ ap (λ (bytes : List ℕ). codes "=\"" ++ bytes) (run.2 ∙ ap (λ (bytes : List ℕ). run.0 ++ bytes) ends)
          ∙ sym (ap (λ (bytes : List ℕ). codes "=\"" ++ bytes) (append_assoc run.0 (34 ∷ []) rest)),
    )

-- ---- attributes differ

not_among : (names : Names) (name : List ℕ) (before : List Attribute) → AreKept names before → is_kept names name ≡ false → list_any (is_attribute [] name) before ≡ false
not_among names name [] kept other = refl
not_among names name (a ∷ more) kept other = by (same name a.name) refl (not_among names name more kept.2 other)
  where
    clash : same name a.name ≡ true → ⊥
    clash is =
        let P : List ℕ → Type 0 = λ x. is_kept names x ≡ true in
        let one : is_kept names name ≡ true = subst P (sym ((bytes_decides name a.name).0 is)) kept.1 in
        cc

    by : (b : Bool) → same name a.name ≡ b → list_any (is_attribute [] name) more ≡ false → (b && same [] a.space || list_any (is_attribute [] name) more) ≡ false
    by true is rest = absurd (clash is)
    by false is rest = rest

kept_on : (names more : Names) (name : List ℕ) (before : List Attribute) (a : Attribute) → KeepsMore names name more → a.name ≡ name → is_empty name ≡ false
    → AreKept names before → AreKept more (before ++ a ∷ [])
kept_on names more name [] a keeps called some kept =
    let P : List ℕ → Type 0 = λ x. is_empty x ≡ false in
    let Q : List ℕ → Type 0 = λ x. is_kept more x ≡ true in
    (subst P (sym called) some, subst Q (sym called) keeps.kept, tt)
kept_on names more name (b ∷ before) a keeps called some kept =
    (kept.0, keeps.others b.name kept.0 kept.1, kept_on names more name before a keeps called some kept.2)

bare_on : (before : List Attribute) (a : Attribute) → AreBare before → a.space ≡ [] → AreBare (before ++ a ∷ [])
bare_on [] a bare is = (is, tt)
bare_on (b ∷ before) a bare is = (bare.0, bare_on before a bare.1 is)

-- ---- the attributes of a tag

pub none_begin : (names : Names) (rest : List ℕ) → BeginsWithAttributes names rest rest
none_begin names rest = record { attributes = []; good = tt; bare = tt; differ = λ before bare kept. refl; stand = refl }

pub one_begins :
    (names more : Names) (name rest attribute end left behind : List ℕ) → IsAsciiName name → KeepsMore names name more →
    rest ≡ 32 ∷ attribute → attribute ≡ name ++ end → Passes IsAssigned end left →
    BeginsWithAttributes more left behind → BeginsWithAttributes names rest behind
one_begins names more name rest attribute end left behind named keeps begins goes_on value others =
    let word = value.1.0 in
    let a : Attribute = bare name word in
    record {
      attributes = a ∷ others.attributes;
      good = (
        record {
          name = local_name name named;
          space = ascii.plain_text [] refl;
          value = value.1.1;
          no_declaration = keeps.no_xmlns;
        },
        others.good,
      );
      bare = (refl, others.bare);
      differ = λ before bare kept. and_from _ _
          (ap not (not_among names name before kept keeps.other))
          (others.differ (before ++ a ∷ []) (bare_on before a bare refl) (kept_on names more name before a keeps refl (some_name name named) kept));
      stand =
          begins
          ∙ ap (λ (bytes : List ℕ). 32 ∷ bytes) (goes_on ∙ ap (λ (bytes : List ℕ). name ++ bytes) (value.2 ∙ (λ i. value.1.2 i ++ others.stand i)))
          ∙ ap (λ (bytes : List ℕ). 32 ∷ bytes) (grouped name (encode_utf8_all (assigned word)) (attributes_bytes others.attributes) behind)
          ∙ ap (λ (bytes : List ℕ). (bytes ++ attributes_bytes others.attributes) ++ behind) (sym (attribute_is name word named));
    }
  where
    grouped : (a b c d : List ℕ) → a ++ (b ++ (c ++ d)) ≡ ((a ++ b) ++ c) ++ d
    grouped a b c d = simp append_assoc

pub all_begin : (names : Names) (text rest : List ℕ) → BeginsWithAttributes names text rest → HasAttributes text rest
all_begin names text rest begins = (begins.attributes, begins.good, begins.bare, begins.differ [] tt tt, begins.stand)

-- ---- the names that are kept

shifted : (n a b c d : Bool) → d ≡ false → (a || b || c || d) ≡ true → (n || a || b || c) ≡ true
shifted true a b c d e h = refl
shifted false true b c d e h = refl
shifted false false true c d e h = refl
shifted false false false true d e h = refl
shifted false false false false d e h = sym e ∙ h

same_empty : (x y : List ℕ) → is_empty x ≡ false → y ≡ [] → same x y ≡ false
same_empty [] y some none = let bad : ⊥ = cc in absurd bad
same_empty (c ∷ cs) y some none = ap (same (c ∷ cs)) none

pub keeps_more : (names more : Names) (name : List ℕ) → is_xmlns name ≡ false → is_kept names name ≡ false → names.fourth.now ≡ [] →
    more.first.now ≡ name → more.second.now ≡ names.first.now → more.third.now ≡ names.second.now → more.fourth.now ≡ names.third.now → KeepsMore names name more
keeps_more names more name xmlns other last first second third fourth = record {
  no_xmlns = xmlns;
  other = other;
  kept = ap (λ (x : List ℕ). same name x || same name more.second.now || same name more.third.now || same name more.fourth.now) first
      ∙ ap (λ (b : Bool). b || same name more.second.now || same name more.third.now || same name more.fourth.now) (nat_list_eq_equiv.refl name);
  others = λ before some kept.
      (λ i. same before (first i) || same before (second i) || same before (third i) || same before (fourth i))
      ∙ shifted (same before name) (same before names.first.now) (same before names.second.now) (same before names.third.now) (same before names.fourth.now)
      (same_empty before names.fourth.now some last) kept;
}

-- ---- namespaces

pub no_space : IsBareSpace []
unfolding is_xml_space xml_space is_soap soap_space
no_space = record { allowed = ascii.plain_text [] refl; no_xml = refl; no_soap = refl }

-- where neither holds
pub or_parts : (a b : Bool) → (a || b) ≡ false → (a ≡ false) × (b ≡ false)
or_parts true b h = let bad : ⊥ = cc in absurd bad
or_parts false b h = (refl, h)

pub one_declared : (default value end space rest : List ℕ) → Passes IsPlainRun value end → ((passed : List ℕ) → value ≡ passed ++ end → space ≡ passed) → same default space ≡ false
    → is_xml_space space ≡ false → is_soap space ≡ false → end ≡ 34 ∷ rest → IsDeclared default value space rest
one_declared default value end space rest run is other xml soap ends =
    let same_run : space ≡ run.0 = is run.0 run.2 in
    let cs = run.1.characters in
    let parts = plain_values cs run.1.pass in
    let allowed : IsXmlText space = record { characters = cs; spelt = same_run ∙ run.1.are_spelt ∙ ap encode_utf8_all (themselves cs); allowed = parts.0 } in
    record {
      bare = record { allowed = allowed; no_xml = xml; no_soap = soap };
      other = other;
      plain = ap (λ (cs : List ℕ). encode_utf8_all (flat_map value_char cs)) (ap chars allowed.spelt ∙ chars_again is_xml_char xml_scalar cs parts.0) ∙ ap encode_utf8_all (sym parts.1) ∙ sym run.1.are_spelt ∙ sym same_run;
      stands = run.2 ∙ (λ i. sym same_run i ++ ends i);
    }
  where
    themselves : (cs : List ℕ) → flat_map itself cs ≡ cs
    themselves [] = refl
    themselves (c ∷ cs) = ap (λ (t : List ℕ). c ∷ t) (themselves cs)

same_itself : (space : List ℕ) → same space space ≡ true
same_itself space = nat_list_eq_equiv.refl space

-- the namespace that is in force already
pub none_declared : (default text : List ℕ) → IsBareSpace default → HasSpace default text default text
none_declared default text is = record {
  bare = is;
  stands = sym (ap (λ (bytes : List ℕ). encode_utf8_all bytes ++ text) none);
}
  where
    none : default_of (bare_scope default) default ≡ []
    none =
        ap (λ (b : Bool). cond (is_some (cond {A = Option (List ℕ)} b (Some (codes "xml")) None) || same default default) [] (codes " xmlns" ++ assigned default)) is.no_xml
        ∙ ap (λ (b : Bool). cond b [] (codes " xmlns" ++ assigned default)) (same_itself default)

-- one that is declared
declared_is : (default space : List ℕ) → is_xml_space space ≡ false → same default space ≡ false → default_of (bare_scope default) space ≡ codes " xmlns" ++ assigned space
declared_is default space xml other =
    ap (λ (b : Bool). cond (is_some (cond {A = Option (List ℕ)} b (Some (codes "xml")) None) || same default space) [] (codes " xmlns" ++ assigned space)) xml
    ∙ ap (λ (b : Bool). cond b [] (codes " xmlns" ++ assigned space)) other

declaration_is : (space : List ℕ) → encode_utf8_all (value_of space) ≡ space → encode_utf8_all (codes " xmlns" ++ assigned space) ≡ codes " xmlns=\"" ++ space ++ 34 ∷ []
unfolding encode
declaration_is space plain =
    ap (λ (bytes : List ℕ). codes " xmlns" ++ bytes) (assigned_is space) ∙ ap (λ (bytes : List ℕ). codes " xmlns=\"" ++ bytes ++ 34 ∷ []) plain

pub declared_here : (default text value space rest : List ℕ) → IsDeclared default value space rest → text ≡ codes " xmlns=\"" ++ value → HasSpace default text space rest
declared_here default text value space rest is begins = record {
  bare = is.bare;
  stands =
      begins ∙ ap (λ (bytes : List ℕ). codes " xmlns=\"" ++ bytes) (is.stands ∙ sym (append_assoc space (34 ∷ []) rest))
      ∙ ap (λ (bytes : List ℕ). bytes ++ rest) (sym (ap encode_utf8_all (declared_is default space is.bare.no_xml is.other) ∙ declaration_is space is.plain));
}

-- ---- a tag

open_is : (default space name : List ℕ) (attributes : List Attribute) → is_xml_space space ≡ false → AreBare attributes →
    open_of [] (bare_scope default) space name attributes ≡ 60 ∷ chars name ++ default_of (bare_scope default) space ++ flat_map (attribute_of []) attributes
open_is default space name attributes xml bare =
    (λ i.
    60 ∷ name_of (cond {A = Option (List ℕ)} (xml i) (Some (codes "xml")) None) name ++ default_of (bare_scope default) space ++ []
    ++ flat_map declaration_of (no_bindings attributes bare i)
    ++ flat_map (attribute_of (bound_by [] (no_bindings attributes bare i))) attributes)
    ∙ ap (λ (text : List ℕ). text ++ flat_map (attribute_of []) attributes)
    (append-nil (60 ∷ chars name ++ default_of (bare_scope default) space ++ []) ∙ append-nil (60 ∷ chars name ++ default_of (bare_scope default) space))

three_encoded : (a b c : List ℕ) → encode_utf8_all (a ++ b ++ c) ≡ encode_utf8_all a ++ encode_utf8_all b ++ encode_utf8_all c
three_encoded a b c = encodes-append (a ++ b) c ∙ ap (λ (bytes : List ℕ). bytes ++ encode_utf8_all c) (encodes-append a b)

open_bytes : (default space name : List ℕ) (attributes : List Attribute) → is_xml_space space ≡ false → AreBare attributes → IsAsciiName name →
    encode_utf8_all (open_of [] (bare_scope default) space name attributes) ≡ 60 ∷ name ++ encode_utf8_all (default_of (bare_scope default) space) ++ attributes_bytes attributes
unfolding encode
open_bytes default space name attributes xml bare named =
    ap encode_utf8_all (open_is default space name attributes xml bare)
    ∙ three_encoded (60 ∷ chars name) (default_of (bare_scope default) space) (flat_map (attribute_of []) attributes)
    ∙ (λ i. 60 ∷ name_again name named i ++ encode_utf8_all (default_of (bare_scope default) space) ++ attributes_again attributes i)

pub open_begins :
    (default text named behind given : List ℕ) (tag : Start) → text ≡ 60 ∷ named → Passes IsAsciiName named behind → ((passed : List ℕ) → named ≡ passed ++ behind → tag.name.now ≡ passed) →
    HasSpace default behind tag.space.now given → HasAttributes given tag.rest.now → IsOpen default text tag
open_begins default text named behind given tag begins name is space attributes =
    let same_name : tag.name.now ≡ name.0 = is name.0 name.2 in
    let is_name : IsAsciiName tag.name.now = subst IsAsciiName (sym same_name) name.1 in
    record {
      attributes = attributes.0;
      head = record { named = local_name tag.name.now is_name; in_space = space.bare.allowed; attributed = attributes.1; different = attributes.3 };
      bare = attributes.2;
      space = space.bare;
      stands =
          begins
          ∙ ap (λ (bytes : List ℕ). 60 ∷ bytes)
          ((name.2 ∙ (λ i. sym same_name i ++ (space.stands ∙ ap (λ (bytes : List ℕ). encode_utf8_all (default_of (bare_scope default) tag.space.now) ++ bytes) attributes.4) i))
          ∙ grouped tag.name.now (encode_utf8_all (default_of (bare_scope default) tag.space.now)) (attributes_bytes attributes.0) tag.rest.now)
          ∙ ap (λ (bytes : List ℕ). bytes ++ tag.rest.now) (sym (open_bytes default tag.space.now tag.name.now attributes.0 space.bare.no_xml attributes.2 is_name));
    }
  where
    grouped : (a b c d : List ℕ) → a ++ (b ++ (c ++ d)) ≡ ((a ++ b) ++ c) ++ d
    grouped a b c d = simp append_assoc

-- a start tag ends with `>`
ended : (front rest : List ℕ) → encode_utf8_all (front ++ 62 ∷ []) ++ rest ≡ encode_utf8_all front ++ 62 ∷ rest
unfolding encode
ended front rest = ap (λ (bytes : List ℕ). bytes ++ rest) (encodes-append front (62 ∷ [])) ∙ append_assoc (encode_utf8_all front) (62 ∷ []) rest

pub start_ends : (default text : List ℕ) (tag start : Start) → IsOpen default text tag → tag.rest.now ≡ 62 ∷ start.rest.now → start.space ≡ tag.space → start.name ≡ tag.name → IsStart default text start
start_ends default text tag start is ends space name =
    let whole : IsStart default text (record { name = tag.name; space = tag.space; rest = start.rest }) = record {
      attributes = is.attributes;
      head = is.head;
      bare = is.bare;
      space = is.space;
      stands =
          is.stands ∙ ap (λ (bytes : List ℕ). encode_utf8_all (open_of [] (bare_scope default) tag.space.now tag.name.now is.attributes) ++ bytes) ends
          ∙ sym (ended (open_of [] (bare_scope default) tag.space.now tag.name.now is.attributes) start.rest.now);
    } in
    subst (IsStart default text) (λ i. record { name = sym name i; space = sym space i; rest = start.rest }) whole
