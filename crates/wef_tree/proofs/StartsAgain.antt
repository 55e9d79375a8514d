-- Tags of the canonical text are read again, with their names, and their attributes in order.
use Rattle.std.proofs.Common.{◌≡◌, ℕ, zero, suc, ◌<◌, ◌≤◌, ◌==◌, Bool, true, false, ◌||◌, cond, if◌then◌else◌, List, [], ◌∷◌, ◌++◌, map, length, codes, encode_utf8, encode_utf8_all, Option, Some, None, is_some, unwrap_or, refl, ap, sym, subst, ◌∙◌, append_assoc, append-nil, length-append, arith}
use Rattle.std.specs.List.{flat_map, list_all}
use Rattle.std.specs.Option.{option_map, option_and_then}
use Rattle.std.specs.Str.{chars}
use Rattle.std.proofs.lemmas.Bool.{and_parts}
use Rattle.std.proofs.lemmas.Bool.Decides.{nat_tests}
use Rattle.std.proofs.lemmas.Str.{chars-encodes}
use Rattle.wef_base.specs.Names.{is_space, same, without_start}
use Rattle.wef_base.specs.declared.tree.Attribute.{Attribute}
use Rattle.wef_xml.specs.Canonical.{assigned, attribute_of, declaration_of, default_of, name_of, value_of}
use Rattle.wef_xml.specs.Fronts.{behind, strip}
use Rattle.wef_xml.specs.Good.{AreGoodAttributes, IsGoodAttribute, IsGoodHead, IsLocalName, IsXmlText}
use Rattle.wef_xml.specs.Letters.{is_name_char, is_name_start}
use Rattle.wef_tree_pieces.specs.Names.{name_after, name_at, name_tail, plain_name_at, with_front}
use Rattle.wef_tree_pieces.specs.Pieces.{closed_tag, comment_tail, declaration_tail, markup_at, piece_at, section_tail}
use Rattle.wef_xml.specs.Prefixes.{Scope, attribute_prefix, element_prefix, inside, new_bindings}
use Rattle.wef_tree_pieces.specs.Tags.{end_tag_at, ends_tag, given_at, givens_in, givens_on, spaced_turn, tag_at, tag_turn, with_attributes, with_givens, with_value}
use Rattle.wef_xml.specs.declared.bindings.Binding.{Binding}
use Rattle.wef_tree_pieces.specs.declared.names.Name.{Name}
use Rattle.wef_tree_pieces.specs.declared.pieces.Piece.{Piece}
use Rattle.wef_tree_pieces.specs.declared.pieces.Piece.TheVariants.{Comment, Declaration, Empty, End, Section, Start}
use Rattle.wef_tree_pieces.specs.declared.tags.Given.{Given}
use Rattle.wef_xml.proofs.Ascii.{plain_is}
use Rattle.wef_tree.proofs.GoodPrefixes.{attribute_prefix_good, bound_by_good, element_prefix_good, new_are_good, xmlns_is_name}
use Rattle.wef_tree.proofs.Spelled.{AreGoodBindings, EmptyAgain, EndAgain, IsGoodBinding, StartAgain, attribute_given, declaration_given, default_given, spelled}
use Rattle.wef_tree.proofs.TextsAgain.{name_chars, value_again}

-- names

-- the characters of a name, in front of one that is none
name_tail_again : (cs : List ℕ) (x : ℕ) (rest : List ℕ) → list_all is_name_char cs ≡ true → is_name_char x ≡ false → name_tail (cs ++ x ∷ rest) ≡ (encode_utf8_all cs, x ∷ rest)
name_tail_again [] x rest names no_name = λ i. cond (no_name i) (with_front (encode_utf8 x) (name_tail rest)) ([], x ∷ rest)
name_tail_again (c ∷ cs) x rest names no_name =
    let parts = and_parts (is_name_char c) (list_all is_name_char cs) names in
    λ i. cond (parts.0 i) (with_front (encode_utf8 c) (name_tail_again cs x rest parts.1 no_name i)) ([], c ∷ (cs ++ x ∷ rest))

-- a name without `:`
plain_name_again : (name : List ℕ) (x : ℕ) (rest : List ℕ) → IsLocalName name → is_name_char x ≡ false → plain_name_at (chars name ++ x ∷ rest) ≡ Some (name, x ∷ rest)
plain_name_again name x rest good no_name =
    ap (λ cs. plain_name_at (cs ++ x ∷ rest)) (name_chars name good)
    ∙ (λ i. cond (good.begins i) (Some (with_front (encode_utf8 good.first) (name_tail_again good.more x rest good.goes_on no_name i))) None)
    ∙ ap (λ (spelt : List ℕ). Some (spelt, x ∷ rest)) (sym good.spelt)

-- the prefix of a name, if it has one, is a name itself
abbrev IsGoodPrefix : Option (List ℕ) → Type 0
IsGoodPrefix None = Unit {0}
IsGoodPrefix (Some prefix) = IsLocalName prefix

abbrev named : Option (List ℕ) → List ℕ → Name
named prefix local = record { prefix = unwrap_or prefix []; local = local }

-- a name with its prefix
name_again :
    (prefix : Option (List ℕ)) (local : List ℕ) (x : ℕ) (rest : List ℕ) → IsGoodPrefix prefix → IsLocalName local → is_name_char x ≡ false → (x == 58) ≡ false →
    name_at (name_of prefix local ++ x ∷ rest) ≡ Some (named prefix local, x ∷ rest)
unfolding name_at
name_again None local x rest good_prefix good no_name no_colon =
    ap (option_and_then (λ (first : List ℕ × List ℕ). name_after first.0 first.1)) (plain_name_again local x rest good no_name)
    ∙ (λ i. cond (no_colon i) (option_map (λ (second : List ℕ × List ℕ). (record { prefix = local; local = second.0 }, second.1)) (plain_name_at rest)) (Some (record { prefix = []; local = local }, x ∷ rest)))
name_again (Some prefix) local x rest good_prefix good no_name no_colon =
    ap (λ (text : List ℕ). option_and_then (λ (first : List ℕ × List ℕ). name_after first.0 first.1) (plain_name_at text)) (append_assoc (chars prefix) (58 ∷ chars local) (x ∷ rest))
    ∙ ap (option_and_then (λ (first : List ℕ × List ℕ). name_after first.0 first.1)) (plain_name_again prefix 58 (chars local ++ x ∷ rest) good_prefix refl)
    ∙ ap (option_map (λ (second : List ℕ × List ℕ). (record { prefix = prefix; local = second.0 }, second.1))) (plain_name_again local x rest good no_name)

-- a name begins with a character that a name may begin with
record Begins (text : List ℕ) : Type 0 where
  first : ℕ
  more : List ℕ
  is : text ≡ first ∷ more
  begins : is_name_start first ≡ true

name_begins : (prefix : Option (List ℕ)) (local behind : List ℕ) → IsGoodPrefix prefix → IsLocalName local → Begins (name_of prefix local ++ behind)
name_begins None local behind good_prefix good = record { first = good.first; more = good.more ++ behind; is = ap (λ cs. cs ++ behind) (name_chars local good); begins = good.begins }
name_begins (Some prefix) local behind good_prefix good = record {
  first = good_prefix.first;
  more = (good_prefix.more ++ 58 ∷ chars local) ++ behind;
  is = ap (λ cs. (cs ++ 58 ∷ chars local) ++ behind) (name_chars prefix good_prefix);
  begins = good_prefix.begins;
}

-- such a character is no space, ends no tag, and is none that begins other markup
no_space : (c : ℕ) → is_name_start c ≡ true → is_space c ≡ false
no_space c h = grind (arith, nat_tests)

no_end : (c : ℕ) → is_name_start c ≡ true → ends_tag c ≡ false
no_end c h = grind (arith, nat_tests)

no_mark : (c : ℕ) → is_name_start c ≡ true → (33 == c) ≡ false
no_mark c h = grind (arith, nat_tests)

no_slash : (c : ℕ) → is_name_start c ≡ true → (47 == c) ≡ false
no_slash c h = grind (arith, nat_tests)

no_question : (c : ℕ) → is_name_start c ≡ true → (63 == c) ≡ false
no_question c h = grind (arith, nat_tests)

-- attributes

abbrev given_step : Given × List ℕ → Option Given × List ℕ
given_step read = (Some read.0, read.1)

-- what stands behind the spaces before an attribute
spaced_again : (text : List ℕ) → Begins text → spaced_turn (without_start text) ≡ option_map given_step (given_at text)
spaced_again text b =
    ap (λ t. spaced_turn (without_start t)) b.is
    ∙ ap (λ t. spaced_turn (cond t (without_start b.more) (b.first ∷ b.more))) (no_space b.first b.begins)
    ∙ ap (λ t. cond t (Some (None, b.first ∷ b.more)) (option_map given_step (given_at (b.first ∷ b.more)))) (no_end b.first b.begins)
    ∙ ap (λ t. option_map given_step (given_at t)) (sym b.is)

abbrev given_of : Option (List ℕ) → List ℕ → List ℕ → Given
given_of prefix local value = record { name = named prefix local; value = value }

assigned_is : (value rest : List ℕ) → assigned value ++ rest ≡ 61 ∷ 34 ∷ (value_of value ++ 34 ∷ rest)
assigned_is value rest = ap (λ t. 61 ∷ 34 ∷ t) (append_assoc (value_of value) (34 ∷ []) rest)

-- an attribute without the space before it
given_again :
    (prefix : Option (List ℕ)) (local value rest : List ℕ) → IsGoodPrefix prefix → IsLocalName local → IsXmlText value →
    given_at ((name_of prefix local ++ assigned value) ++ rest) ≡ Some (given_of prefix local value, rest)
given_again prefix local value rest good_prefix good good_value =
    ap given_at (append_assoc (name_of prefix local) (assigned value) rest ∙ ap (λ t. name_of prefix local ++ t) (assigned_is value rest))
    ∙ ap (option_and_then with_value) (name_again prefix local 61 (34 ∷ (value_of value ++ 34 ∷ rest)) good_prefix good refl refl)
    ∙ ap (option_map (λ (read : List ℕ × List ℕ). (record { name = named prefix local; value = read.0 }, read.1))) (value_again value rest good_value)

-- This text is an attribute as it is written, behind a space.
record IsWritten (text : List ℕ) (given : Given) : Type 0 where
  inner : List ℕ
  is : text ≡ 32 ∷ inner
  reads : (rest : List ℕ) → tag_turn (text ++ rest) ≡ Some (Some given, rest)

-- an attribute with the space before it
written : (prefix : Option (List ℕ)) (local value : List ℕ) → IsGoodPrefix prefix → IsLocalName local → IsXmlText value → IsWritten (32 ∷ (name_of prefix local ++ assigned value)) (given_of prefix local value)
written prefix local value good_prefix good good_value = record {
  inner = name_of prefix local ++ assigned value;
  is = refl;
  reads = λ rest.
      spaced_again ((name_of prefix local ++ assigned value) ++ rest) (begins rest)
      ∙ ap (option_map given_step) (given_again prefix local value rest good_prefix good good_value);
}
  where
    begins : (rest : List ℕ) → Begins ((name_of prefix local ++ assigned value) ++ rest)
    begins rest = subst Begins (sym (append_assoc (name_of prefix local) (assigned value) rest)) (name_begins prefix local (assigned value ++ rest) good_prefix good)

-- This text is attributes as they are written, one behind the other.
abbrev AreWritten : List ℕ → List Given → Type 0
AreWritten text [] = text ≡ []
AreWritten text (g ∷ gs) = (front : List ℕ) × (more : List ℕ) × (text ≡ front ++ more) × IsWritten front g × AreWritten more gs

-- attributes behind others
both_written : (text other : List ℕ) (gs hs : List Given) → AreWritten text gs → AreWritten other hs → AreWritten (text ++ other) (gs ++ hs)
both_written text other [] hs w v = subst (λ (t : List ℕ). AreWritten (t ++ other) hs) (sym w) v
both_written text other (g ∷ gs) hs w v =
    (w.0, w.1 ++ other, ap (λ t. t ++ other) w.2 ∙ append_assoc w.0 w.1 other, w.3, both_written w.1 other gs hs w.4 v)

-- each attribute takes at least a character
written_long : (text : List ℕ) (gs : List Given) → AreWritten text gs → length gs ≤ length text
written_long text [] w = omega arith
written_long text (g ∷ gs) w =
    omega (arith, ap length w.2, ap length w.3.is, length-append w.0 w.1, written_long w.1 gs w.4)

-- a sign that ends the attributes of a tag is no space, no character of a name, and no `:`
end_no_space : (sign : ℕ) → ends_tag sign ≡ true → is_space sign ≡ false
end_no_space sign h = grind (arith, nat_tests)

end_no_name : (sign : ℕ) → ends_tag sign ≡ true → is_name_char sign ≡ false
end_no_name sign h = grind (arith, nat_tests)

end_no_colon : (sign : ℕ) → ends_tag sign ≡ true → (sign == 58) ≡ false
end_no_colon sign h = grind (arith, nat_tests)

-- attributes up to the end of a tag, which this sign begins
givens_again :
    (gs : List Given) (text : List ℕ) (sign : ℕ) (rest : List ℕ) (n : ℕ) → ends_tag sign ≡ true → AreWritten text gs → length gs < n →
    givens_in n (text ++ sign ∷ rest) ≡ Some (gs, sign ∷ rest)
givens_again gs text sign rest zero ends w h = absurd (omega arith)
givens_again [] text sign rest (suc n) ends w h =
    ap (λ t. givens_in (suc n) (t ++ sign ∷ rest)) w
    ∙ (λ i. option_and_then (givens_on (givens_in n)) (cond (end_no_space sign ends i) (spaced_turn (without_start rest)) (cond (ends i) (Some (None, sign ∷ rest)) None)))
givens_again (g ∷ gs) text sign rest (suc n) ends w h =
    ap (λ t. option_and_then (givens_on (givens_in n)) (tag_turn t)) (ap (λ t. t ++ sign ∷ rest) w.2 ∙ append_assoc w.0 w.1 (sign ∷ rest))
    ∙ ap (option_and_then (givens_on (givens_in n))) (w.3.reads (w.1 ++ sign ∷ rest))
    ∙ ap (option_map (with_attributes (g ∷ []))) (givens_again gs w.1 sign rest n ends w.4 (omega arith))

-- what stands behind a name in a tag: no character of a name, and no `:`
record Ends (text : List ℕ) : Type 0 where
  first : ℕ
  more : List ℕ
  is : text ≡ first ∷ more
  no_name : is_name_char first ≡ false
  no_colon : (first == 58) ≡ false

written_ends : (gs : List Given) (text : List ℕ) (sign : ℕ) (rest : List ℕ) → ends_tag sign ≡ true → AreWritten text gs → Ends (text ++ sign ∷ rest)
written_ends [] text sign rest ends w =
    record { first = sign; more = rest; is = ap (λ t. t ++ sign ∷ rest) w; no_name = end_no_name sign ends; no_colon = end_no_colon sign ends }
written_ends (g ∷ gs) text sign rest ends w = record {
  first = 32;
  more = (w.3.inner ++ w.1) ++ sign ∷ rest;
  is = ap (λ t. t ++ sign ∷ rest) (w.2 ∙ ap (λ t. t ++ w.1) w.3.is);
  no_name = refl;
  no_colon = refl;
}

-- a name in front of attributes or of the end of the tag
name_before : (prefix : Option (List ℕ)) (local text : List ℕ) → IsGoodPrefix prefix → IsLocalName local → Ends text → name_at (name_of prefix local ++ text) ≡ Some (named prefix local, text)
name_before prefix local text good_prefix good e =
    subst (λ (t : List ℕ). name_at (name_of prefix local ++ t) ≡ Some (named prefix local, t)) (sym e.is) (name_again prefix local e.first e.more good_prefix good e.no_name e.no_colon)

-- tags

-- the steps that a reader makes are enough
steps_enough : (text : List ℕ) (sign : ℕ) (rest : List ℕ) (gs : List Given) → AreWritten text gs → length gs < length (text ++ sign ∷ rest)
steps_enough text sign rest gs w = omega (arith, written_long text gs w, length-append text (sign ∷ rest))

-- the name and the attributes of a tag
tag_again :
    (prefix : Option (List ℕ)) (local text : List ℕ) (sign : ℕ) (rest : List ℕ) (gs : List Given) → ends_tag sign ≡ true →
    IsGoodPrefix prefix → IsLocalName local → AreWritten text gs →
    tag_at (name_of prefix local ++ (text ++ sign ∷ rest)) ≡ Some (record { name = named prefix local; given = gs }, sign ∷ rest)
tag_again prefix local text sign rest gs ends good_prefix good w =
    ap (option_and_then with_givens) (name_before prefix local (text ++ sign ∷ rest) good_prefix good (written_ends gs text sign rest ends w))
    ∙ ap (option_map (λ (read : List Given × List ℕ). (record { name = named prefix local; given = read.0 }, read.1)))
    (givens_again gs text sign rest (length (text ++ sign ∷ rest)) ends w (steps_enough text sign rest gs w))

-- what begins as a name does is a tag, and no other markup
markup_again : (text : List ℕ) → Begins text → markup_at text ≡ option_and_then closed_tag (tag_at text)
markup_again text b =
    ap markup_at b.is
    ∙ (λ i.
    behind (cond (no_mark b.first b.begins i) (strip (codes "--") b.more) None) (λ rest. option_map (λ after. (Comment, after)) (comment_tail false rest))
    (behind (cond (no_mark b.first b.begins i) (strip (codes "[CDATA[") b.more) None) (λ rest. option_map (λ read. (Section read.0, read.1)) (section_tail rest))
    (behind (cond (no_slash b.first b.begins i) (Some b.more) None) (λ rest. option_map (λ read. (End read.0, read.1)) (end_tag_at rest))
    (behind (cond (no_question b.first b.begins i) (strip (codes "xml") b.more) None) (λ rest. option_map (λ after. (Declaration, after)) (declaration_tail rest))
    (option_and_then closed_tag (tag_at (b.first ∷ b.more)))))))
    ∙ ap (λ t. option_and_then closed_tag (tag_at t)) (sym b.is)

-- a start tag, by its parts
start_piece :
    (prefix : Option (List ℕ)) (local text rest : List ℕ) (gs : List Given) → IsGoodPrefix prefix → IsLocalName local → AreWritten text gs →
    piece_at (60 ∷ (name_of prefix local ++ (text ++ 62 ∷ rest))) ≡ Some (Start (record { name = named prefix local; given = gs }), rest)
unfolding piece_at
start_piece prefix local text rest gs good_prefix good w =
    markup_again (name_of prefix local ++ (text ++ 62 ∷ rest)) (name_begins prefix local (text ++ 62 ∷ rest) good_prefix good)
    ∙ ap (option_and_then closed_tag) (tag_again prefix local text 62 rest gs refl good_prefix good w)

-- an empty tag, by its parts
empty_piece :
    (prefix : Option (List ℕ)) (local text rest : List ℕ) (gs : List Given) → IsGoodPrefix prefix → IsLocalName local → AreWritten text gs →
    piece_at (60 ∷ (name_of prefix local ++ (text ++ 47 ∷ 62 ∷ rest))) ≡ Some (Empty (record { name = named prefix local; given = gs }), rest)
unfolding piece_at
empty_piece prefix local text rest gs good_prefix good w =
    markup_again (name_of prefix local ++ (text ++ 47 ∷ 62 ∷ rest)) (name_begins prefix local (text ++ 47 ∷ 62 ∷ rest) good_prefix good)
    ∙ ap (option_and_then closed_tag) (tag_again prefix local text 47 (62 ∷ rest) gs refl good_prefix good w)

-- the attributes of a start tag

-- a prefix is a name, where each that it may be is one
good_prefix_is : (o : Option (List ℕ)) → ((prefix : List ℕ) → o ≡ Some prefix → IsLocalName prefix) → IsGoodPrefix o
good_prefix_is None good = tt
good_prefix_is (Some prefix) good = good prefix refl

-- the characters of `xmlns` are its bytes
xmlns_chars : chars (codes "xmlns") ≡ codes "xmlns"
xmlns_chars = ap chars (plain_is (codes "xmlns") refl) ∙ chars-encodes (codes "xmlns") refl

-- the declaration of the default namespace
default_written : (scope : Scope) (space : List ℕ) → IsXmlText space → AreWritten (default_of scope space) (default_given scope space)
default_written scope space good = by (is_some (element_prefix scope.soap space) || same scope.default space)
  where
    one : IsWritten (codes " xmlns" ++ assigned space) (given_of None (codes "xmlns") space)
    one = subst (λ (t : List ℕ). IsWritten (32 ∷ (t ++ assigned space)) (given_of None (codes "xmlns") space)) xmlns_chars (written None (codes "xmlns") space tt xmlns_is_name good)

    by : (b : Bool) → AreWritten (if b then [] else codes " xmlns" ++ assigned space) (if b then [] else given_of None (codes "xmlns") space ∷ [])
    by true = refl
    by false = (codes " xmlns" ++ assigned space, [], sym (append-nil (codes " xmlns" ++ assigned space)), one, refl)

-- the declaration of a prefix
declaration_written : (b : Binding) → IsGoodBinding b → IsWritten (declaration_of b) (declaration_given b)
declaration_written b good =
    subst (λ (t : List ℕ). IsWritten (32 ∷ ((t ++ 58 ∷ chars b.prefix) ++ assigned b.space)) (declaration_given b)) xmlns_chars
    (written (Some (codes "xmlns")) b.prefix b.space xmlns_is_name good.prefix good.space)

declarations_written : (bs : List Binding) → AreGoodBindings bs → AreWritten (flat_map declaration_of bs) (map declaration_given bs)
declarations_written [] good = refl
declarations_written (b ∷ bs) good = (declaration_of b, flat_map declaration_of bs, refl, declaration_written b good.0, declarations_written bs good.1)

-- an attribute
attribute_written : (bound : List Binding) (a : Attribute) → AreGoodBindings bound → IsGoodAttribute a → IsWritten (attribute_of bound a) (attribute_given bound a)
attribute_written bound a good_bound good =
    written (attribute_prefix bound a.space) a.name a.value (good_prefix_is (attribute_prefix bound a.space) (λ prefix. attribute_prefix_good bound a.space prefix good_bound)) good.name good.value

attributes_written :
    (bound : List Binding) (attributes : List Attribute) → AreGoodBindings bound → AreGoodAttributes attributes →
    AreWritten (flat_map (attribute_of bound) attributes) (map (attribute_given bound) attributes)
attributes_written bound [] good_bound good = refl
attributes_written bound (a ∷ more) good_bound good =
    (attribute_of bound a, flat_map (attribute_of bound) more, refl, attribute_written bound a good_bound good.0, attributes_written bound more good_bound good.1)

-- all that stands in a tag behind its name
abbrev behind_name_of : List Binding → Scope → List ℕ → List Attribute → List ℕ
behind_name_of first scope space attributes =
    default_of scope space ++ flat_map declaration_of first ++ flat_map declaration_of (new_bindings scope.bound attributes)
    ++ flat_map (attribute_of (inside scope space attributes).bound) attributes

all_written :
    (first : List Binding) (scope : Scope) (space name : List ℕ) (attributes : List Attribute) → IsGoodHead space name attributes → AreGoodBindings first → AreGoodBindings scope.bound →
    AreWritten (behind_name_of first scope space attributes) (spelled first scope space name attributes).given
all_written first scope space name attributes head good_first good_bound =
    let new = new_bindings scope.bound attributes in
    let bound = (inside scope space attributes).bound in
    let default_text = default_of scope space in
    let first_text = flat_map declaration_of first in
    let new_text = flat_map declaration_of new in
    let default_givens = default_given scope space in
    let first_givens = map declaration_given first in
    let new_givens = map declaration_given new in
    let good_new = new_are_good scope.bound attributes head.attributed in
    let good_all = bound_by_good scope.bound new good_bound good_new in
    both_written ((default_text ++ first_text) ++ new_text) (flat_map (attribute_of bound) attributes)
    ((default_givens ++ first_givens) ++ new_givens) (map (attribute_given bound) attributes)
    (both_written (default_text ++ first_text) new_text (default_givens ++ first_givens) new_givens
    (both_written default_text first_text default_givens first_givens (default_written scope space head.in_space) (declarations_written first good_first))
    (declarations_written new good_new))
    (attributes_written bound attributes good_all head.attributed)

-- the parts of a tag, with the attributes together
regroup : (name d f n a end rest : List ℕ) → (((((name ++ d) ++ f) ++ n) ++ a) ++ end) ++ rest ≡ name ++ ((((d ++ f) ++ n) ++ a) ++ (end ++ rest))
regroup name d f n a end rest = simp append_assoc

-- a tag behind its `<`, with the attributes together and this at its end
tag_regrouped :
    (first : List Binding) (scope : Scope) (space name : List ℕ) (attributes : List Attribute) (end rest : List ℕ) →
    (name_of (element_prefix scope.soap space) name ++ default_of scope space
    ++ flat_map declaration_of first ++ flat_map declaration_of (new_bindings scope.bound attributes)
    ++ flat_map (attribute_of (inside scope space attributes).bound) attributes ++ end) ++ rest
    ≡ name_of (element_prefix scope.soap space) name ++ (behind_name_of first scope space attributes ++ (end ++ rest))
tag_regrouped first scope space name attributes end rest =
    regroup (name_of (element_prefix scope.soap space) name) (default_of scope space) (flat_map declaration_of first)
    (flat_map declaration_of (new_bindings scope.bound attributes)) (flat_map (attribute_of (inside scope space attributes).bound) attributes) end rest

pub start_again : StartAgain
start_again first scope space name attributes rest head good_first good_bound =
    let prefix = element_prefix scope.soap space in
    ap (λ t. piece_at (60 ∷ t)) (tag_regrouped first scope space name attributes (62 ∷ []) rest)
    ∙ start_piece prefix name (behind_name_of first scope space attributes) rest (spelled first scope space name attributes).given
    (good_prefix_is prefix (λ p. element_prefix_good scope.soap space p)) head.named (all_written first scope space name attributes head good_first good_bound)

pub empty_again : EmptyAgain
empty_again first scope space name attributes rest head good_first good_bound =
    let prefix = element_prefix scope.soap space in
    ap (λ t. piece_at (60 ∷ t)) (tag_regrouped first scope space name attributes (codes "/>") rest)
    ∙ empty_piece prefix name (behind_name_of first scope space attributes) rest (spelled first scope space name attributes).given
    (good_prefix_is prefix (λ p. element_prefix_good scope.soap space p)) head.named (all_written first scope space name attributes head good_first good_bound)

-- end tags

abbrev ended_piece : Name × List ℕ → Piece × List ℕ
ended_piece read = (End read.0, read.1)

abbrev ended_name : Name × List ℕ → Option (Name × List ℕ)
ended_name name = option_map (λ (rest : List ℕ). (name.0, rest)) (strip (codes ">") (without_start name.1))

-- an end tag, by its parts
end_piece : (prefix : Option (List ℕ)) (local rest : List ℕ) → IsGoodPrefix prefix → IsLocalName local → piece_at (60 ∷ 47 ∷ (name_of prefix local ++ 62 ∷ rest)) ≡ Some (End (named prefix local), rest)
unfolding piece_at
end_piece prefix local rest good_prefix good =
    ap (λ (o : Option (Name × List ℕ)). option_map ended_piece (option_and_then ended_name o)) (name_again prefix local 62 rest good_prefix good refl refl)

pub end_again : EndAgain
end_again scope space name rest good =
    let prefix = element_prefix scope.soap space in
    ap (λ t. piece_at (60 ∷ 47 ∷ t)) (append_assoc (name_of prefix name) (62 ∷ []) rest)
    ∙ end_piece prefix name rest (good_prefix_is prefix (λ p. element_prefix_good scope.soap space p)) good
