-- The one text of elements and texts is written over a loose text of them, one behind the other.
use Rattle.std.proofs.Common.{◌≡◌, ℕ, zero, suc, ◌-◌, Bool, true, false, cond, List, [], ◌∷◌, ◌++◌, length, codes, encode_utf8_all, refl, ap, sym, ◌∙◌, append_assoc, append-nil, arith, subst, inl, inr}
use Rattle.std.specs.Str.{chars}
use Rattle.std.proofs.Math.Utf8.{encode}
use Rattle.std.proofs.lemmas.Grind.{flat_map-append}
use Rattle.std.proofs.lemmas.Str.{encodes-append}
use Rattle.wef_base.specs.declared.tree.Element.{Element}
use Rattle.wef_base.specs.declared.tree.Node.{Node, Chars}
use Rattle.wef_base.specs.declared.tree.Node.TheVariants.{Element as Child}
use Rattle.wef_xml.specs.Canonical.{canonical, element_text, end_of, start_of, text_of}
use Rattle.wef_xml.specs.Good.{AreGoodNodes}
use Rattle.wef_xml.specs.Prefixes.{Scope, bound_by, is_soap, nine}
use Rattle.wef_xml.specs.Spaces.{is_empty}
use Rattle.wef_xml.specs.declared.bindings.Binding.{Binding}
use Rattle.wef_tree.specs.Loose.{AreLooseNodes, IsLooseElement, empty_of}
use Rattle.wef_tree.proofs.EncodedAgain.{written8}
use Rattle.wef_tree.proofs.LooseTexts.{loose_child}
use Rattle.wef_tree_writing.proofs.WrittenNodes.{node_text}
use Rattle.wef_elements.specs.Texts.{only_text}
use Rattle.wef_elements.proofs.GoodTrees.{children_of_text}
use Rattle.wef_canonical.specs.Passing.{IsTextRun, Passes}
use Rattle.wef_canonical.specs.Tags.{IsOpen, IsStart, bare_scope, open_of}
use Rattle.wef_canonical.specs.declared.tags.Start.{Start}
use Rattle.wef_canonical.proofs.BareTags.{no_bindings}
use Rattle.wef_event.specs.Loose.{IsLooseTextOf, WritesElement, WritesNodes}
use Rattle.wef_event.specs.Recognising.{node_bytes, nodes_bytes}
use Rattle.wef_event.proofs.Labels.{root_text}
use Rattle.wef_event.proofs.SeenNodes.{children_on, element_bytes, end_bytes, inner_scope, name_again, nothing, run_bytes, three_encoded, word_bytes, word_is_good, word_of}

-- ---- a text, or none

no_text : (text : List ℕ) → is_empty text ≡ true → text_of text ≡ []
unfolding chars
no_text text e = ap text_of (nothing text e)

-- a text in front of loose nodes
loose_text : (text : List ℕ) (ns : List Node) (scope : Scope) (others : List ℕ) → AreLooseNodes ns scope others → AreLooseNodes (only_text text ++ ns) scope (text_of text ++ others)
loose_text text ns scope others loose = by (is_empty text) refl
  where
    by : (b : Bool) → is_empty text ≡ b → AreLooseNodes (cond b [] (Chars text ∷ []) ++ ns) scope (text_of text ++ others)
    by true e = subst (λ (front : List ℕ). AreLooseNodes ns scope (front ++ others)) (sym (no_text text e)) loose
    by false e = (text_of text, others, refl, loose, refl)

loose_alone : (text : List ℕ) (scope : Scope) → AreLooseNodes (only_text text) scope (text_of text)
loose_alone text scope = by (is_empty text) refl
  where
    by : (b : Bool) → is_empty text ≡ b → AreLooseNodes (cond b [] (Chars text ∷ [])) scope (text_of text)
    by true e = no_text text e
    by false e = (text_of text, [], refl, refl, sym (append-nil (text_of text)))

pub text_written :
    (space : List ℕ) (room : ℕ) (text rest before after : List ℕ) (passed : Passes IsTextRun text rest) → after ≡ before ++ passed.0 → WritesNodes space room text rest before after
text_written space room text rest before after passed is =
    let word = word_of passed.0 passed.1 in
    let good = children_of_text word room (word_is_good passed.0 passed.1) in
    record {
      nodes = only_text word;
      good = good.1;
      apart = good.0;
      loose = text_of word;
      are_loose = loose_alone word (bare_scope space);
      stand = passed.2 ∙ ap (λ (bytes : List ℕ). bytes ++ rest) (sym (word_bytes passed.0 passed.1));
      written = is ∙ ap (λ (bytes : List ℕ). before ++ bytes) (sym (run_bytes space passed.0 passed.1));
    }

-- ---- nodes, one behind the other

-- Whatever nodes are written further on, nodes are written from here.
abbrev pub WritesOn : List ℕ → ℕ → List ℕ → List ℕ → List ℕ → List ℕ → Type 0
WritesOn space room text rest before between =
    (behind after : List ℕ) → WritesNodes space room rest behind between after → WritesNodes space room text behind before after

pub writes_here : (space : List ℕ) (room : ℕ) (text before : List ℕ) → WritesOn space room text text before before
writes_here space room text before behind after writes = writes

-- a text and an element in front of nodes
pub writes_over :
    (space : List ℕ) (room : ℕ) (text rest middle left before between passed_by through : List ℕ) → WritesOn space room text rest before between →
    (passed : Passes IsTextRun rest middle) → passed_by ≡ between ++ passed.0 → WritesElement space room middle left passed_by through →
    WritesOn space room text left before through
writes_over space room text rest middle left before between passed_by through on passed pushed child behind after more =
    let word = word_of passed.0 passed.1 in
    let e = child.element in
    let good = children_on word e more.nodes room (word_is_good passed.0 passed.1) child.good more.apart more.good in
    on behind after (record {
      nodes = only_text word ++ Child e ∷ more.nodes;
      good = good.1;
      apart = good.0;
      loose = text_of word ++ (child.loose ++ more.loose);
      are_loose = loose_text word (Child e ∷ more.nodes) (bare_scope space) (child.loose ++ more.loose)
          (child.loose, more.loose, loose_child (Child e) e (bare_scope space) child.loose refl child.is_loose, more.are_loose, refl);
      stand =
          passed.2 ∙ (λ i. sym (word_bytes passed.0 passed.1) i ++ (child.stands ∙ ap (λ (bytes : List ℕ). encode_utf8_all child.loose ++ bytes) more.stand) i)
          ∙ grouped (encode_utf8_all (text_of word)) (encode_utf8_all child.loose) (encode_utf8_all more.loose) behind
          ∙ ap (λ (bytes : List ℕ). bytes ++ behind)
          (sym (encodes-append (text_of word) (child.loose ++ more.loose) ∙ ap (λ (bytes : List ℕ). encode_utf8_all (text_of word) ++ bytes) (encodes-append child.loose more.loose)));
      written =
          more.written
          ∙ ap (λ (bytes : List ℕ). bytes ++ nodes_bytes space more.nodes)
          (child.written ∙ (λ i. (pushed i ++ sym (child_bytes e) i)) ∙ ap (λ (bytes : List ℕ). (between ++ bytes) ++ node_bytes space (Child e)) (sym (run_bytes space passed.0 passed.1)))
          ∙ joined between (nodes_bytes space (only_text word)) (node_bytes space (Child e)) (nodes_bytes space more.nodes)
          ∙ ap (λ (bytes : List ℕ). between ++ bytes) (sym (flat_map-append (node_bytes space) (only_text word) (Child e ∷ more.nodes)));
    })
  where
    child_bytes : (e : Element) → node_bytes space (Child e) ≡ encode_utf8_all (element_text [] (bare_scope space) e)
    child_bytes e = ap encode_utf8_all (node_text (Child e) e (bare_scope space) refl)

    grouped : (a b c d : List ℕ) → a ++ (b ++ (c ++ d)) ≡ (a ++ (b ++ c)) ++ d
    grouped a b c d = simp append_assoc

    joined : (a b c d : List ℕ) → ((a ++ b) ++ c) ++ d ≡ a ++ (b ++ (c ++ d))
    joined a b c d = simp append_assoc

-- ---- an element

less : (room : ℕ) → suc room - 1 ≡ room
less room = omega arith

-- one between two tags
pub element_written :
    (default : List ℕ) (room : ℕ) (text : List ℕ) (start : Start) (end rest before started filled after : List ℕ) → (room ≡ 0 → ⊥) → IsStart default text start →
    ((passed : List ℕ) → text ≡ passed ++ start.rest.now → started ≡ before ++ passed) →
    WritesNodes start.space.now (room - 1) start.rest.now end started filled →
    end ≡ codes "</" ++ start.name.now ++ codes ">" ++ rest → ((passed : List ℕ) → end ≡ passed ++ rest → after ≡ filled ++ passed) →
    WritesElement default room text rest before after
element_written default zero text start end rest before started filled after some is begun inner ends closed = absurd (some refl)
element_written default (suc room) text start end rest before started filled after some is begun inner ends closed =
    let space = start.space.now in
    let called = start.name.now in
    let scope : Scope = bare_scope default in
    let begin : List ℕ = start_of [] scope space called is.attributes in
    let finish : List ℕ = codes "</" ++ called ++ codes ">" in
    let e : Element = record { space = space; name = called; attributes = is.attributes; children = inner.nodes } in
    let P : Scope → Type 0 = λ s. AreLooseNodes inner.nodes s inner.loose in
    let Q : ℕ → Type 0 = λ r. AreGoodNodes inner.nodes r in
    record {
      element = e;
      good = (is.head, inner.apart, subst Q (less room) inner.good);
      bare = is.space;
      loose = begin ++ inner.loose ++ end_of scope space called;
      is_loose = inr (inner.loose, subst P (sym (inner_scope default space is.attributes is.space.no_xml (no_bindings is.attributes is.bare))) inner.are_loose, refl);
      stands =
          is.stands ∙ ap (λ (bytes : List ℕ). encode_utf8_all begin ++ bytes) (inner.stand ∙ ap (λ (bytes : List ℕ). encode_utf8_all inner.loose ++ bytes) ends)
          ∙ grouped (encode_utf8_all begin) (encode_utf8_all inner.loose) finish rest
          ∙ ap (λ (bytes : List ℕ). (encode_utf8_all begin ++ encode_utf8_all inner.loose ++ bytes) ++ rest) (sym (end_bytes default space called is.space.no_xml (name_again called is.head.named)))
          ∙ ap (λ (bytes : List ℕ). bytes ++ rest) (sym (three_encoded begin inner.loose (end_of scope space called)));
      written =
          closed finish ends
          ∙ ap (λ (bytes : List ℕ). bytes ++ finish) (inner.written ∙ ap (λ (bytes : List ℕ). bytes ++ nodes_bytes space inner.nodes) (begun (encode_utf8_all begin) is.stands))
          ∙ joined before (encode_utf8_all begin) (nodes_bytes space inner.nodes) finish
          ∙ ap (λ (bytes : List ℕ). before ++ bytes) (sym (element_bytes default space called is.attributes inner.nodes is.space.no_xml is.bare is.head.named));
    }
  where
    grouped : (a b c d : List ℕ) → a ++ (b ++ (c ++ d)) ≡ (a ++ b ++ c) ++ d
    grouped a b c d = simp append_assoc

    joined : (a b c d : List ℕ) → ((a ++ b) ++ c) ++ d ≡ a ++ (b ++ c ++ d)
    joined a b c d = simp append_assoc

-- what is written for one tag
empty_encoded : (front : List ℕ) → encode_utf8_all (front ++ codes "/>") ≡ encode_utf8_all front ++ codes "/>"
unfolding encode
empty_encoded front = encodes-append front (codes "/>")

start_encoded : (front : List ℕ) → encode_utf8_all (front ++ 62 ∷ []) ≡ encode_utf8_all front ++ 62 ∷ []
unfolding encode
start_encoded front = encodes-append front (62 ∷ [])

-- one in one tag
pub empty_written :
    (default : List ℕ) (room : ℕ) (text : List ℕ) (tag : Start) (rest before after : List ℕ) → (room ≡ 0 → ⊥) → IsOpen default text tag →
    tag.rest.now ≡ codes "/>" ++ rest → ((passed : List ℕ) → text ≡ passed ++ tag.rest.now → after ≡ before ++ passed ++ codes "></" ++ tag.name.now ++ codes ">") →
    WritesElement default room text rest before after
empty_written default zero text tag rest before after some is ends pushed = absurd (some refl)
empty_written default (suc room) text tag rest before after some is ends pushed =
    let space = tag.space.now in
    let called = tag.name.now in
    let scope : Scope = bare_scope default in
    let begin : List ℕ = open_of [] scope space called is.attributes in
    let e : Element = record { space = space; name = called; attributes = is.attributes; children = [] } in
    record {
      element = e;
      good = (is.head, refl, tt);
      bare = is.space;
      loose = empty_of [] scope space called is.attributes;
      is_loose = inl (refl, refl);
      stands =
          is.stands ∙ ap (λ (bytes : List ℕ). encode_utf8_all begin ++ bytes) ends ∙ sym (append_assoc (encode_utf8_all begin) (codes "/>") rest)
          ∙ ap (λ (bytes : List ℕ). bytes ++ rest) (sym (empty_encoded begin));
      written =
          pushed (encode_utf8_all begin) is.stands
          ∙ joined before (encode_utf8_all begin) called
          ∙ ap (λ (bytes : List ℕ). before ++ (bytes ++ [] ++ (codes "</" ++ called ++ codes ">"))) (sym (start_encoded begin))
          ∙ ap (λ (bytes : List ℕ). before ++ bytes) (sym (element_bytes default space called is.attributes [] is.space.no_xml is.bare is.head.named));
    }
  where
    joined : (a b c : List ℕ) → a ++ b ++ codes "></" ++ c ++ codes ">" ≡ a ++ ((b ++ 62 ∷ []) ++ [] ++ (codes "</" ++ c ++ codes ">"))
    joined a b c = simp (append_assoc, append-nil)

-- ---- the root

-- in its own scope
root_loose : (e : Element) (text : List ℕ) → is_soap e.space ≡ false → IsLooseElement [] (bare_scope []) e text →
    IsLooseElement (cond {A = List Binding} (is_soap e.space) nine []) (record { default = []; soap = is_soap e.space; bound = bound_by [] (cond {A = List Binding} (is_soap e.space) nine []) }) e text
root_loose e text soap loose =
    subst (λ (b : Bool). IsLooseElement (cond {A = List Binding} b nine []) (record { default = []; soap = b; bound = bound_by [] (cond {A = List Binding} b nine []) }) e text) (sym soap) loose

pub whole_written : (text rest whole : List ℕ) → WritesElement [] 64 text rest [] whole → rest ≡ [] → IsLooseTextOf text whole
whole_written text rest whole is none = record {
  root = is.element;
  good = is.good;
  loose = is.loose;
  is_loose = root_loose is.element is.loose is.bare.no_soap is.is_loose;
  text_is = is.stands ∙ ap (λ (bytes : List ℕ). encode_utf8_all is.loose ++ bytes) none ∙ append-nil (encode_utf8_all is.loose);
  whole_is = is.written ∙ ap encode_utf8_all (sym (root_text is.element is.bare.no_soap)) ∙ sym (written8 (canonical is.element));
}

-- nothing is left
pub none_behind : (rest : List ℕ) → length rest ≡ 0 → rest ≡ []
none_behind [] e = refl
none_behind (c ∷ cs) e = absurd (grind (arith, e))
