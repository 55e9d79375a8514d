-- Elements and texts that are seen in a text, one behind the other.
use Rattle.std.proofs.Common.{◌≡◌, Bor, ℕ, zero, suc, ◌-◌, Bool, true, false, cond, ◌&&◌, not, List, [], ◌∷◌, ◌++◌, codes, encode_utf8_all, refl, ap, sym, ◌∙◌, append_assoc, append-nil, arith, subst}
use Rattle.std.specs.Prelude.{Option, Some, None, IfSome, is_some}
use Rattle.std.specs.List.{flat_map, list_all}
use Rattle.std.specs.Option.{option_copied, option_map, option_or}
use Rattle.std.specs.Str.{chars}
use Rattle.std.proofs.Math.Utf8.{encode}
use Rattle.std.proofs.lemmas.Bool.Decides.{nat_tests}
use Rattle.std.proofs.lemmas.Grind.{flat_map-append}
use Rattle.std.proofs.lemmas.Str.{encodes-append}
use Rattle.wef_base.specs.Characters.{is_xml_char}
use Rattle.wef_base.specs.Names.{same}
use Rattle.wef_base.specs.declared.tree.Attribute.{Attribute}
use Rattle.wef_base.specs.declared.tree.Element.{Element}
use Rattle.wef_base.specs.declared.tree.Node.{Node, Chars}
use Rattle.wef_base.specs.declared.tree.Node.TheVariants.{Element as Child}
use Rattle.wef_xml.specs.Canonical.{element_text, end_of, name_of, node_of, start_of, text_char, text_of}
use Rattle.wef_xml.specs.Good.{AreGoodNodes, IsGoodElement, IsLocalName, IsXmlText, are_apart, is_text}
use Rattle.wef_xml.specs.Prefixes.{Scope, bound_by, inside, new_bindings}
use Rattle.wef_xml.specs.Spaces.{is_empty, is_xml_space}
use Rattle.wef_xml.proofs.GoodNodes.{good_child, is_no_text}
use Rattle.wef_tree.proofs.TextsAgain.{name_chars, text_chars}
use Rattle.wef_tree_writing.proofs.WrittenNodes.{node_text}
use Rattle.wef_elements.specs.Texts.{only_text, text_in, text_inside}
use Rattle.wef_elements.proofs.Again.{text_again}
use Rattle.wef_elements.proofs.GoodTrees.{children_of_text}
use Rattle.wef_canonical.specs.Passing.{IsPlainRun, IsTextRun, Passes}
use Rattle.wef_canonical.specs.Tags.{AreBare, IsStart, bare_scope}
use Rattle.wef_canonical.specs.declared.tags.Start.{Start}
use Rattle.wef_canonical.proofs.BareTags.{no_bindings}
use Rattle.wef_canonical.proofs.Runs.{plain_itself}
use Rattle.wef_event.specs.Paths.{first_child, if_named}
use Rattle.wef_event.specs.Recognising.{AreNodes, FindsMore, IsFound, IsInside, IsSeen, fields_of, fields_said, node_bytes, nodes_bytes, text_of_first}
use Rattle.wef_event.specs.declared.recognising.Found.{Found}
use Rattle.wef_event.specs.declared.recognising.Inside.{Inside}
use Rattle.wef_event.specs.declared.recognising.Seen.{Seen}
use Rattle.wef_event.proofs.Children.{named_child, text_unnamed}

-- ---- options

or_none : {T : Type 0} (o : Option T) → option_or o None ≡ o
or_none None = refl
or_none (Some x) = refl

or_or : {T : Type 0} (a b c : Option T) → option_or a (option_or b c) ≡ option_or (option_or a b) c
or_or None b c = refl
or_or (Some x) b c = refl

map_or : {T U : Type 0} (f : T → U) (a b : Option T) → option_map f (option_or a b) ≡ option_or (option_map f a) (option_map f b)
map_or f None b = refl
map_or f (Some x) b = refl

-- ---- a text, or none

pub nothing : (text : List ℕ) → is_empty text ≡ true → text ≡ []
nothing [] e = refl
nothing (c ∷ cs) e = absurd (grind (arith, nat_tests, e))

none_written : encode_utf8_all (text_of []) ≡ []
unfolding chars
none_written = refl

only_text_bytes : (space text : List ℕ) → nodes_bytes space (only_text text) ≡ encode_utf8_all (text_of text)
only_text_bytes space text = by (is_empty text) refl
  where
    by : (b : Bool) → is_empty text ≡ b → nodes_bytes space (cond b [] (Chars text ∷ [])) ≡ encode_utf8_all (text_of text)
    by true e = sym (ap (λ (t : List ℕ). encode_utf8_all (text_of t)) (nothing text e) ∙ none_written)
    by false e = append-nil (encode_utf8_all (text_of text))

-- the word that a run spells
abbrev pub word_of : (front : List ℕ) → IsTextRun front → List ℕ
word_of front run = encode_utf8_all run.characters

pub word_is_good : (front : List ℕ) (run : IsTextRun front) → IsXmlText (word_of front run)
word_is_good front run = record { characters = run.characters; spelt = refl; allowed = run.pass }

-- the bytes of the word that a run spells
pub word_bytes : (front : List ℕ) (run : IsTextRun front) → encode_utf8_all (text_of (word_of front run)) ≡ front
unfolding word_is_good
word_bytes front run = ap (λ (cs : List ℕ). encode_utf8_all (flat_map text_char cs)) (text_chars (word_of front run) (word_is_good front run)) ∙ sym run.are_spelt

pub run_bytes : (space front : List ℕ) (run : IsTextRun front) → nodes_bytes space (only_text (word_of front run)) ≡ front
run_bytes space front run = only_text_bytes space (word_of front run) ∙ word_bytes front run

text_first : (name text : List ℕ) (ns : List Node) → first_child name (only_text text ++ ns) ≡ first_child name ns
text_first name text ns = by (is_empty text)
  where
    by : (b : Bool) → first_child name (cond b [] (Chars text ∷ []) ++ ns) ≡ first_child name ns
    by true = refl
    by false = ap (λ o. option_or o (first_child name ns)) (text_unnamed name text)

text_alone : (name text : List ℕ) → first_child name (only_text text) ≡ None
text_alone name text = ap (first_child name) (sym (append-nil (only_text text))) ∙ text_first name text []

-- a text that is all that an element holds
pub text_nodes : (space : List ℕ) (room : ℕ) (text rest : List ℕ) (passed : Passes IsTextRun text rest) → AreNodes space room text rest (only_text (word_of passed.0 passed.1))
text_nodes space room text rest passed =
    let good = children_of_text (word_of passed.0 passed.1) room (word_is_good passed.0 passed.1) in
    record { good = good.1; apart = good.0; stand = passed.2 ∙ ap (λ (bytes : List ℕ). bytes ++ rest) (sym (run_bytes space passed.0 passed.1)) }

-- nothing is found in it
none_found : (found : Found) (text : List ℕ) → IsFound found [] → IsFound found (only_text text)
none_found found text is = record {
  channel = is.channel ∙ ap (option_map text_inside) (sym (text_alone (codes "Channel") text));
  number = is.number ∙ ap (option_map text_inside) (sym (text_alone (codes "EventRecordID") text));
  system = is.system ∙ ap (option_map fields_of) (sym (text_alone (codes "System") text));
}

pub plain_seen : (space : List ℕ) (room : ℕ) (text plain : List ℕ) (inside : Inside) → Passes IsPlainRun text inside.rest.now → ((passed : List ℕ) → text ≡ passed ++ inside.rest.now → plain ≡ passed)
    → IfSome inside.text (λ t. t.now ≡ plain) → IsFound inside.found [] → IsInside space room text inside
plain_seen space room text plain inside passed is says none =
    let word = encode_utf8_all passed.1.characters in
    record {
      nodes = only_text word;
      are = by (plain_itself passed.0 passed.1);
      text_is = word_said inside.text says;
      found = none_found inside.found word none;
    }
  where
    by : (flat_map text_char passed.1.characters ≡ passed.1.characters) × (list_all is_xml_char passed.1.characters ≡ true) × (passed.0 ≡ encode_utf8_all passed.1.characters)
        → AreNodes space room text inside.rest.now (only_text (encode_utf8_all passed.1.characters))
    by parts =
        text_nodes space room text inside.rest.now
        (passed.0, record { characters = passed.1.characters; pass = parts.1; are_spelt = parts.2 ∙ ap encode_utf8_all (sym parts.0) }, passed.2)

    word_said : (o : Option (Bor (List ℕ))) → IfSome o (λ t. t.now ≡ plain) → IfSome o (λ t. flat_map text_in (only_text (encode_utf8_all passed.1.characters)) ≡ t.now)
    word_said None h = tt
    word_said (Some t) h =
        text_again (encode_utf8_all passed.1.characters) ∙ sym ((plain_itself passed.0 passed.1).2) ∙ sym (is passed.0 passed.2) ∙ sym h

-- ---- what is found so far, and in what follows

pub record FoundBefore (found : Found) (ns all : List Node) : Type 0 where
  pub channel : text_of_first (codes "Channel") all ≡ option_or (option_copied found.channel) (text_of_first (codes "Channel") ns)
  pub number : text_of_first (codes "EventRecordID") all ≡ option_or (option_copied found.number) (text_of_first (codes "EventRecordID") ns)
  pub system : option_map fields_of (first_child (codes "System") all) ≡ option_or (option_map fields_said found.system) (option_map fields_of (first_child (codes "System") ns))

-- Whatever nodes come further on, there are nodes from here.
abbrev pub LeadsToNodes : List ℕ → ℕ → List ℕ → List ℕ → Found → Type 0
LeadsToNodes space room text rest found =
    (ns : List Node) (behind : List ℕ) → AreNodes space room rest behind ns → (all : List Node) × AreNodes space room text behind all × FoundBefore found ns all

pub leads_first : (space : List ℕ) (room : ℕ) (text : List ℕ) (found : Found) → IsFound found [] → LeadsToNodes space room text text found
leads_first space room text found none ns behind are = (
  ns,
  are,
  record {
    channel = ap (λ o. option_or o (text_of_first (codes "Channel") ns)) (sym none.channel);
    number = ap (λ o. option_or o (text_of_first (codes "EventRecordID") ns)) (sym none.number);
    system = ap (λ o. option_or o (option_map fields_of (first_child (codes "System") ns))) (sym none.system);
  },
)

-- a child in front of others
child_first : (name : List ℕ) (e : Element) (ns : List Node) → first_child name (Child e ∷ ns) ≡ option_or (if_named name e) (first_child name ns)
child_first name e ns = ap (λ o. option_or o (first_child name ns)) (named_child name e)

found_on : {U : Type 0} (f : Element → U) (name text : List ℕ) (e : Element) (ns all : List Node) (before more : Option U) →
    option_map f (first_child name all) ≡ option_or before (option_map f (first_child name (only_text text ++ Child e ∷ ns))) →
    more ≡ option_or before (option_map f (if_named name e)) →
    option_map f (first_child name all) ≡ option_or more (option_map f (first_child name ns))
found_on f name text e ns all before more is adds =
    is
    ∙ ap (λ o. option_or before (option_map f o)) (text_first name text (Child e ∷ ns) ∙ child_first name e ns)
    ∙ ap (option_or before) (map_or f (if_named name e) (first_child name ns))
    ∙ or_or before (option_map f (if_named name e)) (option_map f (first_child name ns))
    ∙ ap (λ o. option_or o (option_map f (first_child name ns))) (sym adds)

-- good children behind a text and an element
pub children_on : (text : List ℕ) (e : Element) (ns : List Node) (room : ℕ) → IsXmlText text → IsGoodElement e room → are_apart false ns ≡ true → AreGoodNodes ns room
    → (are_apart false (only_text text ++ Child e ∷ ns) ≡ true) × AreGoodNodes (only_text text ++ Child e ∷ ns) room
children_on text e ns room allowed good apart more = by (is_empty text) refl
  where
    behind : AreGoodNodes (Child e ∷ ns) room
    behind = (good_child (Child e) e room refl good, more)

    apart_behind : are_apart (is_text (Child e)) ns ≡ true
    apart_behind = ap (λ (b : Bool). are_apart b ns) (is_no_text e) ∙ apart

    by : (b : Bool) → is_empty text ≡ b → (are_apart false (cond b [] (Chars text ∷ []) ++ Child e ∷ ns) ≡ true) × AreGoodNodes (cond b [] (Chars text ∷ []) ++ Child e ∷ ns) room
    by true e = (apart_behind, behind)
    by false some = (
      ap (λ (b : Bool). not b && are_apart (is_text (Child e)) ns) (is_no_text e) ∙ apart_behind,
      (record { allowed = allowed; some = some }, behind),
    )

pub leads_over :
    (space : List ℕ) (room : ℕ) (text rest middle : List ℕ) (found more : Found) (child : Seen) → LeadsToNodes space room text rest found →
    Passes IsTextRun rest middle → (seen : IsSeen space room middle child) → FindsMore found seen.element more →
    LeadsToNodes space room text child.rest.now more
leads_over space room text rest middle found more child leads passed seen adds ns behind are =
    let word = word_of passed.0 passed.1 in
    let e = seen.element in
    let good = children_on word e ns room (word_is_good passed.0 passed.1) seen.good are.apart are.good in
    let further = leads (only_text word ++ Child e ∷ ns) behind (record {
      good = good.1;
      apart = good.0;
      stand =
          passed.2 ∙ (λ i. sym (run_bytes space passed.0 passed.1) i ++ (seen.stands ∙ (λ j. sym (child_bytes e) j ++ are.stand j)) i)
          ∙ grouped (nodes_bytes space (only_text word)) (node_bytes space (Child e)) (nodes_bytes space ns) behind
          ∙ ap (λ (bytes : List ℕ). bytes ++ behind) (sym (flat_map-append (node_bytes space) (only_text word) (Child e ∷ ns)));
    }) in (
      further.0,
      further.1,
      record {
        channel = found_on text_inside (codes "Channel") word e ns further.0 (option_copied found.channel) (option_copied more.channel) further.2.channel adds.channel;
        number = found_on text_inside (codes "EventRecordID") word e ns further.0 (option_copied found.number) (option_copied more.number) further.2.number adds.number;
        system = found_on fields_of (codes "System") word e ns further.0 (option_map fields_said found.system) (option_map fields_said more.system) further.2.system adds.system;
      },
    )
  where
    child_bytes : (e : Element) → node_bytes space (Child e) ≡ encode_utf8_all (element_text [] (bare_scope space) e)
    child_bytes e = ap encode_utf8_all (node_text (Child e) e (bare_scope space) refl)

    grouped : (a b c d : List ℕ) → a ++ (b ++ (c ++ d)) ≡ (a ++ (b ++ c)) ++ d
    grouped a b c d = simp append_assoc

-- the end, behind a text or none
pub leads_to_end :
    (space : List ℕ) (room : ℕ) (text rest : List ℕ) (found : Found) (inside : Inside) → LeadsToNodes space room text rest found → Passes IsTextRun rest inside.rest.now →
    IfSome inside.text (λ _. ⊥) → inside.found ≡ found → IsInside space room text inside
leads_to_end space room text rest found inside leads passed none same =
    let word = word_of passed.0 passed.1 in
    let all = leads (only_text word) inside.rest.now (text_nodes space room rest inside.rest.now passed) in
    record {
      nodes = all.0;
      are = all.1;
      text_is = no_text _ inside.text none;
      found = subst (λ (f : Found). IsFound f all.0) (sym same) (record {
        channel = sym (all.2.channel ∙ ap (λ o. option_or (option_copied found.channel) (option_map text_inside o)) (text_alone (codes "Channel") word) ∙ or_none (option_copied found.channel));
        number = sym (all.2.number ∙ ap (λ o. option_or (option_copied found.number) (option_map text_inside o)) (text_alone (codes "EventRecordID") word) ∙ or_none (option_copied found.number));
        system = sym (all.2.system ∙ ap (λ o. option_or (option_map fields_said found.system) (option_map fields_of o)) (text_alone (codes "System") word) ∙ or_none (option_map fields_said found.system));
      });
    }
  where
    no_text : (P : Bor (List ℕ) → Type 0) (o : Option (Bor (List ℕ))) → IfSome o (λ _. ⊥) → IfSome o P
    no_text P None h = tt
    no_text P (Some t) h = absurd h

-- ---- an element

pub inner_scope : (default space : List ℕ) (attributes : List Attribute) → is_xml_space space ≡ false → (bindings : ◌≡◌ (new_bindings [] attributes) []) → inside (bare_scope default) space attributes ≡ bare_scope space
inner_scope default space attributes xml bindings = λ i. record {
  default = cond (is_some (cond {A = Option (List ℕ)} (xml i) (Some (codes "xml")) None)) default space;
  soap = false;
  bound = bound_by [] (bindings i);
}

nodes_again : (space : List ℕ) (ns : List Node) → encode_utf8_all (flat_map (λ n. node_of n (bare_scope space)) ns) ≡ nodes_bytes space ns
nodes_again space [] = refl
nodes_again space (n ∷ ns) =
    encodes-append (node_of n (bare_scope space)) (flat_map (λ n. node_of n (bare_scope space)) ns) ∙ ap (λ (bytes : List ℕ). node_bytes space n ++ bytes) (nodes_again space ns)

-- a name's characters in UTF-8 are the name
pub name_again : (name : List ℕ) → IsLocalName name → encode_utf8_all (chars name) ≡ name
name_again name is = ap encode_utf8_all (name_chars name is) ∙ sym is.spelt

pub end_bytes : (default space name : List ℕ) → is_xml_space space ≡ false → encode_utf8_all (chars name) ≡ name → encode_utf8_all (end_of (bare_scope default) space name) ≡ codes "</" ++ name ++ codes ">"
unfolding encode
end_bytes default space name xml again =
    ap (λ (b : Bool). encode_utf8_all (codes "</" ++ name_of (cond {A = Option (List ℕ)} b (Some (codes "xml")) None) name ++ 62 ∷ [])) xml
    ∙ ap (λ (bytes : List ℕ). codes "</" ++ bytes) (encodes-append (chars name) (62 ∷ []))
    ∙ ap (λ (bytes : List ℕ). codes "</" ++ bytes ++ codes ">") again

pub three_encoded : (a b c : List ℕ) → encode_utf8_all (a ++ b ++ c) ≡ encode_utf8_all a ++ encode_utf8_all b ++ encode_utf8_all c
three_encoded a b c = encodes-append (a ++ b) c ∙ ap (λ bytes. bytes ++ encode_utf8_all c) (encodes-append a b)

-- the bytes of an element by its parts
pub element_bytes :
    (default space called : List ℕ) (attributes : List Attribute) (ns : List Node) → is_xml_space space ≡ false → AreBare attributes → IsLocalName called →
    encode_utf8_all (element_text [] (bare_scope default) (record { space = space; name = called; attributes = attributes; children = ns }))
    ≡ encode_utf8_all (start_of [] (bare_scope default) space called attributes) ++ nodes_bytes space ns ++ (codes "</" ++ called ++ codes ">")
element_bytes default space called attributes ns xml bare named =
    let scope : Scope = bare_scope default in
    ap (λ (s : Scope). encode_utf8_all (start_of [] scope space called attributes ++ flat_map (λ n. node_of n s) ns ++ end_of scope space called))
    (inner_scope default space attributes xml (no_bindings attributes bare))
    ∙ three_encoded (start_of [] scope space called attributes) (flat_map (λ n. node_of n (bare_scope space)) ns) (end_of scope space called)
    ∙ (λ i. encode_utf8_all (start_of [] scope space called attributes) ++ nodes_again space ns i ++ end_bytes default space called xml (name_again called named) i)

pub element_seen :
    (default : List ℕ) (room : ℕ) (text : List ℕ) (start : Start) (inner : Inside) (seen : Seen) → (room ≡ 0 → ⊥) → IsStart default text start → IsInside start.space.now (room - 1) start.rest.now inner →
    inner.rest.now ≡ codes "</" ++ start.name.now ++ codes ">" ++ seen.rest.now → seen.name ≡ start.name → seen.text ≡ inner.text → seen.inside ≡ inner.found → IsSeen default room text seen
element_seen default zero text start inner seen some is inside end name plain found = absurd (some refl)
element_seen default (suc room) text start inner seen some is inside end name plain found =
    let space = start.space.now in
    let called = start.name.now in
    let scope : Scope = bare_scope default in
    let e : Element = record { space = space; name = called; attributes = is.attributes; children = inside.nodes } in
    let written : encode_utf8_all (element_text [] scope e) ≡ encode_utf8_all (start_of [] scope space called is.attributes) ++ nodes_bytes space inside.nodes ++ (codes "</" ++ called ++ codes ">") =
    element_bytes default space called is.attributes inside.nodes is.space.no_xml is.bare is.head.named in
    record {
      element = e;
      good = (is.head, inside.are.apart, subst (λ (r : ℕ). AreGoodNodes inside.nodes r) less inside.are.good);
      bare = is.space;
      stands =
          is.stands
          ∙ ap (λ (bytes : List ℕ). encode_utf8_all (start_of [] scope space called is.attributes) ++ bytes) (inside.are.stand ∙ ap (λ (bytes : List ℕ). nodes_bytes space inside.nodes ++ bytes) end)
          ∙ grouped (encode_utf8_all (start_of [] scope space called is.attributes)) (nodes_bytes space inside.nodes) (codes "</" ++ called ++ codes ">") seen.rest.now
          ∙ ap (λ (bytes : List ℕ). bytes ++ seen.rest.now) (sym written);
      is = record {
        named = ap (λ (n : Bor (List ℕ)). n.now) (sym name);
        text_is = subst (λ (o : Option (Bor (List ℕ))). IfSome o (λ t. text_inside e ≡ t.now)) (sym plain) inside.text_is;
        found = subst (λ (f : Found). IsFound f inside.nodes) (sym found) inside.found;
      };
    }
  where
    less : suc room - 1 ≡ room
    less = omega arith

    grouped : (a b c d : List ℕ) → a ++ (b ++ (c ++ d)) ≡ (a ++ b ++ c) ++ d
    grouped a b c d = simp append_assoc
