-- An item costs the bytes of its element's text inside an envelope.
use Rattle.std.proofs.Common.{◌≡◌, ℕ, ◌==◌, Bool, true, false, cond, ◌+◌, ◌-◌, List, [], ◌∷◌, ◌++◌, length, min, refl, ap, sym, ◌∙◌, append_assoc, append-nil, arith}
use Rattle.std.specs.Prelude.{codes, encode_utf8_all}
use Rattle.std.specs.Fmt.{decimal}
use Rattle.std.specs.List.{flat_map, list_all}
use Rattle.std.specs.Str.{chars}
use Rattle.std.proofs.Math.Utf8.{encode}
use Rattle.std.proofs.lemmas.Bool.{and_parts}
use Rattle.std.proofs.lemmas.Bool.Decides.{nat_tests}
use Rattle.std.proofs.lemmas.Str.{encodes-append}
use Rattle.wef_base.specs.Numbers.{is_digit}
use Rattle.wef_base.specs.declared.tree.Attribute.{Attribute}
use Rattle.wef_base.specs.declared.tree.Element.{Element}
use Rattle.wef_base.specs.declared.tree.Node.{Chars}
use Rattle.wef_base.specs.declared.tree.Node.TheVariants.{Element as Child}
use Rattle.wef_elements.specs.Children.{with_attributes}
use Rattle.wef_elements.specs.Spaces.{management, profile}
use Rattle.wef_elements.specs.Texts.{only_text}
use Rattle.wef_xml.specs.Canonical.{attribute_of, end_of, node_of, start_of, text_char, text_of, value_char, value_of}
use Rattle.wef_xml.specs.Prefixes.{Scope, inside, is_soap, nine, outermost, soap_space}
use Rattle.wef_xml.specs.Spaces.{is_xml_space, xml_space}
use Rattle.wef_tree_writing.proofs.WrittenNodes.{node_text}
use Rattle.wef_event.specs.Characters.{escape, escaped}
use Rattle.wef_elements.proofs.DecimalDigits.{decimal_digits, digits_chars}
use Rattle.wef_event.proofs.Escaped.{escaped_digits, escaped_is}
use Rattle.wef_batch.specs.Cost.{cost, most, quoted, quoted_character, written, written_dropped, written_event, written_loose}
use Rattle.wef_batch.specs.Elements.{action_attribute, event_action, event_element, gone_element, item_element, profiled, range_attributes, range_element}
use Rattle.wef_batch.specs.Envelopes.{CostsAreOfTexts, scope_of_items, text_in_envelope}
use Rattle.wef_batch.specs.declared.items.Item.{Item}
use Rattle.wef_batch.specs.declared.items.Item.TheVariants.{Event, Dropped, Loose}

-- what is in force round the root is so at the items too
abbrev scope : Scope
scope = outermost soap_space

scope_is : scope_of_items ≡ scope
unfolding management is_soap soap_space nine is_xml_space xml_space
scope_is = refl

-- ---- elements

three_encoded : (a b c : List ℕ) → encode_utf8_all (a ++ b ++ c) ≡ encode_utf8_all a ++ encode_utf8_all b ++ encode_utf8_all c
three_encoded a b c = encodes-append (a ++ b) c ∙ ap (λ bytes. bytes ++ encode_utf8_all c) (encodes-append a b)

none_said : text_of [] ≡ []
unfolding chars
none_said = refl

-- a text as children, in characters
children_text : (text : List ℕ) (s : Scope) → flat_map (λ n. node_of n s) (only_text text) ≡ text_of text
children_text [] s = sym none_said
children_text (c ∷ cs) s =
    let more : (length (c ∷ cs) == 0) ≡ false = grind (arith, nat_tests) in
    ap (λ b. flat_map (λ n. node_of n s) (cond b [] (Chars (c ∷ cs) ∷ []))) more ∙ append-nil (text_of (c ∷ cs))

-- the bytes of an element with attributes and a text
element_bytes :
    (name start end : List ℕ) (attributes : List Attribute) (text : List ℕ) → encode_utf8_all (start_of [] scope management name attributes) ≡ start →
    encode_utf8_all (end_of scope management name) ≡ end → encode_utf8_all (node_of (Child (with_attributes management name attributes text)) scope) ≡ start ++ escaped text ++ end
element_bytes name start end attributes text starts ends =
    let e : Element = with_attributes management name attributes text in
    let first : List ℕ = start_of [] scope management name attributes in
    let last : List ℕ = end_of scope management name in
    ap encode_utf8_all (node_text (Child e) e scope refl ∙ ap (λ t. first ++ t ++ last) (children_text text (inside scope management attributes)))
    ∙ three_encoded first (text_of text) last
    ∙ (λ i. starts i ++ sym (escaped_is text) i ++ ends i)

-- ---- tags

event_start : encode_utf8_all (start_of [] scope management (codes "Event") (action_attribute ∷ [])) ≡ codes "<w:Event Action=\"http://schemas.dmtf.org/wbem/wsman/1/wsman/Event\">"
unfolding management event_action is_soap soap_space nine is_xml_space xml_space chars encode
event_start = refl

event_end : encode_utf8_all (end_of scope management (codes "Event")) ≡ codes "</w:Event>"
unfolding management is_soap soap_space nine is_xml_space xml_space chars encode
event_end = refl

loose_start : encode_utf8_all (start_of [] scope management (codes "DroppedEvents") []) ≡ codes "<w:DroppedEvents>"
unfolding management is_soap soap_space nine is_xml_space xml_space chars encode
loose_start = refl

gone_end : encode_utf8_all (end_of scope management (codes "DroppedEvents")) ≡ codes "</w:DroppedEvents>"
unfolding management is_soap soap_space nine is_xml_space xml_space chars encode
gone_end = refl

-- ---- values

value_bytes : (c : ℕ) → quoted_character c ≡ encode_utf8_all (value_char c)
unfolding encode
value_bytes c = by (c == 34)
  where
    by : (b : Bool) → cond b (codes "&quot;") (escape c) ≡ encode_utf8_all (cond b (codes "&quot;") (text_char c))
    by true = refl
    by false = refl

all_quoted : (cs : List ℕ) → flat_map quoted_character cs ≡ encode_utf8_all (flat_map value_char cs)
all_quoted [] = refl
all_quoted (c ∷ cs) = (λ i. value_bytes c i ++ all_quoted cs i) ∙ sym (encodes-append (value_char c) (flat_map value_char cs))

-- a text as it stands in an attribute is the one of the tree's value
quoted_is : (text : List ℕ) → encode_utf8_all (value_of text) ≡ quoted text
quoted_is text = sym (all_quoted (chars text))

digit_unquoted : (d : ℕ) → is_digit d ≡ true → (d == 34) ≡ false
digit_unquoted d h = grind (arith, nat_tests, h)

unquoted : (ds : List ℕ) → list_all is_digit ds ≡ true → flat_map quoted_character ds ≡ flat_map escape ds
unquoted [] h = refl
unquoted (d ∷ ds) h =
    let parts = and_parts (is_digit d) (list_all is_digit ds) h in
    λ i. cond (digit_unquoted d parts.0 i) (codes "&quot;") (escape d) ++ unquoted ds parts.1 i

-- digits stand for themselves in a value too
number_is : (n : ℕ) → encode_utf8_all (value_of (decimal n)) ≡ decimal n
number_is n =
    let ds = decimal n in
    let digits = decimal_digits n in
    quoted_is ds ∙ ap (flat_map quoted_character) (digits_chars ds digits) ∙ unquoted ds digits ∙ sym (ap (flat_map escape) (digits_chars ds digits)) ∙ escaped_digits ds digits

-- an attribute, by the bytes of its value
attribute_bytes :
    (name front value : List ℕ) → encode_utf8_all (attribute_of scope.bound (profiled name value)) ≡ encode_utf8_all (front ++ (value_of value ++ 34 ∷ [])) →
    (bytes : List ℕ) → encode_utf8_all (value_of value) ≡ bytes → encode_utf8_all front ≡ front → encode_utf8_all (attribute_of scope.bound (profiled name value)) ≡ front ++ (bytes ++ 34 ∷ [])
unfolding encode
attribute_bytes name front value is bytes valued fronted =
    is ∙ encodes-append front (value_of value ++ 34 ∷ []) ∙ (λ i. fronted i ++ (encodes-append (value_of value) (34 ∷ []) ∙ ap (λ b. b ++ 34 ∷ []) valued) i)

channel_bytes : (c : List ℕ) → encode_utf8_all (attribute_of scope.bound (profiled (codes "Channel") c)) ≡ codes " u:Channel=\"" ++ (quoted c ++ 34 ∷ [])
unfolding profile is_soap soap_space nine is_xml_space xml_space chars encode
channel_bytes c = attribute_bytes (codes "Channel") (codes " u:Channel=\"") c refl (quoted c) (quoted_is c) refl

first_bytes : (n : ℕ) → encode_utf8_all (attribute_of scope.bound (profiled (codes "First") (decimal n))) ≡ codes " u:First=\"" ++ (decimal n ++ 34 ∷ [])
unfolding profile is_soap soap_space nine is_xml_space xml_space chars encode
first_bytes n = attribute_bytes (codes "First") (codes " u:First=\"") (decimal n) refl (decimal n) (number_is n) refl

last_bytes : (n : ℕ) → encode_utf8_all (attribute_of scope.bound (profiled (codes "Last") (decimal n))) ≡ codes " u:Last=\"" ++ (decimal n ++ 34 ∷ [])
unfolding profile is_soap soap_space nine is_xml_space xml_space chars encode
last_bytes n = attribute_bytes (codes "Last") (codes " u:Last=\"") (decimal n) refl (decimal n) (number_is n) refl

-- the start tag of a range, by its attributes
range_tag : (c : List ℕ) (first last : ℕ) →
    start_of [] scope management (codes "DroppedEvents") (range_attributes c first last)
    ≡ codes "<w:DroppedEvents" ++ flat_map (attribute_of scope.bound) (range_attributes c first last) ++ 62 ∷ []
unfolding management profile is_soap soap_space nine is_xml_space xml_space chars
range_tag c first last = refl

encoded_parts : (front a b c : List ℕ) → encode_utf8_all front ≡ front →
    encode_utf8_all (front ++ (a ++ (b ++ (c ++ []))) ++ 62 ∷ []) ≡ front ++ (encode_utf8_all a ++ (encode_utf8_all b ++ (encode_utf8_all c ++ []))) ++ 62 ∷ []
unfolding encode
encoded_parts front a b c fronted =
    three_encoded front (a ++ (b ++ (c ++ []))) (62 ∷ [])
    ∙ (λ i. fronted i ++ (encodes-append a (b ++ (c ++ [])) ∙ ap (λ t. encode_utf8_all a ++ t) (encodes-append b (c ++ []) ∙ ap (λ t. encode_utf8_all b ++ t) (encodes-append c []))) i ++ 62 ∷ [])

abbrev range_start : List ℕ → ℕ → ℕ → List ℕ
range_start c first last =
    codes "<w:DroppedEvents" ++ ((codes " u:Channel=\"" ++ (quoted c ++ 34 ∷ [])) ++ ((codes " u:First=\"" ++ (decimal first ++ 34 ∷ [])) ++ ((codes " u:Last=\"" ++ (decimal last ++ 34 ∷ [])) ++ [])))
    ++ 62 ∷ []

range_starts : (c : List ℕ) (first last : ℕ) → encode_utf8_all (start_of [] scope management (codes "DroppedEvents") (range_attributes c first last)) ≡ range_start c first last
unfolding encode
range_starts c first last =
    let at : List ℕ → List ℕ → List ℕ = λ name value. attribute_of scope.bound (profiled name value) in
    ap encode_utf8_all (range_tag c first last)
    ∙ encoded_parts (codes "<w:DroppedEvents") (at (codes "Channel") c) (at (codes "First") (decimal first)) (at (codes "Last") (decimal last)) refl
    ∙ (λ i. codes "<w:DroppedEvents" ++ (channel_bytes c i ++ (first_bytes first i ++ (last_bytes last i ++ []))) ++ 62 ∷ [])

-- parts that follow one another, whatever their brackets
in_a_row : (opening channel first last quote close end c f l n : List ℕ) →
    (opening ++ ((channel ++ (c ++ quote)) ++ ((first ++ (f ++ quote)) ++ ((last ++ (l ++ quote)) ++ []))) ++ close) ++ n ++ end
    ≡ (opening ++ channel) ++ c ++ (quote ++ first) ++ f ++ (quote ++ last) ++ l ++ (quote ++ close) ++ n ++ end
in_a_row opening channel first last quote close end c f l n = simp (append_assoc, append-nil)

-- ---- items

event_bytes : (text : List ℕ) → encode_utf8_all (node_of (Child (event_element text)) scope) ≡ written_event text
event_bytes text = element_bytes (codes "Event") _ _ (action_attribute ∷ []) text event_start event_end

digits_in : (n : ℕ) → escaped (decimal n) ≡ decimal n
digits_in n = escaped_digits (decimal n) (decimal_digits n)

loose_bytes : (count : ℕ) → encode_utf8_all (node_of (Child (gone_element [] count)) scope) ≡ written_loose count
loose_bytes count =
    element_bytes (codes "DroppedEvents") _ _ [] (decimal count) loose_start gone_end
    ∙ ap (λ n. codes "<w:DroppedEvents>" ++ n ++ codes "</w:DroppedEvents>") (digits_in count)

range_bytes : (c : List ℕ) (first last : ℕ) → encode_utf8_all (node_of (Child (range_element c first last)) scope) ≡ written_dropped c first last
range_bytes c first last =
    let count = decimal (last - first + 1) in
    element_bytes (codes "DroppedEvents") (range_start c first last) _ (range_attributes c first last) count (range_starts c first last) gone_end
    ∙ ap (λ n. range_start c first last ++ n ++ codes "</w:DroppedEvents>") (digits_in (last - first + 1))
    ∙ in_a_row (codes "<w:DroppedEvents") (codes " u:Channel=\"") (codes " u:First=\"") (codes " u:Last=\"") (34 ∷ []) (62 ∷ []) (codes "</w:DroppedEvents>")
    (quoted c) (decimal first) (decimal last) count

item_bytes : (item : Item) → encode_utf8_all (node_of (Child (item_element item)) scope) ≡ written item
unfolding item_element written
item_bytes (Event event) = event_bytes event.text
item_bytes (Dropped channel first last) = range_bytes channel first last
item_bytes (Loose count) = loose_bytes count

text_is : (item : Item) → text_in_envelope item ≡ written item
text_is item = ap (λ s. encode_utf8_all (node_of (Child (item_element item)) s)) scope_is ∙ item_bytes item

pub costs_are_of_texts : CostsAreOfTexts
unfolding cost
costs_are_of_texts item = ap (λ (t : List ℕ). min (length t) most) (sym (text_is item))
