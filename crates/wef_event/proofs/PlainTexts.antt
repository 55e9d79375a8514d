-- The text of a plain event is the one text of its tree.
use Rattle.std.proofs.Common.{◌≡◌, ℕ, Bool, true, false, cond, List, [], ◌∷◌, ◌++◌, codes, encode_utf8_all, refl, ap, sym, ◌∙◌, append_assoc, append-nil, arith}
use Rattle.std.specs.Fmt.{decimal}
use Rattle.std.specs.List.{flat_map}
use Rattle.std.specs.Str.{chars}
use Rattle.std.proofs.Math.Utf8.{encode}
use Rattle.std.proofs.lemmas.Str.{encodes-append}
use Rattle.std.proofs.lemmas.Bool.Decides.{nat_tests}
use Rattle.wef_base.specs.declared.tree.Element.{Element}
use Rattle.wef_base.specs.declared.tree.Node.{Node, Chars}
use Rattle.wef_base.specs.declared.tree.Node.TheVariants.{Element as Child}
use Rattle.wef_xml.specs.Canonical.{canonical, end_of, node_of, start_of, text_of}
use Rattle.wef_xml.specs.Prefixes.{Scope, inside, is_soap, outermost, root_bindings, soap_space}
use Rattle.wef_xml.specs.Spaces.{is_empty, is_xml_space, xml_space}
use Rattle.wef_tree.proofs.EncodedAgain.{written8}
use Rattle.wef_tree_writing.proofs.WrittenNodes.{node_text}
use Rattle.wef_elements.specs.Texts.{only_text}
use Rattle.wef_event.specs.Characters.{escaped}
use Rattle.wef_event.specs.Events.{text_of_tree}
use Rattle.wef_event.specs.PlainEvent.{event_space, plain_text, plain_tree}
use Rattle.wef_elements.proofs.DecimalDigits.{decimal_digits}
use Rattle.wef_event.proofs.Escaped.{escaped_digits, escaped_is}
use Rattle.wef_event.proofs.PlainFields.{event_data, fields, from_channel, from_level, from_number, leaf}

-- what is in force inside the root
abbrev scope : Scope
scope = record { default = event_space; soap = false; bound = [] }

root_scope : inside (outermost event_space) event_space [] ≡ scope
unfolding event_space is_soap soap_space is_xml_space xml_space
root_scope = refl

-- and inside each element
same_scope : inside scope event_space [] ≡ scope
unfolding event_space is_xml_space xml_space
same_scope = refl

-- nodes in bytes
abbrev bytes_of : List Node → List ℕ
bytes_of ns = encode_utf8_all (flat_map (λ n. node_of n scope) ns)

three_encoded : (a b c : List ℕ) → encode_utf8_all (a ++ b ++ c) ≡ encode_utf8_all a ++ encode_utf8_all b ++ encode_utf8_all c
three_encoded a b c = encodes-append (a ++ b) c ∙ ap (λ bytes. bytes ++ encode_utf8_all c) (encodes-append a b)

-- an element and those behind it
child_bytes :
    (name start end body more : List ℕ) (children ns : List Node) →
    encode_utf8_all (start_of [] scope event_space name []) ≡ start → encode_utf8_all (end_of scope event_space name) ≡ end →
    bytes_of children ≡ body → bytes_of ns ≡ more →
    bytes_of (Child (record { space = event_space; name = name; attributes = []; children = children }) ∷ ns) ≡ (start ++ body ++ end) ++ more
child_bytes name start end body more children ns starts ends inner behind =
    let e : Element = record { space = event_space; name = name; attributes = []; children = children } in
    let first : List ℕ = start_of [] scope event_space name [] in
    let last : List ℕ = end_of scope event_space name in
    encodes-append (node_of (Child e) scope) (flat_map (λ n. node_of n scope) ns)
    ∙ ap (λ text. encode_utf8_all text ++ bytes_of ns)
    (node_text (Child e) e scope refl ∙ ap (λ (s : Scope). first ++ flat_map (λ n. node_of n s) children ++ last) same_scope)
    ∙ ap (λ bytes. bytes ++ bytes_of ns) (three_encoded first (flat_map (λ n. node_of n scope) children) last)
    ∙ (λ i. (starts i ++ inner i ++ ends i) ++ behind i)

none_escaped : escaped [] ≡ []
unfolding chars
none_escaped = refl

-- a text that is empty has nothing
nothing : (text : List ℕ) → is_empty text ≡ true → text ≡ []
nothing [] e = refl
nothing (c ∷ cs) e = absurd (grind (arith, nat_tests, e))

-- a text, or none
text_bytes : (text : List ℕ) → bytes_of (only_text text) ≡ escaped text
text_bytes text = by (is_empty text) refl
  where
    by : (b : Bool) → is_empty text ≡ b → bytes_of (cond b [] (Chars text ∷ [])) ≡ escaped text
    by true e = sym (ap escaped (nothing text e) ∙ none_escaped)
    by false e = ap encode_utf8_all (append-nil (text_of text)) ∙ sym (escaped_is text)

digit_bytes : (n : ℕ) → bytes_of (only_text (decimal n)) ≡ decimal n
digit_bytes n = text_bytes (decimal n) ∙ escaped_digits (decimal n) (decimal_digits n)

-- the fields of System, from the last on
abbrev channel_bytes : List ℕ → List ℕ
channel_bytes channel = (codes "<Channel>" ++ escaped channel ++ codes "</Channel>") ++ []

abbrev number_bytes : List ℕ → ℕ → List ℕ
number_bytes channel number = (codes "<EventRecordID>" ++ decimal number ++ codes "</EventRecordID>") ++ channel_bytes channel

abbrev level_bytes : List ℕ → ℕ → ℕ → List ℕ
level_bytes channel number level = (codes "<Level>" ++ decimal level ++ codes "</Level>") ++ number_bytes channel number

abbrev field_bytes : List ℕ → ℕ → ℕ → ℕ → List ℕ
field_bytes channel number id level = (codes "<EventID>" ++ decimal id ++ codes "</EventID>") ++ level_bytes channel number level

channel_is : (channel : List ℕ) → bytes_of (from_channel channel) ≡ channel_bytes channel
unfolding event_space is_xml_space xml_space chars encode
channel_is channel =
    child_bytes (codes "Channel") (codes "<Channel>") (codes "</Channel>") (escaped channel) [] (only_text channel) [] refl refl (text_bytes channel) refl

number_is : (channel : List ℕ) (number : ℕ) → bytes_of (from_number channel number) ≡ number_bytes channel number
unfolding event_space is_xml_space xml_space chars encode
number_is channel number =
    child_bytes (codes "EventRecordID") (codes "<EventRecordID>") (codes "</EventRecordID>") (decimal number) (channel_bytes channel) (only_text (decimal number)) (from_channel channel)
    refl refl (digit_bytes number) (channel_is channel)

level_is : (channel : List ℕ) (number level : ℕ) → bytes_of (from_level channel number level) ≡ level_bytes channel number level
unfolding event_space is_xml_space xml_space chars encode
level_is channel number level =
    child_bytes (codes "Level") (codes "<Level>") (codes "</Level>") (decimal level) (number_bytes channel number) (only_text (decimal level)) (from_number channel number)
    refl refl (digit_bytes level) (number_is channel number)

fields_are : (channel : List ℕ) (number id level : ℕ) → bytes_of (fields channel number id level) ≡ field_bytes channel number id level
unfolding event_space is_xml_space xml_space chars encode
fields_are channel number id level =
    child_bytes (codes "EventID") (codes "<EventID>") (codes "</EventID>") (decimal id) (level_bytes channel number level) (only_text (decimal id)) (from_level channel number level)
    refl refl (digit_bytes id) (level_is channel number level)

-- the part EventData, and the children of the root
abbrev data_bytes : List ℕ → List ℕ
data_bytes word = (codes "<EventData>" ++ ((codes "<Data>" ++ escaped word ++ codes "</Data>") ++ []) ++ codes "</EventData>") ++ []

data_is : (word : List ℕ) → bytes_of (Child (event_data word) ∷ []) ≡ data_bytes word
unfolding event_space is_xml_space xml_space chars encode
data_is word =
    child_bytes (codes "EventData") (codes "<EventData>") (codes "</EventData>") ((codes "<Data>" ++ escaped word ++ codes "</Data>") ++ []) [] (Child (leaf (codes "Data") word) ∷ []) [] refl refl
    (child_bytes (codes "Data") (codes "<Data>") (codes "</Data>") (escaped word) [] (only_text word) [] refl refl (text_bytes word) refl) refl

abbrev part_bytes : List ℕ → ℕ → ℕ → ℕ → List ℕ → List ℕ
part_bytes channel number id level word = (codes "<System>" ++ field_bytes channel number id level ++ codes "</System>") ++ data_bytes word

parts_are : (channel : List ℕ) (number id level : ℕ) (word : List ℕ) → bytes_of (plain_tree channel number id level word).children ≡ part_bytes channel number id level word
unfolding event_space is_xml_space xml_space chars encode
parts_are channel number id level word =
    child_bytes (codes "System") (codes "<System>") (codes "</System>") (field_bytes channel number id level) (data_bytes word) (fields channel number id level) (Child (event_data word) ∷ [])
    refl refl (fields_are channel number id level) (data_is word)

-- the tags of the root
abbrev event_start : List ℕ
event_start = codes "<Event xmlns=\"http://schemas.microsoft.com/win/2004/08/events/event\">"

root_starts : encode_utf8_all (start_of (root_bindings event_space) (outermost event_space) event_space (codes "Event") []) ≡ event_start
unfolding event_space is_soap soap_space is_xml_space xml_space chars encode
root_starts = refl

root_ends : encode_utf8_all (end_of (outermost event_space) event_space (codes "Event")) ≡ codes "</Event>"
unfolding event_space is_soap soap_space is_xml_space xml_space chars encode
root_ends = refl

-- the text of a tree is its characters in UTF-8
text_is : (root : Element) → text_of_tree root ≡ encode_utf8_all (canonical root)
text_is root = written8 (canonical root)

whole_is : (channel : List ℕ) (number id level : ℕ) (word : List ℕ)
    → text_of_tree (plain_tree channel number id level word) ≡ event_start ++ part_bytes channel number id level word ++ codes "</Event>"
whole_is channel number id level word =
    let children : List Node = (plain_tree channel number id level word).children in
    let first : List ℕ = start_of (root_bindings event_space) (outermost event_space) event_space (codes "Event") [] in
    let last : List ℕ = end_of (outermost event_space) event_space (codes "Event") in
    text_is (plain_tree channel number id level word)
    ∙ ap (λ (s : Scope). encode_utf8_all (first ++ flat_map (λ n. node_of n s) children ++ last)) root_scope
    ∙ three_encoded first (flat_map (λ n. node_of n scope) children) last
    ∙ (λ i. root_starts i ++ parts_are channel number id level word i ++ root_ends i)

-- parts that follow one another, whatever their brackets
in_a_row :
    (event part id id_end level level_end number number_end channel channel_end part_end other last word_end other_end event_end a b c d e : List ℕ) →
    event ++ ((part ++ ((id ++ a ++ id_end) ++ ((level ++ b ++ level_end) ++ ((number ++ c ++ number_end) ++ ((channel ++ d ++ channel_end) ++ [])))) ++ part_end)
    ++ ((other ++ ((last ++ e ++ word_end) ++ []) ++ other_end) ++ [])) ++ event_end
    ≡ (event ++ (part ++ id)) ++ a ++ (id_end ++ level) ++ b ++ (level_end ++ number) ++ c ++ (number_end ++ channel) ++ d ++ (channel_end ++ (part_end ++ (other ++ last))) ++ e
    ++ (word_end ++ (other_end ++ event_end))
in_a_row event part id id_end level level_end number number_end channel channel_end part_end other last word_end other_end event_end a b c d e = simp (append_assoc, append-nil)

-- the text of a plain event is the one text of its tree
pub plain_text_is : (channel : List ℕ) (number id level : ℕ) (word : List ℕ) → text_of_tree (plain_tree channel number id level word) ≡ plain_text channel number id level word
unfolding plain_text
plain_text_is channel number id level word =
    whole_is channel number id level word
    ∙ in_a_row event_start (codes "<System>") (codes "<EventID>") (codes "</EventID>") (codes "<Level>") (codes "</Level>") (codes "<EventRecordID>") (codes "</EventRecordID>")
    (codes "<Channel>") (codes "</Channel>") (codes "</System>") (codes "<EventData>") (codes "<Data>") (codes "</Data>") (codes "</EventData>") (codes "</Event>")
    (decimal id) (decimal level) (decimal number) (escaped channel) (escaped word)
