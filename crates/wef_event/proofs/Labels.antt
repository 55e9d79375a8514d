-- The event of a text that is seen to be a tree's.
use Rattle.std.proofs.Common.{◌≡◌, ℕ, ◌≤◌, ◌==◌, nat_lt, Bool, true, false, cond, ◌&&◌, not, List, [], ◌∷◌, ◌++◌, length, codes, encode_utf8_all, refl, ap, sym, ◌∙◌, append-nil, arith, subst}
use Rattle.std.specs.Prelude.{Option, Some, None}
use Rattle.std.specs.List.{list_all}
use Rattle.std.specs.Option.{option_and_then, option_map}
use Rattle.std.proofs.lemmas.Bool.{and_parts}
use Rattle.std.proofs.lemmas.Bool.Decides.{nat_tests}
use Rattle.wef_base.specs.Names.{channel_name, same, trimmed}
use Rattle.wef_base.specs.Numbers.{has_leading_zero, is_digit, is_numeral, number_within, plain_number}
use Rattle.wef_base.specs.declared.numbers.TheConstants.{MAX}
use Rattle.wef_base.specs.declared.tree.Element.{Element}
use Rattle.wef_xml.specs.Canonical.{canonical, element_text}
use Rattle.wef_xml.specs.Good.{IsGoodElement}
use Rattle.wef_xml.specs.Prefixes.{bound_by, is_soap, nine}
use Rattle.wef_xml.specs.declared.bindings.Binding.{Binding}
use Rattle.wef_tree.proofs.EncodedAgain.{written8}
use Rattle.wef_elements.specs.Texts.{text_inside}
use Rattle.wef_elements.proofs.DecimalDigits.{digits_trimmed}
use Rattle.wef_canonical.specs.Tags.{bare_scope}
use Rattle.wef_event.specs.Events.{HasTree, event_limit, number_or, text_of_tree}
use Rattle.wef_event.specs.Paths.{channel_in, field_in, first_child, number_in, number_of_digits, unless_zero}
use Rattle.wef_event.specs.Reading.{short_text}
use Rattle.wef_event.specs.Recognising.{IsSeen, fields_of, fields_said}
use Rattle.wef_event.specs.declared.recognising.Seen.{Seen}
use Rattle.wef_event.specs.declared.recognising.System.{System}
use Rattle.wef_event.proofs.Found.{is_there}

-- ---- the text of the tree

pub none_left : (bytes : List ℕ) → (length bytes == 0) ≡ true → length bytes ≡ 0
none_left bytes h = grind (arith, nat_tests)

pub root_text : (e : Element) → is_soap e.space ≡ false → canonical e ≡ element_text [] (bare_scope []) e
root_text e soap = λ i. element_text (cond {A = List Binding} (soap i) nine []) (record { default = []; soap = soap i; bound = bound_by [] (cond {A = List Binding} (soap i) nine []) }) e

whole_text : (room : ℕ) (text : List ℕ) (seen : Seen) (is : IsSeen [] room text seen) → length seen.rest.now ≡ 0 → text ≡ text_of_tree is.element
whole_text room text seen is none =
    is.stands ∙ ap (λ (bytes : List ℕ). encode_utf8_all (element_text [] (bare_scope []) is.element) ++ bytes) (nothing seen.rest.now none)
    ∙ append-nil (encode_utf8_all (element_text [] (bare_scope []) is.element)) ∙ ap encode_utf8_all (sym (root_text is.element is.bare.no_soap)) ∙ sym (written8 (canonical is.element))
  where
    nothing : (bytes : List ℕ) → length bytes ≡ 0 → bytes ≡ []
    nothing [] e = refl
    nothing (b ∷ bs) e = absurd (grind (arith, e))

-- ---- the fields

-- a text inside an element that is there
inside_of : (o : Option Element) (text : List ℕ) → option_map text_inside o ≡ Some text → (e : Element) × (o ≡ Some e) × (text_inside e ≡ text)
inside_of None text h = let bad : ⊥ = cc in absurd bad
inside_of (Some e) text h = (e, refl, cc)

-- what the part System says
pub record SaysFields (node : Element) (channel number : List ℕ) : Type 0 where
  pub channel_is : option_map text_inside (field_in (codes "Channel") node) ≡ Some channel
  pub number_is : option_map text_inside (field_in (codes "EventRecordID") node) ≡ Some number

fields_there : (node : Element) (system : System) (o : Option Element) → first_child (codes "System") node.children ≡ o → option_map fields_of o ≡ Some (fields_said system)
    → SaysFields node system.channel.now system.number.now
fields_there node system None e h = let bad : ⊥ = cc in absurd bad
fields_there node system (Some s) e h =
    let both : fields_of s ≡ fields_said system = cc in
    record {
      channel_is =
          ap (λ o. option_map text_inside (option_and_then (λ (system : Element). first_child (codes "Channel") system.children) o)) e ∙ ap (λ (p : Option (List ℕ) × Option (List ℕ)). p.0) both;
      number_is =
          ap (λ o. option_map text_inside (option_and_then (λ (system : Element). first_child (codes "EventRecordID") system.children) o)) e ∙ ap (λ (p : Option (List ℕ) × Option (List ℕ)). p.1) both;
    }

channel_there : (node : Element) (text : List ℕ) → option_map text_inside (field_in (codes "Channel") node) ≡ Some text → channel_in node ≡ channel_name text
unfolding channel_in
channel_there node text h =
    let found = inside_of (field_in (codes "Channel") node) text h in
    ap (option_and_then (λ field. channel_name (text_inside field))) found.1 ∙ ap channel_name found.2

number_there : (node : Element) (text : List ℕ) → option_map text_inside (field_in (codes "EventRecordID") node) ≡ Some text → number_in node ≡ number_of_digits (trimmed text)
unfolding number_in
number_there node text h =
    let found = inside_of (field_in (codes "EventRecordID") node) text h in
    ap (option_and_then (λ field. number_of_digits (trimmed (text_inside field)))) found.1 ∙ ap (λ (t : List ℕ). number_of_digits (trimmed t)) found.2

-- ---- the number

plain_parts : (limit : ℕ) (digits : List ℕ) (n : ℕ) → plain_number limit digits ≡ Some n → (is_numeral digits ≡ true) × (number_within limit digits ≡ Some n)
unfolding plain_number
plain_parts limit digits n h = by (is_numeral digits) (not (has_leading_zero digits)) h
  where
    by : (a b : Bool) → cond (a && b) (number_within limit digits) None ≡ Some n → (a ≡ true) × (number_within limit digits ≡ Some n)
    by true true e = (refl, e)
    by true false e = let bad : ⊥ = cc in absurd bad
    by false b e = let bad : ⊥ = cc in absurd bad

number_read : (digits : List ℕ) (n : ℕ) → plain_number MAX digits ≡ Some n → (n ≡ 0 → ⊥) → number_of_digits (trimmed digits) ≡ Some n
number_read digits n read some =
    let parts = plain_parts MAX digits n read in
    let all = and_parts (nat_lt 0 (length digits)) (list_all is_digit digits) parts.0 in
    ap number_of_digits (digits_trimmed digits all.1)
    ∙ ap (λ (b : Bool). cond b (option_and_then unless_zero (number_within MAX digits)) None) parts.0
    ∙ ap (option_and_then unless_zero) parts.1
    ∙ ap (λ (b : Bool). cond b (Some n) None) (above some)
  where
    above : (n ≡ 0 → ⊥) → nat_lt 0 n ≡ true
    above some = grind (arith, nat_tests, some)

-- ---- the event

pub seen_event :
    (room : ℕ) (text : List ℕ) (seen : Seen) (system : System) (number : ℕ) (name : List ℕ) → room ≡ 64 → IsSeen [] room text seen → length seen.rest.now ≡ 0 → same seen.name.now (codes "Event") ≡ true →
    length text ≤ event_limit → seen.inside.system ≡ Some system → plain_number MAX system.number.now ≡ Some number → (number ≡ 0 → ⊥) → channel_name system.channel.now ≡ Some name →
    HasTree (record { channel = name; number = number; text = text })
seen_event room text seen system number name depth is ends called short found read some named =
    let node = is.element in
    let whole : text ≡ text_of_tree node = whole_text room text seen is ends in
    let says : SaysFields node system.channel.now system.number.now =
    fields_there node system (first_child (codes "System") node.children) refl (sym is.is.found.system ∙ ap (option_map fields_said) found) in (
      node,
      record {
        good = subst (IsGoodElement node) depth is.good;
        event_is = is_there false node name number text
            (ap (λ (n : List ℕ). same n (codes "Event")) is.is.named ∙ called)
            (channel_there node system.channel.now says.channel_is ∙ named)
            (ap (number_or false) (number_there node system.number.now says.number_is ∙ number_read system.number.now number read some))
            (ap short_text (sym whole) ∙ ap (λ (b : Bool). cond b None (Some text)) (is_short short));
      },
    )
  where
    is_short : length text ≤ event_limit → nat_lt event_limit (length text) ≡ false
    is_short h = grind (arith, nat_tests, h)
