-- What the tree of a plain event says: its channel and its number.
use Rattle.std.proofs.Common.{◌≡◌, ℕ, ◌≤◌, Bool, true, false, cond, List, [], ◌∷◌, length, nat_lt, refl, ap, ◌∙◌, arith}
use Rattle.std.specs.Prelude.{Option, Some, None, Result, codes}
use Rattle.std.specs.Fmt.{decimal}
use Rattle.std.specs.Option.{option_and_then, option_or}
use Rattle.std.specs.declared.result.Result.TheVariants.{Ok, Err}
use Rattle.std.proofs.lemmas.Bool.Decides.{nat_tests}
use Rattle.wef_base.specs.Names.{channel_name, same, trimmed}
use Rattle.wef_base.specs.declared.numbers.TheConstants.{MAX}
use Rattle.wef_base.specs.declared.tree.Element.{Element}
use Rattle.wef_base.specs.declared.tree.Node.{Node, Node-F}
use Rattle.wef_base.specs.declared.tree.Node.TheVariants.{Element as Child, outs-Element}
use Rattle.wef_event.specs.Events.{Event, event_limit, event_of, number_or, text_of_tree, unless_long, with_channel_found, with_number_found}
use Rattle.wef_elements.specs.Texts.{only_text, text_inside}
use Rattle.wef_event.specs.Paths.{channel_in, first_child, if_named, named, number_in, number_of_digits, unless_zero}
use Rattle.wef_event.specs.PlainEvent.{event_space, plain_event, plain_text, plain_tree}
use Rattle.wef_event.specs.declared.records.EventFault.{EventFault}
use Rattle.wef_elements.proofs.Again.{text_again}
use Rattle.wef_elements.proofs.DecimalDigits.{decimal_trimmed}
use Rattle.wef_event.proofs.Digits.{decimal_read}

-- a child is the element that it is
named_is : (name : List ℕ) (e : Element) → named name (Child e) ≡ if_named name e
named_is name e = ap (λ o. elim o [ Node-F.Element x ↦ if_named name x | Node-F.Chars text ↦ None ]) (outs-Element e)

-- the first child of a name is the one that comes first, where it has this name
here : (name : List ℕ) (e : Element) (ns : List Node) → same e.name name ≡ true → first_child name (Child e ∷ ns) ≡ Some e
here name e ns is =
    ap (λ o. option_or o (first_child name ns)) (named_is name e) ∙ ap (λ (b : Bool). option_or (cond b (Some e) None) (first_child name ns)) is

-- else it is one of those behind
behind : (name : List ℕ) (e : Element) (ns : List Node) → same e.name name ≡ false → first_child name (Child e ∷ ns) ≡ first_child name ns
behind name e ns other =
    ap (λ o. option_or o (first_child name ns)) (named_is name e) ∙ ap (λ (b : Bool). option_or (cond b (Some e) None) (first_child name ns)) other

-- an element that holds a text alone
abbrev pub leaf : List ℕ → List ℕ → Element
leaf name text = record { space = event_space; name = name; attributes = []; children = only_text text }

-- the fields of System, from its last on
abbrev pub from_channel : List ℕ → List Node
from_channel channel = Child (leaf (codes "Channel") channel) ∷ []

abbrev pub from_number : List ℕ → ℕ → List Node
from_number channel number = Child (leaf (codes "EventRecordID") (decimal number)) ∷ from_channel channel

abbrev pub from_level : List ℕ → ℕ → ℕ → List Node
from_level channel number level = Child (leaf (codes "Level") (decimal level)) ∷ from_number channel number

abbrev pub fields : List ℕ → ℕ → ℕ → ℕ → List Node
fields channel number id level = Child (leaf (codes "EventID") (decimal id)) ∷ from_level channel number level

-- the parts System and EventData
abbrev pub system : List ℕ → ℕ → ℕ → ℕ → Element
system channel number id level = record { space = event_space; name = codes "System"; attributes = []; children = fields channel number id level }

abbrev pub event_data : List ℕ → Element
event_data word = record { space = event_space; name = codes "EventData"; attributes = []; children = Child (leaf (codes "Data") word) ∷ [] }

-- the text inside such an element is this text
pub leaf_text : (name text : List ℕ) → text_inside (leaf name text) ≡ text
leaf_text name text = text_again text

-- the fields
system_found : (channel : List ℕ) (number id level : ℕ) (word : List ℕ) → first_child (codes "System") (plain_tree channel number id level word).children ≡ Some (system channel number id level)
system_found channel number id level word = here (codes "System") (system channel number id level) (Child (event_data word) ∷ []) refl

channel_found : (channel : List ℕ) (number id level : ℕ) → first_child (codes "Channel") (system channel number id level).children ≡ Some (leaf (codes "Channel") channel)
channel_found channel number id level =
    behind (codes "Channel") (leaf (codes "EventID") (decimal id)) (from_level channel number level) refl
    ∙ behind (codes "Channel") (leaf (codes "Level") (decimal level)) (from_number channel number) refl
    ∙ behind (codes "Channel") (leaf (codes "EventRecordID") (decimal number)) (from_channel channel) refl
    ∙ here (codes "Channel") (leaf (codes "Channel") channel) [] refl

pub number_found : (channel : List ℕ) (number id level : ℕ) → first_child (codes "EventRecordID") (system channel number id level).children ≡ Some (leaf (codes "EventRecordID") (decimal number))
number_found channel number id level =
    behind (codes "EventRecordID") (leaf (codes "EventID") (decimal id)) (from_level channel number level) refl
    ∙ behind (codes "EventRecordID") (leaf (codes "Level") (decimal level)) (from_number channel number) refl
    ∙ here (codes "EventRecordID") (leaf (codes "EventRecordID") (decimal number)) (from_channel channel) refl

-- the first child of a name, of the part System where it is there
abbrev child_of : List ℕ → Option Element → Option Element
child_of name o = option_and_then (λ (part : Element). first_child name part.children) o

-- what a field says
abbrev channel_of : Option Element → Option (List ℕ)
channel_of o = option_and_then (λ field. channel_name (text_inside field)) o

abbrev number_of : Option Element → Option ℕ
number_of o = option_and_then (λ field. number_of_digits (trimmed (text_inside field))) o

-- the tree says the channel
pub says_channel : (channel : List ℕ) (number id level : ℕ) (word : List ℕ) → channel_in (plain_tree channel number id level word) ≡ channel_name channel
unfolding channel_in
says_channel channel number id level word =
    ap (λ o. channel_of (child_of (codes "Channel") o)) (system_found channel number id level word)
    ∙ ap channel_of (channel_found channel number id level)
    ∙ ap channel_name (leaf_text (codes "Channel") channel)

-- and the number, where it isn't 0
pub says_number : (channel : List ℕ) (number id level : ℕ) (word : List ℕ) → number ≤ MAX → number_in (plain_tree channel number id level word) ≡ unless_zero number
unfolding number_in
says_number channel number id level word h =
    ap (λ o. number_of (child_of (codes "EventRecordID") o)) (system_found channel number id level word)
    ∙ ap number_of (number_found channel number id level)
    ∙ ap (λ text. number_of_digits (trimmed text)) (leaf_text (codes "EventRecordID") (decimal number))
    ∙ ap number_of_digits (decimal_trimmed number)
    ∙ decimal_read number h

-- 0 stands for no number
pub none_is_zero : (number : ℕ) → number_or false (unless_zero number) ≡ Ok number
none_is_zero number = by (nat_lt 0 number) refl
  where
    zero_is : nat_lt 0 number ≡ false → 0 ≡ number
    zero_is e = grind (arith, nat_tests, e)

    by : (b : Bool) → nat_lt 0 number ≡ b → number_or false (cond b (Some number) None) ≡ Ok number
    by true e = refl
    by false e = ap (λ (n : ℕ). Ok n) (zero_is e)

-- and another number is there
pub says_some : (number : ℕ) → 1 ≤ number → number_or true (unless_zero number) ≡ Ok number
says_some number some = ap (λ (b : Bool). number_or true (cond b (Some number) None)) (above some)
  where
    above : 1 ≤ number → nat_lt 0 number ≡ true
    above h = grind (arith, nat_tests, h)

-- the event of the tree, by its text
pub tree_says :
    (needed : Bool) (channel : List ℕ) (number id level : ℕ) (word : List ℕ) → channel_name channel ≡ Some channel → number ≤ MAX →
    number_or needed (unless_zero number) ≡ Ok number →
    event_of needed (plain_tree channel number id level word) ≡ unless_long channel number (text_of_tree (plain_tree channel number id level word))
unfolding event_of
tree_says needed channel number id level word named h said =
    let root = plain_tree channel number id level word in
    ap (λ o. with_channel_found needed root o) (says_channel channel number id level word ∙ named)
    ∙ ap (λ o. with_number_found root channel (number_or needed o)) (says_number channel number id level word h)
    ∙ ap (λ r. with_number_found root channel r) said

-- an event that isn't too long has a short text, and this channel, number and text
pub short_is :
    (channel : List ℕ) (number id level : ℕ) (word : List ℕ) (event : Event) → plain_event channel number id level word ≡ Some event →
    (unless_long channel number (plain_text channel number id level word) ≡ Ok event) × (number ≡ event.number)
short_is channel number id level word event e = by (nat_lt event_limit (length (plain_text channel number id level word))) e
  where
    whole : Event
    whole = record { channel = channel; number = number; text = plain_text channel number id level word }

    by : (b : Bool) → cond b None (Some whole) ≡ Some event → ◌≡◌ {A = Result Event EventFault} (cond b (Err EventFault.TooLong) (Ok whole)) (Ok event) × (number ≡ event.number)
    by true e = let bad : ⊥ = cc in absurd bad
    by false e = let same : whole ≡ event = cc in (ap Ok same, ap (λ (x : Event). x.number) same)
