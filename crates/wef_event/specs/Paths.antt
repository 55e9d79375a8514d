-- Where an event says its channel and its number. Names are local names, whatever the namespace; of several children of one
-- name the first counts.
use Rattle.std.specs.Prelude.{ℕ, nat_lt, List, [], ◌∷◌, Option, Some, None, codes, if◌then◌else◌}
use Rattle.std.specs.Option.{option_and_then, option_or}
use Rattle.wef_base.specs.Names.{channel_name, same, trimmed}
use Rattle.wef_base.specs.Numbers.{is_numeral, number_within}
use Rattle.wef_base.specs.declared.numbers.TheConstants.{MAX}
use Rattle.wef_base.specs.declared.tree.Element.{Element}
use Rattle.wef_base.specs.declared.tree.Node.{Node, out-Node, Node-F}
use Rattle.wef_elements.specs.Texts.{text_inside}

-- an element, where it has this name
abbrev pub if_named : List ℕ → Element → Option Element
if_named name e = if same e.name name then Some e else None

-- the element that a node is, where it has this name
abbrev pub named : List ℕ → Node → Option Element
named name n = elim (out-Node n) [ Node-F.Element e ↦ if_named name e | Node-F.Chars text ↦ None ]

-- the first child of a name
abbrev pub first_child : List ℕ → List Node → Option Element
first_child name [] = None
first_child name (n ∷ ns) = option_or (named name n) (first_child name ns)

-- the field of a name in an event: the root's first child System has it as its first child of this name
abbrev pub field_in : List ℕ → Element → Option Element
field_in name root = option_and_then (λ (system : Element). first_child name system.children) (first_child (codes "System") root.children)

-- the channel of an event, where its field is a channel's name
unfoldable pub channel_in : Element → Option (List ℕ)
channel_in root = option_and_then (λ field. channel_name (text_inside field)) (field_in (codes "Channel") root)

-- a number but 0
abbrev pub unless_zero : ℕ → Option ℕ
unless_zero n = if nat_lt 0 n then Some n else None

-- the number of a record that digits write: from 1 to 2^63 - 1
abbrev pub number_of_digits : List ℕ → Option ℕ
number_of_digits digits = if is_numeral digits then option_and_then unless_zero (number_within MAX digits) else None

-- the number of an event, where its field is one, with spaces round it or not
unfoldable pub number_in : Element → Option ℕ
number_in root = option_and_then (λ field. number_of_digits (trimmed (text_inside field))) (field_in (codes "EventRecordID") root)
