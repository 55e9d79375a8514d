-- What is seen of a text in one pass: that it begins with an element as the one text of a tree has it, with no prefixes, and
-- what the fields in it say.
use Rattle.std.specs.Prelude.{◌≡◌, ℕ, ◌≤◌, true, false, List, [], ◌++◌, Option, Some, IfSome, codes, encode_utf8_all}
use Rattle.std.specs.List.{flat_map}
use Rattle.std.specs.Option.{option_copied, option_map, option_or}
use Rattle.wef_base.specs.Names.{channel_name}
use Rattle.wef_base.specs.declared.tree.Element.{Element}
use Rattle.wef_base.specs.declared.tree.Node.{Node}
use Rattle.wef_xml.specs.Canonical.{element_text, node_of}
use Rattle.wef_xml.specs.Good.{AreGoodNodes, IsGoodElement, are_apart}
use Rattle.wef_elements.specs.Texts.{text_in, text_inside}
use Rattle.wef_canonical.specs.Tags.{IsBareSpace, bare_scope}
use Rattle.wef_event.specs.Events.{HasTree, is_event}
use Rattle.wef_event.specs.Paths.{first_child, if_named}
use Rattle.wef_event.specs.declared.recognising.Found.{Found}
use Rattle.wef_event.specs.declared.recognising.Inside.{Inside}
use Rattle.wef_event.specs.declared.recognising.Seen.{Seen}
use Rattle.wef_event.specs.declared.recognising.System.{System}

-- nodes as they stand inside an element of a namespace, in UTF-8
abbrev pub node_bytes : List ℕ → Node → List ℕ
node_bytes space n = encode_utf8_all (node_of n (bare_scope space))

abbrev pub nodes_bytes : List ℕ → List Node → List ℕ
nodes_bytes space ns = flat_map (node_bytes space) ns

-- the text inside the first child of a name
abbrev pub text_of_first : List ℕ → List Node → Option (List ℕ)
text_of_first name ns = option_map text_inside (first_child name ns)

-- the texts inside the fields of an event's part System
abbrev pub fields_of : Element → Option (List ℕ) × Option (List ℕ)
fields_of system = (text_of_first (codes "Channel") system.children, text_of_first (codes "EventRecordID") system.children)

abbrev pub fields_said : System → Option (List ℕ) × Option (List ℕ)
fields_said system = (Some system.channel.now, Some system.number.now)

-- What the first children of these names say.
pub record IsFound (found : Found) (ns : List Node) : Type 0 where
  pub channel : option_copied found.channel ≡ text_of_first (codes "Channel") ns
  pub number : option_copied found.number ≡ text_of_first (codes "EventRecordID") ns
  pub system : option_map fields_said found.system ≡ option_map fields_of (first_child (codes "System") ns)

-- Good nodes, inside of which so many elements may stand in one another, that a text begins with.
pub record AreNodes (space : List ℕ) (room : ℕ) (text rest : List ℕ) (ns : List Node) : Type 0 where
  pub good : AreGoodNodes ns room
  pub apart : are_apart false ns ≡ true
  pub stand : text ≡ nodes_bytes space ns ++ rest

-- The children of an element.
pub record IsInside (space : List ℕ) (room : ℕ) (text : List ℕ) (inside : Inside) : Type 0 where
  pub nodes : List Node
  pub are : AreNodes space room text inside.rest.now nodes
  pub text_is : IfSome inside.text (λ t. flat_map text_in nodes ≡ t.now)
  pub found : IsFound inside.found nodes

-- what is seen of an element apart from where it stands
pub record IsOf (seen : Seen) (element : Element) : Type 0 where
  pub named : element.name ≡ seen.name.now
  pub text_is : IfSome seen.text (λ t. text_inside element ≡ t.now)
  pub found : IsFound seen.inside element.children

-- An element.
pub record IsSeen (default : List ℕ) (room : ℕ) (text : List ℕ) (seen : Seen) : Type 0 where
  pub element : Element
  pub good : IsGoodElement element room
  pub bare : IsBareSpace element.space
  pub stands : text ≡ encode_utf8_all (element_text [] (bare_scope default) element) ++ seen.rest.now
  pub is : IsOf seen element

-- what is found with one more child, behind which others may come
pub record FindsMore (found : Found) (element : Element) (more : Found) : Type 0 where
  pub channel : option_copied more.channel ≡ option_or (option_copied found.channel) (option_map text_inside (if_named (codes "Channel") element))
  pub number : option_copied more.number ≡ option_or (option_copied found.number) (option_map text_inside (if_named (codes "EventRecordID") element))
  pub system : option_map fields_said more.system ≡ option_or (option_map fields_said found.system) (option_map fields_of (if_named (codes "System") element))

-- both fields that are found are these
abbrev pub HasFields : Found → System → Type 0
HasFields found system = (option_copied found.channel ≡ Some system.channel.now) × (option_copied found.number ≡ Some system.number.now)

-- A text is that of an event of this number, whose channel is the name that this text gives.
pub record IsLabel (text channel : List ℕ) (number : ℕ) : Type 0 where
  pub some : 1 ≤ number
  pub tree : (name : List ℕ) → channel_name channel ≡ Some name → HasTree (record { channel = name; number = number; text = text })
  pub event : (name : List ℕ) → channel_name channel ≡ Some name → is_event (record { channel = name; number = number; text = text }) ≡ true
