-- What an item costs is the length of its element's text, as an envelope has it.
use Rattle.std.specs.Prelude.{◌≡◌, ℕ, ◌<◌, ◌≤◌, List, [], length, min, encode_utf8_all, sum_by}
use Rattle.wef_base.specs.declared.tree.Node.TheVariants.{Element as Child}
use Rattle.wef_elements.specs.Spaces.{management}
use Rattle.wef_xml.specs.Canonical.{node_of}
use Rattle.wef_xml.specs.Prefixes.{Scope, inside, outermost, soap_space}
use Rattle.wef_batch.specs.Cost.{cost, most}
use Rattle.wef_batch.specs.Elements.{item_element}
use Rattle.wef_batch.specs.declared.items.Item.{Item}

-- what is in force inside the elements Envelope and Body of SOAP, and Events of WS-Management, which have no attributes
abbrev pub scope_of_items : Scope
scope_of_items = inside (inside (inside (outermost soap_space) soap_space []) soap_space []) management []

-- the text that an item has there, in UTF-8
abbrev pub text_in_envelope : Item → List ℕ
text_in_envelope item = encode_utf8_all (node_of (Child (item_element item)) scope_of_items)

-- how many bytes that is
abbrev pub size_of : Item → ℕ
size_of item = length (text_in_envelope item)

-- Costs are the lengths of these texts.
abbrev pub CostsAreOfTexts : Type 0
CostsAreOfTexts = (item : Item) → cost item ≡ min (size_of item) most

-- So items whose costs keep a room have no byte more than it, and those whose costs pass it have more bytes.
abbrev pub RoomsAreOfBytes : Type 0
RoomsAreOfBytes = (items : List Item) (room : ℕ) → room < most →
    (sum_by cost items ≤ room → sum_by size_of items ≤ room) × (room < sum_by cost items → room < sum_by size_of items)
