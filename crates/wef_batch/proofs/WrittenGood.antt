-- The element that is written for a batch is a good tree.
use Rattle.std.proofs.Common.{◌≡◌, ℕ, suc, ◌+◌, ◌-◌, true, List, [], ◌∷◌, map, refl, sym, subst}
use Rattle.std.specs.Prelude.{codes}
use Rattle.std.specs.Fmt.{decimal}
use Rattle.std.specs.List.{AllByRecursion}
use Rattle.std.proofs.lemmas.Str.{IsUtf8-from_is_utf8}
use Rattle.wef_base.specs.declared.tree.Attribute.{Attribute}
use Rattle.wef_elements.specs.Children.{with_attributes}
use Rattle.wef_elements.specs.Good.{AreGoodElements}
use Rattle.wef_elements.specs.Spaces.{management, profile}
use Rattle.wef_xml.specs.Good.{AreGoodAttributes, IsGoodAttribute, IsGoodElement, IsLocalName, IsXmlText, are_different}
use Rattle.wef_xml.specs.Spaces.{is_xmlns}
use Rattle.wef_xml.proofs.Ascii.{plain_name, plain_text}
use Rattle.wef_elements.proofs.DecimalDigits.{number_text}
use Rattle.wef_elements.proofs.GoodTexts.{empty_text, management_good, name_text, profile_good}
use Rattle.wef_elements.proofs.GoodTrees.{holder_good, said_good}
use Rattle.wef_tree.proofs.PlainTexts.{canonical_text}
use Rattle.wef_event.specs.Events.{Event, HasTree}
use Rattle.wef_event.proofs.Made.{made}
use Rattle.wef_batch.specs.Elements.{action_attribute, event_action, item_element, profiled, range_attributes}
use Rattle.wef_batch.specs.Laws.{IsKept, WrittenIsGood}
use Rattle.wef_batch.specs.declared.items.Item.{Item}
use Rattle.wef_batch.specs.declared.items.Item.TheVariants as the

action_good : IsXmlText event_action
unfolding event_action
action_good = plain_text event_action refl

-- the text of an event is the one text of a good tree
event_good : (event : Event) → HasTree event → IsXmlText event.text
event_good event has = subst IsXmlText (sym (made event has.0 has.1.event_is).text) (canonical_text has.0 has.1.good)

-- ---- attributes

attribute_good : (name value : List ℕ) → IsLocalName name → IsXmlText value → IsGoodAttribute (profiled name value)
unfolding profile
attribute_good name value named allowed = record { name = named; space = profile_good; value = allowed; no_declaration = refl }

action_is_good : IsGoodAttribute action_attribute
unfolding is_xmlns
action_is_good = record { name = plain_name (codes "Action") refl; space = empty_text; value = action_good; no_declaration = refl }

range_good : (c : List ℕ) (first last : ℕ) → IsXmlText c → AreGoodAttributes (range_attributes c first last)
range_good c first last allowed = (
  attribute_good (codes "Channel") c (plain_name (codes "Channel") refl) allowed,
  (
    attribute_good (codes "First") (decimal first) (plain_name (codes "First") refl) (number_text first),
    (attribute_good (codes "Last") (decimal last) (plain_name (codes "Last") refl) (number_text last), tt),
  ),
)

-- ---- elements

element_good :
    (name text : List ℕ) (attributes : List Attribute) (room : ℕ) → IsLocalName name → IsXmlText text → AreGoodAttributes attributes → are_different attributes ≡ true →
    IsGoodElement (with_attributes management name attributes text) (suc room)
element_good name text attributes room named allowed good different =
    said_good management name attributes text room (record { named = named; in_space = management_good; attributed = good; different = different }) allowed

gone_name : IsLocalName (codes "DroppedEvents")
gone_name = plain_name (codes "DroppedEvents") refl

item_good : (item : Item) (room : ℕ) → IsKept item → IsGoodElement (item_element item) (suc room)
unfolding item_element
item_good (the.Event event) room kept =
    element_good (codes "Event") event.text (action_attribute ∷ []) room (plain_name (codes "Event") refl) (event_good event kept) (action_is_good, tt) refl
item_good (the.Dropped channel first last) room kept =
    element_good (codes "DroppedEvents") (decimal (last - first + 1)) (range_attributes channel first last) room gone_name (number_text (last - first + 1))
    (range_good channel first last (name_text channel (IsUtf8-from_is_utf8 channel kept.0) kept.1)) refl
item_good (the.Loose count) room kept = element_good (codes "DroppedEvents") (decimal count) [] room gone_name (number_text count) tt refl

-- ---- batches

items_good : (items : List Item) (room : ℕ) → AllByRecursion IsKept items → AreGoodElements (map (λ item. item_element item) items) (suc room)
items_good [] room kept = tt
items_good (item ∷ items) room kept = (item_good item room kept.0, items_good items room kept.1)

pub written_is_good : WrittenIsGood
written_is_good items room kept =
    holder_good management (codes "Events") (map (λ item. item_element item) items) (suc room) management_good (plain_name (codes "Events") refl) (items_good items room kept)
