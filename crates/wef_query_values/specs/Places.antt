-- Places in an event's tree, and what they say.
use Rattle.std.specs.Prelude.{ℕ, List}
use Rattle.wef_base.specs.declared.tree.Element.{Element}
use Rattle.wef_elements.specs.Texts.{text_inside}
use Rattle.wef_query_values.specs.declared.spots.Spot.{Spot}
use Rattle.wef_query_values.specs.declared.spots.Spot.TheVariants.{Whole, Part, Field}

-- the document around a root, an element, or an attribute by its value
pub data Place : Type 0 where
  Document : Element → Place
  Inside : Element → Place
  Worth : List ℕ → Place

-- the place that the code stands at
abbrev pub plain : Spot → Place
plain (Whole root) = Document root.now
plain (Part element) = Inside element.now
plain (Field value) = Worth value.now

-- what a place says: all characters below it in the order of the document, or an attribute's value (XPath 1.0, 5)
abbrev pub text_at : Place → List ℕ
text_at (Document root) = text_inside root
text_at (Inside element) = text_inside element
text_at (Worth value) = value
