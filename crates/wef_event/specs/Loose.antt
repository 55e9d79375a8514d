-- Writing the one text of an event's tree over a loose text of it, in which elements without children may stand as one tag.
use Rattle.std.specs.Prelude.{◌≡◌, ℕ, false, true, List, [], ◌++◌, encode_utf8_all}
use Rattle.wef_base.specs.declared.tree.Element.{Element}
use Rattle.wef_base.specs.declared.tree.Node.{Node}
use Rattle.wef_xml.specs.Canonical.{element_text}
use Rattle.wef_xml.specs.Good.{AreGoodNodes, IsGoodElement, IsGoodTree, are_apart}
use Rattle.wef_tree.specs.Loose.{AreLooseNodes, IsLoose, IsLooseElement}
use Rattle.wef_canonical.specs.Tags.{IsBareSpace, bare_scope}
use Rattle.wef_event.specs.Events.{text_of_tree}
use Rattle.wef_event.specs.Recognising.{nodes_bytes}

-- Good nodes, inside of which so many elements may stand in one another: a text begins with a loose text of them, and their
-- one text was written behind what was there.
pub record WritesNodes (space : List ℕ) (room : ℕ) (text rest before after : List ℕ) : Type 0 where
  pub nodes : List Node
  pub good : AreGoodNodes nodes room
  pub apart : are_apart false nodes ≡ true
  pub loose : List ℕ
  pub are_loose : AreLooseNodes nodes (bare_scope space) loose
  pub stand : text ≡ encode_utf8_all loose ++ rest
  pub written : after ≡ before ++ nodes_bytes space nodes

-- An element, as nodes.
pub record WritesElement (default : List ℕ) (room : ℕ) (text rest before after : List ℕ) : Type 0 where
  pub element : Element
  pub good : IsGoodElement element room
  pub bare : IsBareSpace element.space
  pub loose : List ℕ
  pub is_loose : IsLooseElement [] (bare_scope default) element loose
  pub stands : text ≡ encode_utf8_all loose ++ rest
  pub written : after ≡ before ++ encode_utf8_all (element_text [] (bare_scope default) element)

-- A text is a loose one of a good tree, whose one text this is.
pub record IsLooseTextOf (text whole : List ℕ) : Type 0 where
  pub root : Element
  pub good : IsGoodTree root
  pub loose : List ℕ
  pub is_loose : IsLoose root loose
  pub text_is : text ≡ encode_utf8_all loose
  pub whole_is : whole ≡ text_of_tree root
