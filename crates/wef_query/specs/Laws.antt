-- What is written for a list of queries is read as it, and is a good tree; and a list may select all events of a channel.
use Rattle.std.specs.Prelude.{◌≡◌, ℕ, suc, ◌+◌, ◌==◌, Bool, true, false, ◌||◌, ◌&&◌, List, [], ◌∷◌, Some, is_some}
use Rattle.std.specs.List.{AllByRecursion}
use Rattle.std.specs.Str.{is_utf8}
use Rattle.std.specs.declared.result.Result.TheVariants.{Ok}
use Rattle.wef_base.specs.Names.{channel_name, trimmed}
use Rattle.wef_xml.specs.Good.{IsGoodElement, IsXmlText}
use Rattle.wef_query_paths.specs.Paths.{path_of}
use Rattle.wef_base.specs.declared.tree.Element.{Element}
use Rattle.wef_query.specs.Selected.{is_selected, selects_all}
use Rattle.wef_query.specs.Reading.{query_in}
use Rattle.wef_query.specs.Writing.{query_element}
use Rattle.wef_query.specs.Items.{QueryItem}

-- each item is of the group of the one before it, or of the next
abbrev pub groups_rise : ℕ → List QueryItem → Bool
groups_rise group [] = true
groups_rise group (item ∷ items) = (item.group == group || item.group == group + 1) && groups_rise item.group items

-- one item or more; the first is of group 0, and each other one of the group before it or of the next
abbrev pub are_grouped : List QueryItem → Bool
are_grouped [] = false
are_grouped (item ∷ items) = item.group == 0 && groups_rise 0 items

-- An item that reads back: its channel is a name, and its text has no spaces at the ends and says a path.
pub record ReadsBack (item : QueryItem) : Type 0 where
  pub channel : channel_name item.channel ≡ Some item.channel
  pub text : trimmed item.text ≡ item.text
  pub path : is_some (path_of item.text) ≡ true

-- Items that read back as a list.
pub record IsWritable (items : List QueryItem) : Type 0 where
  pub grouped : are_grouped items ≡ true
  pub each : AllByRecursion ReadsBack items

-- What is written for such items is read as them.
abbrev pub WrittenIsRead : Type 0
WrittenIsRead = (items : List QueryItem) → IsWritable items → query_in (query_element items) ≡ Ok (record { items = items })

-- An item of what XML allows: its channel is a name in UTF-8, and its text one of characters that may stand in a document.
pub record HasXmlTexts (item : QueryItem) : Type 0 where
  pub utf8 : is_utf8 item.channel ≡ true
  pub channel : channel_name item.channel ≡ Some item.channel
  pub text : IsXmlText item.text

-- What is written for such items is a good tree, which has room for itself, a Query and an item.
abbrev pub WrittenIsGood : Type 0
WrittenIsGood = (items : List QueryItem) (room : ℕ) → AllByRecursion HasXmlTexts items → IsGoodElement (query_element items) (suc (suc (suc room)))

-- Where a list selects all events of a channel, it selects each of them.
abbrev pub AllAreSelected : List QueryItem → List ℕ → Type 0
AllAreSelected items channel = selects_all items channel ≡ true → (node : Element) → is_selected items channel node ≡ true
