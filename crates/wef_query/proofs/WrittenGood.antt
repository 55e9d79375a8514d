-- The tree that is written for a list of queries is a good one.
use Rattle.std.proofs.Common.{ℕ, suc, ◌==◌, Bool, true, false, cond, List, [], ◌∷◌, ◌++◌, refl}
use Rattle.std.specs.Prelude.{codes}
use Rattle.std.specs.Fmt.{decimal}
use Rattle.std.specs.List.{AllByRecursion}
use Rattle.std.proofs.lemmas.Str.{IsUtf8-from_is_utf8}
use Rattle.wef_base.specs.declared.tree.Element.{Element}
use Rattle.wef_elements.specs.Good.{AreGoodElements}
use Rattle.wef_elements.proofs.DecimalDigits.{number_text}
use Rattle.wef_elements.proofs.GoodTexts.{empty_text, name_text}
use Rattle.wef_elements.proofs.GoodTrees.{elements_good, holder_good, said_good}
use Rattle.wef_xml.specs.Good.{IsGoodAttribute, IsGoodElement, IsLocalName}
use Rattle.wef_xml.specs.Spaces.{is_xmlns}
use Rattle.wef_xml.proofs.Ascii.{plain_name}
use Rattle.wef_query.specs.Laws.{HasXmlTexts, WrittenIsGood}
use Rattle.wef_query.specs.Writing.{group_element, groups_from, groups_of, item_element, item_name, plain}
use Rattle.wef_query.specs.Items.{QueryItem}

-- ---- attributes

path_good : (item : QueryItem) → HasXmlTexts item → IsGoodAttribute (plain (codes "Path") item.channel)
unfolding is_xmlns
path_good item has = record {
  name = plain_name (codes "Path") refl;
  space = empty_text;
  value = name_text item.channel (IsUtf8-from_is_utf8 item.channel has.utf8) has.channel;
  no_declaration = refl;
}

id_good : (group : ℕ) → IsGoodAttribute (plain (codes "Id") (decimal group))
unfolding is_xmlns
id_good group = record { name = plain_name (codes "Id") refl; space = empty_text; value = number_text group; no_declaration = refl }

-- ---- elements

named : (suppress : Bool) → IsLocalName (item_name suppress)
named true = plain_name (codes "Suppress") refl
named false = plain_name (codes "Select") refl

item_good : (item : QueryItem) (room : ℕ) → HasXmlTexts item → IsGoodElement (item_element item) (suc room)
item_good item room has =
    said_good [] (item_name item.suppress) (plain (codes "Path") item.channel ∷ []) item.text room
    (record { named = named item.suppress; in_space = empty_text; attributed = (path_good item has, tt); different = refl }) has.text

group_good : (group : ℕ) (es : List Element) (room : ℕ) → AreGoodElements es room → IsGoodElement (group_element group es) (suc room)
group_good group es room good =
    let inner = elements_good es room good in
    (record { named = plain_name (codes "Query") refl; in_space = empty_text; attributed = (id_good group, tt); different = refl }, inner.0, inner.1)

with_last : (es : List Element) (e : Element) (room : ℕ) → AreGoodElements es room → IsGoodElement e room → AreGoodElements (es ++ e ∷ []) room
with_last [] e room good last = (last, tt)
with_last (x ∷ es) e room good last = (good.0, with_last es e room good.1 last)

groups_good :
    (group : ℕ) (es : List Element) (items : List QueryItem) (room : ℕ) → AreGoodElements es (suc room) → AllByRecursion HasXmlTexts items →
    AreGoodElements (groups_from group es items) (suc (suc room))
groups_good group es [] room good has = (group_good group es (suc room) good, tt)
groups_good group es (item ∷ items) room good has =
    let e = item_good item room has.0 in
    by (item.group == group) (groups_good group (es ++ item_element item ∷ []) items room (with_last es (item_element item) (suc room) good e) has.1)
    (groups_good item.group (item_element item ∷ []) items room (e, tt) has.1)
  where
    by : (b : Bool) → AreGoodElements (groups_from group (es ++ item_element item ∷ []) items) (suc (suc room))
        → AreGoodElements (groups_from item.group (item_element item ∷ []) items) (suc (suc room))
        → AreGoodElements (cond b (groups_from group (es ++ item_element item ∷ []) items) (group_element group es ∷ groups_from item.group (item_element item ∷ []) items)) (suc (suc room))
    by true same other = same
    by false same other = (group_good group es (suc room) good, other)

all_good : (items : List QueryItem) (room : ℕ) → AllByRecursion HasXmlTexts items → AreGoodElements (groups_of items) (suc (suc room))
all_good [] room has = tt
all_good (item ∷ items) room has = groups_good item.group (item_element item ∷ []) items room (item_good item room has.0, tt) has.1

pub written_is_good : WrittenIsGood
written_is_good items room has = holder_good [] (codes "QueryList") (groups_of items) (suc (suc room)) empty_text (plain_name (codes "QueryList") refl) (all_good items room has)
