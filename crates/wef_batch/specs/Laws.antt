-- What is written for a batch is read as it, and what is read has numbers of records.
use Rattle.std.specs.Prelude.{◌≡◌, ℕ, suc, ◌≤◌, Bool, true, List, [], ◌∷◌, Option, Some}
use Rattle.std.specs.List.{AllByRecursion}
use Rattle.std.specs.Str.{is_utf8}
use Rattle.std.specs.declared.result.Result.TheVariants.{Ok}
use Rattle.wef_base.specs.Names.{channel_name}
use Rattle.wef_base.specs.declared.numbers.TheConstants.{MAX}
use Rattle.wef_base.specs.declared.tree.Element.{Element}
use Rattle.wef_bookmark.specs.Entries.{AreEntries}
use Rattle.wef_bookmark.specs.Nodes.{bookmark_element}
use Rattle.wef_event.specs.Events.{HasTree, is_event}
use Rattle.wef_xml.specs.Good.{IsGoodElement}
use Rattle.wef_batch.specs.Elements.{batch_element}
use Rattle.wef_batch.specs.Reading.{batch_of}
use Rattle.wef_batch.specs.declared.items.Batch.{Batch}
use Rattle.wef_batch.specs.declared.items.Item.{Item}
use Rattle.wef_batch.specs.declared.items.Item.TheVariants.{Event, Dropped, Loose}

-- An event that is the one its text says; numbers of records in order, from 1 on, of a channel's name; a count that is kept.
abbrev pub IsPlain : Item → Type 0
IsPlain (Event event) = is_event event ≡ true
IsPlain (Dropped channel first last) = (channel_name channel ≡ Some channel) × (1 ≤ first) × (first ≤ last) × (last ≤ MAX)
IsPlain (Loose count) = count ≤ MAX

abbrev pub WrittenIsRead : Type 0
WrittenIsRead =
    (batch : Batch) → AllByRecursion IsPlain batch.items → AreEntries batch.to →
    batch_of (Some (bookmark_element batch.to)) batch.ack_wanted (batch_element batch.items ∷ []) ≡ Ok batch

-- Numbers of records in order, from 1 on, and a count that can be kept.
abbrev pub IsSound : Item → Type 0
IsSound (Event event) = Unit {0}
IsSound (Dropped channel first last) = (1 ≤ first) × (first ≤ last) × (last ≤ MAX)
IsSound (Loose count) = count ≤ MAX

abbrev pub ReadItemsAreSound : Type 0
ReadItemsAreSound = (header : Option Element) (ack : Bool) (body : List Element) (batch : Batch) → batch_of header ack body ≡ Ok batch → AllByRecursion IsSound batch.items

-- An event that its type keeps, and a name of a channel: what items are made of.
abbrev pub IsKept : Item → Type 0
IsKept (Event event) = HasTree event
IsKept (Dropped channel first last) = (is_utf8 channel ≡ true) × (channel_name channel ≡ Some channel)
IsKept (Loose count) = Unit {0}

-- What is written is a good tree, which has room for itself and for an item's element.
abbrev pub WrittenIsGood : Type 0
WrittenIsGood = (items : List Item) (room : ℕ) → AllByRecursion IsKept items → IsGoodElement (batch_element items) (suc (suc room))
