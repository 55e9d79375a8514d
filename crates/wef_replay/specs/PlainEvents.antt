-- The events of `batch` lines: what their texts are in the lines that a schedule gives.
use Rattle.std.specs.Prelude.{◌≡◌, ℕ, true, List, Some}
use Rattle.std.specs.List.{All}
use Rattle.std.specs.Str.{is_utf8}
use Rattle.wef_batch.specs.declared.items.Item.{Item}
use Rattle.wef_batch.specs.declared.items.Item.TheVariants as item
use Rattle.wef_base.specs.Characters.{is_xml_text}
use Rattle.wef_event.specs.PlainEvent.{plain_event}
use Rattle.wef_event.specs.Events.{Event}
use Rattle.wef_replay.specs.declared.lines.Line.{Line}
use Rattle.wef_replay.specs.declared.lines.Line.TheVariants.{Batch}

-- It is the plain event of its channel and its number, with the identifier 0, the level 0 and some word of XML Chars.
abbrev pub IsPlain : Event → Type 0
IsPlain event = (word : List ℕ) × (is_utf8 word ≡ true) × (is_xml_text word ≡ true) × (plain_event event.channel event.number 0 0 word ≡ Some event)

-- an item that is no event, or a plain one
abbrev pub IsPlainItem : Item → Type 0
IsPlainItem (item.Event event) = IsPlain event
IsPlainItem _ = Unit {0}

-- each event of a `batch` line is plain
abbrev pub HasPlainEvents : Line → Type 0
HasPlainEvents (Batch u s b) = All IsPlainItem b.items
HasPlainEvents _ = Unit {0}
