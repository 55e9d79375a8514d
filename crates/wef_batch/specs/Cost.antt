-- What an item costs: the bytes that it has as written in an envelope in UTF-8.
--     an event         <w:Event Action="http://schemas.dmtf.org/wbem/wsman/1/wsman/Event">, its text escaped, </w:Event>
--     dropped records  <w:DroppedEvents u:Channel="C" u:First="F" u:Last="L">, their count, </w:DroppedEvents>
--     loose records    <w:DroppedEvents>, their count, </w:DroppedEvents>
use Rattle.std.specs.Prelude.{ℕ, ◌+◌, ◌-◌, ◌==◌, min, length, List, ◌++◌, codes, if◌then◌else◌}
use Rattle.std.specs.Fmt.{decimal}
use Rattle.std.specs.List.{flat_map}
use Rattle.std.specs.Str.{chars}
use Rattle.wef_event.specs.Characters.{escape, escaped}
use Rattle.wef_batch.specs.declared.items.Item.{Item}
use Rattle.wef_batch.specs.declared.items.Item.TheVariants.{Event, Dropped, Loose}

-- a character as it stands in an attribute
abbrev pub quoted_character : ℕ → List ℕ
quoted_character c = if c == 34 then codes "&quot;" else escape c

-- a text as it stands in an attribute
abbrev pub quoted : List ℕ → List ℕ
quoted text = flat_map quoted_character (chars text)

abbrev pub written_event : List ℕ → List ℕ
written_event text = codes "<w:Event Action=\"http://schemas.dmtf.org/wbem/wsman/1/wsman/Event\">" ++ escaped text ++ codes "</w:Event>"

abbrev pub written_dropped : List ℕ → ℕ → ℕ → List ℕ
written_dropped c first last =
    codes "<w:DroppedEvents u:Channel=\"" ++ quoted c ++ codes "\" u:First=\"" ++ decimal first ++ codes "\" u:Last=\"" ++ decimal last
    ++ codes "\">" ++ decimal (last - first + 1) ++ codes "</w:DroppedEvents>"

abbrev pub written_loose : ℕ → List ℕ
written_loose count = codes "<w:DroppedEvents>" ++ decimal count ++ codes "</w:DroppedEvents>"

-- an item as written
unfoldable pub written : Item → List ℕ
written (Event event) = written_event event.text
written (Dropped channel first last) = written_dropped channel first last
written (Loose count) = written_loose count

-- the greatest cost: 2^64 - 1
abbrev pub most : ℕ
most = 18446744073709551615

-- how many bytes it has, up to the greatest cost
unfoldable pub cost : Item → ℕ
cost item = min (length (written item)) most
