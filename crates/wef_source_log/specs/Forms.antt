-- The forms of a log's rows. A row of another form was spoilt in its store, and a call that reads it fails.
use Rattle.std.specs.Prelude.{ℕ, ◌==◌, nat_le, Bool, true, false, ◌&&◌, ◌||◌, List, length, Option, Some, None, if◌then◌else◌}
use Rattle.wef_base.specs.Names.{channel_name, same}
use Rattle.wef_base.specs.declared.numbers.TheConstants.{MAX}
use Rattle.wef_event.specs.Events.{is_event}
use Rattle.wef_keeper.specs.Forms.{ArePassed}
use Rattle.wef_keeper.specs.Kinds.{number_of}
use Rattle.wef_keeper.specs.Rows.{Rows}
use Rattle.wef_keeper.specs.declared.keys.Key.{Key}
use Rattle.wef_keeper.specs.declared.keys.Row.{Row}
use Rattle.wef_keeper.specs.declared.kinds.RowKind.TheVariants.{Record, LastNumber, Capacity, SourceBoot}

-- whether a text is the name that was read from it
abbrev pub is_read : Option (List ℕ) → List ℕ → Bool
is_read None text = false
is_read (Some name) text = same name text

-- whether a text is a channel's name as it is kept: it reads back as itself
abbrev pub is_channel : List ℕ → Bool
is_channel text = is_read (channel_name text) text

-- whether a key names no subscription and no source
abbrev pub is_nameless : Key → Bool
is_nameless key = length key.sub == 0 && length key.source == 0

-- the key of a record: its number is from 1 to MAX
abbrev pub is_record_key : Key → Bool
is_record_key key = is_nameless key && nat_le 1 key.number && nat_le key.number MAX && is_channel key.channel

-- a record: its body is the one text of an event, which says the channel and the number
abbrev pub is_record : Row → Bool
is_record row = is_record_key row.key && row.value == 0 && is_event (record { channel = row.key.channel; number = row.key.number; text = row.body })

-- the last number of a channel
abbrev pub is_last : Row → Bool
is_last row = is_nameless row.key && row.key.number == 0 && nat_le row.value MAX && length row.body == 0 && is_channel row.key.channel

-- whether a row has a number alone
abbrev pub is_bare : Row → Bool
is_bare row = is_nameless row.key && length row.key.channel == 0 && row.key.number == 0 && length row.body == 0

-- the capacity
abbrev pub is_capacity : Row → Bool
is_capacity row = is_bare row && nat_le 1 row.value && nat_le row.value 1000000

-- the boot number
abbrev pub is_boot : Row → Bool
is_boot row = is_bare row && nat_le row.value MAX

-- whether a row is of its form; a row of another kind isn't the log's
unfoldable pub is_formed : Row → Bool
is_formed row =
    if row.key.kind == number_of Record then is_record row
    else (if row.key.kind == number_of LastNumber then is_last row
    else (if row.key.kind == number_of Capacity then is_capacity row
    else (if row.key.kind == number_of SourceBoot then is_boot row
    else true)))

-- each row that stands is of its form
abbrev pub AreFormed : Rows → Type 0
AreFormed rows = ArePassed is_formed rows

-- whether rows of a kind have a number
abbrev pub has_number : ℕ → Bool
has_number kind = kind == number_of LastNumber || kind == number_of Capacity || kind == number_of SourceBoot
