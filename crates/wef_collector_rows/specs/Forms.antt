-- The form of the collector's rows, by their kind. A row that is read and isn't of its form counts as a failed call.
use Rattle.std.specs.Prelude.{◌≡◌, ℕ, ◌==◌, nat_le, Bool, true, false, ◌&&◌, List, length, Option, Some, None, is_some, if◌then◌else◌}
use Rattle.wef_base.specs.Characters.{is_xml_text}
use Rattle.wef_base.specs.Names.{channel_name, source_name, subscription_name}
use Rattle.wef_base.specs.Numbers.{plain_number}
use Rattle.wef_base.specs.declared.moments.TheConstants.{LAST_MOMENT}
use Rattle.wef_base.specs.declared.numbers.TheConstants.{MAX}
use Rattle.wef_event.specs.Events.{is_event}
use Rattle.wef_documents.specs.Kept.{read_kept}
use Rattle.wef_keeper.specs.Forms.{ArePassed}
use Rattle.wef_keeper.specs.Kinds.{number_of}
use Rattle.wef_keeper.specs.Rows.{Rows}
use Rattle.wef_keeper.specs.declared.keys.Key.{Key}
use Rattle.wef_keeper.specs.declared.keys.Row.{Row}
use Rattle.wef_keeper.specs.declared.kinds.RowKind.TheVariants.{Bookmark, CollectorBoot, Heard, Held, Lease, Loose, Mark, Subscription}
use Rattle.wef_collector_rows.specs.Bookmarks.{is_one}

abbrev pub is_empty : List ℕ → Bool
is_empty text = length text == 0

-- a number of records: at most 2^63 - 1
abbrev pub is_number : ℕ → Bool
is_number n = nat_le n MAX

-- a moment: at most the last millisecond of the year 9999
abbrev pub is_moment : ℕ → Bool
is_moment n = nat_le n LAST_MOMENT

-- names that read back as themselves
abbrev pub is_subscription_name : List ℕ → Bool
is_subscription_name name = is_one name (subscription_name name)

abbrev pub is_source_name : List ℕ → Bool
is_source_name name = is_one name (source_name name)

abbrev pub is_channel_name : List ℕ → Bool
is_channel_name name = is_one name (channel_name name)

-- the name of a subscription, where the text is one that reads back as itself
abbrev pub NamesItself : Option (List ℕ) → List ℕ → Type 0
NamesItself None text = is_subscription_name text ≡ false
NamesItself (Some name) text = (name ≡ text) × (is_subscription_name text ≡ true)

-- the name of a channel, where the text is one that reads back as itself
abbrev pub NamesChannel : Option (List ℕ) → List ℕ → Type 0
NamesChannel None text = is_channel_name text ≡ false
NamesChannel (Some name) text = (name ≡ text) × (is_channel_name text ≡ true)

-- a key of a subscription and a source
abbrev pub names_source : Key → Bool
names_source key = is_subscription_name key.sub && is_source_name key.source

-- a key of a subscription, a source and a channel
abbrev pub names_channel : Key → Bool
names_channel key = names_source key && is_channel_name key.channel

-- it is live or has ended, and its document reads back under its name
unfoldable pub is_subscription_row : Row → Bool
is_subscription_row row =
    is_subscription_name row.key.sub && is_empty row.key.source && is_empty row.key.channel && row.key.number == 0
    && nat_le row.value 1 && is_some (read_kept row.key.sub row.body)

unfoldable pub is_bookmark_row : Row → Bool
is_bookmark_row row = names_channel row.key && row.key.number == 0 && is_number row.value && is_empty row.body

-- its body is the one text of an event, which says the channel and the number
unfoldable pub is_held_row : Row → Bool
is_held_row row =
    names_channel row.key && is_number row.key.number && row.value == 0
    && is_event (record { channel = row.key.channel; number = row.key.number; text = row.body })

unfoldable pub is_mark_row : Row → Bool
is_mark_row row = names_channel row.key && nat_le row.key.number row.value && is_number row.value && is_empty row.body

-- its body is the digits of a count
unfoldable pub is_loose_row : Row → Bool
is_loose_row row =
    names_channel row.key && nat_le row.key.number row.value && is_number row.value && is_some (plain_number MAX row.body)

unfoldable pub is_heard_row : Row → Bool
is_heard_row row = names_source row.key && is_empty row.key.channel && row.key.number == 0 && is_moment row.value && is_empty row.body

-- it may end after the last moment; its body is the identifier that the source gave, which XML allows
unfoldable pub is_lease_row : Row → Bool
is_lease_row row = names_source row.key && is_empty row.key.channel && row.key.number == 0 && is_number row.value && is_xml_text row.body

unfoldable pub is_boot_row : Row → Bool
is_boot_row row =
    is_empty row.key.sub && is_empty row.key.source && is_empty row.key.channel && row.key.number == 0 && is_number row.value && is_empty row.body

-- whether a row is of the form of its kind; rows of other kinds aren't the collector's
unfoldable pub is_formed : Row → Bool
is_formed row =
    if row.key.kind == number_of Subscription then is_subscription_row row else
    if row.key.kind == number_of Bookmark then is_bookmark_row row else
    if row.key.kind == number_of Held then is_held_row row else
    if row.key.kind == number_of Mark then is_mark_row row else
    if row.key.kind == number_of Loose then is_loose_row row else
    if row.key.kind == number_of Heard then is_heard_row row else
    if row.key.kind == number_of CollectorBoot then is_boot_row row else
    if row.key.kind == number_of Lease then is_lease_row row else true

-- each row that stands is of its form
abbrev pub AreFormed : Rows → Type 0
AreFormed rows = ArePassed is_formed rows
