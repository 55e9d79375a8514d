-- Which lines, as values, a schedule may have next.
--     subscribe    items from 1 to 10,000, bytes from 8,192 to 4,194,304, the beat from 1 to 86,400,000, and one query or more, in
--                  groups that count from 0, each of a text of characters that XML allows, which says a path
--     subscribeat  as subscribe, at a declared source, and it expires after 1 to 8,640,000,000,000 milliseconds
--     batch        of a source that isn't named `collector` and wasn't declared, with one word or more; the numbers of events and of
--                  dropped records are from 1 to 2^63 - 1, counts and how far the batch reads a channel up to that; each event is
--                  the one that its text says (`PlainEvents` says what it is in the lines that a schedule gives)
--     source       of a capacity from 1 to 1,000,000, not named `collector`, not declared yet and not named by a batch yet
--     write        of a declared source, and the event's text fits with the greatest number
--     writexml     of a declared source, and the event is the one that its text says
--     ask, poll, lost, shut    of a declared source
--     deliver, back, tick      of a number up to 2^63 - 1
--     crash, fail, stop    of the collector, or of a declared source that isn't named `collector`
-- The other lines may always stand. All names are such as their readers give.
use Rattle.std.specs.Prelude.{◌≡◌, ℕ, ◌==◌, nat_le, Bool, true, false, not, ◌&&◌, ◌||◌, is_some, List, [], ◌∷◌, length, codes, Option, Some, None}
use Rattle.std.specs.FinMap as map
use Rattle.std.specs.List.{list_all, list_any}
use Rattle.std.specs.Str.{is_utf8}
use Rattle.wef_base.specs.Characters.{is_xml_text}
use Rattle.wef_base.specs.Names.{channel_name, same, source_name, subscription_name}
use Rattle.wef_base.specs.declared.numbers.TheConstants.{MAX}
use Rattle.wef_batch.specs.declared.items.Batch as batch
use Rattle.wef_batch.specs.declared.items.Item.{Item}
use Rattle.wef_batch.specs.declared.items.Item.TheVariants as item
use Rattle.wef_event.specs.Events.{Event, is_event}
use Rattle.wef_event.specs.Unnumbered.{plain_numbered}
use Rattle.wef_event.specs.declared.unnumbered.PlainEvent.{PlainEvent}
use Rattle.wef_query.specs.Items.{QueryItem, says_path}
use Rattle.wef_query.specs.Laws.{are_grouped}
use Rattle.wef_times.specs.declared.durations.TheConstants.{LIMIT}
use Rattle.wef_replay_values.specs.declared.end_name.EndName.{EndName}
use Rattle.wef_replay_values.specs.declared.end_name.EndName.TheVariants as end
use Rattle.wef_lines.specs.Documents.{is_new_event}
use Rattle.wef_replay.specs.declared.lines.Line.{Line}
use Rattle.wef_replay.specs.declared.lines.Line.TheVariants.{Subscribe, SubscribeAt, End, Batch, Source, Write, WriteXml, Ask, Poll, Deliver, Back, Request, Forget, Lost, Shut, Show, Print, Status, Crash, Fail, Stop, Calm, Tick, Settle}

abbrev pub is_between : ℕ → ℕ → ℕ → Bool
is_between least greatest number = nat_le least number && nat_le number greatest

-- a number of a record
abbrev pub is_number : ℕ → Bool
is_number number = is_between 1 MAX number

-- a count, or how far a channel is read
abbrev pub is_count : ℕ → Bool
is_count number = nat_le number MAX

-- whether a reader gave just this name
abbrev pub is_one : List ℕ → Option (List ℕ) → Bool
is_one name None = false
is_one name (Some given) = same name given

-- a name as its reader gives it
abbrev pub is_subscription : List ℕ → Bool
is_subscription u = is_utf8 u && is_one u (subscription_name u)

abbrev pub is_source : List ℕ → Bool
is_source s = is_utf8 s && is_one s (source_name s)

abbrev pub is_channel : List ℕ → Bool
is_channel c = is_utf8 c && is_one c (channel_name c)

-- the limits of a subscription
abbrev pub are_limits : ℕ → ℕ → ℕ → Bool
are_limits items bytes beat = is_between 1 10000 items && is_between 8192 4194304 bytes && is_between 1 86400000 beat

-- how long a subscription stands at a source, in milliseconds
abbrev pub is_expiry : ℕ → Bool
is_expiry expires = is_between 1 LIMIT expires

-- a text of a query: of characters that XML allows, and such that it says a path
abbrev pub is_query_text : List ℕ → Bool
is_query_text text = is_utf8 text && is_xml_text text && says_path text

abbrev pub is_query : QueryItem → Bool
is_query query = is_channel query.channel && is_query_text query.text

-- queries of groups that count from 0, one query or more
abbrev pub are_queries : List QueryItem → Bool
are_queries queries = are_grouped queries && list_all is_query queries

abbrev pub is_item : Item → Bool
is_item (item.Event event) = is_channel event.channel && is_number event.number && is_event event
is_item (item.Dropped channel first last) = is_channel channel && is_number first && is_number last
is_item (item.Loose count) = is_count count

-- how far a channel is read
abbrev pub is_reach : List ℕ × ℕ → Bool
is_reach entry = is_channel entry.0 && is_count entry.1

-- an item, a mark of how far a channel is read, or the wish for an acknowledgement
abbrev pub has_word : batch.Batch → Bool
has_word b = not (length b.items == 0) || not (length (map.entries b.to) == 0) || b.ack_wanted

abbrev pub are_words : batch.Batch → Bool
are_words b = has_word b && list_all is_item b.items && list_all is_reach (map.entries b.to)

-- a source that isn't the other end
abbrev pub is_no_collector : List ℕ → Bool
is_no_collector s = not (same s (codes "collector"))

-- the collector, or a source
abbrev pub is_end : EndName → Bool
is_end end.Collector = true
is_end (end.Source s) = is_source s && is_no_collector s

-- an event whose text fits with every number of a record
abbrev pub fits_always : PlainEvent → Bool
fits_always event = is_channel event.channel && is_utf8 event.word && is_some (plain_numbered event MAX)

-- an event that may be written, and has no number yet or one that doesn't count
abbrev pub may_be_written : Event → Bool
may_be_written event = is_channel event.channel && is_new_event event

-- whether a line has values of the kinds that lines have
abbrev pub is_line : Line → Bool
is_line (Subscribe u items bytes beat query) = is_subscription u && are_limits items bytes beat && are_queries query.items
is_line (SubscribeAt u s items bytes beat expires query) = is_subscription u && is_source s && are_limits items bytes beat && is_expiry expires && are_queries query.items
is_line (End u) = is_subscription u
is_line (Batch u s b) = is_subscription u && is_source s && is_no_collector s && are_words b
is_line (Source s capacity) = is_source s && is_no_collector s && is_between 1 1000000 capacity
is_line (Write s event) = is_source s && fits_always event
is_line (WriteXml s event) = is_source s && may_be_written event
is_line (Ask s) = is_source s
is_line (Poll s u) = is_source s && is_subscription u
is_line (Deliver number seen) = is_count number
is_line (Back number) = is_count number
is_line Request = true
is_line Forget = true
is_line (Lost s u) = is_source s && is_subscription u
is_line (Shut s) = is_source s
is_line Show = true
is_line (Print u s c) = is_subscription u && is_source s && is_channel c
is_line (Status u) = is_subscription u
is_line (Crash e) = is_end e
is_line (Fail e after) = is_end e
is_line (Stop e after) = is_end e
is_line Calm = true
is_line (Tick ms) = is_count ms
is_line Settle = true

-- The names of sources that lines gave: those that `source` lines declared, and those that `batch` lines named.
pub record Names : Type 0 where
  pub declared : List (List ℕ)
  pub foreign : List (List ℕ)

-- no names
abbrev pub no_names : Names
no_names = record { declared = []; foreign = [] }

-- the names that lines gave, once one more came
abbrev pub noted : Line → Names → Names
noted (Source s capacity) names = record { declared = s ∷ names.declared; foreign = names.foreign }
noted (Batch u s b) names = record { declared = names.declared; foreign = s ∷ names.foreign }
noted _ names = names

-- whether a name is one of these
abbrev pub is_among : List (List ℕ) → List ℕ → Bool
is_among names s = list_any (same s) names

-- whether an end is the collector, or a source that was declared
abbrev pub has_end : Names → EndName → Bool
has_end names end.Collector = true
has_end names (end.Source s) = is_among names.declared s

-- whether a line may follow lines that gave these names
abbrev pub allows : Names → Line → Bool
allows names (SubscribeAt u s items bytes beat expires query) = is_among names.declared s
allows names (Batch u s b) = not (is_among names.declared s)
allows names (Source s capacity) = not (is_among names.declared s) && not (is_among names.foreign s)
allows names (Write s event) = is_among names.declared s
allows names (WriteXml s event) = is_among names.declared s
allows names (Ask s) = is_among names.declared s
allows names (Poll s u) = is_among names.declared s
allows names (Lost s u) = is_among names.declared s
allows names (Shut s) = is_among names.declared s
allows names (Crash e) = has_end names e
allows names (Fail e after) = has_end names e
allows names (Stop e after) = has_end names e
allows names _ = true

-- whether a line is good after lines that gave these names
abbrev pub is_good_after : Names → Line → Bool
is_good_after names line = is_line line && allows names line

-- Lines are good where each is good after those before it.
abbrev pub AreGood : Names → List Line → Type 0
AreGood names [] = Unit {0}
AreGood names (line ∷ lines) = (is_good_after names line ≡ true) × AreGood (noted line names) lines
