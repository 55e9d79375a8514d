-- The lines of a schedule. Words are parted by one space; capital letters stand for words:
--     subscribe SUB ITEMS BYTES BEAT all CHANNEL ..    ITEMS from 1 to 10,000, BYTES from 8,192 to 4,194,304, BEAT from 1 to 86,400,000; one channel or more
--     subscribe SUB ITEMS BYTES BEAT query LIST        LIST is a document that says a list of queries
--     subscribeat SUB SOURCE ITEMS BYTES BEAT EXPIRES all CHANNEL ..    as subscribe; EXPIRES from 1 to 8,640,000,000,000
--     subscribeat SUB SOURCE ITEMS BYTES BEAT EXPIRES query LIST
--     end SUB
--     batch SUB SOURCE WORD ..                         one word of a batch or more; the source isn't named `collector`
--     source SOURCE CAPACITY                           CAPACITY from 1 to 1,000,000; the source isn't named `collector`
--     write SOURCE CHANNEL ID LEVEL DATA               ID and LEVEL below 2^32; DATA of XML Chars, which may be empty; the event has to fit with the greatest number
--     writexml SOURCE EVENT                            EVENT is a document that says an event, with a number or without one
--     ask SOURCE
--     poll SOURCE SUB
--     deliver NUMBER           deliver NUMBER seen
--     back NUMBER
--     request
--     forget
--     lost SOURCE SUB
--     shut SOURCE
--     show
--     print SUB SOURCE CHANNEL
--     status SUB
--     crash END                                        END is the word `collector`, not percent-decoded, or a SOURCE that isn't named `collector`
--     fail END before          fail END after
--     stop END before          stop END after
--     calm
--     tick MS                                          MS up to 2^63 - 1
--     settle
-- LIST and EVENT are all that is left of their line, spaces too, and nothing in them is percent-decoded.
-- An empty line and one that begins with `#` do nothing. A line that isn't UTF-8 is never good.
use Rattle.std.specs.Prelude.{◌≡◌, refl, ℕ, ◌==◌, Bool, true, false, is_some, List, [], ◌∷◌, Option, Some, None, if◌then◌else◌, codes}
use Rattle.std.specs.Option.{option_and_then, option_map}
use Rattle.std.specs.Str.{is_utf8}
use Rattle.wef_base.specs.Names.{same}
use Rattle.wef_base.specs.Words.{parts, decoded, utf8}
use Rattle.wef_base.specs.Characters.{is_xml_text}
use Rattle.wef_base.specs.declared.numbers.TheConstants.{MAX}
use Rattle.wef_event.specs.Events.{Event}
use Rattle.wef_event.specs.Unnumbered.{plain_numbered}
use Rattle.wef_event.specs.declared.unnumbered.PlainEvent.{PlainEvent}
use Rattle.wef_query.specs.declared.QueryList.{QueryList}
use Rattle.wef_query.specs.Queries.{all_events_of}
use Rattle.wef_times.specs.declared.durations.TheConstants.{LIMIT}
use Rattle.wef_replay_values.specs.Values.{subscription_word, source_word, channel_word, sending_source_word, end_word, after_word, joined, number_word, channel_words}
use Rattle.wef_replay_values.specs.declared.end_name.EndName.{EndName}
use Rattle.wef_replay.specs.BatchWords.{read_words, empty_batch}
use Rattle.wef_lines.specs.Documents.{list_in, new_event_in}
use Rattle.wef_replay.specs.declared.lines.Line.{Line}
use Rattle.wef_replay.specs.declared.lines.Line.TheVariants.{Subscribe, SubscribeAt, End, Batch, Source, Write, WriteXml, Ask, Poll, Deliver, Back, Request, Forget, Lost, Shut, Show, Print, Status, Crash, Fail, Stop, Calm, Tick, Settle}

-- the query list of `all` and channels
abbrev pub all_of : List (List ℕ) → QueryList
all_of channels = record { items = all_events_of channels }

-- the query list of a word, `all` or `query`, and the words behind it
abbrev pub query_words : List ℕ → List (List ℕ) → Option QueryList
query_words kind [] = None
query_words kind (word ∷ words) =
    if same kind (codes "all") then option_map all_of (channel_words (word ∷ words))
    else (if same kind (codes "query") then list_in (joined 32 word words) else None)

-- the limits of a subscription: how many items and bytes a batch has, and the milliseconds of a heartbeat
abbrev pub limit_words : List ℕ → List ℕ → List ℕ → Option (ℕ × ℕ × ℕ)
limit_words items bytes beat =
    option_and_then (λ i. option_and_then (λ b. option_map (λ h. (i, b, h)) (number_word 1 86400000 beat)) (number_word 8192 4194304 bytes)) (number_word 1 10000 items)

abbrev pub subscribe_line : List (List ℕ) → Option Line
subscribe_line (sub ∷ items ∷ bytes ∷ beat ∷ kind ∷ words) =
    option_and_then (λ limits. option_and_then (λ u. option_map (λ query. Subscribe u limits.0 limits.1 limits.2 query)
    (query_words kind words)) (subscription_word sub)) (limit_words items bytes beat)
subscribe_line _ = None

abbrev pub subscribe_at_line : List (List ℕ) → Option Line
subscribe_at_line (sub ∷ source ∷ items ∷ bytes ∷ beat ∷ expires ∷ kind ∷ words) =
    option_and_then (λ limits. option_and_then (λ e. option_and_then (λ u. option_and_then (λ s. option_map (λ query. SubscribeAt u s limits.0 limits.1 limits.2 e query)
    (query_words kind words)) (source_word source)) (subscription_word sub)) (number_word 1 LIMIT expires)) (limit_words items bytes beat)
subscribe_at_line _ = None

-- a subscription, and nothing more
abbrev pub only_subscription_words : List (List ℕ) → Option (List ℕ)
only_subscription_words (sub ∷ []) = subscription_word sub
only_subscription_words _ = None

abbrev pub batch_of_source : List ℕ → List ℕ → List (List ℕ) → Option Line
batch_of_source sub source words =
    option_and_then (λ u. option_and_then (λ s. option_map (λ b. Batch u s b) (read_words empty_batch words)) (sending_source_word source)) (subscription_word sub)

abbrev pub batch_line : List (List ℕ) → Option Line
batch_line (sub ∷ source ∷ word ∷ words) = batch_of_source sub source (word ∷ words)
batch_line _ = None

abbrev pub source_line : List (List ℕ) → Option Line
source_line (source ∷ capacity ∷ []) = option_and_then (λ s. option_map (λ n. Source s n) (number_word 1 1000000 capacity)) (sending_source_word source)
source_line _ = None

-- an event that fits with every number of a record
abbrev pub if_fits : PlainEvent → Option PlainEvent
if_fits event = if is_some (plain_numbered event MAX) then Some event else None

-- the event of a word, where XML allows each of its characters
abbrev pub event_if_xml : List ℕ → ℕ → ℕ → (word : List ℕ) → (is : Bool) → is_xml_text word ≡ is → Option PlainEvent
event_if_xml channel id level word true characters = if_fits (record { channel = channel; id = id; level = level; word = word; characters = characters })
event_if_xml channel id level word false characters = None

abbrev pub fitting_event : List ℕ → ℕ → ℕ → List ℕ → Option PlainEvent
fitting_event channel id level word = event_if_xml channel id level word (is_xml_text word) refl

-- the event that its channel, its identifier, its level and its data make
abbrev pub event_words : List ℕ → List ℕ → List ℕ → List ℕ → Option PlainEvent
event_words channel id level word =
    option_and_then (λ c. option_and_then (λ i. option_and_then (λ l. option_and_then (λ w. fitting_event c i l w)
    (decoded word)) (number_word 0 4294967295 level)) (number_word 0 4294967295 id)) (channel_word channel)

abbrev pub write_line : List (List ℕ) → Option Line
write_line (source ∷ channel ∷ id ∷ level ∷ word ∷ []) =
    option_and_then (λ s. option_map (λ event. Write s event) (event_words channel id level word)) (source_word source)
write_line _ = None

-- the event that words say as one text, which is UTF-8
abbrev pub xml_event_words : List ℕ → List (List ℕ) → Option Event
xml_event_words word words = option_and_then new_event_in (utf8 (joined 32 word words))

abbrev pub write_xml_line : List (List ℕ) → Option Line
write_xml_line (source ∷ word ∷ words) = option_and_then (λ s. option_map (λ event. WriteXml s event) (xml_event_words word words)) (source_word source)
write_xml_line _ = None

-- a source, and nothing more
abbrev pub only_source_words : List (List ℕ) → Option (List ℕ)
only_source_words (source ∷ []) = source_word source
only_source_words _ = None

-- a source and a subscription
abbrev pub pair_words : List (List ℕ) → Option (List ℕ × List ℕ)
pair_words (source ∷ sub ∷ []) = option_and_then (λ s. option_map (λ u. (s, u)) (subscription_word sub)) (source_word source)
pair_words _ = None

-- a number, and nothing more
abbrev pub only_number_words : List (List ℕ) → Option ℕ
only_number_words (number ∷ []) = number_word 0 MAX number
only_number_words _ = None

-- whether what a message says is printed first: no word, or `seen`
abbrev pub seen_words : List (List ℕ) → Option Bool
seen_words [] = Some false
seen_words (word ∷ []) = if same word (codes "seen") then Some true else None
seen_words _ = None

abbrev pub deliver_line : List (List ℕ) → Option Line
deliver_line (number ∷ words) = option_and_then (λ n. option_map (λ seen. Deliver n seen) (seen_words words)) (number_word 0 MAX number)
deliver_line [] = None

abbrev pub request_line : List (List ℕ) → Option Line
request_line [] = Some Request
request_line (word ∷ words) = None

abbrev pub forget_line : List (List ℕ) → Option Line
forget_line [] = Some Forget
forget_line (word ∷ words) = None

abbrev pub show_line : List (List ℕ) → Option Line
show_line [] = Some Show
show_line (word ∷ words) = None

abbrev pub print_line : List (List ℕ) → Option Line
print_line (sub ∷ source ∷ channel ∷ []) =
    option_and_then (λ u. option_and_then (λ s. option_map (λ c. Print u s c) (channel_word channel)) (source_word source)) (subscription_word sub)
print_line _ = None

abbrev pub crash_line : List (List ℕ) → Option Line
crash_line (end ∷ []) = option_map (λ e. Crash e) (end_word end)
crash_line _ = None

-- an end, and whether a commit's changes are kept
abbrev pub commit_words : List (List ℕ) → Option (EndName × Bool)
commit_words (end ∷ when ∷ []) = option_and_then (λ e. option_map (λ after. (e, after)) (after_word when)) (end_word end)
commit_words _ = None

abbrev pub calm_line : List (List ℕ) → Option Line
calm_line [] = Some Calm
calm_line (word ∷ words) = None

-- a line of a failure or of the moment, by its kind and its other words
abbrev pub failure_line_of : List ℕ → List (List ℕ) → Option Line
failure_line_of kind words =
    if same kind (codes "crash") then crash_line words
    else (if same kind (codes "fail") then option_map (λ commit. Fail commit.0 commit.1) (commit_words words)
    else (if same kind (codes "stop") then option_map (λ commit. Stop commit.0 commit.1) (commit_words words)
    else (if same kind (codes "calm") then calm_line words
    else (if same kind (codes "tick") then option_map (λ n. Tick n) (only_number_words words) else None))))

abbrev pub settle_line : List (List ℕ) → Option Line
settle_line [] = Some Settle
settle_line (word ∷ words) = None

-- a line of messages, a failure or the moment, by its kind and its other words
abbrev pub message_line_of : List ℕ → List (List ℕ) → Option Line
message_line_of kind words =
    if same kind (codes "deliver") then deliver_line words
    else (if same kind (codes "back") then option_map (λ n. Back n) (only_number_words words)
    else (if same kind (codes "settle") then settle_line words else failure_line_of kind words))

-- a line of a source, a message, a failure or the moment, by its kind and its other words
abbrev pub source_line_of : List ℕ → List (List ℕ) → Option Line
source_line_of kind words =
    if same kind (codes "source") then source_line words
    else (if same kind (codes "write") then write_line words
    else (if same kind (codes "writexml") then write_xml_line words
    else (if same kind (codes "ask") then option_map (λ s. Ask s) (only_source_words words)
    else (if same kind (codes "poll") then option_map (λ pair. Poll pair.0 pair.1) (pair_words words)
    else (if same kind (codes "lost") then option_map (λ pair. Lost pair.0 pair.1) (pair_words words)
    else (if same kind (codes "shut") then option_map (λ s. Shut s) (only_source_words words) else message_line_of kind words))))))

-- a line of the collector, or any other that is no batch, by its kind and its other words
abbrev pub collector_line_of : List ℕ → List (List ℕ) → Option Line
collector_line_of kind words =
    if same kind (codes "subscribe") then subscribe_line words
    else (if same kind (codes "subscribeat") then subscribe_at_line words
    else (if same kind (codes "end") then option_map (λ u. End u) (only_subscription_words words)
    else (if same kind (codes "request") then request_line words
    else (if same kind (codes "forget") then forget_line words
    else (if same kind (codes "show") then show_line words
    else (if same kind (codes "print") then print_line words
    else (if same kind (codes "status") then option_map (λ u. Status u) (only_subscription_words words) else source_line_of kind words)))))))

-- a line that is no batch, by its first word
abbrev pub other_line : List (List ℕ) → Option Line
other_line [] = None
other_line (kind ∷ words) = collector_line_of kind words

-- the line that words make, by their first
abbrev pub line_of_words : List (List ℕ) → Option Line
line_of_words [] = None
line_of_words (kind ∷ words) = if same kind (codes "batch") then batch_line words else other_line (kind ∷ words)

-- a line without words, or a comment
abbrev pub does_nothing : List ℕ → Bool
does_nothing [] = true
does_nothing (b ∷ bs) = b == 35

abbrev pub meaning_of_text : List ℕ → Option (Option Line)
meaning_of_text text = if does_nothing text then Some None else option_map (λ line. Some line) (line_of_words (parts 32 text))

-- What a good line does: a line, or nothing (`Some None`). None where it isn't good.
abbrev pub meaning : List ℕ → Option (Option Line)
meaning text = if is_utf8 text then meaning_of_text text else None
