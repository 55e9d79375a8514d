-- The words of a batch:
--     e:CHANNEL:NUMBER:DATA    the plain event of the channel, with the identifier 0 and the level 0
--     d:CHANNEL:FIRST:LAST     records of the channel that are gone
--     l:COUNT                  records that are gone, of unknown channels and numbers
--     t:CHANNEL:NUMBER         how far the batch reads the channel
--     ack                      the source wants to hear that the batch is kept
-- Names and DATA are percent-decoded. DATA is all that follows the third colon, other colons too.
use Rattle.std.specs.Prelude.{ℕ, ◌≤◌, ◌&&◌, Bool, true, false, List, [], ◌∷◌, ◌++◌, Option, Some, None, if◌then◌else◌, unwrap_or, codes}
use Rattle.std.specs.FinMap as map
use Rattle.std.specs.Option.{option_and_then, option_map}
use Rattle.wef_base.specs.Names.{same}
use Rattle.wef_base.specs.Words.{parts, decoded}
use Rattle.wef_base.specs.declared.numbers.TheConstants.{MAX}
use Rattle.wef_bookmark.specs.Order.{raised}
use Rattle.wef_batch.specs.declared.items.Batch as batch
use Rattle.wef_batch.specs.declared.items.Item.TheVariants as item
use Rattle.wef_base.specs.Characters.{is_xml_text}
use Rattle.wef_event.specs.PlainEvent.{plain_event}
use Rattle.wef_replay_values.specs.Values.{channel_word, joined, number_word}
use Rattle.wef_replay.specs.declared.batches.BatchWord.{BatchWord}
use Rattle.wef_replay.specs.declared.batches.BatchWord.TheVariants.{Item, Reach, Ack}

-- a text of which XML 1.0 allows each character
abbrev pub if_xml_text : List ℕ → Option (List ℕ)
if_xml_text text = if is_xml_text text then Some text else None

abbrev pub data_word : List ℕ → List (List ℕ) → Option (List ℕ)
data_word first more = option_and_then if_xml_text (decoded (joined 58 first more))

abbrev pub event_word : List ℕ → List ℕ → List ℕ → List (List ℕ) → Option BatchWord
event_word channel number first more =
    option_and_then (λ c. option_and_then (λ n. option_and_then (λ d.
    option_map (λ event. Item (item.Event event)) (plain_event c n 0 0 d)) (data_word first more)) (number_word 1 MAX number)) (channel_word channel)

abbrev pub dropped_word : List ℕ → List ℕ → List ℕ → Option BatchWord
dropped_word channel first last =
    option_and_then (λ c. option_and_then (λ a. option_map (λ b. Item (item.Dropped c a b)) (number_word 1 MAX last)) (number_word 1 MAX first)) (channel_word channel)

abbrev pub loose_word : List ℕ → Option BatchWord
loose_word count = option_map (λ n. Item (item.Loose n)) (number_word 0 MAX count)

abbrev pub reach_word : List ℕ → List ℕ → Option BatchWord
reach_word channel number = option_and_then (λ c. option_map (λ n. Reach c n) (number_word 0 MAX number)) (channel_word channel)

abbrev pub if_word : List ℕ → List ℕ → Option BatchWord → Option BatchWord
if_word kind word given = if same kind word then given else None

abbrev pub is_nothing : List (List ℕ) → Bool
is_nothing [] = true
is_nothing (piece ∷ pieces) = false

-- a range that is gone, in four pieces, or an event, in four or more
abbrev pub long_word : List ℕ → List ℕ → List ℕ → List ℕ → List (List ℕ) → Option BatchWord
long_word kind channel number piece more =
    if same kind (codes "d") && is_nothing more then dropped_word channel number piece else if_word kind (codes "e") (event_word channel number piece more)

-- what the pieces between colons say
abbrev pub word_of : List (List ℕ) → Option BatchWord
word_of [] = None
word_of (kind ∷ []) = if_word kind (codes "ack") (Some Ack)
word_of (kind ∷ count ∷ []) = if_word kind (codes "l") (loose_word count)
word_of (kind ∷ channel ∷ number ∷ []) = if_word kind (codes "t") (reach_word channel number)
word_of (kind ∷ channel ∷ number ∷ piece ∷ more) = long_word kind channel number piece more

abbrev pub batch_word : List ℕ → Option BatchWord
batch_word word = word_of (parts 58 word)

-- how far a word reads a channel is the number of a record, or 0
abbrev pub IsWithin : BatchWord → Type 0
IsWithin (Reach c n) = n ≤ MAX
IsWithin _ = Unit {0}

-- the batch with one word more
abbrev pub added : BatchWord → batch.Batch → batch.Batch
added (Item i) b = record b { items = b.items ++ i ∷ [] }
added (Reach c n) b = record b { to = raised b.to c n }
added Ack b = record b { ack_wanted = true }

-- the batch with these words more, where each is one
abbrev pub read_words : batch.Batch → List (List ℕ) → Option batch.Batch
read_words b [] = Some b
read_words b (word ∷ words) = option_and_then (λ w. read_words (added w b) words) (batch_word word)

abbrev pub empty_batch : batch.Batch
empty_batch = record { items = []; to = map.empty; ack_wanted = false }

-- the batch that words spell, and the empty one where they spell none
abbrev pub spelled : List (List ℕ) → batch.Batch
spelled words = unwrap_or (read_words empty_batch words) empty_batch
