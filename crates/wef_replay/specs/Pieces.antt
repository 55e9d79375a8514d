-- The words of a batch, read from the pieces between their first three colons.
use Rattle.std.specs.Prelude.{◌≡◌, ℕ, ◌==◌, Bool, List, Option, Some, None, Result, if◌then◌else◌, codes}
use Rattle.std.specs.List.{list_any}
use Rattle.std.specs.Option.{option_and_then, option_map}
use Rattle.std.specs.declared.result.Result.TheVariants.{Ok, Err}
use Rattle.wef_base.specs.Names.{same}
use Rattle.wef_base.specs.Words.{decoded}
use Rattle.wef_base.specs.declared.numbers.TheConstants.{MAX}
use Rattle.wef_batch.specs.declared.items.Item.TheVariants as item
use Rattle.wef_event.specs.PlainEvent.{plain_event}
use Rattle.wef_event.specs.Unnumbered.{plain_numbered}
use Rattle.wef_replay_values.specs.Reading.{Refuses}
use Rattle.wef_replay_values.specs.Values.{channel_word, number_word}
use Rattle.wef_replay_values.specs.declared.values.LineFault.{LineFault}
use Rattle.wef_replay.specs.BatchWords.{dropped_word, if_word, if_xml_text, loose_word, reach_word}
use Rattle.wef_replay.specs.declared.batches.BatchWord.{BatchWord}
use Rattle.wef_replay.specs.declared.batches.BatchWord.TheVariants.{Item, Ack}
use Rattle.wef_replay.specs.declared.half_words.HalfWord.{HalfWord}
use Rattle.wef_replay.specs.declared.half_words.HalfWord.TheVariants as half
use Rattle.wef_replay.specs.declared.pieces.Pieces.{Pieces}
use Rattle.wef_replay.specs.declared.pieces.Pieces.TheVariants.{One, Two, Three, Four}

abbrev pub is_colon : ℕ → Bool
is_colon byte = byte == 58

-- the data that a text stands for, colons and all
abbrev pub data_in : List ℕ → Option (List ℕ)
data_in text = option_and_then if_xml_text (decoded text)

-- an event, of which the data is a whole text
abbrev pub event_in : List ℕ → List ℕ → List ℕ → Option BatchWord
event_in channel number text =
    option_and_then (λ c. option_and_then (λ n. option_and_then (λ d.
    option_map (λ event. Item (item.Event event)) (plain_event c n 0 0 d)) (data_in text)) (number_word 1 MAX number)) (channel_word channel)

-- a range that is gone ends with its last number, which holds no colon
abbrev pub dropped_in : List ℕ → List ℕ → List ℕ → Option BatchWord
dropped_in channel first text = if list_any is_colon text then None else dropped_word channel first text

-- what the pieces say
abbrev pub said : Pieces → Option BatchWord
said (One kind) = if_word kind.now (codes "ack") (Some Ack)
said (Two kind count) = if_word kind.now (codes "l") (loose_word count.now)
said (Three kind channel number) = if_word kind.now (codes "t") (reach_word channel.now number.now)
said (Four kind channel number text) =
    if same kind.now (codes "e") then event_in channel.now number.now text.now else if_word kind.now (codes "d") (dropped_in channel.now number.now text.now)

-- the word with its event, where that isn't too long
abbrev pub whole : HalfWord → Option BatchWord
whole (half.Event said) = option_map (λ event. Item (item.Event event)) (plain_numbered said.event said.number)
whole (half.Other word) = Some word

-- a reader that makes no event gives a word that is what the definition gives, once its event is made
abbrev pub GivesHalf : Result HalfWord LineFault → Option BatchWord → Type 0
GivesHalf (Ok word) given = given ≡ whole word
GivesHalf (Err fault) given = Refuses fault given
