-- Words as values: names and texts are percent-decoded, numbers are digits without a leading zero.
use Rattle.std.specs.Prelude.{ℕ, nat_le, Bool, true, false, List, [], ◌∷◌, ◌++◌, Option, Some, None, if◌then◌else◌, codes}
use Rattle.std.specs.List.{flat_map}
use Rattle.std.specs.Option.{option_and_then, option_map}
use Rattle.wef_base.specs.Names.{channel_name, source_name, subscription_name, same}
use Rattle.wef_base.specs.Numbers.{plain_number}
use Rattle.wef_base.specs.Words.{decoded}
use Rattle.wef_replay_values.specs.Reading.{with_first}
use Rattle.wef_replay_values.specs.declared.end_name.EndName.{EndName}
use Rattle.wef_replay_values.specs.declared.end_name.EndName.TheVariants as end

-- a word and those that follow it, each behind the byte that separates them: the text that they were cut from
abbrev pub joined : ℕ → List ℕ → List (List ℕ) → List ℕ
joined separator first more = first ++ flat_map (λ word. separator ∷ word) more

abbrev pub subscription_word : List ℕ → Option (List ℕ)
subscription_word word = option_and_then subscription_name (decoded word)

abbrev pub source_word : List ℕ → Option (List ℕ)
source_word word = option_and_then source_name (decoded word)

abbrev pub channel_word : List ℕ → Option (List ℕ)
channel_word word = option_and_then channel_name (decoded word)

-- any name but `collector`, which is the other end
abbrev pub unless_collector : List ℕ → Option (List ℕ)
unless_collector name = if same name (codes "collector") then None else Some name

abbrev pub sending_source_word : List ℕ → Option (List ℕ)
sending_source_word word = option_and_then unless_collector (source_word word)

-- an end: the word `collector` as it stands, or the name of a source
abbrev pub end_word : List ℕ → Option EndName
end_word word = if same word (codes "collector") then Some end.Collector else option_map (λ s. end.Source s) (sending_source_word word)

-- whether it is after a commit that the commit fails: `before` or `after`
abbrev pub after_word : List ℕ → Option Bool
after_word word = if same word (codes "before") then Some false else (if same word (codes "after") then Some true else None)

abbrev pub at_least : ℕ → ℕ → Option ℕ
at_least least n = if nat_le least n then Some n else None

-- a number from least to greatest
abbrev pub number_word : ℕ → ℕ → List ℕ → Option ℕ
number_word least greatest word = option_and_then (at_least least) (plain_number greatest word)

-- the channels that words name, where each is one
abbrev pub channel_words : List (List ℕ) → Option (List (List ℕ))
channel_words [] = Some []
channel_words (word ∷ words) = with_first (channel_word word) (channel_words words)
