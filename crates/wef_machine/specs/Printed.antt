-- What the lines of a schedule print.
use Rattle.std.specs.Prelude.{ℕ, List, [], ◌∷◌, ◌++◌, codes}
use Rattle.std.specs.Fmt.{decimal}
use Rattle.wef_base.specs.Printed.{printed}
use Rattle.wef_machine.specs.declared.arming.Fate.{Fate}
use Rattle.wef_machine.specs.declared.arming.Fate.TheVariants.{Done, Failed, Stopped}
use Rattle.wef_ids.specs.declared.FaultName.{FaultName}
use Rattle.wef_ids.specs.Faults.{fault_text}
use Rattle.wef_lines.specs.Printed.{name_line}

-- `batch U S ANSWER`
unfoldable pub batch_text : List ℕ → List ℕ → List ℕ → List ℕ
batch_text u s answer = codes "batch " ++ printed u ++ 32 ∷ printed s ++ 32 ∷ answer ++ 10 ∷ []

-- `fault NAME`
unfoldable pub fault_answer : FaultName → List ℕ
fault_answer name = codes "fault " ++ fault_text name

-- a word and the names of a source and a subscription
unfoldable pub pair_line : List ℕ → List ℕ → List ℕ → List ℕ
pair_line word s u = word ++ 32 ∷ printed s ++ 32 ∷ printed u ++ 10 ∷ []

-- `wrote S C N`
unfoldable pub wrote_line : List ℕ → List ℕ → ℕ → List ℕ
wrote_line s c n = codes "wrote " ++ printed s ++ 32 ∷ printed c ++ 32 ∷ decimal n ++ 10 ∷ []

-- `sent K ask S`
unfoldable pub sent_ask_line : ℕ → List ℕ → List ℕ
sent_ask_line k s = codes "sent " ++ decimal k ++ codes " ask " ++ printed s ++ 10 ∷ []

-- `sent K WORD S U`
unfoldable pub sent_line : ℕ → List ℕ → List ℕ → List ℕ → List ℕ
sent_line k word s u = codes "sent " ++ decimal k ++ 32 ∷ word ++ 32 ∷ printed s ++ 32 ∷ printed u ++ 10 ∷ []

-- `took K WORD`
unfoldable pub took_line : ℕ → List ℕ → List ℕ
took_line k word = codes "took " ++ decimal k ++ 32 ∷ word ++ 10 ∷ []

-- `took K WORD sent J`, where the answer is message J
unfoldable pub answered_line : ℕ → List ℕ → ℕ → List ℕ
answered_line k word j = codes "took " ++ decimal k ++ 32 ∷ word ++ codes " sent " ++ decimal j ++ 10 ∷ []

-- `message K TEXT`
unfoldable pub text_line : ℕ → List ℕ → List ℕ
text_line k text = codes "message " ++ decimal k ++ 32 ∷ text ++ 10 ∷ []

-- `no message K`
unfoldable pub no_message_line : ℕ → List ℕ
no_message_line k = codes "no message " ++ decimal k ++ 10 ∷ []

-- `adopted N`
unfoldable pub adopted_word : ℕ → List ℕ
adopted_word n = codes "adopted " ++ decimal n

-- why an end did nothing: it was stopped in a commit, or the commit failed
abbrev pub fate_word : Fate → List ℕ
fate_word Done = []
fate_word Failed = codes "failed"
fate_word Stopped = codes "stopped"

-- `failed X` or `stopped X`
abbrev pub fate_line : Fate → List ℕ → List ℕ
fate_line fate name = name_line (fate_word fate) name

-- the collector's name in what is printed
abbrev pub collector_name : List ℕ
collector_name = codes "collector"
