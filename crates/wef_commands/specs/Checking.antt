-- What `check` prints for an input, and how it ends.
use Rattle.std.specs.Prelude.{◌≡◌, ℕ, ◌+◌, ◌==◌, Bool, true, List, [], ◌∷◌, ◌++◌, Option, Some, None, Result, codes, if◌then◌else◌}
use Rattle.std.specs.declared.result.Result.TheVariants.{Ok, Err}
use Rattle.std.specs.Io.KnownBytes.{Appends}
use Rattle.std.specs.Option.{option_map}
use Rattle.wef_base.specs.declared.tree.Element.{Element}
use Rattle.wef_event.specs.Events.{Event, event_in, event_of, event_or_none}
use Rattle.wef_query.specs.Selected.{is_selected}
use Rattle.wef_query.specs.declared.QueryList.{QueryList}
use Rattle.wef_lines.specs.Documents.{list_in}
use Rattle.wef_building.specs.Selecting.{is_wanted}
use Rattle.wef_commands.specs.Adding.{IsReadAs}
use Rattle.wef_commands.specs.Endings.{HasFailed, IsUnwritten, Told}
use Rattle.wef_commands.specs.Streams.{WritesPart}
use Rattle.wef_commands.specs.declared.ending.Ending.{Ending}
use Rattle.wef_commands.specs.declared.ending.Ending.TheVariants as ends

-- ---- lines

-- lines, once a byte stands in front of the first
abbrev pub begun : ℕ → List (List ℕ) → List (List ℕ)
begun b [] = (b ∷ []) ∷ []
begun b (line ∷ lines) = (b ∷ line) ∷ lines

-- The lines of a text. LF ends a line, and isn't part of it; the last line may lack it.
abbrev pub lines_of : List ℕ → List (List ℕ)
lines_of [] = []
lines_of (b ∷ bs) = if b == 10 then [] ∷ lines_of bs else begun b (lines_of bs)

-- ---- what lines say

-- whether a list selects the event that a line says, on the event's own channel; none where the line says no event
unfoldable pub answer_to : QueryList → List ℕ → Option Bool
answer_to list line = option_map (λ (event : Event). is_wanted list event.channel line) (event_in line)

-- the same of the root of the document that a line is
abbrev pub answer_by : QueryList → Element → Option Bool
answer_by list root = option_map (λ (event : Event). is_selected list.items event.channel root) (event_or_none (event_of true root))

-- ---- what is printed

abbrev pub answer_line : Bool → List ℕ
answer_line selects = if selects then codes "yes" ++ 10 ∷ [] else codes "no" ++ 10 ∷ []

-- goes on with an answer; where there is none, line k is bad
abbrev pub with_answer : ℕ → Option Bool → (Bool → Result (List ℕ) Ending) → Result (List ℕ) Ending
with_answer k (Some selects) more = more selects
with_answer k None more = Err (ends.BadLine k)

-- What is printed for lines of events, the first of which is line k, behind what is printed for those before them; or the first
-- of them that is bad.
abbrev pub answers_from : QueryList → List ℕ → ℕ → List (List ℕ) → Result (List ℕ) Ending
answers_from list printed k [] = Ok printed
answers_from list printed k (line ∷ lines) =
    with_answer k (answer_to list line) (λ selects. answers_from list (printed ++ answer_line selects) (k + 1) lines)

-- what is printed for lines behind the one of the list
abbrev pub with_list : Option QueryList → List (List ℕ) → Result (List ℕ) Ending
with_list (Some list) lines = answers_from list [] 2 lines
with_list None lines = Err (ends.BadLine 1)

-- what is printed for lines: the first says a list, each other one an event
abbrev pub answers_of : List (List ℕ) → Result (List ℕ) Ending
answers_of [] = Err (ends.BadLine 1)
answers_of (line ∷ lines) = with_list (list_in line) lines

-- what is printed for an input, or its first bad line
abbrev pub checked : List ℕ → Result (List ℕ) Ending
checked bytes = answers_of (lines_of bytes)

-- A maker of what is printed gives it, or the first bad line, but for want of memory.
abbrev pub Checks : Result (List ℕ) Ending → Result (List ℕ) Ending → Type 0
Checks (Ok text) given = given ≡ Ok text
Checks (Err (ends.BadLine k)) given = given ≡ Err (ends.BadLine k)
Checks (Err ends.NoMemory) given = Unit {0}
Checks (Err _) given = ⊥

-- ---- how it ends

-- The input is at its end, and for what was read this is printed.
abbrev pub HasAnswers : List ℕ → Told → Type 0
HasAnswers text input = IsReadAs (λ bytes. checked bytes ≡ Ok text) input

-- Why it ends before anything is printed; want of memory is free.
abbrev pub EndsUnanswered : Ending → Told → Type 0
EndsUnanswered (ends.BadLine k) input = IsReadAs (λ bytes. checked bytes ≡ Err (ends.BadLine k)) input
EndsUnanswered ends.InputFailed input = HasFailed input
EndsUnanswered ends.NoMemory input = Unit {0}
EndsUnanswered _ input = ⊥

-- What is written is all that is printed.
abbrev pub WroteAnswers : Told → Result (List ℕ) Ending → Type 0
WroteAnswers out (Ok text) = Appends out.before out.after text
WroteAnswers out (Err e) = ⊥

-- What is written is a front part of what is printed.
abbrev pub WroteSome : Told → Result (List ℕ) Ending → Type 0
WroteSome out (Ok text) = WritesPart out.before out.after text
WroteSome out (Err e) = ⊥

-- What the endings of `check` say. It writes nothing before all lines are read, and then all that is printed, or, where the output
-- fails, a front part of it.
abbrev pub CheckEnds : Ending → Told → Told → Type 0
CheckEnds ends.Done input out = IsReadAs (λ bytes. WroteAnswers out (checked bytes)) input
CheckEnds (ends.BadLine k) input out = EndsUnanswered (ends.BadLine k) input × IsUnwritten out
CheckEnds ends.InputFailed input out = EndsUnanswered ends.InputFailed input × IsUnwritten out
CheckEnds ends.OutputFailed input out = HasFailed out × IsReadAs (λ bytes. WroteSome out (checked bytes)) input
CheckEnds ends.NoMemory input out = IsUnwritten out
CheckEnds _ input out = ⊥
