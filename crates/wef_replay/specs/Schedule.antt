-- A whole schedule: its lines where each is good, else the first that isn't.
use Rattle.std.specs.Prelude.{◌≡◌, ℕ, ◌+◌, nat_lt, Bool, List, [], ◌∷◌, length, is_some, Option, Some, None, Result, if◌then◌else◌}
use Rattle.std.specs.declared.result.Result.TheVariants.{Ok, Err}
use Rattle.std.specs.Option.{option_and_then, option_flatten}
use Rattle.wef_base.specs.Words.{parts}
use Rattle.wef_replay.specs.Good.{Names, allows, no_names, noted}
use Rattle.wef_replay.specs.Grammar.{meaning}
use Rattle.wef_replay.specs.declared.lines.Line.{Line}
use Rattle.wef_replay.specs.declared.schedule.ScheduleFault.{ScheduleFault}
use Rattle.wef_replay.specs.declared.schedule.ScheduleFault.TheVariants.{NoMemory, BadLine, TooLong}

-- what a line does, where it may follow lines that gave these names
abbrev pub if_allowed : Names → Option Line → Option (Option Line)
if_allowed names None = Some None
if_allowed names (Some line) = if allows names line then Some (Some line) else None

-- What a good line does after lines that gave these names: a line, or nothing (`Some None`). None where it isn't good there.
abbrev pub meaning_after : Names → List ℕ → Option (Option Line)
meaning_after names text = option_and_then (if_allowed names) (meaning text)

-- whether a line is good after lines that gave these names
abbrev pub is_good : Names → List ℕ → Bool
is_good names text = is_some (meaning_after names text)

-- the names that lines gave, once one more did this
abbrev pub noted_if_some : Option Line → Names → Names
noted_if_some None names = names
noted_if_some (Some line) names = noted line names

-- the names that lines gave, once one more good line came
abbrev pub names_after : Names → List ℕ → Names
names_after names text = noted_if_some (option_flatten (meaning_after names text)) names

-- the number of the first line that isn't good, where the first of these has the number k and those before them gave these names
abbrev pub first_bad : Names → ℕ → List (List ℕ) → Option ℕ
first_bad names k [] = None
first_bad names k (text ∷ texts) = if is_good names text then first_bad (names_after names text) (k + 1) texts else Some k

-- a line that does something, in front of others
abbrev pub with_line : Option Line → List Line → List Line
with_line None lines = lines
with_line (Some line) lines = line ∷ lines

-- what the lines do after lines that gave these names, up to the first that isn't good; those left out that do nothing
abbrev pub lines_of : Names → List (List ℕ) → List Line
lines_of names [] = []
lines_of names (text ∷ texts) =
    if is_good names text then with_line (option_flatten (meaning_after names text)) (lines_of (names_after names text) texts) else []

-- the texts of the lines: parted by LF. The last may lack it; where it has it, an empty text follows, which does nothing.
abbrev pub texts_of : List ℕ → List (List ℕ)
texts_of bytes = parts 10 bytes

abbrev pub unless_bad : Option ℕ → List Line → Result (List Line) ScheduleFault
unless_bad None lines = Ok lines
unless_bad (Some k) lines = Err (BadLine k)

-- What a schedule is: too long above 16 MiB, which comes first; else its first bad line; else its lines.
unfoldable pub schedule_of : List ℕ → Result (List Line) ScheduleFault
schedule_of bytes =
    if nat_lt 16777216 (length bytes) then Err TooLong else
    unless_bad (first_bad no_names 1 (texts_of bytes)) (lines_of no_names (texts_of bytes))

-- A reader of schedules answers that, or wants memory.
abbrev pub ReadsSchedule : Result (List Line) ScheduleFault → Result (List Line) ScheduleFault → Type 0
ReadsSchedule (Err NoMemory) schedule = Unit {0}
ReadsSchedule result schedule = schedule ≡ result
