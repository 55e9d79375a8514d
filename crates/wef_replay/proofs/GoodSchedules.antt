-- The lines of a schedule are good, each after those before it.
use Rattle.std.proofs.Common.{◌≡◌, ℕ, ◌+◌, Bool, true, false, cond, List, [], ◌∷◌, length, refl, nat_lt, Ok, Err, Result, subst, IfOk}
use Rattle.std.specs.Prelude.{Option, Some, None}
use Rattle.std.specs.List.{All}
use Rattle.std.specs.Option.{option_and_then}
use Rattle.std.proofs.lemmas.Bool.{and_from}
use Rattle.std.proofs.lemmas.List.Elements.{All-cons, All-nil}
use Rattle.wef_replay.specs.Good.{AreGood, Names, allows, is_line, no_names, noted}
use Rattle.wef_replay.specs.Grammar.{meaning}
use Rattle.wef_replay.specs.Laws.{ScheduleEventsArePlain, ScheduleLinesAreGood}
use Rattle.wef_replay.specs.PlainEvents.{HasPlainEvents}
use Rattle.wef_replay.specs.Schedule.{ReadsSchedule, first_bad, if_allowed, lines_of, schedule_of, texts_of, unless_bad}
use Rattle.wef_replay.specs.declared.lines.Line.{Line}
use Rattle.wef_replay.specs.declared.schedule.ScheduleFault.{ScheduleFault}
use Rattle.wef_replay.specs.declared.schedule.ScheduleFault.TheVariants.{BadLine, NoMemory, TooLong}
use Rattle.wef_replay.proofs.Following.{bad_by, lines_by}
use Rattle.wef_replay.proofs.Gifts.{AllOf}
use Rattle.wef_replay.proofs.GoodLines.{IsGoodLine, good-meaning}

-- where a line that isn't bad stands in front, it is good there
good_line : (names : Names) (k : ℕ) (texts : List (List ℕ)) (line : Line) (may : Bool) → allows names line ≡ may → is_line line ≡ true
    → bad_by (cond may (Some (Some line)) None) names k texts ≡ None
    → (first_bad (noted line names) (k + 1) texts ≡ None → AreGood (noted line names) (lines_of (noted line names) texts))
    → AreGood names (lines_by (cond may (Some (Some line)) None) names texts)
good_line names k texts line true allowed good e rest = (and_from (is_line line) (allows names line) good allowed, rest e)
good_line names k texts line false allowed good e rest = cc

-- where no line is bad, all are good
good_lines : (names : Names) (k : ℕ) (texts : List (List ℕ)) → first_bad names k texts ≡ None → AreGood names (lines_of names texts)
good_lines names k [] e = tt
good_lines names k (text ∷ texts) e = by (λ (after : Names) h. good_lines after (k + 1) texts h) (meaning text) (good-meaning text) e
  where
    by : ((after : Names) → first_bad after (k + 1) texts ≡ None → AreGood after (lines_of after texts)) → (m : Option (Option Line)) → AllOf (AllOf IsGoodLine) m
        → bad_by (option_and_then (if_allowed names) m) names k texts ≡ None → AreGood names (lines_by (option_and_then (if_allowed names) m) names texts)
    by rest None good e = cc
    by rest (Some None) good e = rest names e
    by rest (Some (Some line)) good e = good_line names k texts line (allows names line) refl good.0 e (rest (noted line names))

pub lines_are_good : ScheduleLinesAreGood
unfolding schedule_of
lines_are_good bytes lines e = by (nat_lt 16777216 (length bytes)) (first_bad no_names 1 (texts_of bytes)) refl e
  where
    by : (b : Bool) (bad : Option ℕ) → first_bad no_names 1 (texts_of bytes) ≡ bad → cond b (Err TooLong) (unless_bad bad (lines_of no_names (texts_of bytes))) ≡ Ok lines → AreGood no_names lines
    by true bad none e = cc
    by false (Some k) none e = cc
    by false None none e = let same : lines_of no_names (texts_of bytes) ≡ lines = cc in subst (AreGood no_names) same (good_lines no_names 1 (texts_of bytes) none)

-- the events of all lines are plain
plain_lines : (names : Names) (texts : List (List ℕ)) → All HasPlainEvents (lines_of names texts)
plain_lines names [] = All-nil HasPlainEvents
plain_lines names (text ∷ texts) = by (λ (after : Names). plain_lines after texts) (meaning text) (good-meaning text)
  where
    if_may : (may : Bool) (line : Line) → HasPlainEvents line → All HasPlainEvents (lines_of (noted line names) texts) → All HasPlainEvents (lines_by (cond may (Some (Some line)) None) names texts)
    if_may true line plain rest = All-cons HasPlainEvents line (lines_of (noted line names) texts) plain rest
    if_may false line plain rest = All-nil HasPlainEvents

    by : ((after : Names) → All HasPlainEvents (lines_of after texts)) → (m : Option (Option Line)) → AllOf (AllOf IsGoodLine) m → All HasPlainEvents (lines_by (option_and_then (if_allowed names) m) names texts)
    by rest None good = All-nil HasPlainEvents
    by rest (Some None) good = rest names
    by rest (Some (Some line)) good = if_may (allows names line) line good.1 (rest (noted line names))

pub events_are_plain : ScheduleEventsArePlain
unfolding schedule_of
events_are_plain bytes lines e = by (nat_lt 16777216 (length bytes)) (first_bad no_names 1 (texts_of bytes)) e
  where
    by : (b : Bool) (bad : Option ℕ) → cond b (Err TooLong) (unless_bad bad (lines_of no_names (texts_of bytes))) ≡ Ok lines → All HasPlainEvents lines
    by true bad e = cc
    by false (Some k) e = cc
    by false None e = let same : lines_of no_names (texts_of bytes) ≡ lines = cc in subst (All HasPlainEvents) same (plain_lines no_names (texts_of bytes))

-- what a reader of schedules gives is good
pub good_when_read : (bytes : List ℕ) (result : Result (List Line) ScheduleFault) → ReadsSchedule result (schedule_of bytes) → IfOk result (AreGood no_names)
good_when_read bytes (Ok lines) read = lines_are_good bytes lines read
good_when_read bytes (Err NoMemory) read = tt
good_when_read bytes (Err (BadLine k)) read = tt
good_when_read bytes (Err TooLong) read = tt

-- and its events are plain
pub plain_when_read : (bytes : List ℕ) (result : Result (List Line) ScheduleFault) → ReadsSchedule result (schedule_of bytes) → IfOk result (All HasPlainEvents)
plain_when_read bytes (Ok lines) read = events_are_plain bytes lines read
plain_when_read bytes (Err NoMemory) read = tt
plain_when_read bytes (Err (BadLine k)) read = tt
plain_when_read bytes (Err TooLong) read = tt
