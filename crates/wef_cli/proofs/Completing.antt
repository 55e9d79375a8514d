-- Why a run ends as its input calls for.
use Rattle.std.proofs.Common.{◌≡◌, ℕ, List, refl, ap, sym, subst, ◌∙◌, inl, inr}
use Rattle.std.proofs.lemmas.Option.{none-some, same_Some}
use Rattle.std.specs.Prelude.{◌⊎◌, Option, Some, None, IfSome, Result}
use Rattle.std.specs.declared.result.Result.TheVariants.{Ok, Err}
use Rattle.wef_replay.specs.Schedule.{schedule_of}
use Rattle.wef_replay.specs.declared.lines.Line.{Line}
use Rattle.wef_replay.specs.declared.schedule.ScheduleFault as fault
use Rattle.wef_commands.specs.Checking.{CheckEnds, WroteAnswers, checked, lines_of}
use Rattle.wef_commands.specs.Endings.{HasFailed, IsToldAs, Told}
use Rattle.wef_commands.specs.Writing.{EndsJudging, IsBad, bad_line, events_of}
use Rattle.wef_commands.specs.declared.ending.Ending.{Ending}
use Rattle.wef_commands.specs.declared.ending.Ending.TheVariants as ends
use Rattle.wef_cli.specs.Complete.{BadLinesAreTold, EndsAs, EndsAsCalledFor, ending_checked, ending_for}
use Rattle.wef_command_line.specs.declared.command.Command.TheVariants.{Check, Replay}
use Rattle.wef_cli.specs.Replaying.{IsBadAt, IsTooLong, ReplayEnds, WroteTrail}

told_at : (told : Option (List ℕ)) (bytes : List ℕ) (P : List ℕ → Type 0) → told ≡ Some bytes → IfSome told P → P bytes
told_at told bytes P is h = subst (λ (o : Option (List ℕ)). IfSome o P) is h

was_good : (out : Told) (schedule : Result (List Line) fault.ScheduleFault) → WroteTrail out schedule → ends.Done ≡ ending_for schedule
was_good out (Ok lines) h = refl
was_good out (Err e) h = absurd h

ends_so : (ending : Ending) (input out : Told) (bytes : List ℕ) → ReplayEnds ending input out → input.before ≡ Some bytes
    → (HasFailed input → ⊥) → (HasFailed out → ⊥) → (ending ≡ ending_for (schedule_of bytes)) ⊎ (ending ≡ ends.NoMemory)
ends_so ends.Done input out bytes ended told reads writes = inl (was_good out (schedule_of bytes) (told_at input.before bytes (λ b. WroteTrail out (schedule_of b)) told ended.1))
ends_so (ends.BadLine k) input out bytes ended told reads writes = inl (sym (ap ending_for (told_at input.before bytes (IsBadAt k) told ended.0.1)))
ends_so ends.TooLong input out bytes ended told reads writes = inl (sym (ap ending_for (told_at input.before bytes IsTooLong told ended.0)))
ends_so ends.InputFailed input out bytes ended told reads writes = absurd (reads ended.0)
ends_so ends.OutputFailed input out bytes ended told reads writes = absurd (writes ended.0)
ends_so ends.NoMemory input out bytes ended told reads writes = inr refl
ends_so _ input out bytes ended told reads writes = absurd ended

told_so : (ending told goal : Ending) → IsToldAs ending told → (ending ≡ goal) ⊎ (ending ≡ ends.NoMemory) → (told ≡ goal) ⊎ (told ≡ ends.NoMemory)
told_so ending told goal (inr wanting) is = inr wanting.1
told_so ending told goal (inl same) is = subst (λ (e : Ending). (e ≡ goal) ⊎ (e ≡ ends.NoMemory)) (sym same) is

replay_complete : EndsAs Replay (λ bytes. ending_for (schedule_of bytes))
replay_complete ending told input out peers before now bytes ended same input_told reads writes =
    told_so ending told (ending_for (schedule_of bytes)) same (ends_so ending input out bytes ended.0 input_told reads writes)

was_answered : (out : Told) (given : Result (List ℕ) Ending) → WroteAnswers out given → ends.Done ≡ ending_checked given
was_answered out (Ok text) h = refl
was_answered out (Err e) h = absurd h

checks_so : (ending : Ending) (input out : Told) (bytes : List ℕ) → CheckEnds ending input out → input.before ≡ Some bytes
    → (HasFailed input → ⊥) → (HasFailed out → ⊥) → (ending ≡ ending_checked (checked bytes)) ⊎ (ending ≡ ends.NoMemory)
checks_so ends.Done input out bytes ended told reads writes = inl (was_answered out (checked bytes) (told_at input.before bytes (λ b. WroteAnswers out (checked b)) told ended.1))
checks_so (ends.BadLine k) input out bytes ended told reads writes = inl (sym (ap ending_checked (told_at input.before bytes (λ b. checked b ≡ Err (ends.BadLine k)) told ended.0.1)))
checks_so ends.InputFailed input out bytes ended told reads writes = absurd (reads ended.0)
checks_so ends.OutputFailed input out bytes ended told reads writes = absurd (writes ended.0)
checks_so ends.NoMemory input out bytes ended told reads writes = inr refl
checks_so _ input out bytes ended told reads writes = absurd ended

check_complete : EndsAs Check (λ bytes. ending_checked (checked bytes))
check_complete ending told input out peers before now bytes ended same input_told reads writes =
    told_so ending told (ending_checked (checked bytes)) same (checks_so ending input out bytes ended.0 input_told reads writes)

pub complete : EndsAsCalledFor
complete = (replay_complete, check_complete)

-- a line that says no event is told
judges_so : (ending : Ending) (input : Told) (bytes : List ℕ) (k : ℕ) → EndsJudging ending input → input.before ≡ Some bytes → (HasFailed input → ⊥) → bad_line bytes ≡ Some k
    → (ending ≡ ends.BadLine k) ⊎ (ending ≡ ends.NoMemory)
judges_so (ends.BadLine j) input bytes k judged told reads bad =
    inl (ap ends.BadLine (same_Some j k (sym (told_at input.before bytes (IsBad (ends.BadLine j)) told judged.1) ∙ bad)))
judges_so ends.InputFailed input bytes k judged told reads bad = absurd (reads judged)
judges_so ends.NoMemory input bytes k judged told reads bad = inr refl
judges_so _ input bytes k judged told reads bad = absurd judged

pub bad_lines_told : BadLinesAreTold
bad_lines_told ending told input out peers before now bytes k (inl (judged, unwritten, stays), unused) same input_told reads bad =
    (told_so ending told (ends.BadLine k) same (judges_so ending input bytes k judged input_told reads bad), unwritten, stays)
bad_lines_told ending told input out peers before now bytes k (inr (events, has, ended), unused) same input_told reads bad =
    let good = told_at input.before bytes (λ b. (bad_line b ≡ None) × (events_of (lines_of b) ≡ events)) input_told has.0.1 in
    absurd (none-some k (sym good.0 ∙ bad))
