-- Where memory is wanting to read the words, nothing is done.
use Rattle.std.proofs.Common.{◌∙◌, ℕ, List, inl, inr, refl, sym}
use Rattle.std.proofs.lemmas.List.{append-nil}
use Rattle.std.specs.Prelude.{Option, None, Some, IfSome, Result}
use Rattle.std.specs.declared.result.Result.TheVariants.{Ok, Err}
use Rattle.std.specs.Io.KnownBytes.{Keeps}
use Rattle.wef_keeper.specs.Keeping.{Store}
use Rattle.wef_replay.specs.Schedule.{schedule_of}
use Rattle.wef_replay.specs.declared.lines.Line.{Line}
use Rattle.wef_replay.specs.declared.schedule.ScheduleFault as fault
use Rattle.wef_machine.specs.Steps.{trail}
use Rattle.wef_commands.specs.Endings.{IsUnwritten, Told}
use Rattle.wef_commands.specs.Streams.{WritesPart}
use Rattle.wef_commands.specs.declared.ending.Ending.TheVariants as ends
use Rattle.wef_cli.specs.Replaying.{WroteAtMost}
use Rattle.wef_cli.specs.Runs.{AreUnused, Peers, RunEnds}
use Rattle.wef_command_line.specs.declared.command.Command.{Command}
use Rattle.wef_command_line.specs.declared.command.Command.TheVariants as the

-- nothing is a front part of any text
no_part : (before after : Option (List ℕ)) (text : List ℕ) → Keeps before after → WritesPart before after text
no_part None after text kept = (0, tt)
no_part (Some bytes) None text kept = absurd kept
no_part (Some bytes) (Some more) text kept = (0, kept ∙ sym (append-nil bytes))

at_most : (out : Told) (schedule : Result (List Line) fault.ScheduleFault) → IsUnwritten out → WroteAtMost out schedule
at_most out (Ok lines) unwritten = no_part out.before out.after (trail lines) unwritten
at_most out (Err e) unwritten = unwritten

none_done : (read : Option (List ℕ)) (out : Told) → IsUnwritten out → IfSome read (λ bytes. WroteAtMost out (schedule_of bytes))
none_done None out unwritten = tt
none_done (Some bytes) out unwritten = at_most out (schedule_of bytes) unwritten

pub nothing_done : (command : Option Command) (input out : Told) (peers : Peers) (store : Store) → Keeps input.before input.after → IsUnwritten out → AreUnused peers
    → RunEnds command ends.NoMemory input out peers store store
nothing_done None input out peers store kept unwritten unused = (tt, kept, unwritten, refl, unused)
nothing_done (Some the.Replay) input out peers store kept unwritten unused = (none_done input.before out unwritten, refl, unused)
nothing_done (Some (the.Made seed size)) input out peers store kept unwritten unused = (kept, inr (refl, unwritten), refl, unused)
nothing_done (Some the.Add) input out peers store kept unwritten unused = (inl (tt, unwritten, refl), unused)
nothing_done (Some (the.Remove u)) input out peers store kept unwritten unused = (kept, inl (refl, unwritten, refl), unused)
nothing_done (Some the.List) input out peers store kept unwritten unused = (kept, inl (refl, unwritten, refl), unused)
nothing_done (Some the.Check) input out peers store kept unwritten unused = (unwritten, refl, unused)
nothing_done (Some the.Write) input out peers store kept unwritten unused = (inl (tt, unwritten, refl), unused)
nothing_done (Some (the.Collect address connections)) input out peers store kept unwritten unused = (kept, inl ((refl, unwritten, refl), unused.0), unused.1)
nothing_done (Some (the.Forward address source deliveries)) input out peers store kept unwritten unused = (kept, inl ((refl, unwritten, refl), unused.1), unused.0)
nothing_done (Some (the.Request address requests)) input out peers store kept unwritten unused = (kept, inl ((refl, unwritten, refl), unused.1), unused.0)
nothing_done (Some (the.Serve address source connections)) input out peers store kept unwritten unused = (kept, inl ((refl, unwritten, refl), unused.0, unused.1))
nothing_done (Some the.Show) input out peers store kept unwritten unused = (kept, inl (refl, unwritten, refl), unused)
nothing_done (Some (the.Events u s c)) input out peers store kept unwritten unused = (kept, inl (refl, unwritten, refl), unused)
nothing_done (Some (the.Status u)) input out peers store kept unwritten unused = (kept, inl (refl, unwritten, refl), unused)
