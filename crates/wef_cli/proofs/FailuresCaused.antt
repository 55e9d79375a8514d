-- Why a run says that its store failed.
use Rattle.std.proofs.Common.{◌≡◌, ℕ, ◌+◌, ◌≤◌, true, List, [], ◌∷◌, length, refl, sym, subst, arith, inl, inr}
use Rattle.std.specs.Prelude.{Option, Some, None, Result, Err}
use Rattle.wef_keeper.specs.Access.{HasCause}
use Rattle.wef_keeper.specs.Keeping.{Store}
use Rattle.wef_collector_rows.specs.Forms.{AreFormed}
use Rattle.wef_collector_rows.specs.declared.faults.CollectorFault.{CollectorFault}
use Rattle.wef_collector_rows.specs.declared.faults.CollectorFault.TheVariants as faults
use Rattle.wef_collector_reports.specs.declared.listing.Listed.{Listed}
use Rattle.wef_event.specs.Events.{Event}
use Rattle.wef_eventing.specs.declared.subscriptions.Subscription.{Subscription}
use Rattle.wef_ports.specs.Telling as ports
use Rattle.wef_source_log.specs.Forms as source
use Rattle.wef_source_log.specs.declared.faults.LogFault.{LogFault}
use Rattle.wef_source_log.specs.declared.faults.LogFault.TheVariants as log_faults
use Rattle.wef_commands.specs.Adding.{Adds, added_text}
use Rattle.wef_commands.specs.Calling.{CallEnds, Starts, WroteOut, named_ending}
use Rattle.wef_commands.specs.Endings.{Told}
use Rattle.wef_commands.specs.Listing.{Lists, WroteList}
use Rattle.wef_commands.specs.Refusals.{log_ending, store_ending}
use Rattle.wef_commands.specs.Removing.{Ends, ended_text}
use Rattle.wef_commands.specs.Writing.{EndsBefore, StartsLog, WriteEnds, WritesAll, WritesEvent, Wrote, write_ending, written_text}
use Rattle.wef_commands.specs.Showing.{Reports}
use Rattle.wef_commands.specs.Statuses.{TellsStatuses}
use Rattle.wef_commands.specs.declared.ending.Ending.{Ending}
use Rattle.wef_commands.specs.declared.ending.Ending.TheVariants as ends
use Rattle.wef_running.specs.Collecting.{CollectEnds}
use Rattle.wef_cli.specs.Complete.{FailsWithCause}
use Rattle.wef_command_line.specs.declared.command.Command.TheVariants as the
use Rattle.wef_cli.proofs.Causes.{later_caused, not_failed}
use Rattle.wef_cli.proofs.ForwardsCaused.{forwarding_caused}
use Rattle.wef_cli.proofs.RequestsCaused.{requests_caused}
use Rattle.wef_cli.proofs.ServesCaused.{serving_run_caused}

abbrev Caused : Store → Store → Type 0
Caused before now = HasCause AreFormed true before now

-- why the collector can't be started
start_caused : (before now : Store) (fault : CollectorFault) → Starts (Err fault) before now → ends.StoreFailed ≡ store_ending fault → Caused before now
start_caused before now faults.Failed start is = start.0.cause
start_caused before now faults.NoMemory start is = absurd (not_failed ends.NoMemory refl is)
start_caused before now faults.Full start is = absurd (not_failed ends.Full refl is)
start_caused before now _ start is = absurd start.1

add_caused : (s : Subscription) (before now : Store) (fault : CollectorFault) → Adds s (Err fault) before now → ends.StoreFailed ≡ named_ending s.name fault → Caused before now
add_caused s before now faults.Failed call is = call.0.cause
add_caused s before now faults.NoMemory call is = absurd (not_failed ends.NoMemory refl is)
add_caused s before now faults.Exists call is = absurd (not_failed (ends.Exists s.name) refl is)
add_caused s before now faults.TooMany call is = absurd (not_failed ends.TooMany refl is)
add_caused s before now _ call is = absurd call.1

end_caused : (u : List ℕ) (before now : Store) (fault : CollectorFault) → Ends u (Err fault) before now → ends.StoreFailed ≡ named_ending u fault → Caused before now
end_caused u before now faults.Failed call is = call.0.cause
end_caused u before now faults.NoMemory call is = absurd (not_failed ends.NoMemory refl is)
end_caused u before now faults.NoSubscription call is = absurd (not_failed (ends.Unknown u) refl is)
end_caused u before now faults.Ended call is = absurd (not_failed (ends.Already u) refl is)
end_caused u before now _ call is = absurd call.1

list_caused : (before now : Store) (fault : CollectorFault) → Lists (Err fault) before now → ends.StoreFailed ≡ store_ending fault → Caused before now
list_caused before now faults.Failed call is = call.0.opened.1
list_caused before now faults.NoMemory call is = absurd (not_failed ends.NoMemory refl is)
list_caused before now _ call is = absurd call.1

report_caused : (before now : Store) (fault : CollectorFault) → Reports (Err fault) before now → ends.StoreFailed ≡ store_ending fault → Caused before now
report_caused before now faults.Failed call is = call.0.opened.1
report_caused before now faults.NoMemory call is = absurd (not_failed ends.NoMemory refl is)
report_caused before now _ call is = absurd call.1

statuses_caused : (u : List ℕ) (moment : ℕ) (before now : Store) (fault : CollectorFault) → TellsStatuses u moment (Err fault) before now → ends.StoreFailed ≡ named_ending u fault → Caused before now
statuses_caused u moment before now faults.Failed call is = call.0.opened.1
statuses_caused u moment before now faults.NoMemory call is = absurd (not_failed ends.NoMemory refl is)
statuses_caused u moment before now faults.NoSubscription call is = absurd (not_failed (ends.Unknown u) refl is)
statuses_caused u moment before now _ call is = absurd call.1

-- why a call isn't done, where each refusal of the call itself has its cause
call_caused : {T : Type 0} (Call : Result T CollectorFault → Store → Store → Type 0) (refusal : CollectorFault → Ending) (Tells : T → Ending → Told → Type 0)
    (out : Told) (before now : Store)
    → ((mid : Store) (fault : CollectorFault) → Call (Err fault) mid now → ends.StoreFailed ≡ refusal fault → Caused mid now)
    → ((given : T) → Tells given ends.StoreFailed out → ⊥)
    → CallEnds Call refusal Tells ends.StoreFailed out before now → Caused before now
call_caused Call refusal Tells out before now caused silent (inl (fault, start, is, unwritten)) = start_caused before now fault start is
call_caused Call refusal Tells out before now caused silent (inr (inl (fault, started, is, unwritten))) =
    later_caused AreFormed before started.mid now started.start.0.faults (caused started.mid fault started.call is)
call_caused Call refusal Tells out before now caused silent (inr (inr (given, started, tells))) = absurd (silent given tells)

list_told : (list : List Listed) (out : Told) → WroteList list ends.StoreFailed out → ⊥
list_told list out (inl h) = h
list_told list out (inr (is, unwritten)) = not_failed ends.NoMemory refl is

collect_caused : (address : List ℕ) (connections : ℕ) (out : Told) (clock : Option ℕ) (f g : ports.Told) (before now : Store)
    → CollectEnds address connections ends.StoreFailed out clock f g before now → Caused before now
collect_caused address connections out clock f g before now (inl ((is, unwritten, same), unasked)) = absurd (not_failed ends.NoMemory refl is)
collect_caused address connections out clock f g before now (inr (inl (fault, start, is, unwritten, unasked))) = start_caused before now fault start is
collect_caused address connections out clock f g before now (inr (inr (mid, memory, memory_now, start, inl (is, refused, unwritten, same)))) = absurd (not_failed ends.ListeningFailed refl is)
collect_caused address connections out clock f g before now (inr (inr (mid, memory, memory_now, start, inr (inl (is, failed, part, bound, same))))) = absurd (not_failed ends.OutputFailed refl is)
collect_caused address connections out clock f g before now (inr (inr (mid, memory, memory_now, start, inr (inr served)))) = absurd served

-- ---- writing

-- why the log can't be started
log_start_caused : (before now : Store) (fault : LogFault) → StartsLog (Err fault) before now → ends.StoreFailed ≡ log_ending fault → HasCause source.AreFormed true before now
log_start_caused before now log_faults.Failed start is = start.0.cause
log_start_caused before now log_faults.NoMemory start is = absurd (not_failed ends.NoMemory refl is)
log_start_caused before now log_faults.Full start is = absurd (not_failed ends.Full refl is)
log_start_caused before now log_faults.TooLong start is = absurd start.1

write_caused : (k : ℕ) (event : Event) (before now : Store) (fault : LogFault) → WritesEvent event (Err fault) before now → ends.StoreFailed ≡ write_ending k fault
    → HasCause source.AreFormed true before now
write_caused k event before now log_faults.Failed write is = write.0.cause
write_caused k event before now log_faults.NoMemory write is = absurd (not_failed ends.NoMemory refl is)
write_caused k event before now log_faults.Full write is = absurd (not_failed ends.Full refl is)
write_caused k event before now log_faults.TooLong write is = absurd (not_failed (ends.BadLine k) refl is)

-- events that are written leave no lower count of faults
wrote_later : (events : List Event) (numbers : List ℕ) (before now : Store) → Wrote events numbers before now → before.faults ≤ now.faults
wrote_later [] [] before now same = subst (λ (s : Store). before.faults ≤ s.faults) (sym same) (omega arith)
wrote_later [] (n ∷ numbers) before now wrote = absurd wrote
wrote_later (event ∷ events) [] before now wrote = absurd wrote
wrote_later (event ∷ events) (n ∷ numbers) before now (mid, write, wrote) =
    let first = write.0.faults in
    let behind = wrote_later events numbers mid now wrote in
    omega (arith, first, behind)

stopped_caused : (k : ℕ) (events : List Event) (text : List ℕ) (out : Told) (before now : Store) → EndsBefore k events text ends.StoreFailed out before now
    → HasCause source.AreFormed true before now
stopped_caused k [] text out before now (is, told, same) = absurd (not_failed ends.Done refl is)
stopped_caused k (event ∷ events) text out before now (inl (is, told, same)) = absurd (not_failed ends.NoMemory refl is)
stopped_caused k (event ∷ events) text out before now (inr (inl (fault, write, is, told))) = write_caused k event before now fault write is
stopped_caused k (event ∷ events) text out before now (inr (inr (n, write, untold))) = absurd untold

events_caused : (events : List Event) (out : Told) (before now : Store) → WritesAll events ends.StoreFailed out before now → HasCause source.AreFormed true before now
events_caused events out before now (inl (fault, start, is, unwritten)) = log_start_caused before now fault start is
events_caused events out before now (inr (boot, mid, start, wrote)) =
    let started = start.0.faults in
    let later = wrote_later wrote.front wrote.numbers mid wrote.mid wrote.wrote in
    later_caused source.AreFormed before wrote.mid now (omega (arith, started, later))
    (stopped_caused (length wrote.front + 1) wrote.behind (written_text wrote.front wrote.numbers) out wrote.mid now wrote.stops)

writing_caused : (input out : Told) (before now : Store) → WriteEnds ends.StoreFailed input out before now → HasCause source.AreFormed true before now
writing_caused input out before now (inl (judged, unwritten, same)) = absurd judged
writing_caused input out before now (inr (events, has, ended)) = events_caused events out before now ended

pub fails_with_cause : FailsWithCause
fails_with_cause None input out peers before now ended = absurd ended.0
fails_with_cause (Some the.Replay) input out peers before now ended = absurd ended.0
fails_with_cause (Some (the.Made seed size)) input out peers before now (kept, inl wrote, same, unused) = absurd wrote
fails_with_cause (Some (the.Made seed size)) input out peers before now (kept, inr (is, unwritten), same, unused) = absurd (not_failed ends.NoMemory refl is)
fails_with_cause (Some the.Check) input out peers before now ended = absurd ended.0
fails_with_cause (Some (the.Collect address connections)) input out peers before now (kept, ended, link) =
    collect_caused address connections out peers.moment peers.front_before peers.front_after before now ended
fails_with_cause (Some the.Write) input out peers before now (ended, unused) = writing_caused input out before now ended
fails_with_cause (Some (the.Forward address source deliveries)) input out peers before now (kept, inl ((is, unwritten, same), unasked), unused) = absurd (not_failed ends.NoMemory refl is)
fails_with_cause (Some (the.Forward address source deliveries)) input out peers before now (kept, inr ended, unused) =
    forwarding_caused address source deliveries out peers.moment peers.link_before peers.link_after before now ended
fails_with_cause (Some (the.Request address requests)) input out peers before now (kept, inl ((is, unwritten, same), unasked), unused) = absurd (not_failed ends.NoMemory refl is)
fails_with_cause (Some (the.Request address requests)) input out peers before now (kept, inr (inl (fault, start, is, unwritten, unasked)), unused) = start_caused before now fault start is
fails_with_cause (Some (the.Request address requests)) input out peers before now (kept, inr (inr (mid, memory, memory_now, start, asks)), unused) =
    later_caused AreFormed before mid now start.0.faults (requests_caused peers.moment address requests out _ _ asks)
fails_with_cause (Some (the.Serve address s connections)) input out peers before now (kept, ended) =
    serving_run_caused address connections out peers.moment peers.front_before peers.front_after peers.link_before peers.link_after before now ended
fails_with_cause (Some the.Show) input out peers before now (kept, inl (is, unwritten, same), unused) = absurd (not_failed ends.NoMemory refl is)
fails_with_cause (Some the.Show) input out peers before now (kept, inr ended, unused) =
    call_caused Reports store_ending WroteOut out before now (λ mid fault. report_caused mid now fault) (λ text h. h) ended
fails_with_cause (Some (the.Events u s c)) input out peers before now (kept, inl (is, unwritten, same), unused) = absurd (not_failed ends.NoMemory refl is)
fails_with_cause (Some (the.Events u s c)) input out peers before now (kept, inr (inl (fault, start, is, unwritten)), unused) = start_caused before now fault start is
fails_with_cause (Some (the.Events u s c)) input out peers before now (kept, inr (inr started), unused) =
    later_caused AreFormed before started.mid now started.start.0.faults started.call.reads.1
fails_with_cause (Some (the.Status u)) input out peers before now (kept, inl (is, unwritten, same), unused) = absurd (not_failed ends.NoMemory refl is)
fails_with_cause (Some (the.Status u)) input out peers before now (kept, inr (moment, given, ended), unused) =
    call_caused (TellsStatuses u moment) (named_ending u) WroteOut out before now (λ mid fault. statuses_caused u moment mid now fault) (λ text h. h) ended
fails_with_cause (Some the.Add) input out peers before now (inl (read, unwritten, same), unused) = absurd read
fails_with_cause (Some the.Add) input out peers before now (inr (s, has, again, ended), unused) =
    call_caused (Adds s) (named_ending s.name) (λ _. WroteOut (added_text s.name)) out before now (λ mid fault. add_caused s mid now fault) (λ given h. h) ended
fails_with_cause (Some (the.Remove u)) input out peers before now (kept, inl (is, unwritten, same), unused) = absurd (not_failed ends.NoMemory refl is)
fails_with_cause (Some (the.Remove u)) input out peers before now (kept, inr ended, unused) =
    call_caused (Ends u) (named_ending u) (λ _. WroteOut (ended_text u)) out before now (λ mid fault. end_caused u mid now fault) (λ given h. h) ended
fails_with_cause (Some the.List) input out peers before now (kept, inl (is, unwritten, same), unused) = absurd (not_failed ends.NoMemory refl is)
fails_with_cause (Some the.List) input out peers before now (kept, inr ended, unused) =
    call_caused Lists store_ending WroteList out before now (λ mid fault. list_caused mid now fault) (λ list h. list_told list out h) ended
