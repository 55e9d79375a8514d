-- Runs of numbers: the maximal ranges of consecutive numbers that spans cover together. Spans stand in rising order.
use Rattle.std.specs.Prelude.{ℕ, ◌+◌, ◌==◌, nat_le, max, Bool, List, [], ◌∷◌, ◌++◌, Option, Some, None, if◌then◌else◌}
use Rattle.std.specs.Fmt.{decimal}
use Rattle.std.specs.List.{flat_map}
use Rattle.wef_collector_reports.specs.declared.runs.Span.{Span}

-- the two have a number in common, or none lies between them
abbrev pub touches : Span → Span → Bool
touches run next = nat_le next.first (run.last + 1)

-- a run that the next span goes on
abbrev pub grown : Span → Span → Span
grown run next = record { first = run.first; last = max run.last next.last }

-- the runs of spans, behind a run that is still open
abbrev pub runs_behind : Span → List Span → List Span
runs_behind run [] = run ∷ []
runs_behind run (next ∷ spans) = if touches run next then runs_behind (grown run next) spans else run ∷ runs_behind next spans

abbrev pub runs_from : Option Span → List Span → List Span
runs_from (Some run) spans = runs_behind run spans
runs_from None [] = []
runs_from None (next ∷ spans) = runs_behind next spans

-- the runs of spans
abbrev pub runs_of : List Span → List Span
runs_of spans = runs_from None spans

-- `A-B`, or `A` for one number
abbrev pub run_text : Span → List ℕ
run_text run = if run.first == run.last then decimal run.first else decimal run.first ++ 45 ∷ decimal run.last

-- each run behind a space
abbrev pub runs_text : List Span → List ℕ
runs_text runs = flat_map (λ run. 32 ∷ run_text run) runs
