use Rattle.std.proofs.Common.{◌≡◌, ℕ, List, ◌++◌, [], ap, map, sym, ◌∙◌, append-nil}
use Rattle.std.specs.FinMap as finite
use Rattle.wef_source_log.specs.Histories.{Histories, History}
use Rattle.wef_places.proofs.InOrder.{entries_of}
use Rattle.wef_places.proofs.histories.Histories.channels.Goals as goal

-- the names of entries
abbrev named : List (List ℕ × History) → List (List ℕ)
named entries = map (λ entry. entry.0) entries

pub returns : goal.returns
returns c =
    let read = c.loop-name.names in
    let given : ◌≡◌ {A = List (List ℕ × History)} c.into_iter-name-iterator.result c.self.inside.records.entries = c.into_iter-name-iterator.ensures.into_iter_gives.0 in
    let left : ◌≡◌ {A = List (List ℕ × History)} c.loop-name.name-iterator [] = c.in-None.ensures.steps.0 in
    sym (append-nil read)
    ∙ ap (λ (es : List (List ℕ × History)). read ++ named es) (sym left)
    ∙ c.loop-name.invariant
    ∙ ap named given
    ∙ ap named (sym (entries_of c.self.inside.records.entries c.self.invariant))
    ∙ ap (λ (histories : Histories). named (finite.entries histories)) c.self.view_is
