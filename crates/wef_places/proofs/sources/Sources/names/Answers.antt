use Rattle.std.proofs.Common.{◌≡◌, ℕ, List, ◌++◌, [], ap, map, sym, ◌∙◌, append-nil}
use Rattle.std.specs.FinMap as finite
use Rattle.wef_machine.specs.States.{Slot, Slots}
use Rattle.wef_places.proofs.InOrder.{entries_of}
use Rattle.wef_places.proofs.sources.Sources.names.Goals as goal

-- the names of entries
abbrev named : List (List ℕ × Slot) → List (List ℕ)
named entries = map (λ entry. entry.0) entries

pub returns : goal.returns
returns c =
    let read = c.loop-name.names in
    let given : ◌≡◌ {A = List (List ℕ × Slot)} c.into_iter-name-iterator.result c.self.inside.slots.entries = c.into_iter-name-iterator.ensures.into_iter_gives.0 in
    let left : ◌≡◌ {A = List (List ℕ × Slot)} c.loop-name.name-iterator [] = c.in-None.ensures.steps.0 in
    sym (append-nil read)
    ∙ ap (λ (es : List (List ℕ × Slot)). read ++ named es) (sym left)
    ∙ c.loop-name.invariant
    ∙ ap named given
    ∙ ap named (sym (entries_of c.self.inside.slots.entries c.self.invariant))
    ∙ ap (λ (slots : Slots). named (finite.entries slots)) c.self.view_is
