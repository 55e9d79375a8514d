use Rattle.std.proofs.Common.{◌≡◌, ℕ, List, [], IfOk, ap, length, map, subst, sym, ◌∙◌}
use Rattle.std.proofs.lemmas.List.{nil_from_length}
use Rattle.std.specs.Cmp.Lexicographic.{slice_cmp}
use Rattle.std.specs.FinMap as finite
use Rattle.std.specs.List.{flat_map}
use Rattle.std.specs.Ordering.{nat_cmp}
use Rattle.wef_keeper.specs.declared.keys.Depth.TheVariants.{Kind}
use Rattle.wef_keeper.specs.declared.keys.Row.{Row}
use Rattle.wef_keeper.specs.declared.kinds.RowKind.TheVariants.{Held, Mark}
use Rattle.wef_machine.specs.States.{Slot, State, start}
use Rattle.wef_pairs.proofs.Numbered.{no_rows}
use Rattle.wef_summary.specs.Summary as spec
use Rattle.wef_summary.proofs.telling.summary.Goals as goal

no_slots : ◌≡◌ {A = List (List ℕ × Slot)} (finite.entries {R = slice_cmp nat_cmp} finite.empty) []
no_slots = nil_from_length _ (sym (finite.len-entries {X = Slot} {R = slice_cmp nat_cmp} finite.empty) ∙ finite.len-empty (slice_cmp nat_cmp) Slot)

-- how many records the sources of these entries wrote
abbrev written_by : List (List ℕ × Slot) → ℕ
written_by slots = spec.sum_of (λ n. n) (flat_map (spec.counts_at finite.empty) (map (λ (entry : List ℕ × Slot). entry.0) slots))

nothing_told : spec.summary start ≡ spec.summary_text 0 0 0
nothing_told =
    ap (λ (slots : List (List ℕ × Slot)). spec.summary_text (written_by slots) (spec.held finite.empty) (spec.dropped finite.empty)) no_slots
    ∙ ap (λ (held : List Row). spec.summary_text 0 (length held) (spec.dropped finite.empty)) (no_rows Kind (spec.first_key Held))
    ∙ ap (λ (marked : List Row). spec.summary_text 0 0 (spec.sum_of spec.marked_by marked)) (no_rows Kind (spec.first_key Mark))

pub returns-in-None : goal.returns-in-None
returns-in-None g c =
    subst (λ (state : State). IfOk c.summary_text.result (λ text. text ≡ spec.summary state)) (sym c.in-None.ensures)
    (subst (λ (told : List ℕ). IfOk c.summary_text.result (λ text. text ≡ told)) (sym nothing_told) c.summary_text.ensures)
