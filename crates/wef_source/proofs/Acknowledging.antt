-- What an acknowledgement makes of a session.
use Rattle.std.proofs.Common.{◌≡◌, ℕ, [], ap, refl, sym, ◌∙◌}
use Rattle.std.specs.Prelude.{Option, Some, None, IfSome}
use Rattle.std.specs.Cmp.Lexicographic.{slice_cmp}
use Rattle.std.specs.FinMap as map
use Rattle.std.specs.Ordering.{nat_cmp}
use Rattle.std.proofs.lemmas.List.{nil_from_length}
use Rattle.wef_bookmark.specs.Order.{Marks, joined, raised_by}
use Rattle.wef_source.specs.Laws.{HeardBeatsMoveNothing}
use Rattle.wef_source.specs.Sessions.{moved_by, settled}
use Rattle.wef_building.specs.declared.sessions.Outstanding.{Outstanding}

no_entries : map.entries (map.empty {X = ℕ} {R = slice_cmp nat_cmp}) ≡ []
no_entries = nil_from_length _ (sym (map.len-entries map.empty) ∙ map.len-empty (slice_cmp nat_cmp) ℕ)

-- what reads nothing moves nothing
pub joined_with_none : (b : Marks) → joined b map.empty ≡ b
joined_with_none b = ap (raised_by b) no_entries

pub beats_move_nothing : HeardBeatsMoveNothing
beats_move_nothing s reads_nothing = by s.outstanding reads_nothing
  where
    by : (o : Option Outstanding) → IfSome o (λ (x : Outstanding). x.to ≡ map.empty) → moved_by o s ≡ settled s
    by None none = refl
    by (Some outstanding) none =
        ap (λ (to : Marks). record s { outstanding = None; positions = joined s.positions to }) none
        ∙ ap (λ (positions : Marks). record s { outstanding = None; positions = positions }) (joined_with_none s.positions)
