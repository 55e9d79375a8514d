-- A source that runs.
use Rattle.std.proofs.Common.{◌≡◌, ℕ, Bool, true, false, List, [], ◌∷◌, cond, refl, ap, Some, None}
use Rattle.wef_source.specs.Answers.{RefusesLost}
use Rattle.wef_source.specs.Machine.{End, lost_in}
use Rattle.wef_source.specs.Sessions.{first_where, is_named, settled, with_changed}
use Rattle.wef_building.specs.declared.faults.SourceFault.{SourceFault}
use Rattle.wef_building.specs.declared.faults.SourceFault.TheVariants.{UnknownSubscription}
use Rattle.wef_building.specs.declared.sessions.Session.{Session}

-- changing the first session that passes changes nothing where none does
unchanged : (test : Session → Bool) (change : Session → Session) (ss : List Session) → first_where test ss ≡ None → with_changed test change ss ≡ ss
unchanged test change [] none = refl
unchanged test change (s ∷ ss) none =
    elim (test s) as (λ t. cond t (Some s) (first_where test ss) ≡ None → cond t (change s ∷ ss) (s ∷ with_changed test change ss) ≡ s ∷ ss) [
      | true ↦ λ h. cc
      | false ↦ λ h. ap (λ rest. s ∷ rest) (unchanged test change ss h)
    ] none

-- where no session has the name, none waits for less
pub lost_refused : (fault : SourceFault) (end : End) (u : List ℕ) → RefusesLost fault end u → lost_in end u ≡ end
lost_refused UnknownSubscription end u none = ap (λ ss. record end { sessions = ss }) (unchanged (is_named u) settled end.sessions none)
lost_refused _ end u h = absurd h
