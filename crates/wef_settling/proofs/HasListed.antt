-- A session that a source has is among its sessions.
use Rattle.std.proofs.Common.{◌≡◌, ℕ, ◌⊎◌, Bool, true, false, cond, List, [], ◌∷◌, inl, inr, ap, sym, ◌∙◌, refl, subst}
use Rattle.std.proofs.lemmas.Option.{none-some}
use Rattle.std.specs.Prelude.{Option, Some}
use Rattle.wef_building.specs.declared.sessions.Session.{Session}
use Rattle.wef_collector.proofs.Hits.{one_name}
use Rattle.wef_machine.specs.States.{Slot, State}
use Rattle.wef_settling.proofs.Facts.{HasSession}
use Rattle.wef_settling.specs.Settles.{IsAmong}
use Rattle.wef_machine.specs.Turns.{sessions_at, sessions_by, sessions_in}
use Rattle.wef_source.specs.Machine.{End}
use Rattle.wef_source.specs.Sessions.{is_named, names_of, session_of}

named_among : (ss : List Session) (u : List ℕ) (session : Session) → session_of ss u ≡ Some session → IsAmong u (names_of ss)
named_among [] u session found = absurd (none-some session found)
named_among (s ∷ ss) u session found = by_test (is_named u s) refl found (named_among ss u session)
  where
    by_test : (t : Bool) → is_named u s ≡ t → cond t (Some s) (session_of ss u) ≡ Some session → (session_of ss u ≡ Some session → IsAmong u (names_of ss)) → (s.name ≡ u) ⊎ IsAmong u (names_of ss)
    by_test true is own later = inl (one_name s.name u is)
    by_test false is other later = inr (later other)

pub has_listed : (state : State) (s u : List ℕ) → HasSession state s u → IsAmong u (sessions_at state s)
has_listed state s u has =
    subst (IsAmong u) (sym (ap (λ (o : Option Slot). sessions_by o) has.declared ∙ ap (λ (o : Option End). sessions_in o) has.runs)) (named_among has.end.sessions u has.session has.is)
