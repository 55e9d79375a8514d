use Rattle.std.proofs.Common.{◌≡◌, false, sym, subst, ◌∙◌, true, Some, None}
use Rattle.std.specs.Prelude.{Option}
use Rattle.std.specs.List.{position}
use Rattle.wef_building.specs.declared.sessions.Session.{Session}
use Rattle.wef_source.specs.Answers.{WhereThere}
use Rattle.wef_source.specs.Sessions.{has_expired, is_leased_as, time_left}
use Rattle.wef_source.proofs.Places.{first_at, first_nowhere}
use Rattle.wef_source.proofs.serving.left_of_lease.Goals as goal

pub returns-in_default-clause-refusal : goal.returns-in_default-clause-refusal
returns-in_default-clause-refusal c =
    let none : position (is_leased_as c.args.identifier.now) c.args.sessions.now ≡ None = cc in
    first_nowhere (is_leased_as c.args.identifier.now) c.args.sessions.now none

pub returns-then-has_expired-clause-refusal : goal.returns-then-has_expired-clause-refusal
returns-then-has_expired-clause-refusal c =
    let at : position (is_leased_as c.args.identifier.now) c.args.sessions.now ≡ Some c.in-Some.place = cc in
    subst (λ (o : Option Session). WhereThere o (λ session. has_expired c.args.now session ≡ true))
    (sym (first_at (is_leased_as c.args.identifier.now) c.args.sessions.now c.in-Some.place c.index-sessions-place.result at c.index-sessions-place.is))
    (sym c.has_expired.ensures ∙ c.if-has_expired.true)

pub returns-clause-ok : goal.returns-clause-ok
returns-clause-ok c =
    let at : position (is_leased_as c.args.identifier.now) c.args.sessions.now ≡ Some c.in-Some.place = cc in
    subst (λ (o : Option Session). WhereThere o (λ session. (has_expired c.args.now session ≡ false) × (c.time_left.result ≡ time_left c.args.now session)))
    (sym (first_at (is_leased_as c.args.identifier.now) c.args.sessions.now c.in-Some.place c.index-sessions-place.result at c.index-sessions-place.is))
    (sym c.has_expired.ensures ∙ c.if-has_expired.false, c.time_left.ensures)
