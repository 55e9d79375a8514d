use Rattle.std.proofs.Common.{◌≡◌, ap, sym, ◌∙◌, Some, None}
use Rattle.std.specs.Prelude.{is_some}
use Rattle.std.specs.List.{position}
use Rattle.wef_source.specs.Sessions.{is_leased_as}
use Rattle.wef_source.proofs.Served.{removed_served}
use Rattle.wef_source.proofs.InOrder.{without_in_order}
use Rattle.wef_source.proofs.Places.{first_nowhere, is_there, within_at, without_at, without_nowhere}
use Rattle.wef_source.proofs.serving.end_leased.Goals as goal

pub returns-in_default-clause-there : goal.returns-in_default-clause-there
returns-in_default-clause-there c =
    let none : position (is_leased_as c.args.identifier.now) c.args.sessions.now.items ≡ None = cc in
    sym (ap is_some (first_nowhere (is_leased_as c.args.identifier.now) c.args.sessions.now.items none))

pub returns-in_default-clause-changed : goal.returns-in_default-clause-changed
returns-in_default-clause-changed c =
    let none : position (is_leased_as c.args.identifier.now) c.args.sessions.now.items ≡ None = cc in
    sym (without_nowhere (is_leased_as c.args.identifier.now) c.args.sessions.now.items none)

pub returns-clause-there : goal.returns-clause-there
returns-clause-there c =
    let at : position (is_leased_as c.args.identifier.now) c.args.sessions.now.items ≡ Some c.in-Some.place = cc in
    sym (is_there (is_leased_as c.args.identifier.now) c.args.sessions.now.items c.in-Some.place c.remove-ended.result at)

pub returns-clause-changed : goal.returns-clause-changed
returns-clause-changed c =
    let at : position (is_leased_as c.args.identifier.now) c.args.sessions.now.items ≡ Some c.in-Some.place = cc in
    c.remove-ended.ensures.items ∙ without_at (is_leased_as c.args.identifier.now) c.args.sessions.now.items c.in-Some.place at

pub returns-clause-kept : goal.returns-clause-kept
returns-clause-kept c =
    let at : position (is_leased_as c.args.identifier.now) c.args.sessions.now.items ≡ Some c.in-Some.place = cc in
    record {
      served = rw c.remove-ended.ensures.items (removed_served c.args.sessions.now.items c.in-Some.place c.requires.served (within_at (is_leased_as c.args.identifier.now) c.args.sessions.now.items c.in-Some.place at));
      in_order = rw (returns-clause-changed c) (without_in_order (is_leased_as c.args.identifier.now) c.args.sessions.now.items c.requires.in_order);
    }
