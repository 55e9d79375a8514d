use Rattle.std.proofs.Common.{◌≡◌, Some, None}
use Rattle.std.specs.List.{position}
use Rattle.wef_source.specs.Sessions.{is_leased_as, prolonged}
use Rattle.wef_source.proofs.Served.{prolonged_served}
use Rattle.wef_source.proofs.FirstChanged.{changed_absent, changed_there}
use Rattle.wef_source.proofs.InOrder.{prolonged_name}
use Rattle.wef_source.proofs.serving.prolong_leased.Goals as goal

pub returns-in_default-clause-changed : goal.returns-in_default-clause-changed
returns-in_default-clause-changed c =
    let none : position (is_leased_as c.args.identifier.now) c.args.sessions.now.items ≡ None = cc in
    (changed_absent (is_leased_as c.args.identifier.now) (prolonged c.args.expiry) c.args.sessions.now.items none).changed

pub returns-clause-changed : goal.returns-clause-changed
returns-clause-changed c =
    let at : position (is_leased_as c.args.identifier.now) c.args.sessions.now.items ≡ Some c.in-Some.place = cc in
    (changed_there (is_leased_as c.args.identifier.now) (prolonged c.args.expiry) (prolonged_served c.args.expiry) (prolonged_name c.args.expiry) c.args.sessions.now.items c.in-Some.place c.index_mut.result.now c.prolong.new.session at c.requires c.index_mut.ensures.value c.prolong.ensures).changed

pub returns-clause-kept : goal.returns-clause-kept
returns-clause-kept c =
    let at : position (is_leased_as c.args.identifier.now) c.args.sessions.now.items ≡ Some c.in-Some.place = cc in
    (changed_there (is_leased_as c.args.identifier.now) (prolonged c.args.expiry) (prolonged_served c.args.expiry) (prolonged_name c.args.expiry) c.args.sessions.now.items c.in-Some.place c.index_mut.result.now c.prolong.new.session at c.requires c.index_mut.ensures.value c.prolong.ensures).kept
