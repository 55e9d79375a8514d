use Rattle.std.proofs.Common.{◌≡◌, Some, None}
use Rattle.std.specs.List.{position}
use Rattle.wef_source.specs.Sessions.{settled, is_named}
use Rattle.wef_source.proofs.Served.{settled_served}
use Rattle.wef_source.proofs.FirstChanged.{changed_absent, changed_there}
use Rattle.wef_source.proofs.InOrder.{settled_name}
use Rattle.wef_source.proofs.serving.settle_named.Goals as goal

pub returns-in_default-clause-there : goal.returns-in_default-clause-there
returns-in_default-clause-there c =
    let none : position (is_named c.args.sub.now) c.args.sessions.now.items ≡ None = cc in
    (changed_absent (is_named c.args.sub.now) settled c.args.sessions.now.items none).there

pub returns-in_default-clause-changed : goal.returns-in_default-clause-changed
returns-in_default-clause-changed c =
    let none : position (is_named c.args.sub.now) c.args.sessions.now.items ≡ None = cc in
    (changed_absent (is_named c.args.sub.now) settled c.args.sessions.now.items none).changed

pub returns-clause-there : goal.returns-clause-there
returns-clause-there c =
    let at : position (is_named c.args.sub.now) c.args.sessions.now.items ≡ Some c.in-Some.place = cc in
    (changed_there (is_named c.args.sub.now) settled settled_served settled_name c.args.sessions.now.items c.in-Some.place c.index_mut.result.now c.settle.new.session at c.requires c.index_mut.ensures.value c.settle.ensures).there

pub returns-clause-changed : goal.returns-clause-changed
returns-clause-changed c =
    let at : position (is_named c.args.sub.now) c.args.sessions.now.items ≡ Some c.in-Some.place = cc in
    (changed_there (is_named c.args.sub.now) settled settled_served settled_name c.args.sessions.now.items c.in-Some.place c.index_mut.result.now c.settle.new.session at c.requires c.index_mut.ensures.value c.settle.ensures).changed

pub returns-clause-kept : goal.returns-clause-kept
returns-clause-kept c =
    let at : position (is_named c.args.sub.now) c.args.sessions.now.items ≡ Some c.in-Some.place = cc in
    (changed_there (is_named c.args.sub.now) settled settled_served settled_name c.args.sessions.now.items c.in-Some.place c.index_mut.result.now c.settle.new.session at c.requires c.index_mut.ensures.value c.settle.ensures).kept
