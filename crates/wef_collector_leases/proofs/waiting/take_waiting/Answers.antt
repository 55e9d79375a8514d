use Rattle.std.proofs.Common.{◌≡◌, ◌∙◌, sym, subst, Some, None}
use Rattle.std.specs.List.{position}
use Rattle.wef_collector_leases.specs.Waiting.{AreInOrder, AreXmlWishes, has_id}
use Rattle.wef_collector_leases.proofs.InOrder.{left_in_order, left_wishes}
use Rattle.wef_collector_leases.proofs.Places.{all_left, left_at, none_taken, taken_at}
use Rattle.wef_collector_leases.proofs.waiting.take_waiting.Goals as goal

pub returns-in_default-clause-taken : goal.returns-in_default-clause-taken
returns-in_default-clause-taken c =
    let none : position (has_id c.args.id) c.args.items.now.items ≡ None = cc in
    none_taken c.args.id c.args.items.now.items none

pub returns-in_default-clause-left : goal.returns-in_default-clause-left
returns-in_default-clause-left c =
    let none : position (has_id c.args.id) c.args.items.now.items ≡ None = cc in
    all_left c.args.id c.args.items.now.items none

pub returns-clause-taken : goal.returns-clause-taken
returns-clause-taken c =
    let at : position (has_id c.args.id) c.args.items.now.items ≡ Some c.in-Some.place = cc in
    taken_at c.args.id c.args.items.now.items c.in-Some.place c.remove.result at c.remove.ensures.value

pub returns-clause-left : goal.returns-clause-left
returns-clause-left c =
    let at : position (has_id c.args.id) c.args.items.now.items ≡ Some c.in-Some.place = cc in
    c.remove.ensures.items ∙ left_at c.args.id c.args.items.now.items c.in-Some.place at

pub returns-clause-in_order : goal.returns-clause-in_order
returns-clause-in_order c = subst AreInOrder (sym (returns-clause-left c)) (left_in_order c.args.id c.args.items.now.items c.requires.in_order)

pub returns-clause-wishes : goal.returns-clause-wishes
returns-clause-wishes c = subst AreXmlWishes (sym (returns-clause-left c)) (left_wishes c.args.id c.args.items.now.items c.requires.wishes)
