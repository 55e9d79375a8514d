use Rattle.std.proofs.Common.{◌≡◌, ◌∙◌, sym, subst, true, false, Some, None}
use Rattle.std.specs.List.{position}
use Rattle.std.specs.Ordering.{is_eq}
use Rattle.wef_collector_leases.specs.Waiting.{AreInOrder, AreXmlWishes, pair_cmp, stands_at}
use Rattle.wef_collector_leases.proofs.InOrder.{put_in_order, put_wishes}
use Rattle.wef_collector_leases.proofs.Places.{put_before, put_last, put_over}
use Rattle.wef_collector_leases.proofs.waiting.put_waiting.Goals as goal

pub returns-in_default-clause-ok : goal.returns-in_default-clause-ok
returns-in_default-clause-ok c =
    let none : position (stands_at c.args.new) c.args.items.now.items ≡ None = cc in
    c.in_ok-push.ensures.items ∙ put_last c.args.new c.args.items.now.items none

pub returns-in_default-clause-in_order : goal.returns-in_default-clause-in_order
returns-in_default-clause-in_order c = subst AreInOrder (sym (returns-in_default-clause-ok c)) (put_in_order c.args.new c.args.items.now.items c.requires.in_order)

pub returns-then-is_eq-clause-ok : goal.returns-then-is_eq-clause-ok
returns-then-is_eq-clause-ok c =
    let at : position (stands_at c.args.new) c.args.items.now.items ≡ Some c.in-Some.place = cc in
    let tied : is_eq (pair_cmp c.args.new c.index.result.now) ≡ true = cc in
    put_over c.args.new c.args.items.now.items c.in-Some.place c.index.result.now at c.index.ensures tied

pub returns-then-is_eq-clause-in_order : goal.returns-then-is_eq-clause-in_order
returns-then-is_eq-clause-in_order c = subst AreInOrder (sym (returns-then-is_eq-clause-ok c)) (put_in_order c.args.new c.args.items.now.items c.requires.in_order)

pub returns-in_ok-insert-clause-ok : goal.returns-in_ok-insert-clause-ok
returns-in_ok-insert-clause-ok c =
    let at : position (stands_at c.args.new) c.args.items.now.items ≡ Some c.in-Some.place = cc in
    let apart : is_eq (pair_cmp c.args.new c.index.result.now) ≡ false = cc in
    c.in_ok-insert.ensures.items ∙ put_before c.args.new c.args.items.now.items c.in-Some.place c.index.result.now at c.index.ensures apart

pub returns-in_ok-insert-clause-in_order : goal.returns-in_ok-insert-clause-in_order
returns-in_ok-insert-clause-in_order c = subst AreInOrder (sym (returns-in_ok-insert-clause-ok c)) (put_in_order c.args.new c.args.items.now.items c.requires.in_order)

pub returns-in_default-clause-wishes : goal.returns-in_default-clause-wishes
returns-in_default-clause-wishes c = subst AreXmlWishes (sym (returns-in_default-clause-ok c)) (put_wishes c.args.new c.args.items.now.items c.requires.wish c.requires.wishes)

pub returns-then-is_eq-clause-wishes : goal.returns-then-is_eq-clause-wishes
returns-then-is_eq-clause-wishes c = subst AreXmlWishes (sym (returns-then-is_eq-clause-ok c)) (put_wishes c.args.new c.args.items.now.items c.requires.wish c.requires.wishes)

pub returns-in_ok-insert-clause-wishes : goal.returns-in_ok-insert-clause-wishes
returns-in_ok-insert-clause-wishes c = subst AreXmlWishes (sym (returns-in_ok-insert-clause-ok c)) (put_wishes c.args.new c.args.items.now.items c.requires.wish c.requires.wishes)
