use Rattle.std.proofs.Common.{List, sym, subst}
use Rattle.wef_collector_leases.specs.Waiting.{AreInOrder, AreXmlWishes}
use Rattle.wef_collector_leases.specs.declared.waiting.Waiting.{Waiting}
use Rattle.wef_collector_leases.proofs.InOrder.{none_in_order}
use Rattle.wef_collector_leases.proofs.waiting.WaitingList.new.Goals as goal

pub invariant_of-result : goal.invariant_of-result
invariant_of-result c = subst (λ (items : List Waiting). AreInOrder items × AreXmlWishes items) (sym c.new.ensures.items) (none_in_order, tt)
