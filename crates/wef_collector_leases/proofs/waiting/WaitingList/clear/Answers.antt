use Rattle.std.proofs.Common.{List, sym, subst}
use Rattle.wef_collector_leases.specs.Waiting.{AreInOrder, AreXmlWishes}
use Rattle.wef_collector_leases.specs.declared.waiting.Waiting.{Waiting}
use Rattle.wef_collector_leases.proofs.InOrder.{none_in_order}
use Rattle.wef_collector_leases.proofs.waiting.WaitingList.clear.Goals as goal

pub invariant_of-self : goal.invariant_of-self
invariant_of-self c = subst (λ (items : List Waiting). AreInOrder items × AreXmlWishes items) (sym c.clear.ensures.items) (none_in_order, tt)
