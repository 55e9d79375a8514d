use Rattle.std.proofs.Common.{◌≡◌, ◌++◌, drop, length}
use Rattle.std.specs.List.{All, AllByRecursion}
use Rattle.wef_bodies.specs.Laws.{IsXmlId}
use Rattle.wef_envelope.specs.Laws.{IsSpelt}
use Rattle.wef_front_collector.specs.Replies.{drawn_ids, memory_after}
use Rattle.wef_front_collector.proofs.answering.draw_for.Given as goal

abbrev pub invariant-loop-offer : goal.invariant-loop-offer
invariant-loop-offer g l = record {
  ids : l.ids ++ drawn_ids (length (drop l._offer-index l.offers)) l.collector.memory.ids ≡ drawn_ids (length l.offers) l.fn.collector.memory.ids;
  drawn : memory_after (length (drop l._offer-index l.offers)) l.collector.memory ≡ memory_after (length l.offers) l.fn.collector.memory;
  so_far : l.collector.memory ≡ memory_after l._offer-index l.fn.collector.memory;
  spelt : AllByRecursion IsSpelt l.ids;
  texts : All IsXmlId l.ids;
  keeper : l.collector.keeper ≡ l.fn.collector.keeper;
}
