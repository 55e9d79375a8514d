use Rattle.std.proofs.Common.{◌≡◌, ℕ, suc, ◌+◌, ◌<◌, arith, List, [], ◌∷◌, ◌++◌, length, drop, ap, sym, subst, ◌∙◌}
use Rattle.std.specs.List.{All, AllByRecursion}
use Rattle.std.proofs.lemmas.List.Elements.{All-from_recursion, All-push, recursion_from_All}
use Rattle.wef_bodies.specs.Laws.{IsXmlId}
use Rattle.wef_collector.specs.Memories.{drawn_in}
use Rattle.wef_collector.specs.declared.memories.Memory.{Memory}
use Rattle.wef_envelope.specs.Laws.{IsSpelt}
use Rattle.wef_ids.specs.IdTexts.{id_of_value}
use Rattle.wef_ids.specs.Ids.{next_id}
use Rattle.wef_ids.specs.declared.MessageId.{MessageId}
use Rattle.wef_front_collector.specs.Replies.{drawn_ids, memory_after}
use Rattle.wef_front_collector.proofs.Draws.{draws_so, last_draw, left_one, next_after, next_drawn}
use Rattle.wef_front_collector.proofs.answering.draw_for.Goals as goal

-- behind one draw more
one_more : (before mid now : Memory) (index : ℕ) → mid ≡ memory_after index before → now ≡ drawn_in 1 mid → now ≡ memory_after (index + 1) before
one_more before mid now index so_far drawn =
    let next : suc index ≡ index + 1 = omega arith in
    drawn ∙ ap (drawn_in 1) so_far ∙ last_draw index before ∙ ap (λ (n : ℕ). memory_after n before) next

pub returns-in_err-draw-clause-wants_memory : goal.returns-in_err-draw-clause-wants_memory
returns-in_err-draw-clause-wants_memory g c =
    let index = c.loop-offer._offer-index in
    let less : index < length c.args.offers.now = c.loop-offer-test.true in
    draws_so c.from_residual.result (length c.args.offers.now) index c.args.collector.now.memory c.draw.new.collector.memory (omega arith) (c.in_err-draw.ensures.wants_memory ∙ c.loop-offer.invariant.so_far)

pub returns-in_err-push-clause-wants_memory : goal.returns-in_err-push-clause-wants_memory
returns-in_err-push-clause-wants_memory g c =
    let index = c.loop-offer._offer-index in
    let less : index < length c.args.offers.now = c.loop-offer-test.true in
    draws_so c.from_residual-in_err-push.result (length c.args.offers.now) (index + 1) c.args.collector.now.memory c.draw.new.collector.memory (omega arith)
    (one_more c.args.collector.now.memory c.loop-offer.collector.memory c.draw.new.collector.memory index c.loop-offer.invariant.so_far c.in_ok-draw.ensures.drawn)

pub loop-offer-preserved : goal.loop-offer-preserved
loop-offer-preserved g c =
    let is = c.loop-offer.invariant in
    let offers = c.args.offers.now in
    let before = c.loop-offer.collector.memory in
    let left = left_one offers c.loop-offer._offer-index c.loop-offer-test.true in
    let n = length (drop c.loop-offer._offer-index offers) in
    let m = length (drop (c.loop-offer._offer-index + 1) offers) in
    let id = c.in_ok-draw.field-0 in
    let drawn : c.draw.new.collector.memory ≡ drawn_in 1 before = c.in_ok-draw.ensures.drawn in
    let pushed : c.push.new.self ≡ c.loop-offer.ids ++ id ∷ [] = c.in_ok-push.ensures.ok in
    let named : c.push.new.self ≡ c.loop-offer.ids ++ id_of_value (next_id before.ids) ∷ [] = pushed ∙ ap (λ (x : MessageId). c.loop-offer.ids ++ x ∷ []) c.in_ok-draw.ensures.id in
    let spelt : IsSpelt id = subst IsSpelt (sym c.in_ok-draw.ensures.id) c.in_ok-draw.ensures.spelt in
    record {
      ids = (λ i. named i ++ drawn_ids m (drawn i).ids) ∙ next_drawn c.loop-offer.ids (drawn_ids (length offers) c.args.collector.now.memory.ids) n m before.ids left is.ids;
      drawn = ap (memory_after m) drawn ∙ next_after n m before (memory_after (length offers) c.args.collector.now.memory) left is.drawn;
      so_far = one_more c.args.collector.now.memory before c.draw.new.collector.memory c.loop-offer._offer-index is.so_far drawn;
      spelt = subst (λ (xs : List MessageId). AllByRecursion IsSpelt xs) (sym pushed)
          (recursion_from_All IsSpelt (c.loop-offer.ids ++ id ∷ []) (All-push IsSpelt c.loop-offer.ids id (All-from_recursion IsSpelt c.loop-offer.ids is.spelt) spelt));
      texts = subst (λ (xs : List MessageId). All IsXmlId xs) (sym pushed) (All-push IsXmlId c.loop-offer.ids id is.texts c.in_ok-draw.ensures.text);
      keeper = c.in_ok-draw.ensures.keeper ∙ is.keeper;
    }
