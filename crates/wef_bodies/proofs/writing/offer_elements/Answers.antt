use Rattle.std.proofs.Common.{◌≡◌, suc, ◌+◌, [], ◌∷◌, ◌++◌, ◌<◌, ◌∙◌, add-one, ap, append_assoc, append-nil, arith, drop, drop-cons, length, sym}
use Rattle.std.proofs.lemmas.List.{drop_all}
use Rattle.wef_base.specs.declared.tree.Element.{Element}
use Rattle.wef_bodies.specs.Written.{offer_element, offer_elements}
use Rattle.wef_bodies.proofs.GoodBodies.{none_left}
use Rattle.wef_bodies.proofs.writing.offer_elements.Goals as goal

pub loop-offer-preserved : goal.loop-offer-preserved
loop-offer-preserved c =
    let offers = c.args.offers.now in
    let index = c.loop-offer.offer-index in
    let offer = c.offer-item.result in
    let elements = c.loop-offer.elements in
    let id = c.in-Some.id.now in
    let ids = c.in-Some.more.now in
    let within : index < length offers = omega arith in
    let behind = drop (index + 1) offers in
    let parts : drop index offers ≡ offer ∷ behind = rw (add-one) (drop-cons offers index offer within ∙ ap (λ x. x ∷ drop (suc index) offers) (sym c.offer-item.is)) in
    let left : c.loop-offer.left.now ≡ id ∷ ids = c.in-Some.ensures.cases.0 in
    ap (λ es. es ++ offer_elements ids behind) c.in_ok-push.ensures.ok
    ∙ ap (λ (e : Element). (elements ++ e ∷ []) ++ offer_elements ids behind) c.in_ok-offer_element.ensures
    ∙ append_assoc elements (offer_element id offer ∷ []) (offer_elements ids behind)
    ∙ sym (λ i. elements ++ offer_elements (left i) (parts i))
    ∙ c.loop-offer.invariant

pub returns : goal.returns
returns c =
    let none : drop c.loop-offer.offer-index c.args.offers.now ≡ [] = drop_all c.loop-offer.offer-index c.args.offers.now c.loop-offer-test.false in
    sym (append-nil c.loop-offer.elements)
    ∙ sym (ap (λ es. c.loop-offer.elements ++ es) (ap (λ os. offer_elements c.loop-offer.left.now os) none ∙ none_left c.loop-offer.left.now))
    ∙ c.loop-offer.invariant
