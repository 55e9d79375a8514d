use Rattle.std.proofs.Common.{◌≡◌, suc, ◌+◌, [], ◌∷◌, ◌<◌, ◌∙◌, add-one, ap, arith, drop, drop-cons, length, sym}
use Rattle.std.specs.Prelude.{Some, option_copied, slice_get}
use Rattle.std.specs.List.{filter}
use Rattle.wef_elements.specs.Children.{elements_in}
use Rattle.wef_bodies.specs.Offers.{is_offer, offers_among, with_front}
use Rattle.wef_bodies.proofs.EachOffer.{next_offer}
use Rattle.wef_bodies.proofs.offers.offers_among.Goals as goal

pub loop-node-preserved : goal.loop-node-preserved
loop-node-preserved c =
    let nodes = c.args.nodes.now in
    let index = c.loop-node.node-index in
    let node = c.node-item.result in
    let within : index < length nodes = omega arith in
    let behind = drop (index + 1) nodes in
    let parts : drop index nodes ≡ node ∷ behind = rw (add-one) (drop-cons nodes index node within ∙ ap (λ x. x ∷ drop (suc index) nodes) (sym c.node-item.is)) in
    let found : slice_get (filter is_offer (elements_in (node ∷ []))) 0 ≡ Some c.in-Some.element.now = sym c.as_offer.ensures ∙ ap option_copied c.in-Some.is in
    ap (λ front. with_front front (offers_among c.args.now behind)) c.in_ok-push.ensures.ok
    ∙ next_offer c.args.now c.loop-node.offers node behind c.in-Some.element.now c.in_ok-offer_of.field-0 found c.in_ok-offer_of.ensures
    ∙ ap (λ ns. with_front c.loop-node.offers (offers_among c.args.now ns)) (sym parts)
    ∙ c.loop-node.invariant
