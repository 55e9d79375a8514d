-- Offers are read one by one.
use Rattle.std.proofs.Common.{◌≡◌, ℕ, Bool, true, false, cond, List, [], ◌∷◌, ◌++◌, refl, ap, sym, ◌∙◌, append_assoc}
use Rattle.std.specs.Prelude.{Option, Some, None, Ok, Err, Result, slice_get}
use Rattle.std.specs.List.{cons_option, filter}
use Rattle.wef_base.specs.declared.tree.Element.{Element}
use Rattle.wef_base.specs.declared.tree.Node.{Node}
use Rattle.wef_elements.specs.Children.{element_of, elements_in}
use Rattle.wef_eventing.specs.declared.offers.Offer.{Offer}
use Rattle.wef_bodies.specs.Offers.{is_offer, offer_of, offers_among, offers_from, with_front}
use Rattle.wef_subscribes.specs.Steps.{and_then}
use Rattle.wef_subscribes.specs.declared.faults.BodyFault.{BodyFault}

-- what stands in front stands there one by one
fronts : (front : List Offer) (offer : Offer) (rest : Result (List Offer) BodyFault) → with_front (front ++ offer ∷ []) rest ≡ with_front front (with_front (offer ∷ []) rest)
fronts front offer (Ok more) = ap Ok (append_assoc front (offer ∷ []) more)
fronts front offer (Err fault) = refl

-- an offer that is read stands in front of those that follow
pub next_offer : (now : ℕ) (front : List Offer) (n : Node) (ns : List Node) (e : Element) (offer : Offer) → slice_get (filter is_offer (elements_in (n ∷ []))) 0 ≡ Some e
    → offer_of now e ≡ Ok offer → with_front (front ++ offer ∷ []) (offers_among now ns) ≡ with_front front (offers_among now (n ∷ ns))
next_offer now front n ns e offer found read = by_element (element_of n) found
  where
    by_test : (x : Element) (b : Bool) → slice_get (cond b (x ∷ []) []) 0 ≡ Some e
        → with_front (front ++ offer ∷ []) (offers_among now ns) ≡ with_front front (offers_from now (cond b (x ∷ filter is_offer (elements_in ns)) (filter is_offer (elements_in ns))))
    by_test x true is =
        let same : x ≡ e = cc in
        fronts front offer (offers_among now ns)
        ∙ sym (ap (λ o. with_front front (and_then o (λ next. with_front (next ∷ []) (offers_among now ns)))) (ap (offer_of now) same ∙ read))
    by_test x false is = let bad : ⊥ = cc in absurd bad

    by_element : (o : Option Element) → slice_get (filter is_offer (cons_option o [])) 0 ≡ Some e
        → with_front (front ++ offer ∷ []) (offers_among now ns) ≡ with_front front (offers_from now (filter is_offer (cons_option o (elements_in ns))))
    by_element None is = let bad : ⊥ = cc in absurd bad
    by_element (Some x) is = by_test x (is_offer x) is
