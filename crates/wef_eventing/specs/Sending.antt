-- Offers whose texts can stand in a message, and those that a source can serve.
use Rattle.std.specs.Prelude.{◌≡◌, true, List, IfSome}
use Rattle.std.specs.List.{AllByRecursion}
use Rattle.wef_query.specs.Items.{QueryItem}
use Rattle.wef_xml.specs.Good.{IsXmlText}
use Rattle.wef_eventing.specs.Addresses.{is_address}
use Rattle.wef_eventing.specs.declared.offers.Offer.{Offer}
use Rattle.wef_eventing.specs.declared.offers.Subscribe.{Subscribe}

-- each text of a query's items holds characters that XML allows
abbrev pub AreXmlQueries : List QueryItem → Type 0
AreXmlQueries items = AllByRecursion (λ (item : QueryItem). IsXmlText item.text) items

-- so do the texts of a wish to be sent events; names of channels do so by themselves
pub record HasXmlTexts (s : Subscribe) : Type 0 where
  pub notify_to : IsXmlText s.notify_to
  pub end_to : IfSome s.end_to IsXmlText
  pub identifier : IfSome s.identifier IsXmlText
  pub query : AreXmlQueries s.query.items

-- and those of an offer
pub record CanBeOffered (o : Offer) : Type 0 where
  pub version : IsXmlText o.version
  pub subscribe : HasXmlTexts o.subscribe

-- A wish that can be served: batches go to an address of HTTP, and their identifier, which comes back with each, holds characters
-- that XML allows.
pub record IsServable (s : Subscribe) : Type 0 where
  pub notify_to : is_address s.notify_to ≡ true
  pub identifier : IfSome s.identifier IsXmlText

-- so can each of the offers
abbrev pub AreServable : List Offer → Type 0
AreServable offers = AllByRecursion (λ (o : Offer). IsServable o.subscribe) offers
