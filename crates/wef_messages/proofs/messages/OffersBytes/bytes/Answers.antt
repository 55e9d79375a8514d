use Rattle.std.proofs.Common.{◌∙◌, ap}
use Rattle.std.specs.Prelude.{Some}
use Rattle.wef_front.specs.Replies.{offers_bytes}
use Rattle.wef_messages.specs.Bytes.{Answered}
use Rattle.wef_messages.proofs.Said.{kept_offers, kept_offers_told, kept_untold}
use Rattle.wef_messages.proofs.messages.OffersBytes.bytes.Goals as goal

pub returns-clause-value : goal.returns-clause-value
returns-clause-value c = kept_offers c.self.inside.bytes c.self.invariant ∙ ap (λ (a : Answered). offers_bytes a.id a.relates a.offers) c.self.view_is

pub returns-clause-told : goal.returns-clause-told
returns-clause-told c = kept_untold c.self.inside.bytes c.self.invariant

pub returns-clause-offers : goal.returns-clause-offers
returns-clause-offers c = λ now. kept_offers_told c.self.inside.bytes c.self.invariant now ∙ ap (λ (a : Answered). Some (a.relates, a.offers)) c.self.view_is
