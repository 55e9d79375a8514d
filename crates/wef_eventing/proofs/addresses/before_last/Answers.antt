use Rattle.std.proofs.Common.{◌∙◌, ap, sym}
use Rattle.wef_eventing.specs.Addresses.{piece_before_last}
use Rattle.wef_eventing.proofs.AddressesBack.{piece_before_last-push}
use Rattle.wef_eventing.proofs.addresses.before_last.Goals as goal

pub returns : goal.returns
returns c =
    c.last.ensures ∙ sym (ap piece_before_last c.in_ok-front.ensures.cases.0 ∙ piece_before_last-push c.in_ok-front.front.now c.in_ok-front.field-0-0.now)
