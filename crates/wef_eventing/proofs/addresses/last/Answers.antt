use Rattle.std.proofs.Common.{◌∙◌, ap, sym}
use Rattle.wef_eventing.specs.Addresses.{last_piece}
use Rattle.wef_eventing.proofs.AddressesBack.{last_piece-push}
use Rattle.wef_eventing.proofs.addresses.last.Goals as goal

pub returns : goal.returns
returns c = sym (ap last_piece c.in_ok-piece.ensures.cases.0 ∙ last_piece-push c.in_ok-piece.field-0-1.now c.in_ok-piece.piece.now)
