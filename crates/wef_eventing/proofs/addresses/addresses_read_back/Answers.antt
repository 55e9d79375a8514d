use Rattle.wef_eventing.proofs.AddressesBack.{addresses_read_back}
use Rattle.wef_eventing.proofs.addresses.addresses_read_back.Goals as goal

pub returns : goal.returns
returns c = addresses_read_back
