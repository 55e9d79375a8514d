use Rattle.std.proofs.Common.{sym, subst}
use Rattle.wef_xml.specs.Good.{IsXmlText}
use Rattle.wef_eventing.proofs.AddressTexts.{address_is_plain}
use Rattle.wef_eventing.proofs.AddressesBack.{addresses_read_back}
use Rattle.wef_eventing.proofs.addresses.delivery_address.Goals as goal

pub returns-clause-reads_back : goal.returns-clause-reads_back
returns-clause-reads_back c =
    let names = c.in_ok-address.ensures.names in
    rw c.in_ok-address.ensures.value
    (addresses_read_back c.args.host.now c.args.sub.now c.args.source.now names.sub_utf8 names.sub_reads_back names.source_utf8 names.source_reads_back)

pub returns-clause-text : goal.returns-clause-text
returns-clause-text c host = subst IsXmlText (sym c.in_ok-address.ensures.value) (address_is_plain c.args.host.now c.args.sub.now c.args.source.now host).1
