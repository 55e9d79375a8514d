use Rattle.std.proofs.Common.{sym, subst}
use Rattle.wef_eventing.specs.Sending.{AreXmlQueries}
use Rattle.wef_query.specs.declared.QueryList.{QueryList}
use Rattle.wef_xml.specs.Good.{IsXmlText}
use Rattle.wef_collector.proofs.offering.subscribe_from.Goals as goal

pub returns-clause-texts : goal.returns-clause-texts
returns-clause-texts c host = record {
  notify_to = c.in_ok-address.ensures.text host;
  end_to = subst IsXmlText (sym c.in_ok-clone.ensures) (c.in_ok-address.ensures.text host);
  identifier = c.in_ok-text_of.ensures.allowed;
  query = subst (λ (q : QueryList). AreXmlQueries q.items) (sym c.in_ok-clone-2.ensures) c.requires;
}
