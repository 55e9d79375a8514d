use Rattle.std.proofs.Common.{sym, subst}
use Rattle.wef_ids.proofs.PlainIds.{id_text_good}
use Rattle.wef_xml.specs.Good.{IsXmlText}
use Rattle.wef_collector.proofs.offering.offer_from.Goals as goal

pub returns-clause-texts : goal.returns-clause-texts
returns-clause-texts c host = record {
  version = subst IsXmlText (sym c.in_ok-id_text.ensures.value) (id_text_good _);
  subscribe = c.in_ok-subscribe_from.ensures.texts host;
}
