-- The subscriptions that the rows keep, live or ended.
use Rattle.std.specs.Prelude.{ℕ, ◌==◌, List, Option}
use Rattle.std.specs.List.{AllByRecursion, filter_map}
use Rattle.std.specs.Option.{option_and_then, option_map}
use Rattle.wef_base.specs.Names.{subscription_name}
use Rattle.wef_documents.specs.Kept.{read_kept}
use Rattle.wef_eventing.specs.Sending.{AreXmlQueries}
use Rattle.wef_eventing.specs.declared.subscriptions.Subscription.{Subscription}
use Rattle.wef_keeper.specs.Rows.{Rows}
use Rattle.wef_keeper.specs.declared.keys.Row.{Row}
use Rattle.wef_collector_rows.specs.Standing.{subscription_rows}
use Rattle.wef_collector_reports.specs.declared.listing.Listed.{Listed}

abbrev pub listed_by : ℕ → Subscription → Listed
listed_by value subscription = record { subscription = subscription; live = value == 0 }

-- what a row says of its subscription, where its name and the words that it keeps read back
abbrev pub listed_of : Row → Option Listed
listed_of row = option_and_then (λ u. option_map (listed_by row.value) (read_kept u row.body)) (subscription_name row.key.sub)

-- the subscriptions of all rows that read back, in the order of their names
abbrev pub listed : Rows → List Listed
listed rows = filter_map listed_of (subscription_rows rows)

-- each text of the queries of listed subscriptions holds characters that XML allows
abbrev pub IsXmlListed : Listed → Type 0
IsXmlListed l = AreXmlQueries l.subscription.query.items

abbrev pub AreXmlListed : List Listed → Type 0
AreXmlListed list = AllByRecursion IsXmlListed list
