use Rattle.std.proofs.Common.{◌≡◌, ◌++◌, drop}
use Rattle.std.specs.List.{filter_map}
use Rattle.wef_collector_reports.specs.Listing.{AreXmlListed, listed_of}
use Rattle.wef_collector_reports.proofs.listing.listed_in.Given as goal

abbrev pub invariant-loop-row : goal.invariant-loop-row
invariant-loop-row l = record {
  list : l.list ++ filter_map listed_of (drop l.row-index l.rows) ≡ filter_map listed_of l.rows;
  texts : AreXmlListed l.list;
}
