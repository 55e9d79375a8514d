-- What the calls of the collector do, and what may be asked of it.
use Rattle.std.specs.Prelude.{◌≡◌, Some}
use Rattle.wef_batch.specs.Numbers.{AreNumbered}
use Rattle.wef_collector.specs.Calls.{add_effect, end_effect, take_effect}
use Rattle.wef_collector_rows.specs.declared.faults.CollectorFault.{CollectorFault}
use Rattle.wef_documents.specs.Kept.{read_kept}
use Rattle.wef_documents.specs.Written.{document_text}
use Rattle.wef_eventing.specs.declared.subscriptions.Subscription.{Subscription}
use Rattle.wef_keeper.specs.Calls.{Effect}
use Rattle.wef_keeper.specs.Rows.{Rows}
use Rattle.wef_places.specs.declared.collecting.Call.{Call}
use Rattle.wef_places.specs.declared.collecting.Call.TheVariants.{Add, End, Take}

-- what a call does, by the rows that it finds
abbrev pub effect_of : Call → Rows → Effect CollectorFault
effect_of (Add subscription) rows = add_effect rows subscription.now
effect_of (End sub) rows = end_effect rows sub.now
effect_of (Take sub source batch now) rows = take_effect rows sub.now source.now batch.now now.now

-- a subscription reads back from the words that keep it
abbrev pub ReadsBack : Subscription → Type 0
ReadsBack s = read_kept s.name (document_text s) ≡ Some s

-- a subscription that is added reads back, and the numbers of a batch that is taken are such as records have
abbrev pub IsAllowed : Call → Type 0
IsAllowed (Add subscription) = ReadsBack subscription.now
IsAllowed (End sub) = Unit {0}
IsAllowed (Take sub source batch now) = AreNumbered batch.now.items
