-- What the collector is asked to change.
use Rattle.std.specs.Prelude.{◌≡◌, Some, Result, IfSome, option_copied}
use Rattle.wef_batch.specs.Numbers.{AreNumbered}
use Rattle.wef_documents.specs.Kept.{read_kept}
use Rattle.wef_documents.specs.Written.{document_text}
use Rattle.wef_keeper.specs.Rows.{Rows}
use Rattle.wef_collector_rows.specs.Answers.{IsOfStore}
use Rattle.wef_collector_rows.specs.Judged.{JudgesName}
use Rattle.wef_collector_rows.specs.Standing.{standing}
use Rattle.wef_collector_rows.specs.declared.faults.CollectorFault.{CollectorFault}
use Rattle.wef_collector_rows.specs.declared.standings.Standing.TheVariants.{Live}
use Rattle.wef_collector_leases.specs.Leases.{IsXmlWish}
use Rattle.wef_collector_leases.specs.declared.waiting.Waiting.{Waiting}
use Rattle.wef_collector.specs.Calls.{Effect, OfAdd, OfEnd, OfKnown, OfResponse, OfTake, OfUnreadEnd, add_effect, end_effect, hear_effect, release_effect, source_ended_effect, take_effect, unread_effect, unread_end_effect}
use Rattle.wef_collector.specs.Judged.{JudgesAdd, JudgesHear, JudgesRelease, JudgesResponse, JudgesSourceEnded, JudgesTake}
use Rattle.wef_collector.specs.Responses.{CanBeTaken, waiting_effect}
use Rattle.wef_collector.specs.declared.calling.Call.{Call}
use Rattle.wef_collector.specs.declared.calling.Call.TheVariants.{Add, End, Take, TakeUnread, Hear, Respond, Release, SourceEnded, EndUnread}

-- what it does
abbrev pub effect_of : Call → Rows → Effect
effect_of (Add subscription) rows = add_effect rows subscription.now
effect_of (End sub) rows = end_effect rows sub.now
effect_of (Take sub source batch now) rows = take_effect rows sub.now source.now batch.now now
effect_of (TakeUnread sub) rows = unread_effect rows sub.now
effect_of (Hear sub source now) rows = hear_effect rows sub.now source.now now
effect_of (Respond waiting response now) rows = waiting_effect (option_copied waiting) response.now now rows
effect_of Release rows = release_effect rows
effect_of (SourceEnded sub source identifier) rows = source_ended_effect rows sub.now source.now identifier.now
effect_of (EndUnread sub) rows = unread_end_effect rows sub.now

-- what may be asked: a subscription is read again from its document, and a batch's numbers are such as records have
abbrev pub IsAllowed : Call → Type 0
IsAllowed (Add subscription) = read_kept subscription.now.name (document_text subscription.now) ≡ Some subscription.now
IsAllowed (End sub) = Unit {0}
IsAllowed (Take sub source batch now) = AreNumbered batch.now.items
IsAllowed (TakeUnread sub) = Unit {0}
IsAllowed (Hear sub source now) = Unit {0}
IsAllowed (Respond waiting response now) = IfSome (option_copied waiting) (λ (w : Waiting). IsXmlWish w.wants) × CanBeTaken response.now
IsAllowed Release = Unit {0}
IsAllowed (SourceEnded sub source identifier) = Unit {0}
IsAllowed (EndUnread sub) = Unit {0}

-- the rows that it has read are of their form, unless its store refuses it
abbrev pub Judges : {T : Type 0} → Call → Result T CollectorFault → Rows → Type 0
Judges (Add subscription) answer rows = JudgesAdd answer rows subscription.now.name
Judges (End sub) answer rows = JudgesName answer rows sub.now
Judges (Take sub source batch now) answer rows = JudgesTake answer rows sub.now source.now batch.now
Judges (TakeUnread sub) answer rows = JudgesName answer rows sub.now
Judges (Hear sub source now) answer rows = JudgesHear answer rows sub.now source.now
Judges (Respond waiting response now) answer rows = JudgesResponse answer rows (option_copied waiting) response.now now
Judges Release answer rows = JudgesRelease answer rows
Judges (SourceEnded sub source identifier) answer rows = JudgesSourceEnded answer rows sub.now source.now
Judges (EndUnread sub) answer rows = JudgesName answer rows sub.now

-- what may be done at all: what couldn't be read isn't taken
abbrev pub MayBeDone : Call → Type 0
MayBeDone (Add subscription) = Unit {0}
MayBeDone (End sub) = Unit {0}
MayBeDone (Take sub source batch now) = Unit {0}
MayBeDone (TakeUnread sub) = ⊥
MayBeDone (Hear sub source now) = Unit {0}
MayBeDone (Respond waiting response now) = Unit {0}
MayBeDone Release = Unit {0}
MayBeDone (SourceEnded sub source identifier) = Unit {0}
MayBeDone (EndUnread sub) = ⊥

-- the refusals that there are at all
abbrev pub IsRefusal : Call → CollectorFault → Type 0
IsRefusal (Add subscription) = OfAdd
IsRefusal (End sub) = OfEnd
IsRefusal (Take sub source batch now) = OfTake
IsRefusal (TakeUnread sub) = OfTake
IsRefusal (Hear sub source now) = OfEnd
IsRefusal (Respond waiting response now) = OfResponse
IsRefusal Release = IsOfStore
IsRefusal (SourceEnded sub source identifier) = OfKnown
IsRefusal (EndUnread sub) = OfUnreadEnd

-- what stands behind it: a subscription that was added is live
abbrev pub Stands : Call → Rows → Type 0
Stands (Add subscription) rows = standing rows subscription.now.name ≡ Live subscription.now
Stands (End sub) rows = Unit {0}
Stands (Take sub source batch now) rows = Unit {0}
Stands (TakeUnread sub) rows = Unit {0}
Stands (Hear sub source now) rows = Unit {0}
Stands (Respond waiting response now) rows = Unit {0}
Stands Release rows = Unit {0}
Stands (SourceEnded sub source identifier) rows = Unit {0}
Stands (EndUnread sub) rows = Unit {0}
