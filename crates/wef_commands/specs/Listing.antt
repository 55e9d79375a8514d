-- How `list` ends.
use Rattle.std.specs.Prelude.{◌≡◌, ℕ, Bool, List, [], ◌∷◌, ◌++◌, ◌⊎◌, IfSome, OnOk, Result, codes, if◌then◌else◌}
use Rattle.std.specs.declared.result.Result.TheVariants.{Ok, Err}
use Rattle.std.specs.List.{flat_map}
use Rattle.wef_base.specs.Printed.{printed}
use Rattle.wef_collector_reports.specs.Listing.{listed}
use Rattle.wef_collector_reports.specs.declared.listing.Listed.{Listed}
use Rattle.wef_collector_rows.specs.Answers.{IsOfStore}
use Rattle.wef_collector_rows.specs.Faults.{collector_store}
use Rattle.wef_collector_rows.specs.Forms.{AreFormed}
use Rattle.wef_collector_rows.specs.Judged.{AreAllFormed}
use Rattle.wef_collector_rows.specs.Standing.{subscription_rows}
use Rattle.wef_collector_rows.specs.declared.faults.CollectorFault.{CollectorFault}
use Rattle.wef_eventing.specs.declared.subscriptions.SubKind.{SubKind}
use Rattle.wef_eventing.specs.declared.subscriptions.SubKind.TheVariants.{BySource, ByCollector}
use Rattle.wef_keeper.specs.Calls.{Looks}
use Rattle.wef_keeper.specs.Keeping.{Store}
use Rattle.wef_commands.specs.Calling.{CallEnds, WroteOut}
use Rattle.wef_commands.specs.Endings.{IsUnwritten, Told}
use Rattle.wef_commands.specs.Refusals.{store_ending}
use Rattle.wef_commands.specs.declared.ending.Ending.{Ending}
use Rattle.wef_commands.specs.declared.ending.Ending.TheVariants as ends

-- who begins a subscription
abbrev pub kind_word : SubKind → List ℕ
kind_word BySource = codes " source"
kind_word ByCollector = codes " collector"

abbrev pub state_word : Bool → List ℕ
state_word live = if live then codes " live" else codes " ended"

-- `NAME live source`
unfoldable pub list_line : Listed → List ℕ
list_line l = printed l.subscription.name ++ state_word l.live ++ kind_word l.subscription.kind ++ 10 ∷ []

-- a line for each subscription, in order
abbrev pub list_text : List Listed → List ℕ
list_text list = flat_map list_line list

-- the subscriptions are those of the rows; a refusal is the store's
abbrev pub AreListed : Result (List Listed) CollectorFault → Store → Type 0
AreListed (Ok list) now = IfSome now.rows (λ rows. list ≡ listed rows)
AreListed (Err fault) now = IsOfStore fault

-- reading which subscriptions there are, whose rows are then of their form
abbrev pub Lists : Result (List Listed) CollectorFault → Store → Store → Type 0
Lists done before now = Looks collector_store AreFormed done before now × AreListed done now × OnOk done (IfSome now.rows (λ rows. AreAllFormed (subscription_rows rows)))

-- the lines are written, or the output failed; or there was no memory for them
abbrev pub WroteList : List Listed → Ending → Told → Type 0
WroteList list ending out = WroteOut (list_text list) ending out ⊎ ((ending ≡ ends.NoMemory) × IsUnwritten out)

abbrev pub ListEnds : Ending → Told → Store → Store → Type 0
ListEnds ending out before now = CallEnds Lists store_ending WroteList ending out before now
