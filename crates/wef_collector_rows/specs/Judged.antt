-- Rows that a call has read are of their form, unless its store refuses it.
use Rattle.std.specs.Prelude.{◌≡◌, ℕ, true, List, Result}
use Rattle.std.specs.List.{list_all}
use Rattle.wef_keeper.specs.Calls.{UnlessOfStore}
use Rattle.wef_keeper.specs.Forms.{IsPassedAt}
use Rattle.wef_keeper.specs.Rows.{Rows}
use Rattle.wef_keeper.specs.declared.keys.Key.{Key}
use Rattle.wef_keeper.specs.declared.keys.Row.{Row}
use Rattle.wef_collector_rows.specs.Faults.{collector_store}
use Rattle.wef_collector_rows.specs.Forms.{is_formed}
use Rattle.wef_collector_rows.specs.Keys.{subscription_key}
use Rattle.wef_collector_rows.specs.declared.faults.CollectorFault.{CollectorFault}

-- the row of a key, where one stands, is of its form
abbrev pub IsFormedAt : Key → Rows → Type 0
IsFormedAt key rows = IsPassedAt is_formed key rows

-- and so is each row of a section or of a page
abbrev pub AreAllFormed : List Row → Type 0
AreAllFormed rows = list_all is_formed rows ≡ true

-- the row of a subscription's name is the first that a call for the name reads
abbrev pub JudgesName : {T : Type 0} → Result T CollectorFault → Rows → List ℕ → Type 0
JudgesName answer rows u = UnlessOfStore collector_store answer (IsFormedAt (subscription_key u) rows)
