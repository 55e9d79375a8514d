-- Which rows the calls of the log read: unless its store refuses a call, none of those that it has read was spoilt.
use Rattle.std.specs.Prelude.{◌≡◌, ℕ, true, List, take, Result, Ok, Err, OnOk}
use Rattle.std.specs.List.{list_all}
use Rattle.wef_keeper.specs.Calls.{UnlessOfStore}
use Rattle.wef_keeper.specs.Forms.{IsPassedAt}
use Rattle.wef_keeper.specs.Rows.{Rows}
use Rattle.wef_keeper.specs.Sections.{rows_under}
use Rattle.wef_keeper.specs.declared.keys.Depth.TheVariants.{Channel}
use Rattle.wef_source_log.specs.Faults.{log_store}
use Rattle.wef_source_log.specs.Forms.{is_formed}
use Rattle.wef_source_log.specs.Keys.{boot_key, capacity_key, last_key, record_key}
use Rattle.wef_source_log.specs.declared.faults.LogFault.{LogFault}
use Rattle.wef_source_log.specs.declared.faults.LogFault.TheVariants.{Full, TooLong}

-- a start reads the boot number, and where that can rise the capacity
abbrev pub JudgesStart : {T : Type 0} → Result T LogFault → Rows → Type 0
JudgesStart answer rows = UnlessOfStore log_store answer (IsPassedAt is_formed boot_key rows) × OnOk answer (IsPassedAt is_formed capacity_key rows)

-- what a write has read that is refused: with `Full` the last number of its channel alone
abbrev pub JudgesRefused : LogFault → List ℕ → Rows → Type 0
JudgesRefused Full c rows = IsPassedAt is_formed (last_key c) rows
JudgesRefused TooLong c rows = IsPassedAt is_formed (last_key c) rows × IsPassedAt is_formed capacity_key rows
JudgesRefused _ c rows = Unit {0}

-- a write reads the last number of its channel, and where a number is left the capacity
abbrev pub JudgesWrite : {T : Type 0} → Result T LogFault → List ℕ → Rows → Type 0
JudgesWrite (Ok answer) c rows = IsPassedAt is_formed (last_key c) rows × IsPassedAt is_formed capacity_key rows
JudgesWrite (Err fault) c rows = JudgesRefused fault c rows

-- the first number of a channel's window rests on the capacity and the last number
abbrev pub JudgesFirst : List ℕ → Rows → Type 0
JudgesFirst c rows = IsPassedAt is_formed capacity_key rows × IsPassedAt is_formed (last_key c) rows

-- the last number of a channel
abbrev pub JudgesLast : List ℕ → Rows → Type 0
JudgesLast c rows = IsPassedAt is_formed (last_key c) rows

-- a page has its own rows and no others
abbrev pub JudgesPage : List ℕ → ℕ → ℕ → Rows → Type 0
JudgesPage c after n rows = list_all is_formed (take n (rows_under Channel (record_key c after) rows)) ≡ true
