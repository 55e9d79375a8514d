-- What the calls of the log do, by its rows as the call begins, and why they are refused.
use Rattle.std.specs.Prelude.{◌≡◌, ℕ, ◌+◌, ◌<◌, nat_le, Bool, List, is_none, length, Ok, Err, if◌then◌else◌}
use Rattle.wef_base.specs.declared.numbers.TheConstants.{MAX}
use Rattle.wef_event.specs.Events.{Event}
use Rattle.wef_event.specs.Numbering.{numbered, numbered_text}
use Rattle.wef_keeper.specs.Calls.{Effect}
use Rattle.wef_keeper.specs.Rows.{Rows}
use Rattle.wef_source_log.specs.Histories.{Histories, history, extended}
use Rattle.wef_source_log.specs.LogWindow.{IsWindow, boot_of, capacity_of, last_of, start_changes, write_changes}
use Rattle.wef_source_log.specs.declared.faults.LogFault.{LogFault}
use Rattle.wef_source_log.specs.declared.faults.LogFault.TheVariants.{NoMemory, Failed, Full, TooLong}

-- a call that only reads is refused for want of memory, or where the store failed
abbrev pub RefusesRead : LogFault → Type 0
RefusesRead NoMemory = Unit {0}
RefusesRead Failed = Unit {0}
RefusesRead _ = ⊥

-- a start isn't refused as too long
abbrev pub RefusesStart : LogFault → Type 0
RefusesStart TooLong = ⊥
RefusesStart _ = Unit {0}

-- whether a channel has all numbers
abbrev pub is_full : Rows → List ℕ → Bool
is_full rows c = nat_le MAX (last_of rows c)

-- the number of the next record of an event's channel
abbrev pub next_number : Rows → Event → ℕ
next_number rows event = last_of rows event.channel + 1

-- the text that an event has as the next record of its channel
abbrev pub next_text : Rows → Event → List ℕ
next_text rows event = numbered_text event (next_number rows event)

-- what a write does: `Full` comes exactly where the channel's last number is the greatest, and then `TooLong` exactly
-- where there is no event with the next number
abbrev pub write_effect : Rows → Event → Effect LogFault
write_effect rows event =
    if is_full rows event.channel then Err Full
    else (if is_none (numbered event (next_number rows event)) then Err TooLong
    else Ok (write_changes (capacity_of rows) event.channel (next_number rows event) (next_text rows event)))

-- whether the source was started as often as it can be
abbrev pub is_boot_full : Rows → Bool
is_boot_full rows = nat_le MAX (boot_of rows)

-- what a start does: `Full` comes exactly where the boot number is the greatest
abbrev pub start_effect : Rows → ℕ → Effect LogFault
start_effect rows capacity = if is_boot_full rows then Err Full else Ok (start_changes rows capacity)

-- the boot number of the next start
abbrev pub next_boot : Rows → ℕ
next_boot rows = boot_of rows + 1

-- Where the rows are the window of histories, the number of what was written is the length of its channel's history
-- plus one, and the rows are the window of the longer histories.
abbrev pub ExtendsHistory : Rows → Rows → Event → ℕ → Type 0
ExtendsHistory rows rows' event n = (all : Histories) (capacity boot : ℕ) → 0 < capacity → 0 < boot → IsWindow rows all capacity boot →
    (n ≡ length (history all event.channel) + 1) × IsWindow rows' (extended all event.channel (numbered_text event n)) capacity boot
