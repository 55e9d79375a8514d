-- Events of plain words that no log has numbered yet.
use Rattle.std.specs.Prelude.{◌≡◌, ℕ, ◌≤◌, true, List, Option, Some, is_some}
use Rattle.std.specs.Str.{is_utf8}
use Rattle.wef_base.specs.Names.{channel_name}
use Rattle.wef_base.specs.declared.numbers.TheConstants.{MAX}
use Rattle.wef_event.specs.Events.{Event}
use Rattle.wef_event.specs.Numbering.{numbered}
use Rattle.wef_event.specs.PlainEvent.{plain_event, plain_text}
use Rattle.wef_event.specs.declared.unnumbered.PlainEvent.{PlainEvent}

-- its text with a number
abbrev pub plain_numbered_text : PlainEvent → ℕ → List ℕ
plain_numbered_text event number = plain_text event.channel number event.id event.level event.word

-- the event with a number, where its text isn't too long
abbrev pub plain_numbered : PlainEvent → ℕ → Option Event
plain_numbered event number = plain_event event.channel number event.id event.level event.word

-- the event before it has a number, which is 0 there, with its text in full
abbrev pub new_event : PlainEvent → Event
new_event event = record { channel = event.channel; number = 0; text = plain_numbered_text event 0 }

-- What gives the new event its number gives the plain event of this number.
abbrev pub NewEventsAreNumbered : Type 0
NewEventsAreNumbered = (event : PlainEvent) (number : ℕ) →
    channel_name event.channel ≡ Some event.channel → is_utf8 event.channel ≡ true → is_utf8 event.word ≡ true → 1 ≤ number → number ≤ MAX →
    numbered (new_event event) number ≡ plain_numbered event number

-- A plain event that isn't too long with a number isn't before it has one.
abbrev pub NewEventsFit : Type 0
NewEventsFit = (event : PlainEvent) (number : ℕ) → number ≤ MAX → is_some (plain_numbered event number) ≡ true → is_some (plain_numbered event 0) ≡ true
