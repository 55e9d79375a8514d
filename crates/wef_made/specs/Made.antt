-- The schedule that a seed makes: which numbers it gives, and which lines they stand for.
use Rattle.std.specs.Prelude.{◌≡◌, ℕ, zero, suc, ◌+◌, ◌*◌, ◌/◌, ◌%◌, ◌==◌, nat_lt, true, List, [], ◌∷◌, ◌++◌, codes, refl, Option, Some, None, if◌then◌else◌}
use Rattle.std.specs.List.{flat_map}
use Rattle.std.specs.Str.{chars}
use Rattle.wef_event.specs.declared.unnumbered.PlainEvent.{PlainEvent}
use Rattle.wef_query.specs.Queries.{all_events_of}
use Rattle.wef_replay_values.specs.declared.end_name.EndName.TheVariants as end
use Rattle.wef_replay.specs.declared.lines.Line.{Line}
use Rattle.wef_replay.specs.declared.lines.Line.TheVariants.{Subscribe, Source, Write, Ask, Poll, Back, Crash, Fail, Lost, Calm, Settle}

-- ---- numbers

-- the generator behind a state
abbrev pub next_state : ℕ → ℕ
next_state x = (x * 6364136223846793005 + 1442695040888963407) % 18446744073709551616

-- what is drawn of a state: its highest 16 bits
abbrev pub draw_of : ℕ → ℕ
draw_of x = x / 281474976710656

-- the first numbers that are drawn behind a state, so many
abbrev pub draws : ℕ → ℕ → List ℕ
draws x zero = []
draws x (suc n) = draw_of (next_state x) ∷ draws (next_state x) n

-- one of them is taken, and so many are left; or none was there
abbrev pub Takes : List ℕ → Option ℕ → List ℕ → Type 0
Takes before None after = before ≡ []
Takes before (Some d) after = before ≡ d ∷ after

-- ---- names

-- four sources
abbrev pub source_name : ℕ → List ℕ
source_name n = if n == 0 then codes "s0" else if n == 1 then codes "s1" else if n == 2 then codes "s2" else codes "s3"

-- two channels
abbrev pub channel_name : ℕ → List ℕ
channel_name n = if n == 0 then codes "application" else codes "system"

-- one subscription
abbrev pub subscription_name : List ℕ
subscription_name = codes "made"

-- ---- lines

abbrev pub source_line : ℕ → Line
source_line n = Source (source_name n) 64

abbrev pub subscribe_line : Line
subscribe_line = Subscribe subscription_name 20 512000 900000 (record { items = all_events_of (channel_name 0 ∷ channel_name 1 ∷ []) })

abbrev pub event_of : ℕ → PlainEvent
unfolding chars
event_of n = record { channel = channel_name n; id = 1; level = 4; word = codes "x"; characters = refl }

-- a source writes to either channel
abbrev pub write_line : List ℕ → ℕ → Line
write_line s rest = Write s (event_of (rest % 2))

-- a source asks, and what was sent last is delivered twice
abbrev pub asking : List ℕ → List Line
asking s = Ask s ∷ Back 0 ∷ Back 0 ∷ []

abbrev pub poll_line : List ℕ → Line
poll_line s = Poll s subscription_name

-- either end crashes, the collector's next commit fails with its changes kept, or a source gives up waiting
abbrev pub trouble : ℕ → List ℕ → Line
trouble kind s =
    if kind == 0 then Crash (end.Source s) else
    if kind == 1 then Crash end.Collector else
    if kind == 2 then Fail end.Collector true else Lost s subscription_name

-- of ten numbers, six write, and one each asks, polls, delivers an earlier message, and makes trouble
abbrev pub lines_by : ℕ → List ℕ → ℕ → List Line
lines_by kind s rest =
    if nat_lt kind 6 then write_line s rest ∷ [] else
    if kind == 6 then asking s else
    if kind == 7 then poll_line s ∷ [] else
    if kind == 8 then Back rest ∷ [] else trouble (rest % 4) s ∷ []

-- the lines that a drawn number stands for, by what its last digit, the two bits behind it and the rest say
abbrev pub lines_of : ℕ → List Line
lines_of d = lines_by (d % 10) (source_name ((d / 10) % 4)) (d / 40)

-- ---- a schedule

abbrev pub opening : List Line
opening = source_line 0 ∷ source_line 1 ∷ source_line 2 ∷ source_line 3 ∷ subscribe_line ∷ []

abbrev pub closing : List Line
closing = Calm ∷ Settle ∷ []

-- that of a seed, of so many drawn numbers
abbrev pub schedule : ℕ → ℕ → List Line
schedule seed size = opening ++ flat_map lines_of (draws seed size) ++ closing
