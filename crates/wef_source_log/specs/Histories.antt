-- The history of a source: all records that it ever wrote, channel by channel. A channel's records are numbered by
-- their places: the first has number 1. A history never shrinks; the log keeps only the last records of it.
use Rattle.std.specs.Prelude.{◌≡◌, ℕ, true, ◌-◌, ◌==◌, List, [], ◌∷◌, ◌++◌, Option, Some, None, slice_get, unwrap_or, if◌then◌else◌}
use Rattle.std.specs.Ordering.{nat_cmp}
use Rattle.std.specs.Cmp.Lexicographic.{slice_cmp}
use Rattle.std.specs.FinMap as map
use Rattle.wef_event.specs.Events.{is_event}

-- the texts of a channel's records, in the order of their numbers
abbrev pub History : Type 0
History = List (List ℕ)

-- the histories of a source's channels, by name
abbrev pub Histories : Type 0
Histories = map.FinMap (slice_cmp nat_cmp) (List (List ℕ))

-- a channel's history: empty where nothing was written
abbrev pub history : Histories → List ℕ → History
history all c = unwrap_or (map.get all c) []

-- the text of a number's record
abbrev pub text_at : History → ℕ → Option (List ℕ)
text_at records n = if n == 0 then None else slice_get records (n - 1)

-- the histories with one record more
abbrev pub extended : Histories → List ℕ → List ℕ → Histories
extended all c text = map.insert all c (history all c ++ text ∷ [])

-- Each text of the histories is that of an event, which says the channel and the number.
abbrev pub AreEvents : Histories → Type 0
AreEvents all = (c : List ℕ) (n : ℕ) (text : List ℕ) → text_at (history all c) n ≡ Some text → is_event (record { channel = c; number = n; text = text }) ≡ true
