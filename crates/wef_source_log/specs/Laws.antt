-- Laws of windows: a log in which nothing was written has the window of no history, and what the rows of a window
-- give is what its histories say.
use Rattle.std.specs.Prelude.{◌≡◌, ℕ, ◌+◌, ◌-◌, ◌<◌, ◌≤◌, max, true, Some, List, [], ◌∷◌, drop, length}
use Rattle.std.specs.FinMap as map
use Rattle.wef_event.specs.Events.{Event, is_event}
use Rattle.wef_base.specs.Names.{channel_name}
use Rattle.wef_base.specs.declared.numbers.TheConstants.{MAX}
use Rattle.wef_keeper.specs.Rows.{Rows}
use Rattle.wef_source_log.specs.Forms.{AreFormed}
use Rattle.wef_source_log.specs.Histories.{History, Histories, history}
use Rattle.wef_source_log.specs.LogWindow.{IsWindow, boot_of, capacity_of, first_for, first_of, last_of, records_after, started, written}

-- records of a channel with these texts, numbered from `n` on
abbrev pub numbered_from : List ℕ → ℕ → List (List ℕ) → List Event
numbered_from c n [] = []
numbered_from c n (text ∷ texts) = record { channel = c; number = n; text = text } ∷ numbered_from c (n + 1) texts

-- the records of a channel's history from a number on, which is 1 or more
abbrev pub records_from : List ℕ → History → ℕ → List Event
records_from c records first = numbered_from c first (drop (first - 1) records)

-- What the rows of a window give. The records above a number are those of the history that are in the window and
-- above it, in order, each once.
pub record ReadsWindow (rows : Rows) (all : Histories) (capacity boot : ℕ) : Type 0 where
  pub capacity_is : capacity_of rows ≡ capacity
  pub boot_is : boot_of rows ≡ boot
  pub last_is : (c : List ℕ) → last_of rows c ≡ length (history all c)
  pub first_is : (c : List ℕ) → first_of rows c ≡ first_for capacity (length (history all c))
  pub records_are : (c : List ℕ) (after : ℕ) →
      records_after rows c after ≡ records_from c (history all c) (max (first_for capacity (length (history all c))) (after + 1))

-- no rows are the window of no history, before the first start
abbrev pub NothingIsEmpty : Type 0
NothingIsEmpty = (capacity : ℕ) → IsWindow map.empty map.empty capacity 0

-- a start keeps the window, and its boot number is one greater
abbrev pub StartsKeep : Type 0
StartsKeep = (rows : Rows) (all : Histories) (capacity boot : ℕ) → IsWindow rows all capacity boot → IsWindow (started rows capacity) all capacity (boot + 1)

-- what a window's rows give, from the first start on
abbrev pub WindowsRead : Type 0
WindowsRead = (rows : Rows) (all : Histories) (capacity boot : ℕ) → 0 < boot → IsWindow rows all capacity boot → ReadsWindow rows all capacity boot

-- Rows of their form stay so: where there is none, over a start, and over a write.
pub record FormsStay : Type 0 where
  pub nothing : AreFormed map.empty
  pub start : (rows : Rows) (capacity : ℕ) → AreFormed rows → boot_of rows < MAX → 1 ≤ capacity → capacity ≤ 1000000 → AreFormed (started rows capacity)
  pub write : (rows : Rows) (c text : List ℕ) → AreFormed rows → last_of rows c < MAX → channel_name c ≡ Some c
      → is_event (record { channel = c; number = last_of rows c + 1; text = text }) ≡ true → AreFormed (written rows c text)
