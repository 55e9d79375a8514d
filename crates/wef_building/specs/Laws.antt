-- What is true of the batches that sources build.
use Rattle.std.specs.Prelude.{◌≡◌, ℕ, ◌+◌, ◌<◌, ◌≤◌, true, List, [], ◌∷◌, ◌++◌, length, sum_by}
use Rattle.std.specs.FinMap as map
use Rattle.wef_batch.specs.Cost.{cost, most as greatest}
use Rattle.wef_batch.specs.Envelopes.{size_of}
use Rattle.wef_batch.specs.Reach.{reach}
use Rattle.wef_batch.specs.WellFormed.{is_in}
use Rattle.wef_batch.specs.declared.items.Item.{Item}
use Rattle.wef_bookmark.specs.Order.{IsAtMost, Marks, number_at}
use Rattle.wef_keeper.specs.Rows.{Rows}
use Rattle.wef_source_log.specs.Histories.{Histories, history}
use Rattle.wef_source_log.specs.LogWindow.{IsWindow}
use Rattle.wef_building.specs.Building.{built, built_items, candidates, left_items, room_of, session_channels}
use Rattle.wef_building.specs.Fits.{Fits}
use Rattle.wef_building.specs.declared.sessions.Session.{Session}

-- A session's positions are within its source's histories.
abbrev pub AreWithin : Marks → Histories → Type 0
AreWithin positions all = (c : List ℕ) → number_at positions c ≤ length (history all c)

-- A batch that is built from a window, above positions within the histories, fits above every bookmark that is at least
-- at the positions: also above one to which later batches have moved it meanwhile.
abbrev pub BuiltBatchesFit : Type 0
BuiltBatchesFit = (rows : Rows) (all : Histories) (capacity boot : ℕ) (session : Session) (b : Marks) →
    0 < capacity → 0 < boot → IsWindow rows all capacity boot → AreWithin session.positions all → IsAtMost session.positions b →
    Fits session.query session.max_bytes all capacity b (built rows session)

-- A batch that is built from a window says in its bookmark how far it reads each channel of the session's query, so that is
-- what the session remembers of it.
abbrev pub BuiltBookmarksReach : Type 0
BuiltBookmarksReach = (rows : Rows) (all : Histories) (capacity boot : ℕ) (session : Session) (c : List ℕ) →
    0 < capacity → 0 < boot → IsWindow rows all capacity boot → AreWithin session.positions all → is_in (session_channels session) c ≡ true →
    map.get (built rows session).to c ≡ reach c (built rows session)

-- A batch has the candidates from the first on, at most as many as the session allows, and they cost at most the room.
abbrev pub BuiltItemsAreInFront : Type 0
BuiltItemsAreInFront = (rows : Rows) (session : Session) →
    (built_items rows session ++ left_items rows session ≡ candidates rows session)
    × (length (built_items rows session) ≤ session.max_items)
    × (sum_by cost (built_items rows session) ≤ room_of session.max_bytes)

-- one item more would be too many, or cost too much
abbrev pub IsFull : Session → List Item → List Item → Type 0
IsFull session items [] = Unit {0}
IsFull session items (next ∷ left) = (length items + 1 ≤ session.max_items) → room_of session.max_bytes < sum_by cost (items ++ next ∷ [])

-- No longer row of candidates would do.
abbrev pub BuiltItemsAreMost : Type 0
BuiltItemsAreMost = (rows : Rows) (session : Session) → IsFull session (built_items rows session) (left_items rows session)

-- The same in bytes: what the items have as parts of a written message keeps the room.
abbrev pub BuiltItemsKeepTheirRoom : Type 0
BuiltItemsKeepTheirRoom = (rows : Rows) (session : Session) → session.max_bytes < greatest → sum_by size_of (built_items rows session) ≤ room_of session.max_bytes

-- one item more would be too many, or have too many bytes
abbrev pub IsFullOfBytes : Session → List Item → List Item → Type 0
IsFullOfBytes session items [] = Unit {0}
IsFullOfBytes session items (next ∷ left) = (length items + 1 ≤ session.max_items) → room_of session.max_bytes < sum_by size_of (items ++ next ∷ [])

abbrev pub BuiltItemsFillTheirRoom : Type 0
BuiltItemsFillTheirRoom = (rows : Rows) (session : Session) → session.max_bytes < greatest → IsFullOfBytes session (built_items rows session) (left_items rows session)

-- A session's batches may have an item and 8,192 bytes at least, and its channels' names have at most 256 bytes.
pub record MaySendOne (session : Session) : Type 0 where
  pub an_item : 1 ≤ session.max_items
  pub its_bytes : 8192 ≤ session.max_bytes
  pub its_name : (c : List ℕ) → is_in (session_channels session) c ≡ true → length c ≤ 256

-- A batch has no item only where there is no candidate.
abbrev pub EmptyMeansNothingToSend : Type 0
EmptyMeansNothingToSend = (rows : Rows) (session : Session) → MaySendOne session → (built rows session).items ≡ [] → candidates rows session ≡ []
