-- Which rows a batch rests on: where it is built, none of them was spoilt.
use Rattle.std.specs.Prelude.{◌≡◌, ℕ, ◌<◌, ◌≤◌, Bool, true, false, List, [], ◌∷◌, Option, Some, None}
use Rattle.std.specs.List.{AllByRecursion}
use Rattle.wef_batch.specs.declared.items.Item.{Item}
use Rattle.wef_bookmark.specs.Order.{Marks, number_at}
use Rattle.wef_keeper.specs.Forms.{IsPassedAt}
use Rattle.wef_keeper.specs.Rows.{Rows}
use Rattle.wef_source_log.specs.Forms.{is_formed}
use Rattle.wef_source_log.specs.Judged.{JudgesFirst}
use Rattle.wef_source_log.specs.Keys.{record_key}
use Rattle.wef_building.specs.Building.{first_number, is_of, left_items, reaches, session_channels}
use Rattle.wef_building.specs.declared.sessions.Session.{Session}

-- each record of a channel above one number and up to another is of its form, where it stands
abbrev pub AreSound : List ℕ → ℕ → ℕ → Rows → Type 0
AreSound c after upto rows = (n : ℕ) → after < n → n ≤ upto → IsPassedAt is_formed (record_key c n) rows

-- A session's batch rests on the capacity, on the last number of each channel of the query, and on each record that the
-- batch reads above the session's positions, also where it has no item.
pub record JudgesBatch (rows : Rows) (session : Session) : Type 0 where
  pub numbers : AllByRecursion (λ c. JudgesFirst c rows) (session_channels session)
  pub records : AllByRecursion (λ (r : List ℕ × ℕ). AreSound r.0 (number_at session.positions r.0) r.1 rows) (reaches rows (session_channels session) (left_items rows session))

-- ---- as a draft is filled

-- whether a number is in front of the item that is left; each is, where none is left
abbrev pub IsBefore : Option Item → ℕ → Type 0
IsBefore None n = Unit {0}
IsBefore (Some i) n = n < first_number i

-- each record of a channel above a number, and in front of the item that is left
abbrev pub AreRead : List ℕ → ℕ → Option Item → Rows → Type 0
AreRead c after left rows = (n : ℕ) → after < n → IsBefore left n → IsPassedAt is_formed (record_key c n) rows

abbrev pub StopsOrGoes : Bool → Type 0 → Type 0 → Type 0
StopsOrGoes true Stops Goes = Stops
StopsOrGoes false Stops Goes = Goes

-- channel by channel, up to that of the item that is left
abbrev pub AreReadIn : Rows → Marks → List (List ℕ) → Option Item → Type 0
AreReadIn rows positions [] left = Unit {0}
AreReadIn rows positions (c ∷ cs) None = AreRead c (number_at positions c) None rows × AreReadIn rows positions cs None
AreReadIn rows positions (c ∷ cs) (Some i) =
    StopsOrGoes (is_of c i) (AreRead c (number_at positions c) (Some i) rows) (AreRead c (number_at positions c) None rows × AreReadIn rows positions cs (Some i))

-- what is read of a channel, and what of it may be left
abbrev pub JudgesChannel : Rows → Marks → List ℕ → Option Item → Option Item → Type 0
JudgesChannel rows positions c before left = JudgesFirst c rows × (before ≡ None → AreRead c (number_at positions c) left rows)

-- what is read of channels
abbrev pub JudgesChannels : Rows → Marks → List (List ℕ) → Option Item → Option Item → Type 0
JudgesChannels rows positions cs before left = AllByRecursion (λ c. JudgesFirst c rows) cs × (before ≡ None → AreReadIn rows positions cs left)
