-- What the clock decides of a connection: the moments at which sources were heard, and nothing else.
use Rattle.std.specs.Prelude.{◌≡◌, ◌⊎◌, ℕ, ◌==◌, Bool, true, false, List, ◌++◌, Option, None, is_some}
use Rattle.std.specs.FinMap as map
use Rattle.wef_collector_serving.specs.ByRows.{AnswersBy, Kept, LeavesBy}
use Rattle.wef_http.specs.Messages.{IsRequest, RefusesRequest}
use Rattle.wef_http.specs.declared.messages.HttpRequest.{HttpRequest}
use Rattle.wef_http_heads.specs.Ends.{behind_head}
use Rattle.wef_http_heads.specs.declared.ends.HttpEnd.TheVariants as http
use Rattle.wef_http_heads.specs.declared.targets.Side.{Side}
use Rattle.wef_keeper.specs.Kinds.{number_of}
use Rattle.wef_keeper.specs.Rows.{Rows}
use Rattle.wef_keeper.specs.declared.keys.Cell.{Cell}
use Rattle.wef_keeper.specs.declared.keys.Key.{Key}
use Rattle.wef_keeper.specs.declared.kinds.RowKind.TheVariants.{Heard}
use Rattle.wef_serving.specs.Serving.{AnswersAt, IsBroken, LeavesAt, Serves, refusal_with}
use Rattle.wef_serving.specs.declared.ends.ConnectionEnd.{ConnectionEnd}
use Rattle.wef_serving.specs.declared.ends.ConnectionEnd.TheVariants as over

-- ---- rows

-- What stands at a key in these rows and in those: the same; or, where it tells when a source was heard, something in both or in
-- neither.
abbrev pub StandAlike : Bool → Option Cell → Option Cell → Type 0
StandAlike false one other = one ≡ other
StandAlike true one other = is_some one ≡ is_some other

-- Rows that are the same but for the moments at which sources were heard.
abbrev pub AreAlike : Rows → Rows → Type 0
AreAlike rows other = (key : Key) → StandAlike (key.kind == number_of Heard) (map.get rows key) (map.get other key)

-- ---- replies

-- What was sent in a connection, and how it ended.
pub record Outcome : Type 0 where
  pub sent : List ℕ
  pub end : ConnectionEnd

-- These bytes are left of those, behind requests that keep their connection, as many as it is.
pub data AreLeft (side : Side) : List ℕ → List ℕ → Type 0 where
  all_left : (bytes : List ℕ) → AreLeft side bytes bytes
  left_behind : (bytes rest left : List ℕ) (request : HttpRequest) → IsRequest side bytes request rest → request.keep ≡ true → AreLeft side rest left → AreLeft side bytes left

-- The bytes end inside a head, and none that could follow would make it a good one. So there are two reasons to read no request of
-- them: one connection refused them, and the other ended as one that was cut short. All that was sent before is the same.
pub record IsRefusedOrCut (side : Side) (bytes : List ℕ) (refused cut : Outcome) : Type 0 where
  pub left : List ℕ
  pub behind : AreLeft side bytes left
  pub headless : behind_head left ≡ None
  pub bad : RefusesRequest side left http.BadHead
  pub short : RefusesRequest side left http.Cut
  pub sent_refusal : refused.sent ≡ cut.sent ++ refusal_with 400
  pub refused_end : refused.end ≡ over.Refused 400
  pub cut_end : cut.end ≡ over.Cut

-- Two outcomes of the same bytes are the same, but for that choice, which no clock and no rows decide.
abbrev pub IsSameOutcome : Side → List ℕ → Outcome → Outcome → Type 0
IsSameOutcome side bytes one other = (one ≡ other) ⊎ (IsRefusedOrCut side bytes one other ⊎ IsRefusedOrCut side bytes other one)

-- ---- connections

-- A connection was served over rows, in a run that leaves the final rows, from what was kept of a collector to what is kept then, and
-- nothing outside failed.
pub record IsServedWell (side : Side) (clock : Option ℕ) (bytes : List ℕ) (final : Rows) (before : Kept) (outcome : Outcome) (now : Kept) : Type 0 where
  pub serves : Serves side (AnswersAt clock (AnswersBy final)) (LeavesAt clock LeavesBy) bytes before outcome.sent now outcome.end
  -- neither the port failed nor memory was short: else it may end anywhere
  pub whole : IsBroken outcome.end → ⊥
  -- no answer says that the store failed: the rows don't decide when it does
  pub calm : now.errors ≡ before.errors

-- Two servings of the same bytes: the same was sent, and what is kept then is the same but for the moments at which sources were heard.
pub record AreServedAlike (side : Side) (bytes : List ℕ) (one other : Outcome) (now then : Kept) : Type 0 where
  pub outcome : IsSameOutcome side bytes one other
  pub rows : AreAlike now.rows then.rows
  pub memory : now.memory ≡ then.memory

-- Whatever two clocks tell, the same bytes over rows that are alike are served alike.
abbrev pub ClocksDecideNothingElse : Type 0
ClocksDecideNothingElse =
    (side : Side) (bytes : List ℕ) (clock other : Option ℕ) (final last : Rows) (s t u v : Kept) (one two : Outcome) →
    IsServedWell side clock bytes final s one t → IsServedWell side other bytes last u two v → AreAlike s.rows u.rows → s.memory ≡ u.memory → AreServedAlike side bytes one two t v
