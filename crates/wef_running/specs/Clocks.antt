-- `collect` under two clocks: what it sends in each connection is the same, and so are the rows that it leaves, but for the moments
-- at which sources were heard.
use Rattle.std.specs.Prelude.{◌≡◌, ℕ, true, List, [], ◌∷◌, ◌++◌, drop, length, map, Option, Some, is_some}
use Rattle.std.specs.Io.KnownBytes.{Appends}
use Rattle.wef_base.specs.Counts.{Rose}
use Rattle.wef_collector_rows.specs.Forms.{AreFormed}
use Rattle.wef_collector_serving.specs.Clocks.{AreAlike, IsSameOutcome, Outcome}
use Rattle.wef_commands.specs.Endings.{Told}
use Rattle.wef_commands.specs.Laws.{Stand}
use Rattle.wef_commands.specs.declared.ending.Ending.TheVariants as ends
use Rattle.wef_connections.specs.Opening.{first_of, sent_in_each}
use Rattle.wef_http_heads.specs.declared.targets.Side.TheVariants.{Collector}
use Rattle.wef_keeper.specs.Keeping.{MayFind, Store}
use Rattle.wef_keeper.specs.Rows.{Rows}
use Rattle.wef_ports.specs.Telling as ports
use Rattle.wef_running.specs.Collecting.{CollectEnds, lines_from, listening_line}
use Rattle.wef_serving.specs.declared.ends.ConnectionEnd.{ConnectionEnd}

-- ---- runs

-- A run of `collect`: what is told of its output, and before it and behind it of its front and of its store; rows that stand before it,
-- and rows that an opening finds behind it.
pub record Run : Type 0 where
  pub clock : Option ℕ
  pub out : Told
  pub front : ports.Told
  pub front_then : ports.Told
  pub store : Store
  pub store_then : Store
  pub found : Rows
  pub last : Rows

-- A front tells the bytes of each connection that is to come, and what was sent in each so far.
pub record TellsBytes (waiting earlier : List (List ℕ)) (f : ports.Told) : Type 0 where
  pub coming : f.around.waiting ≡ Some waiting
  pub sent : sent_in_each f ≡ Some earlier
  pub sending : is_some f.sent ≡ true

-- A run was done over rows that are told and good, and nothing outside failed. That it was done says as well that memory wasn't short.
pub record IsDoneWell (address : List ℕ) (count : ℕ) (waiting earlier : List (List ℕ)) (run : Run) : Type 0 where
  pub done : CollectEnds address count ends.Done run.out run.clock run.front run.front_then run.store run.store_then
  pub stand : Stand run.store run.found
  pub behind : MayFind run.store_then run.last
  -- a row that isn't of its form counts as a store that failed
  pub formed : AreFormed run.found
  -- the store didn't fail, in as far as its count of faults can tell
  pub calm : Rose run.store.faults run.store_then.faults → ⊥
  -- where bytes aren't told nothing is known of what was sent
  pub tells : TellsBytes waiting earlier run.front
  -- no connection failed, in the same way
  pub whole : Rose run.front.faults run.front_then.faults → ⊥

-- ---- what they have in common

-- Outcomes of connections, one after the other, by the bytes of each: they are the same, but for the choice that a head leaves which
-- is cut off.
abbrev pub AreSameOutcomes : List (List ℕ) → List Outcome → List Outcome → Type 0
AreSameOutcomes waiting [] [] = Unit {0}
AreSameOutcomes waiting [] (two ∷ twos) = ⊥
AreSameOutcomes waiting (one ∷ ones) [] = ⊥
AreSameOutcomes waiting (one ∷ ones) (two ∷ twos) = IsSameOutcome Collector (first_of waiting) one two × AreSameOutcomes (drop 1 waiting) ones twos

abbrev pub ends_of : List Outcome → List ConnectionEnd
ends_of outcomes = map (λ (o : Outcome). o.end) outcomes

abbrev pub sent_in : List Outcome → List (List ℕ)
sent_in outcomes = map (λ (o : Outcome). o.sent) outcomes

-- The outcomes are those of the connections of a run: its front tells what was sent in each, and its output how each ended.
pub record AreOutcomesOf (address : List ℕ) (count : ℕ) (earlier : List (List ℕ)) (run : Run) (outcomes : List Outcome) : Type 0 where
  pub all : length outcomes ≡ count
  pub sent : sent_in_each run.front_then ≡ Some (earlier ++ sent_in outcomes)
  pub lines : Appends run.out.before run.out.after (listening_line address ++ lines_from 1 (ends_of outcomes))

pub record GoAlike (address : List ℕ) (count : ℕ) (waiting earlier before : List (List ℕ)) (one other : Run) : Type 0 where
  pub ones : List Outcome
  pub others : List Outcome
  pub outcomes : AreOutcomesOf address count earlier one ones
  pub outcomes_too : AreOutcomesOf address count before other others
  pub same : AreSameOutcomes waiting ones others
  pub rows : AreAlike one.last other.last

-- Whatever two clocks tell, runs over the same bytes and over rows that are alike send the same in each connection, and leave rows that
-- are alike.
abbrev pub CollectsAlike : Type 0
CollectsAlike =
    (address : List ℕ) (count : ℕ) (waiting earlier before : List (List ℕ)) (one other : Run) →
    IsDoneWell address count waiting earlier one → IsDoneWell address count waiting before other → AreAlike one.found other.found → GoAlike address count waiting earlier before one other
