-- Deployments: one collector's folder and any number of sources' folders, with at most one run on over each, which may be killed at
-- any time; and that they are safe.
use Rattle.std.specs.Prelude.{◌≡◌, ℕ, true, false, List, [], ◌∷◌, Option, Some, None, if◌then◌else◌}
use Rattle.wef_base.specs.Names.{same}
use Rattle.wef_command_line.specs.declared.command.Command.{Command}
use Rattle.wef_command_line.specs.declared.command.Command.TheVariants as the
use Rattle.wef_commands.specs.declared.writing.TheConstants.{LOG_CAPACITY}
use Rattle.wef_keeper.specs.Rows.{Rows}
use Rattle.wef_machine.specs.Sources.{declared_slot}
use Rattle.wef_machine.specs.States.{Slot, State, slot_of, start, with_messages, with_slot}
use Rattle.wef_replay.specs.Good.{is_among, is_source}
use Rattle.wef_safety.specs.Laws.{IsStateSafe}
use Rattle.wef_runs.specs.Deeds.{Deed, Does, IsCut}
use Rattle.wef_deployments.specs.Folders.{Writing, deeds_forwarded, deeds_served, deeds_written}
use Rattle.wef_deployments.specs.Hearing.{Hears, after_cut, after_deed}
use Rattle.wef_runs.specs.Runs.{Account, OfCollector, deeds_of}
use Rattle.wef_deployments.specs.Sources.{HearsAs, IsBroken, SourceDeed, Turns, says_as, slot_left}

-- ---- worlds

-- What stands in the stores, what was ever said, and what is still to be done in the runs that are on: of the collector, and over the
-- folder of each source.
pub record World : Type 0 where
  pub state : State
  pub going : Option (List Deed)
  pub turns : List ℕ → Option (List SourceDeed)

-- a world with what stands and was said from now on, and what is to be done at the collector
abbrev pub with_going : World → State → Option (List Deed) → World
with_going w state going = record { state = state; going = going; turns = w.turns }

-- and over the folder of a source
abbrev pub with_turns : World → State → List ℕ → Option (List SourceDeed) → World
with_turns w state s deeds = record { state = state; going = w.going; turns = λ r. if same r s then deeds else w.turns r }

-- what stands in new folders, the sources' under these names
abbrev pub new_state : List (List ℕ) → State
new_state [] = start
new_state (s ∷ names) = with_slot (new_state names) s (declared_slot LOG_CAPACITY)

-- new folders, in which no run is on
abbrev pub new_world : List (List ℕ) → World
new_world names = record { state = new_state names; going = None; turns = λ s. None }

-- names of sources, each once
abbrev pub AreSources : List (List ℕ) → Type 0
AreSources [] = Unit {0}
AreSources (s ∷ names) = (is_source s ≡ true) × (is_among names s ≡ false) × AreSources names

-- ---- what may come next

pub data Next : World → World → Type 0 where
  -- a command begins over the collector's store
  collector_begins : (w : World) (command : Command) (last : Rows) (account : Account command w.state.collector.rows last) → OfCollector command → w.going ≡ None
      → Next w (with_going w w.state (Some (deeds_of account)))
  -- the run does its next deed
  collector_goes_on : (w : World) (deed : Deed) (deeds : List Deed) (last : Rows) → w.going ≡ Some (deed ∷ deeds) → Hears w.state deed → Does deed w.state.collector.rows last
      → Next w (with_going w (after_deed w.state deed last) (Some deeds))
  -- it ends, or is killed between two deeds
  collector_stops : (w : World) → Next w (with_going w w.state None)
  -- it is killed in a deed
  collector_is_cut : (w : World) (deed : Deed) (deeds : List Deed) (last : Rows) → w.going ≡ Some (deed ∷ deeds) → Hears w.state deed → IsCut deed w.state.collector.rows last
      → Next w (with_going w (after_cut w.state deed last) None)
  -- `write`, `forward` or `serve` begins in the folder of a source
  write_begins : (w : World) (s : List ℕ) (slot : Slot) (last : Rows) (run : Writing slot.place.rows last) → slot_of w.state s ≡ Some slot → w.turns s ≡ None
      → Next w (with_turns w w.state s (Some (deeds_written run)))
  forward_begins : (w : World) (address s : List ℕ) (count : ℕ) (slot : Slot) (last : Rows) (account : Account (the.Forward address s count) slot.place.rows last) → slot_of w.state s ≡ Some slot → w.turns s ≡ None
      → Next w (with_turns w w.state s (Some (deeds_forwarded account)))
  serve_begins : (w : World) (address s : List ℕ) (count : ℕ) (slot : Slot) (last : Rows) (account : Account (the.Serve address s count) slot.place.rows last) → slot_of w.state s ≡ Some slot → w.turns s ≡ None
      → Next w (with_turns w w.state s (Some (deeds_served account)))
  -- the run there does its next deed
  source_goes_on : (w : World) (s : List ℕ) (slot next : Slot) (deed : SourceDeed) (deeds : List SourceDeed) → slot_of w.state s ≡ Some slot → w.turns s ≡ Some (deed ∷ deeds)
      → HearsAs w.state s deed → Turns deed slot next → Next w (with_turns w (with_messages (with_slot w.state s next) (says_as s slot deed)) s (Some deeds))
  -- it ends, or is killed between two deeds
  source_stops : (w : World) (s : List ℕ) (slot : Slot) → slot_of w.state s ≡ Some slot → Next w (with_turns w (with_slot w.state s (slot_left slot slot.place.rows None)) s None)
  -- it is killed in a deed
  source_is_cut : (w : World) (s : List ℕ) (slot next : Slot) (deed : SourceDeed) (deeds : List SourceDeed) → slot_of w.state s ≡ Some slot → w.turns s ≡ Some (deed ∷ deeds)
      → HearsAs w.state s deed → IsBroken deed slot next → Next w (with_turns w (with_slot w.state s next) s None)

-- what may come to be of a world
pub data Reaches (first : World) : World → Type 0 where
  begins : Reaches first first
  goes_on : (w next : World) → Reaches first w → Next w next → Reaches first next

-- ---- the law

-- Whatever is done in new folders, and wherever runs are killed, what stands is safe: of each subscription and each source the events
-- that are held up to the bookmark are just the matching ones that `write` committed, once and in order, but for marked records, and each
-- batch that was acknowledged lies within that bookmark.
abbrev pub DeploymentsAreSafe : Type 0
DeploymentsAreSafe = (names : List (List ℕ)) (w : World) → AreSources names → Reaches (new_world names) w → IsStateSafe w.state
