-- Settling, over any world: sources ask, the collector asks sources, and sources send, until nothing is left.
use Rattle.std.specs.Prelude.{ℕ, suc, Bool, true, false, List, [], ◌∷◌, if◌then◌else◌}
use Rattle.wef_machine.specs.Rounds.{Turn, turned}
use Rattle.wef_machine.specs.declared.verdicts.Verdict.{Verdict}
use Rattle.wef_machine.specs.declared.verdicts.Verdict.TheVariants.{More, Enough, Ended}

abbrev pub is_more : Verdict → Bool
is_more More = true
is_more Enough = false
is_more Ended = false

abbrev pub is_ended : Verdict → Bool
is_ended More = false
is_ended Enough = false
is_ended Ended = true

-- The steps of a world W with sources and subscriptions of names N.
pub record Steps (W N : Type 0) : Type 0 where
  -- the collector gives up its leases
  pub release : W → W
  -- no source waits for an answer any longer
  pub lose_all : W → W
  -- the sources
  pub names : W → List N
  -- a source asks for its subscriptions, and whether the work on it goes on
  pub ask : N → W → W × Bool
  -- the collector's next request, and whether there may be one more; and how much is left to be requested
  pub request : W → W × Bool
  pub left : W → ℕ
  -- the sessions of a source; the next message of one, and what follows it; and how much is left to be sent
  pub sessions : W → N → List N
  pub poll : N → N → W → W × Verdict
  pub lag : N → N → W → ℕ

-- ---- the sources ask

-- the sources of these whose work goes on, by whether that of the first does
abbrev pub and_also : {N : Type 0} → Bool → N → List N → List N
and_also goes s ss = if goes then s ∷ ss else ss

-- a world after these sources asked, and those whose work goes on
abbrev pub asked : {W N : Type 0} → Steps W N → List N → W → W × List N
asked f [] w = (w, [])
asked f (s ∷ ss) w = ((asked f ss (f.ask s w).0).0, and_also (f.ask s w).1 s (asked f ss (f.ask s w).0).1)

-- ---- the collector asks sources

abbrev pub requested : {W N : Type 0} → Steps W N → W → W
requested f w = turned f.request (suc (f.left w)) w

-- ---- the sources send

-- a turn of a session: the world, and how its last message ended
abbrev pub polling : {W N : Type 0} → Steps W N → N → N → W × Verdict → Turn (W × Verdict)
polling f s u x = (f.poll s u x.0, is_more (f.poll s u x.0).1)

-- a session sends until nothing more is to be sent
abbrev pub polled : {W N : Type 0} → Steps W N → N → N → W → W × Verdict
polled f s u w = turned (polling f s u) (suc (f.lag s u w)) (w, Enough)

-- so do the sessions of a source, one after the other, until its work ends
abbrev pub served : {W N : Type 0} → Steps W N → N → List N → W → W
served f s [] w = w
served f s (u ∷ us) w = if is_ended (polled f s u w).1 then (polled f s u w).0 else served f s us (polled f s u w).0

-- and those of all sources, each with the sessions that it has when its turn comes
abbrev pub all_served : {W N : Type 0} → Steps W N → List N → W → W
all_served f [] w = w
all_served f (s ∷ ss) w = all_served f ss (served f s (f.sessions w s) w)

-- ---- all of it

abbrev pub begun : {W N : Type 0} → Steps W N → W → W
begun f w = f.lose_all (f.release w)

abbrev pub all_asked : {W N : Type 0} → Steps W N → W → W × List N
all_asked f w = asked f (f.names (begun f w)) (begun f w)

abbrev pub settle : {W N : Type 0} → Steps W N → W → W
settle f w = all_served f (all_asked f w).1 (requested f (all_asked f w).0)
