-- When settling leaves nothing to be done, over any world: what its steps have to be for that.
use Rattle.std.specs.Prelude.{◌≡◌, ◌<◌, true, false, List, [], ◌∷◌, ◌⊎◌}
use Rattle.wef_machine.specs.Settling.{Steps, is_more, polled, requested, settle}
use Rattle.wef_machine.specs.declared.verdicts.Verdict.TheVariants.{More, Enough, Ended}

abbrev pub IsAmong : {N : Type 0} → N → List N → Type 0
IsAmong n [] = ⊥
IsAmong n (m ∷ ms) = (m ≡ n) ⊎ IsAmong n ms

-- What each step keeps.
pub record AreKeeping (W N : Type 0) (f : Steps W N) (P : W → Type 0) : Type 0 where
  pub releases : (w : W) → P w → P (f.release w)
  pub loses : (w : W) → P w → P (f.lose_all w)
  pub asks : (s : N) (w : W) → P w → P (f.ask s w).0
  pub requests : (w : W) → P w → P (f.request w).0
  pub polls : (s u : N) (w : W) → P w → P (f.poll s u w).0

-- what each step keeps, settling keeps
abbrev pub SettlingKeeps : (W N : Type 0) → (W → Type 0) → Type 0
SettlingKeeps W N P = (f : Steps W N) → AreKeeping W N f P → (w : W) → P w → P (settle f w)

-- Each turn that goes on leaves less to be done.
pub record AreFalling (W N : Type 0) (I : W → Type 0) (f : Steps W N) : Type 0 where
  pub request_kept : (w : W) → I w → I (f.request w).0
  pub poll_kept : (s u : N) (w : W) → I w → I (f.poll s u w).0
  pub requests_fall : (w : W) → I w → (f.request w).1 ≡ true → f.left (f.request w).0 < f.left w
  pub polls_fall : (s u : N) (w : W) → I w → (f.poll s u w).1 ≡ More → f.lag s u (f.poll s u w).0 < f.lag s u w

-- What a loop does that takes turn by turn: one that goes on leaves what is still to be done, and another is the last.
pub record TakesTurns (W N : Type 0) (I : W → Type 0) (f : Steps W N) (s u : N) (w : W) : Type 0 where
  pub more : I w → (f.poll s u w).1 ≡ More → polled f s u w ≡ polled f s u (f.poll s u w).0
  pub last : is_more (f.poll s u w).1 ≡ false → polled f s u w ≡ f.poll s u w
  pub requests_more : I w → (f.request w).1 ≡ true → requested f w ≡ requested f (f.request w).0
  pub requests_last : (f.request w).1 ≡ false → requested f w ≡ (f.request w).0

abbrev pub TurnsAreTaken : (W N : Type 0) → (W → Type 0) → Type 0
TurnsAreTaken W N I = (f : Steps W N) → AreFalling W N I f → (s u : N) (w : W) → TakesTurns W N I f s u w

-- What is said of a world: what every step keeps; that ids and starts are left; that the collector has no lease, and waits for no
-- answer; that each lease is that of a session, and none is due; which pairs of a source and a subscription are to be served, begun by
-- the source or by the collector; that a session serves one; that nothing is left to be sent of it; and that a world comes after one.
pub record Facts (W N : Type 0) : Type 1 where
  pub Kept : W → Type 0
  pub Roomy : W → Type 0
  pub Bare : W → Type 0
  pub Leased : W → Type 0
  pub Own : W → N → N → Type 0
  pub Lent : W → N → N → Type 0
  pub Has : W → N → N → Type 0
  pub Done : W → N → N → Type 0
  pub Later : W → W → Type 0

-- a pair that is to be served
abbrev pub IsOwed : {W N : Type 0} → Facts W N → W → N → N → Type 0
IsOwed a w s u = a.Own w s u ⊎ a.Lent w s u

-- a pair is served, or nothing is left of it
abbrev pub IsServing : {W N : Type 0} → Facts W N → W → N → N → Type 0
IsServing a w s u = a.Has w s u ⊎ a.Done w s u

-- What the steps have to be.
pub record AreSettling (W N : Type 0) (f : Steps W N) (a : Facts W N) : Type 0 where
  pub keeping : AreKeeping W N f a.Kept
  pub falling : AreFalling W N a.Kept f
  -- each step goes on to a later world
  pub refl_later : (w : W) → a.Later w w
  pub trans_later : (v w x : W) → a.Later v w → a.Later w x → a.Later v x
  pub released_later : (w : W) → a.Kept w → a.Later w (f.release w)
  pub lost_later : (w : W) → a.Kept w → a.Later w (f.lose_all w)
  pub asked_later : (s : N) (w : W) → a.Kept w → a.Later w (f.ask s w).0
  pub requested_later : (w : W) → a.Kept w → a.Later w (f.request w).0
  pub polled_later : (s u : N) (w : W) → a.Kept w → a.Later w (f.poll s u w).0
  -- what a later world tells of an earlier one, and that of it
  pub roomy_before : (v w : W) → a.Later v w → a.Roomy w → a.Roomy v
  pub own_before : (v w : W) (s u : N) → a.Later v w → a.Own w s u → a.Own v s u
  pub lent_before : (v w : W) (s u : N) → a.Later v w → a.Lent w s u → a.Lent v s u
  pub own_after : (v w : W) (s u : N) → a.Later v w → a.Own v s u → a.Own w s u
  pub lent_after : (v w : W) (s u : N) → a.Later v w → a.Lent v s u → a.Lent w s u
  pub done_after : (v w : W) (s u : N) → a.Later v w → a.Done v s u → a.Done w s u
  -- a pair that is to be served has a source that is there, in an earlier world and in a later one; and one that is served is among its
  -- sessions
  pub own_named : (w : W) (s u : N) → a.Kept w → a.Own w s u → IsAmong s (f.names w)
  pub lent_named : (w : W) (s u : N) → a.Kept w → a.Lent w s u → IsAmong s (f.names w)
  pub named_before : (v w : W) (s : N) → a.Later v w → IsAmong s (f.names w) → IsAmong s (f.names v)
  pub named_after : (v w : W) (s : N) → a.Later v w → IsAmong s (f.names v) → IsAmong s (f.names w)
  pub has_listed : (w : W) (s u : N) → a.Has w s u → IsAmong u (f.sessions w s)
  -- leases
  pub released_bare : (w : W) → a.Kept w → a.Roomy (f.release w) → a.Bare (f.release w)
  pub lost_bare : (w : W) → a.Bare w → a.Bare (f.lose_all w)
  pub asked_bare : (s : N) (w : W) → a.Kept w → a.Bare w → a.Bare (f.ask s w).0
  pub bare_leased : (w : W) → a.Kept w → a.Bare w → a.Leased w
  pub requested_leased : (w : W) → a.Kept w → a.Leased w → a.Roomy (f.request w).0 → a.Leased (f.request w).0
  -- an ask of a source that is there goes on, and gives it the sessions that it is to begin itself; and leaves those of others
  pub ask_goes : (s : N) (w : W) → a.Kept w → IsAmong s (f.names w) → a.Roomy (f.ask s w).0 → (f.ask s w).1 ≡ true
  pub ask_gives : (s u : N) (w : W) → a.Kept w → a.Roomy (f.ask s w).0 → a.Own (f.ask s w).0 s u → a.Has (f.ask s w).0 s u
  pub ask_leaves : (s r u : N) (w : W) → a.Kept w → a.Roomy (f.ask s w).0 → a.Own w r u → a.Has w r u → a.Has (f.ask s w).0 r u
  -- the requests leave sessions, and the last one leaves each that the collector is to begin
  pub request_leaves : (r u : N) (w : W) → a.Kept w → a.Leased w → a.Roomy (f.request w).0 → a.Has w r u → a.Has (f.request w).0 r u
  pub request_gives : (s u : N) (w : W) → a.Kept w → a.Leased w → a.Roomy (f.request w).0 → (f.request w).1 ≡ false → a.Lent (f.request w).0 s u
      → a.Has (f.request w).0 s u
  -- a poll ends no source's work, and leaves each pair served or done; where it is the last one, it leaves its pair done
  pub poll_goes : (s u : N) (w : W) → a.Kept w → a.Roomy (f.poll s u w).0 → (f.poll s u w).1 ≡ Ended → ⊥
  pub poll_leaves : (s v r u : N) (w : W) → a.Kept w → a.Roomy (f.poll s v w).0 → IsOwed a w r u → IsServing a w r u → IsServing a (f.poll s v w).0 r u
  pub poll_settles : (s u : N) (w : W) → a.Kept w → a.Roomy (f.poll s u w).0 → IsOwed a w s u → IsServing a w s u → (f.poll s u w).1 ≡ Enough
      → a.Done (f.poll s u w).0 s u

-- After settling, where ids and starts are left, nothing is left of a pair that is to be served.
abbrev pub SettlingSettles : (W N : Type 0) → Facts W N → Type 0
SettlingSettles W N a = (f : Steps W N) → AreSettling W N f a → (w : W) → a.Kept w → a.Roomy (settle f w) → (s u : N) → IsOwed a (settle f w) s u → a.Done (settle f w) s u
