-- Where a session of a name stands among sessions in the order of their names, or where it goes.
use Rattle.std.specs.Prelude.{ℕ, ◌+◌, List, [], ◌∷◌, Result}
use Rattle.std.specs.Cmp.Lexicographic.{slice_cmp}
use Rattle.std.specs.Ordering.{nat_cmp}
use Rattle.std.specs.declared.cmp.Ordering.{Ordering}
use Rattle.std.specs.declared.cmp.Ordering.TheVariants.{Less, Equal, Greater}
use Rattle.std.specs.declared.result.Result.TheVariants.{Ok, Err}
use Rattle.wef_building.specs.declared.sessions.Session.{Session}

-- a place one further
abbrev pub one_further : Result ℕ ℕ → Result ℕ ℕ
one_further (Ok n) = Ok (n + 1)
one_further (Err n) = Err (n + 1)

-- the place, where the first session compares so with the name, and the place among the others is this one
abbrev pub place_by : Ordering → Result ℕ ℕ → Result ℕ ℕ
place_by Less behind = Err 0
place_by Equal behind = Ok 0
place_by Greater behind = one_further behind

-- the place of the session of a name, or where such a session goes
abbrev pub place_in : List Session → List ℕ → Result ℕ ℕ
place_in [] u = Err 0
place_in (s ∷ ss) u = place_by (slice_cmp nat_cmp u s.name) (place_in ss u)
