-- What raising and joining do, channel by channel.
use Rattle.std.specs.Prelude.{◌≡◌, ℕ, ◌||◌, List, max, is_some, if◌then◌else◌}
use Rattle.std.specs.FinMap as map
use Rattle.wef_base.specs.Names.{same}
use Rattle.wef_bookmark.specs.Order.{Marks, number_at, raised, joined}

-- A raised bookmark has the greater number at the channel that was raised, and its own at each other.
abbrev pub RaisedIsGreater : Type 0
RaisedIsGreater = (b : Marks) (c : List ℕ) (to : ℕ) (q : List ℕ) → number_at (raised b c to) q ≡ (if same q c then max (number_at b q) to else number_at b q)

-- A raised bookmark has the channel that was raised, and those that were there.
abbrev pub RaisedHas : Type 0
RaisedHas = (b : Marks) (c : List ℕ) (to : ℕ) (q : List ℕ) → is_some (map.get (raised b c to) q) ≡ (same q c || is_some (map.get b q))

-- A joined bookmark has the greater of the two numbers at each channel.
abbrev pub JoinedIsGreater : Type 0
JoinedIsGreater = (a b : Marks) (q : List ℕ) → number_at (joined a b) q ≡ max (number_at a q) (number_at b q)

-- A joined bookmark has the channels of both.
abbrev pub JoinedHas : Type 0
JoinedHas = (a b : Marks) (q : List ℕ) → is_some (map.get (joined a b) q) ≡ (is_some (map.get a q) || is_some (map.get b q))
