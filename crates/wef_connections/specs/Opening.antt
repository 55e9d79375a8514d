-- What is known of a port behind the opening of a connection, and behind one that failed.
use Rattle.std.specs.Prelude.{◌≡◌, ℕ, ◌≤◌, true, if◌then◌else◌, List, [], ◌∷◌, ◌++◌, drop, slice_index_or, Option, None, Some}
use Rattle.std.specs.Option.{option_map}
use Rattle.wef_base.specs.Counts.{Rose}
use Rattle.wef_ports.specs.Telling.{Told}

-- the first connection's bytes, or none where there is no connection
abbrev pub first_of : List (List ℕ) → List ℕ
first_of connections = slice_index_or connections 0 []

-- lists that are told, and one behind them
abbrev pub with_last : Option (List (List ℕ)) → Option (List ℕ) → Option (List (List ℕ))
with_last None last = None
with_last (Some lists) last = option_map (λ list. lists ++ list ∷ []) last

-- what was sent in each connection so far, where it is told
abbrev pub sent_in_each : Told → Option (List (List ℕ))
sent_in_each now = (if now.around.began then with_last now.around.earlier now.sent else now.around.earlier)

-- The first connection that is to come is the present one, or an empty one where none is left. No byte of it is given yet, and
-- nothing is sent in it.
abbrev pub next_connection : Told → Told
next_connection now = record {
  coming = option_map first_of now.around.waiting;
  sent = option_map (λ _. []) now.sent;
  given = 0;
  faults = now.faults;
  around = record {
    addresses = now.around.addresses;
    waiting = option_map (drop 1) now.around.waiting;
    earlier = sent_in_each now;
    began = true;
    refusals = now.around.refusals;
  };
}

-- An address stands behind those before.
abbrev pub with_address : List ℕ → Told → Told
with_address address now = record now { around = record now.around { addresses = option_map (λ (addresses : List (List ℕ)). addresses ++ address ∷ []) now.around.addresses } }

-- All but the two counts of what failed is as it was.
abbrev pub OnlyFails : Told → Told → Type 0
OnlyFails before now =
    (now.coming ≡ before.coming)
    × (now.sent ≡ before.sent)
    × (now.given ≡ before.given)
    × (now.around.addresses ≡ before.around.addresses)
    × (now.around.waiting ≡ before.around.waiting)
    × (now.around.earlier ≡ before.around.earlier)
    × (now.around.began ≡ before.around.began)

-- A count rose, and didn't fall.
abbrev pub Rises : ℕ → ℕ → Type 0
Rises before now = (before ≤ now) × Rose before now
