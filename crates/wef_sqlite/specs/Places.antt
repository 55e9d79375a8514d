-- What stands at a place.
use Rattle.std.specs.Prelude.{◌≡◌, Bool, true, false, List, Option, Result}
use Rattle.std.specs.Option.{option_map}
use Rattle.sqlite.specs.Held.{Held, state}
use Rattle.sqlite.specs.State.{KeepsCommit, Survives}
use Rattle.sqlite_trees.specs.declared.store.Store.{Ghosts}
use Rattle.wef_keeper.specs.declared.keys.Change.{Change}
use Rattle.wef_sqlite.specs.Seeing.{Seeing}
use Rattle.wef_sqlite.specs.Telling.{Commits, seen_after}
use Rattle.wef_sqlite.specs.declared.place.Place.{Place}
use Rattle.wef_sqlite.specs.declared.place.Place.TheVariants.{Unopened, Open}
use Rattle.wef_sqlite.specs.declared.refusal.Refusal.{Refusal}

-- whether the table is open
abbrev pub is_open : {S : Type 0} → Place S → Bool
is_open (Open table) = true
is_open _ = false

-- whether a connection is there
abbrev pub has_connection : {S : Type 0} → Place S → Bool
has_connection Unopened = false
has_connection _ = true

-- A table that is there after a step was there before, and only read in it.
abbrev pub Remains : {S : Type 0} → Ghosts S → Place S → Place S → Type 0
Remains g (Open before) (Open now) = KeepsCommit (state g before) (state g now) × Survives (state g before) (state g now) (λ _. ⊥)
Remains g _ (Open now) = ⊥
Remains g before _ = Unit {0}

-- a fact of the table that is open
abbrev pub OnOpen : {S : Type 0} → Place S → (Held S → Type 0) → Type 0
OnOpen (Open table) Fact = Fact table
OnOpen _ Fact = Unit {0}

-- A table that is there after a commit was there before, and the commit was done to it; what was seen of it is put down.
abbrev pub CommitsAt : {S : Type 0} → Ghosts S → List Change → Result (Unit {0}) Refusal → Place S → Place S → Option (Seeing S) → Option (Seeing S) → Type 0
CommitsAt g changes result (Open before) (Open now) old new = Commits g changes result before now × (new ≡ option_map (λ it. seen_after result changes it now) old)
CommitsAt g changes result _ (Open now) old new = ⊥
CommitsAt g changes result before _ old new = Unit {0}
