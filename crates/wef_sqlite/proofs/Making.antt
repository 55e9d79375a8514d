-- Changes that are made, one after the other.
use Rattle.std.proofs.Common.{◌≡◌, true, refl, ap, subst, arith, IsTrue, List, [], ◌∷◌, ◌++◌}
use Rattle.sqlite.specs.Held.{Held, state}
use Rattle.sqlite.specs.State.{HasCleanDisk, Survives}
use Rattle.sqlite.proofs.Callers.{survives_begin}
use Rattle.sqlite.proofs.StateLemmas.{survives_then}
use Rattle.sqlite_trees.specs.declared.store.Store.{Ghosts}
use Rattle.wef_keeper.specs.declared.keys.Change.{Change}
use Rattle.wef_sqlite.specs.Makes.{Makes, MakesAll, LeavesMade}

-- the changes are made, and the transaction goes on
abbrev pub OnMade : {S : Type 0} → Ghosts S → List Change → Held S → Held S → Type 0
OnMade g changes before now = MakesAll g changes before now × IsTrue (state g now).in_transaction

-- one more change behind those that are made
pub makes_more : {S : Type 0} (g : Ghosts S) (changes : List Change) (change : Change) (before mid now : Held S) → MakesAll g changes before mid → Makes g change mid now → MakesAll g (changes ++ change ∷ []) before now
makes_more g [] change before mid now same made = (now, subst (λ held. Makes g change held now) same made, refl)
makes_more g (first ∷ changes) change before mid now h made = (h.0, h.1, makes_more g changes change h.0 mid now h.2 made)

-- a transaction that has begun makes the changes from the database before it
pub makes_from : {S : Type 0} (g : Ghosts S) (changes : List Change) (old begun mid : Held S) → begun ≡ record old { in_transaction = true }
    → (IsTrue (state g begun).in_transaction → OnMade g changes begun mid) → MakesAll g changes (record old { in_transaction = true }) mid
makes_from g changes old begun mid is made = subst (λ held. MakesAll g changes held mid) is (made (ap (λ held. held.in_transaction) is)).0

-- a crash behind its end leaves the rows before, or those with all changes made
pub crash_of : {S : Type 0} (g : Ghosts S) (changes : List Change) (old begun mid end : Held S) → begun ≡ record old { in_transaction = true }
    → Survives (state g begun) (state g mid) (λ _. ⊥)
    → (HasCleanDisk (state g mid) → IsTrue (state g begun).in_transaction → OnMade g changes begun mid)
    → Survives (state g mid) (state g end) (λ db. db ≡ (state g mid).now.trees)
    → Survives (state g old) (state g end) (LeavesMade g changes old)
crash_of g changes old begun mid end is first made last =
    survives_then (state g old) (state g mid) (state g end) (λ _. ⊥) (λ db. db ≡ (state g mid).now.trees) (LeavesMade g changes old)
    (λ _ db none. absurd none)
    (λ clean db same. let late : HasCleanDisk (state g mid) = omega (arith, last.clean, clean) in
    ((state g mid).now, (mid, makes_from g changes old begun mid is (made late), refl), same))
    (survives_begin g old (state g mid) (λ _. ⊥) (subst (λ held. Survives (state g held) (state g mid) (λ _. ⊥)) is first))
    last

-- what was made of a slice is what was made of the list that it is over
pub all_made : {S : Type 0} (g : Ghosts S) (slice changes : List Change) (begun mid : Held S) → slice ≡ changes
    → (HasCleanDisk (state g mid) → IsTrue (state g begun).in_transaction → OnMade g slice begun mid) → HasCleanDisk (state g mid) → IsTrue (state g begun).in_transaction → OnMade g changes begun mid
all_made g slice changes begun mid same made clean inside = subst (λ all. OnMade g all begun mid) same (made clean inside)

-- the same at the connection that the transaction was over
pub crash_at : {S : Type 0} (g : Ghosts S) (slice changes : List Change) (old begun mid end now : Held S) → end ≡ now → slice ≡ changes → begun ≡ record old { in_transaction = true }
    → Survives (state g begun) (state g mid) (λ _. ⊥)
    → (HasCleanDisk (state g mid) → IsTrue (state g begun).in_transaction → OnMade g slice begun mid)
    → Survives (state g mid) (state g end) (λ db. db ≡ (state g mid).now.trees)
    → Survives (state g old) (state g now) (LeavesMade g changes old)
crash_at g slice changes old begun mid end now same items is first made last =
    subst (λ held. Survives (state g old) (state g held) (LeavesMade g changes old)) same (crash_of g changes old begun mid end is first (all_made g slice changes begun mid items made) last)
