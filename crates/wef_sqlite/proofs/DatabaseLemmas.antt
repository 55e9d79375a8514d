-- What a database tells stays so over its calls.
use Rattle.std.proofs.Common.{◌≡◌, Bool, true, false, List, Option, Some, None, Result, Ok, Err, IfSome, IfOk, OnOk, OnErr, IsTrue, is_err, is_some, refl, sym, subst, ◌∙◌, arith}
use Rattle.std.specs.Option.{option_map}
use Rattle.sqlite.specs.Held.{Held, state}
use Rattle.sqlite.specs.State.{HasCleanDisk}
use Rattle.sqlite_trees.proofs.Doubt.{clean_of, no_doubt}
use Rattle.sqlite_trees.specs.Tree.{Trees}
use Rattle.sqlite_trees.specs.declared.store.Store.{Ghosts}
use Rattle.wef_keeper.specs.Keeping.{Follows, Stays, WhereTold}
use Rattle.wef_keeper.specs.Rows.{Rows, applied}
use Rattle.wef_keeper.specs.declared.keys.Change.{Change}
use Rattle.wef_sqlite.proofs.TellingLemmas.{each_told, tells_again, tells_done, tells_failed, tells_read, tells_these, told_is}
use Rattle.wef_sqlite.specs.Contents.{are_rows, rows_in}
use Rattle.wef_sqlite.specs.Places.{CommitsAt, OnOpen, Remains, is_open}
use Rattle.wef_sqlite.specs.Seeing.{Seeing}
use Rattle.wef_sqlite.specs.Telling.{AreTold, Commits, IsAlive, ReadsTold, Told, Tells, committed_table, held_in, seen_after, telling, told_at, told_by}
use Rattle.wef_sqlite.specs.declared.place.Place.{Place}
use Rattle.wef_sqlite.specs.declared.place.Place.TheVariants.{Unopened, Given, Open}
use Rattle.wef_sqlite.specs.declared.refusal.Refusal.{Refusal}

-- a table that is open is held
pub held_if_open : {S : Type 0} (place : Place S) → is_open place ≡ true → is_some (held_in place) ≡ true
held_if_open Unopened h = h
held_if_open (Given conn) h = h
held_if_open (Open table) h = refl

module _ {S : Type 0} (g : Ghosts S) where
  -- what is told of a table that is open
  tells_in : (h : Held S) (seen : Option (Seeing S)) (d : Bool) (it : Seeing S) → AreTold g (Some h) (told_by g (state g h).is_clean seen d) d → (state g h).is_clean ≡ true → seen ≡ Some it
      → are_rows (committed_table g it.opened) ≡ true → Tells (state g h) (telling g it d) d
  tells_in h seen d it told clean is ours = subst (λ t. AreTold g (Some h) t d) (told_is g (state g h).is_clean seen d it clean is ours) told

  clean_then : (old new : Held S) → (HasCleanDisk (state g new) → HasCleanDisk (state g old)) → (state g new).is_clean ≡ true → (state g old).is_clean ≡ true
  clean_then old new falls clean = clean_of (state g old).is_clean (falls (no_doubt (state g new).is_clean clean))

  -- ---- after a read

  module _ (seen : Option (Seeing S)) (d : Bool) where
    pub told_read : (old new : Place S) → Remains g old new → AreTold g (held_in old) (told_at g old seen d) d → AreTold g (held_in new) (told_at g new seen d) d
    told_read (Open a) (Open b) remains told =
        let falls : HasCleanDisk (state g b) → HasCleanDisk (state g a) = λ clean. omega (arith, remains.1.clean, clean) in
        each_told g (state g b).is_clean seen d (λ told. Tells (state g b) told d) (λ it clean is ours.
        tells_read g a b (telling g it d) d remains.0 remains.1 (tells_in a seen d it told (clean_then a b falls clean) is ours))
    told_read Unopened (Open b) remains told = absurd remains
    told_read (Given conn) (Open b) remains told = absurd remains
    told_read old Unopened remains told = tt
    told_read old (Given conn) remains told = tt

    pub stays_read : (old new : Place S) → Remains g old new → Stays (told_at g old seen d) (told_at g new seen d)
    stays_read (Open a) (Open b) remains =
        let falls : HasCleanDisk (state g b) → HasCleanDisk (state g a) = λ clean. omega (arith, remains.1.clean, clean) in
        each_told g (state g b).is_clean seen d (λ told. told_by g (state g a).is_clean seen d ≡ Some told) (λ it clean is ours.
        told_is g (state g a).is_clean seen d it (clean_then a b falls clean) is ours)
    stays_read Unopened (Open b) remains = absurd remains
    stays_read (Given conn) (Open b) remains = absurd remains
    stays_read old Unopened remains = tt
    stays_read old (Given conn) remains = tt

    -- what a read answers is so of the rows that are told
    pub answer_told : {T : Type 0} (place : Place S) (result : Result T Refusal) (Holds : T → Rows → Type 0) → AreTold g (held_in place) (told_at g place seen d) d
        → OnOpen place (λ now. ReadsTold g now result Holds) → IfSome (told_at g place seen d) (λ told. IfOk result (λ answer. Holds answer told.rows))
    answer_told (Open b) result Holds told reads =
        each_told g (state g b).is_clean seen d (λ told. IfOk result (λ answer. Holds answer told.rows)) (λ it clean is ours.
        reads (no_doubt (state g b).is_clean clean) (telling g it d) d (tells_in b seen d it told clean is ours))
    answer_told Unopened result Holds told reads = tt
    answer_told (Given conn) result Holds told reads = tt

  -- ---- after an opening

  module _ (settles : (s : S) (db : Trees) → IsTrue (g.view s).is_open → g.recovers s db → db ≡ (g.view s).committed) where
    begins : (h : Held S) (d : Bool) → (HasCleanDisk (state g h) → IsTrue (state g h).is_open) → are_rows (committed_table g h) ≡ true → Tells (state g h) (telling g (record { opened = h; last = h; failed = None }) d) d
    begins h true alive ours = tells_these g settles h true alive (λ _. ours)
    begins h false alive ours = tells_these g settles h false alive (λ _. ours)

    pub told_opened : (place : Place S) (d : Bool) (seen : Option (Seeing S)) → seen ≡ option_map (λ table. record { opened = table; last = table; failed = None }) (held_in place) → IsAlive g (held_in place)
        → AreTold g (held_in place) (told_at g place seen d) d
    told_opened (Open h) d seen is alive =
        subst (λ s. AreTold g (Some h) (told_by g (state g h).is_clean s d) d) (sym is)
        (each_told g (state g h).is_clean (Some (record { opened = h; last = h; failed = None })) d (λ told. Tells (state g h) told d) (λ it clean same ours.
        let these : record { opened = h; last = h; failed = None } ≡ it = cc in
        subst (λ (s : Seeing S). Tells (state g h) (telling g s d) d) these (begins h d alive (subst (λ (s : Seeing S). are_rows (committed_table g s.opened) ≡ true) (sym these) ours))))
    told_opened Unopened d seen is alive = tt
    told_opened (Given conn) d seen is alive = tt

    -- the end of a doubt
    pub told_again : (place : Place S) (seen : Option (Seeing S)) (d : Bool) → (d ≡ true → IsAlive g (held_in place)) → AreTold g (held_in place) (told_at g place seen d) d → AreTold g (held_in place) (told_at g place seen false) false
    told_again (Open h) seen true alive told =
        each_told g (state g h).is_clean seen false (λ told. Tells (state g h) told false) (λ it clean is ours.
        tells_again g settles h (telling g it true) true (alive refl) (tells_in h seen true it told clean is ours))
    told_again (Open h) seen false alive told = told
    told_again Unopened seen d alive told = tt
    told_again (Given conn) seen d alive told = tt

  -- ---- after a commit

  module _ (settles : (s : S) (db : Trees) → IsTrue (g.view s).is_open → g.recovers s db → db ≡ (g.view s).committed) (changes : List Change) where
    -- what is told after one of a table that is open
    record Follow (it next : Seeing S) (result : Result (Unit {0}) Refusal) (b : Held S) : Type 0 where
      tells : Tells (state g b) (telling g next (is_err result)) (is_err result)
      rows : OnOk result (rows_in (committed_table g next.last) ≡ applied changes (rows_in (committed_table g it.last)))

    after : (it : Seeing S) (result : Result (Unit {0}) Refusal) (a b : Held S) → Commits g changes result a b → (state g b).is_clean ≡ true → Tells (state g a) (telling g it false) false → Follow it (seen_after result changes it b) result b
    after it (Ok done) a b commits is_clean tells =
        let clean = no_doubt (state g b).is_clean is_clean in
        let ends = commits.alive clean in
        let made = tells_done g settles (applied changes) a b (telling g it false) clean ends (commits.makes ends.1) tells in
        record { tells = made.0; rows = made.1 }
    after it (Err refusal) a b commits is_clean tells =
        let clean = no_doubt (state g b).is_clean is_clean in
        record { tells = tells_failed g (applied changes) a b (telling g it false) (commits.clean clean) commits.undone (commits.left clean) tells; rows = tt }

    -- what was seen before one, of what is seen after it
    was_seen : (result : Result (Unit {0}) Refusal) (b : Held S) (old new : Option (Seeing S)) (next : Seeing S) → new ≡ option_map (λ it. seen_after result changes it b) old → new ≡ Some next
        → (it : Seeing S) × (old ≡ Some it) × (seen_after result changes it b ≡ next)
    was_seen result b None new next is some = absurd (let e : None ≡ Some next = sym is ∙ some in cc)
    was_seen result b (Some it) new next is some = (it, refl, let e : Some (seen_after result changes it b) ≡ Some next = sym is ∙ some in cc)

    opened_same : (result : Result (Unit {0}) Refusal) (it : Seeing S) (b : Held S) → (seen_after result changes it b).opened ≡ it.opened
    opened_same (Ok done) it b = refl
    opened_same (Err refusal) it b = refl

    module _ (result : Result (Unit {0}) Refusal) (seen next : Option (Seeing S)) where
      each_after : (a b : Held S) (P : Told → Type 0) → Commits g changes result a b → (next ≡ option_map (λ it. seen_after result changes it b) seen) → AreTold g (Some a) (told_by g (state g a).is_clean seen false) false
          → ((it : Seeing S) → told_by g (state g a).is_clean seen false ≡ Some (telling g it false) → Follow it (seen_after result changes it b) result b → P (telling g (seen_after result changes it b) (is_err result)))
          → IfSome (told_by g (state g b).is_clean next (is_err result)) P
      each_after a b P commits is told fact =
          each_told g (state g b).is_clean next (is_err result) P (λ new clean some ours.
          let was = was_seen result b seen next new is some in
          let it = was.0 in
          let early = clean_then a b commits.clean clean in
          let began : are_rows (committed_table g it.opened) ≡ true = subst (λ h. are_rows (committed_table g h) ≡ true) (opened_same result it b) (subst (λ (s : Seeing S). are_rows (committed_table g s.opened) ≡ true) (sym was.2) ours) in
          subst (λ (s : Seeing S). P (telling g s (is_err result))) was.2
          (fact it (told_is g (state g a).is_clean seen false it early was.1 began) (after it result a b commits clean (tells_in a seen false it told early was.1 began))))

      pub told_committed : (old new : Place S) → CommitsAt g changes result old new seen next → AreTold g (held_in old) (told_at g old seen false) false → AreTold g (held_in new) (told_at g new next (is_err result)) (is_err result)
      told_committed (Open a) (Open b) commits told = each_after a b (λ told. Tells (state g b) told (is_err result)) commits.0 commits.1 told (λ it was follow. follow.tells)
      told_committed Unopened (Open b) commits told = absurd commits
      told_committed (Given conn) (Open b) commits told = absurd commits
      told_committed old Unopened commits told = tt
      told_committed old (Given conn) commits told = tt

      follows_committed : (P : Told → Told → Type 0) → ((it : Seeing S) (b : Held S) → Follow it (seen_after result changes it b) result b → P (telling g it false) (telling g (seen_after result changes it b) (is_err result)))
          → (old new : Place S) → CommitsAt g changes result old new seen next → AreTold g (held_in old) (told_at g old seen false) false → Follows (told_at g old seen false) (told_at g new next (is_err result)) P
      follows_committed P fact (Open a) (Open b) commits told =
          each_after a b (λ now. WhereTold (told_by g (state g a).is_clean seen false) (λ before. P before now)) commits.0 commits.1 told (λ it was follow.
          subst (λ o. WhereTold o (λ before. P before (telling g (seen_after result changes it b) (is_err result)))) (sym was) (fact it b follow))
      follows_committed P fact Unopened (Open b) commits told = absurd commits
      follows_committed P fact (Given conn) (Open b) commits told = absurd commits
      follows_committed P fact old Unopened commits told = tt
      follows_committed P fact old (Given conn) commits told = tt

    pub done_follows : (result : Result (Unit {0}) Refusal) (seen next : Option (Seeing S)) (old new : Place S) → CommitsAt g changes result old new seen next → AreTold g (held_in old) (told_at g old seen false) false
        → OnOk result (Follows (told_at g old seen false) (told_at g new next (is_err result)) (λ before now. now.rows ≡ applied changes before.rows))
    done_follows (Ok done) seen next old new commits told = follows_committed (Ok done) seen next (λ before now. now.rows ≡ applied changes before.rows) (λ it b follow. follow.rows) old new commits told
    done_follows (Err refusal) seen next old new commits told = tt

    pub failed_follows : (result : Result (Unit {0}) Refusal) (seen next : Option (Seeing S)) (old new : Place S) → CommitsAt g changes result old new seen next → AreTold g (held_in old) (told_at g old seen false) false
        → OnErr result (Follows (told_at g old seen false) (told_at g new next (is_err result)) (λ before now. (now.rows ≡ before.rows) × (now.changed ≡ applied changes before.rows)))
    failed_follows (Ok done) seen next old new commits told = tt
    failed_follows (Err refusal) seen next old new commits told =
        follows_committed (Err refusal) seen next (λ before now. (now.rows ≡ before.rows) × (now.changed ≡ applied changes before.rows)) (λ it b follow. (refl, refl)) old new commits told
