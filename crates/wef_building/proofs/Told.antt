-- Rows that are told, and stores that are read one call after the other.
use Rattle.std.proofs.Common.{◌≡◌, ℕ, ◌-◌, ◌<◌, ◌≤◌, ◌==◌, Bool, false, refl, sym, subst, ◌∙◌, arith, length, Option, Some, None, List, [], ◌∷◌, IfSome}
use Rattle.std.specs.List.{AllByRecursion}
use Rattle.wef_base.specs.Counts.{Rose}
use Rattle.wef_event.specs.Events.{Event}
use Rattle.wef_keeper.proofs.Openings.{all_one}
use Rattle.wef_keeper.specs.Access.{HasRead, IsReady, OpensAndReads, Reads}
use Rattle.wef_keeper.specs.Keeping.{IsLawful, IsOneOf, Stays, Store}
use Rattle.wef_keeper.specs.Rows.{Rows}
use Rattle.wef_keeper.specs.declared.keeping.Plan.{Plan}
use Rattle.wef_source_log.specs.Forms.{AreFormed}
use Rattle.wef_source_log.specs.LogWindow.{last_number}

-- ---- facts of rows that are told

pub if_told : (P Q : Rows → Type 0) (told : Option Rows) → ((rows : Rows) → P rows → Q rows) → IfSome told P → IfSome told Q
if_told P Q None step h = tt
if_told P Q (Some rows) step h = step rows h

pub any_told : (P : Rows → Type 0) (told : Option Rows) → ((rows : Rows) → P rows) → IfSome told P
any_told P None holds = tt
any_told P (Some rows) holds = holds rows

pub both_told : (P Q R : Rows → Type 0) (told : Option Rows) → ((rows : Rows) → P rows → Q rows → R rows) → IfSome told P → IfSome told Q → IfSome told R
both_told P Q R None step h k = tt
both_told P Q R (Some rows) step h k = step rows h k

-- rows that are told now were told before
pub told_since : (P Q R : Rows → Type 0) (before now : Option Rows) → Stays before now → ((rows : Rows) → P rows → Q rows → R rows) → IfSome before P → IfSome now Q → IfSome now R
told_since P Q R before None stays step h k = tt
told_since P Q R None (Some rows) stays step h k = cc
told_since P Q R (Some old) (Some rows) stays step h k = let e : old ≡ rows = cc in step rows (subst P e h) k

-- ---- reads one after the other

stays_twice : {A : Type 0} (before mid now : Option A) → Stays before mid → Stays mid now → Stays before now
stays_twice before mid None first second = tt
stays_twice before None (Some told) first second = cc
stays_twice before (Some old) (Some told) first second = cc

counts_twice : (plan next : Option Plan) (a b c : ℕ) → next ≡ plan → IfSome plan (λ planned. b ≡ a) → IfSome next (λ planned. c ≡ b) → IfSome plan (λ planned. c ≡ a)
counts_twice None next a b c e h k = tt
counts_twice (Some planned) None a b c e h k = cc
counts_twice (Some planned) (Some same) a b c e h k = k ∙ h

pub read_twice : (before mid now : Store) → HasRead before mid → HasRead mid now → HasRead before now
read_twice before mid now h k = (
  k.0,
  stays_twice before.rows mid.rows now.rows h.1 k.1,
  stays_twice before.images mid.images now.images h.2 k.2,
  k.3 ∙ h.3,
  k.4 ∙ h.4,
  up before.faults mid.faults now.faults h.5 k.5,
  counts_twice before.plan mid.plan before.faults mid.faults now.faults h.4 h.6 k.6,
)
  where
    up : (a b c : ℕ) → a ≤ b → b ≤ c → a ≤ c
    up a b c p q = omega arith

-- a read that may fail, after one that is done
pub reads_after : (failed : Bool) (before mid now : Store) → HasRead before mid → Reads AreFormed failed mid now → Reads AreFormed failed before now
reads_after failed before mid now h k = (
  read_twice before mid now h k.0,
  λ e. if_told (λ (rows : Rows). AreFormed rows → Rose mid.faults now.faults) (λ (rows : Rows). AreFormed rows → Rose before.faults now.faults) now.rows
      (λ rows rose formed. rose_later before.faults mid.faults now.faults h.5 (rose formed)) (k.1 e),
  subst (λ (plan : Option Plan). IfSome plan (λ planned. IfSome now.rows (λ rows. AreFormed rows → failed ≡ false))) h.4 k.2,
)
  where
    rose_later : (a b c : ℕ) → a ≤ b → Rose b c → Rose a c
    rose_later a b c p rose = omega arith

-- ---- a store that isn't touched

stays_itself : {A : Type 0} (told : Option A) → Stays told told
stays_itself None = tt
stays_itself (Some told) = refl

counts_itself : (plan : Option Plan) (n : ℕ) → IfSome plan (λ planned. n ≡ n)
counts_itself None n = tt
counts_itself (Some planned) n = refl

pub read_itself : (store : Store) → IsReady store → HasRead store store
read_itself store ready = (ready, stays_itself store.rows, stays_itself store.images, refl, refl, same store.faults, counts_itself store.plan store.faults)
  where
    same : (n : ℕ) → n ≤ n
    same n = omega arith

pub opens_itself : (AreFormed : Rows → Type 0) (store : Store) → IsLawful store → OpensAndReads AreFormed false store store
opens_itself AreFormed store lawful =
    ((narrow store.images, refl, refl, same store.faults, counted store.plan, λ e. e, λ e. e, λ opened untold. sym lawful.both ∙ untold), λ e. let bad : ⊥ = cc in absurd bad, sure store.plan store.rows)
  where
    narrow : (images : Option (List Rows)) → IfSome images (λ old. IfSome images (AllByRecursion (IsOneOf old)))
    narrow None = tt
    narrow (Some old) = all_one old

    same : (n : ℕ) → n ≤ n
    same n = omega arith

    counted : (plan : Option Plan) → IfSome plan (λ planned. store.faults ≡ store.faults)
    counted None = tt
    counted (Some planned) = refl

    sure : (plan : Option Plan) (told : Option Rows) → IfSome plan (λ planned. IfSome told (λ rows. AreFormed rows → false ≡ false))
    sure None told = tt
    sure (Some planned) None = tt
    sure (Some planned) (Some rows) = λ formed. refl

-- ---- pages

pub comes_nearer : (limit before now : ℕ) → before < now → now < limit → limit - now < limit - before
comes_nearer limit before now h k = omega arith

-- the last of some records above a number is above it
pub last_above : (after : ℕ) (page : List Event) → AllByRecursion (λ (event : Event). after < event.number) page → (length page == 0) ≡ false → after < last_number after page
last_above after [] above some = let bad : ⊥ = cc in absurd bad
last_above after (event ∷ page) above some = ends after event.number page above.0 above.1
  where
    ends : (after last : ℕ) (page : List Event) → after < last → AllByRecursion (λ (event : Event). after < event.number) page → after < last_number last page
    ends after last [] below above = below
    ends after last (event ∷ page) below above = ends after event.number page above.0 above.1
