-- Reads one after the other, and reads of rows that aren't of their form.
use Rattle.std.proofs.Common.{◌≡◌, ℕ, ◌≤◌, Bool, true, false, refl, ◌∙◌, subst, arith}
use Rattle.std.specs.List.{AllByRecursion}
use Rattle.std.specs.Prelude.{Option, Some, None, IfSome, List, is_some}
use Rattle.wef_base.specs.Counts.{Rose}
use Rattle.wef_keeper.specs.Access.{AnyRows, HasOpened, HasRead, OpensAndReads, Reads}
use Rattle.wef_keeper.specs.Keeping.{IsOneOf, Stays, Store}
use Rattle.wef_keeper.specs.Rows.{Rows}
use Rattle.wef_keeper.specs.declared.keeping.Plan.{Plan}
use Rattle.wef_keeper.proofs.Told.{told_any, told_map, told_still}

-- ---- reads of rows that aren't of their form

never : (A : Type 0) (AreFormed : Rows → Type 0) (told : Option Rows) → IfSome told (λ rows. AreFormed rows → ⊥) → IfSome told (λ rows. AreFormed rows → A)
never A AreFormed told ill = told_map told (λ rows. AreFormed rows → ⊥) (λ rows. AreFormed rows → A) (λ rows ill formed. absurd (ill formed)) ill

-- a call that finds rows which aren't of their form fails
pub ill_formed : (AreFormed : Rows → Type 0) (before now : Store) → HasRead before now → IfSome now.rows (λ rows. AreFormed rows → ⊥) → Reads AreFormed true before now
ill_formed AreFormed before now read ill = (
  read,
  (λ _. never (Rose before.faults now.faults) AreFormed now.rows ill),
  told_any before.plan (λ planned. IfSome now.rows (λ rows. AreFormed rows → true ≡ false)) (λ planned. never (true ≡ false) AreFormed now.rows ill),
)

-- a test of what was read fails where that isn't of its form
pub tested : (AreFormed : Rows → Type 0) (failed : Bool) (before now : Store) → HasRead before now → (failed ≡ true → IfSome now.rows (λ rows. AreFormed rows → ⊥)) → Reads AreFormed failed before now
tested AreFormed true before now read ill = ill_formed AreFormed before now read (ill refl)
tested AreFormed false before now read ill = (
  read,
  (λ no. let bad : ⊥ = cc in absurd bad),
  told_any before.plan (λ planned. IfSome now.rows (λ rows. AreFormed rows → false ≡ false)) (λ planned. told_any now.rows (λ rows. AreFormed rows → false ≡ false) (λ rows formed. refl)),
)

-- ---- a call that opens and then reads

narrows_still : (images mid now : Option (List Rows)) → IfSome images (λ old. IfSome mid (AllByRecursion (IsOneOf old))) → Stays mid now → IfSome images (λ old. IfSome now (AllByRecursion (IsOneOf old)))
narrows_still None mid now narrows stays = tt
narrows_still (Some old) mid now narrows stays = told_still mid now (AllByRecursion (IsOneOf old)) stays narrows

same_plan : (first second : Option Plan) (P : Type 0) → second ≡ first → IfSome second (λ planned. P) → IfSome first (λ planned. P)
same_plan first second P same holds = subst (λ (o : Option Plan). IfSome o (λ planned. P)) same holds

counts_none : (plan : Option Plan) (x y z : ℕ) → IfSome plan (λ planned. y ≡ x) → IfSome plan (λ planned. z ≡ y) → IfSome plan (λ planned. z ≡ x)
counts_none None x y z p q = tt
counts_none (Some planned) x y z p q = q ∙ p

rose_since : (before mid now : ℕ) → before ≤ mid → Rose mid now → Rose before now
rose_since before mid now below rose = omega arith

-- what isn't told isn't told after reads
pub untold_still : {X : Type 0} (mid now : Option X) → Stays mid now → is_some mid ≡ false → is_some now ≡ false
untold_still mid None stays untold = refl
untold_still None (Some x) stays untold = cc
untold_still (Some told) (Some x) stays untold = cc

pub opens_reads : (AreFormed : Rows → Type 0) (failed : Bool) (before mid now : Store) → HasOpened before mid → Reads AreFormed failed mid now → OpensAndReads AreFormed failed before now
opens_reads AreFormed failed before mid now opened reads =
    let read = reads.0 in
    let low : before.faults ≤ mid.faults = opened.3 in
    let high : mid.faults ≤ now.faults = read.5 in
    let below : before.faults ≤ now.faults = omega arith in
    let tries = read.3 ∙ opened.1 in
    let plan = read.4 ∙ opened.2 in
    let none = counts_none before.plan before.faults mid.faults now.faults opened.4 (same_plan before.plan mid.plan (now.faults ≡ mid.faults) opened.2 read.6) in (
      (narrows_still before.images mid.images now.images opened.0 read.2, tries, plan, below, none, (λ _. read.0.0), (λ _. read.0.1), (λ was untold. untold_still mid.rows now.rows read.1 (opened.7 was untold))),
      (λ fails. told_map now.rows (λ rows. AreFormed rows → Rose mid.faults now.faults) (λ rows. AreFormed rows → Rose before.faults now.faults)
          (λ rows rose formed. rose_since before.faults mid.faults now.faults low (rose formed)) (reads.1 fails)),
      same_plan before.plan mid.plan (IfSome now.rows (λ rows. AreFormed rows → failed ≡ false)) opened.2 reads.2,
    )

any_cause : (AreFormed : Rows → Type 0) (P : Type 0) (told : Option Rows) → IfSome told (λ rows. AnyRows rows → P) → IfSome told (λ rows. AreFormed rows → P)
any_cause AreFormed P told holds = told_map told (λ rows. AnyRows rows → P) (λ rows. AreFormed rows → P) (λ rows holds formed. holds tt) holds

any_sure : (AreFormed : Rows → Type 0) (plan : Option Plan) (P : Type 0) (told : Option Rows) → IfSome plan (λ planned. IfSome told (λ rows. AnyRows rows → P)) → IfSome plan (λ planned. IfSome told (λ rows. AreFormed rows → P))
any_sure AreFormed plan P told sure =
    told_map plan (λ planned. IfSome told (λ rows. AnyRows rows → P)) (λ planned. IfSome told (λ rows. AreFormed rows → P)) (λ planned. any_cause AreFormed P told) sure

-- a call that finds rows which aren't of their form, or doesn't fail
pub may_be_ill : (AreFormed : Rows → Type 0) (failed : Bool) (before now : Store) → Reads AnyRows false before now → (failed ≡ true → IfSome now.rows (λ rows. AreFormed rows → ⊥)) → Reads AreFormed failed before now
may_be_ill AreFormed failed before now reads ill = tested AreFormed failed before now reads.0 ill

-- an opening alone is one
pub only_opens : (AreFormed : Rows → Type 0) (failed : Bool) (before now : Store) → OpensAndReads AnyRows failed before now → OpensAndReads AreFormed failed before now
only_opens AreFormed failed before now opens =
    (opens.0, (λ fails. any_cause AreFormed (Rose before.faults now.faults) now.rows (opens.1 fails)), any_sure AreFormed before.plan (failed ≡ false) now.rows opens.2)
