-- A call over rows: from any of those that an opening may find behind it, back to those that its own opening found.
use Rattle.std.proofs.Common.{◌≡◌, true, false, ap, sym, subst, refl, ◌∙◌, inl, inr}
use Rattle.std.specs.List.{AllByRecursion}
use Rattle.std.specs.Prelude.{Option, Some, None, Result, Ok, Err, IfSome, List, [], ◌∷◌, is_some}
use Rattle.wef_keeper.specs.Access.{AnyFound, AnyOf}
use Rattle.wef_keeper.specs.Calls.{AllLeft, AnswersFault, Did, Effect, FaultGoes, FaultReadied, GoesOver, IsCall, MayLeave, OfStore, OnFaultImages}
use Rattle.wef_keeper.specs.Keeping.{IsLawful, IsOneOf, MayFind, StaysUntold, Store, WhereTold}
use Rattle.wef_keeper.specs.Rows.{Rows}
use Rattle.wef_keeper.specs.declared.access.StoreFault.{StoreFault}
use Rattle.wef_keeper.specs.declared.access.StoreFault.TheVariants.{NoMemory, Failed}
use Rattle.wef_keeper.proofs.Calls.{found_weaker}

-- ---- images

-- a fact of all images is one of each
pub one_of : (P : Rows → Type 0) (images : List Rows) (rows : Rows) → IsOneOf images rows → AllByRecursion P images → P rows
one_of P [] rows one all = absurd one
one_of P (image ∷ []) rows one all = subst P (sym one) all.0
one_of P (image ∷ next ∷ images) rows one all = elim one [ inl is ↦ subst P (sym is) all.0 | inr later ↦ one_of P (next ∷ images) rows later all.1 ]

-- which of the images it is a fact of
which_of : (Holds : Rows → Type 0) (images : List Rows) → AnyOf images Holds → (rows : Rows) × IsOneOf images rows × Holds rows
which_of Holds [] any = absurd any
which_of Holds (image ∷ []) any = (image, refl, any)
which_of Holds (image ∷ next ∷ images) any = elim any [
  | inl here ↦ (image, inl refl, here)
  | inr later ↦ let which = which_of Holds (next ∷ images) later in (which.0, inr which.1, which.2)
]

-- which rows were found
pub which_found : (Holds : Rows → Type 0) (images : Option (List Rows)) → AnyFound images Holds → (rows : Rows) × IfSome images (λ old. IsOneOf old rows) × Holds rows
which_found Holds None any = (any.0, tt, any.1)
which_found Holds (Some images) any = which_of Holds images any

-- without doubt an opening finds the rows that stand
pub calm_rows : (rows : Option Rows) (images : Option (List Rows)) (left : Rows) → is_some images ≡ is_some rows → IfSome images (λ all. WhereTold rows (λ stand. all ≡ stand ∷ []))
    → WhereTold images (λ all. IsOneOf all left) → rows ≡ Some left
calm_rows rows None left both only one = absurd one
calm_rows None (Some all) left both only one = let no : true ≡ false = both in cc
calm_rows (Some stand) (Some all) left both only one = ap Some (sym (subst (λ (all : List Rows). IsOneOf all left) only one))

-- ---- a call

module _ {T F : Type 0} (of_store : OfStore F) (AreFormed : Rows → Type 0) (effect : Rows → Effect F) (value : Rows → T) (before now : Store) (left : Rows) where
  -- behind which there is no doubt
  calm_goes : (result : Result T F) (Goes : Rows → Rows → Type 0) → IsCall of_store AreFormed effect value result before now → IsLawful now → WhereTold now.images (λ all. IsOneOf all left) → now.doubt ≡ false
      → ((found after : Rows) → Did of_store AreFormed effect value result before now found after → Goes found after) → AnyFound before.images (λ found. Goes found left)
  calm_goes result Goes call lawful one calm gives =
      let told : now.rows ≡ Some left = calm_rows now.rows now.images left lawful.both (lawful.only calm) one in
      found_weaker (λ found. Did of_store AreFormed effect value result before now found left) (λ found. Goes found left) before.images (λ found did. gives found left did)
      (subst (λ (o : Option Rows). IfSome o (λ after. AnyFound before.images (λ found. Did of_store AreFormed effect value result before now found after))) told call.did)

  -- which failed in the store
  failed_goes : (old all : Option (List Rows)) → IfSome all (AllLeft old effect) → WhereTold all (λ images. IsOneOf images left) → AnyFound old (λ found. MayLeave effect left found)
  failed_goes old None each one = absurd one
  failed_goes None (Some images) each one = (each.0, one_of (λ image. MayLeave effect image each.0) images left one each.1)
  failed_goes (Some old) (Some images) each one = one_of (λ image. AnyOf old (MayLeave effect image)) images left one each

  pub goes_over : (result : Result T F) → IsCall of_store AreFormed effect value result before now → IsLawful now → WhereTold now.images (λ all. IsOneOf all left)
      → AnyFound before.images (λ found. GoesOver of_store effect value result found left)
  goes_over (Ok answer) call lawful one = calm_goes (Ok answer) (λ found after. GoesOver of_store effect value (Ok answer) found after) call lawful one call.ready.1 (λ found after did. did.answer)
  goes_over (Err fault) call lawful one = by (of_store fault) refl
    where
      by : (kind : Option StoreFault) → of_store fault ≡ kind → AnyFound before.images (λ found. FaultGoes kind fault effect found left)
      by (Some NoMemory) is =
          calm_goes (Err fault) (λ found after. FaultGoes (Some NoMemory) fault effect found after) call lawful one (subst (λ (kind : Option StoreFault). FaultReadied kind now) is call.ready)
          (λ found after did. subst (λ (kind : Option StoreFault). AnswersFault kind fault (effect found) found after) is did.answer)
      by (Some Failed) is = failed_goes before.images now.images (subst (λ (kind : Option StoreFault). OnFaultImages kind effect before now) is call.images) one
      by None is =
          calm_goes (Err fault) (λ found after. FaultGoes None fault effect found after) call lawful one (subst (λ (kind : Option StoreFault). FaultReadied kind now) is call.ready).1
          (λ found after did. subst (λ (kind : Option StoreFault). AnswersFault kind fault (effect found) found after) is did.answer)

-- ---- what follows of it

-- whatever it answers, the rows are as they were or with what it changes
pub may_leave : {T F : Type 0} (of_store : OfStore F) (effect : Rows → Effect F) (value : Rows → T) (result : Result T F) (found left : Rows) → GoesOver of_store effect value result found left → MayLeave effect left found
may_leave of_store effect value (Ok answer) found left goes = inr goes.0
may_leave of_store effect value (Err fault) found left goes = by (of_store fault) goes
  where
    by : (kind : Option StoreFault) → FaultGoes kind fault effect found left → MayLeave effect left found
    by (Some NoMemory) same = inl same
    by (Some Failed) may = may
    by None own = inl own.1

-- a store that was opened, and tells behind a call, told before it
pub told_before : (before now : Store) (first last : Rows) → IsLawful now → before.opened ≡ true → StaysUntold before now → MayFind now last → IfSome before.images (λ old. IsOneOf old first) → MayFind before first
told_before before now first last lawful opened untold found one = by before.images refl one
  where
    tells : (images : Option (List Rows)) → WhereTold images (λ all. IsOneOf all last) → is_some images ≡ true
    tells None found = absurd found
    tells (Some all) found = refl

    by : (images : Option (List Rows)) → before.images ≡ images → IfSome images (λ old. IsOneOf old first) → WhereTold images (λ old. IsOneOf old first)
    by (Some old) is one = one
    by None is one = let no : true ≡ false = sym (tells now.images found) ∙ lawful.both ∙ untold opened (ap (λ (o : Option (List Rows)). is_some o) is) in cc
