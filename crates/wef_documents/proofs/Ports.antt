-- What stands behind the last colon.
use Rattle.std.proofs.Common.{◌≡◌, ℕ, Bool, true, false, ◌||◌, cond, List, [], ◌∷◌, refl}
use Rattle.std.specs.List.{list_any}
use Rattle.wef_documents.specs.Addresses.{behind_last, is_colon}

-- what is taken where it is here, where it is later, and where it is nowhere
found_or_all : {A : Type 0} (here later : Bool) (first last all : A) → cond (here || later) (cond later last (cond here first all)) all ≡ cond later last (cond here first all)
found_or_all true later first last all = refl
found_or_all false true first last all = refl
found_or_all false false first last all = refl

-- without a colon all characters stand behind the last one
pub where_none : (cs : List ℕ) → cond (list_any is_colon cs) (behind_last cs) cs ≡ behind_last cs
where_none [] = refl
where_none (c ∷ cs) = found_or_all (is_colon c) (list_any is_colon cs) cs (behind_last cs) (c ∷ cs)
