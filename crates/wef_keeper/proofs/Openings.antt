-- What an opening may find.
use Rattle.std.proofs.Common.{◌≡◌, Bool, true, is_some, refl, subst, inl, inr, Option, Some, None, List, [], ◌∷◌, IfSome, OnSome}
use Rattle.std.specs.List.{AllByRecursion}
use Rattle.wef_keeper.specs.Access.{Narrows}
use Rattle.wef_keeper.specs.Keeping.{Store, Stays, KeepsRows, IsLawful, IsOneOf}
use Rattle.wef_keeper.specs.Rows.{Rows}

-- the first of a list is one of it, and so is one of the rest
pub one_first : (image : Rows) (images : List Rows) → IsOneOf (image ∷ images) image
one_first image [] = refl
one_first image (next ∷ images) = inl refl

pub one_later : (first image : Rows) (images : List Rows) → IsOneOf images image → IsOneOf (first ∷ images) image
one_later first image [] h = absurd h
one_later first image (next ∷ images) h = inr h

all_later : (first : Rows) (old images : List Rows) → AllByRecursion (IsOneOf old) images → AllByRecursion (IsOneOf (first ∷ old)) images
all_later first old [] h = tt
all_later first old (image ∷ images) h = (one_later first image old h.0, all_later first old images h.1)

-- each of a list is one of it
pub all_one : (images : List Rows) → AllByRecursion (IsOneOf images) images
all_one [] = tt
all_one (image ∷ images) = (one_first image images, all_later image images images (all_one images))

stays_narrow : (before now : Option (List Rows)) → Stays before now → IfSome before (λ old. IfSome now (AllByRecursion (IsOneOf old)))
stays_narrow None now h = tt
stays_narrow (Some old) None h = tt
stays_narrow (Some old) (Some images) h =
    let e : images ≡ old = cc in
    subst (λ (xs : List Rows). AllByRecursion (IsOneOf xs) images) e (all_one images)

opened_narrow : (opened : Bool) (rows : Option Rows) (before now : Option (List Rows)) → is_some before ≡ is_some rows → OnSome rows (opened ≡ true) → (opened ≡ true → Stays before now) → IfSome before (λ old. IfSome now (AllByRecursion (IsOneOf old)))
opened_narrow opened rows None now both tells stays = tt
opened_narrow opened None (Some old) now both tells stays = cc
opened_narrow opened (Some told) (Some old) now both tells stays = stays_narrow (Some old) now (stays tells)

-- a store that isn't opened tells nothing, and an opened one keeps its images
pub narrows_kept : (before now : Store) → IsLawful before → KeepsRows before now → Narrows before now
narrows_kept before now lawful keeps = opened_narrow before.opened before.rows before.images now.images lawful.both lawful.tells (λ h. (keeps h).1)
