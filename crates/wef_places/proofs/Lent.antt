-- What is lent out of a value that has a model.
use Rattle.std.proofs.Common.{◌≡◌, Option, Some, None, refl, ap}
use Rattle.std.specs.Option.{IsSome, ghost_name_of, option_copied_mut}
use borrow.Follows.Closed.{read_of}
use denote.MutBor.{MutBor}

-- a lender is read alike through two functions that agree where something is lent
pub lent_alike : {D E : Type 0} (lent : Option (MutBor E)) (f g : E → D) (v w : D) → (IsSome (option_copied_mut lent) → (x : E) → f x ≡ g x) → v ≡ w
    → read_of (ghost_name_of lent) f v ≡ read_of (ghost_name_of lent) g w
lent_alike {D} {E} None f g v w some none = ap (λ (u : D). read_of (ghost_name_of {A = E} None) f u) none
lent_alike (Some r) f g v w some none = λ i. read_of (ghost_name_of (Some r)) (λ x. some refl x i) (none i)
