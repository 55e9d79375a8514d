-- What holds of whatever a definition gives.
use Rattle.std.proofs.Common.{◌≡◌, refl, Bool, true, false, cond}
use Rattle.std.specs.Prelude.{Option, Some, None}
use Rattle.std.specs.Option.{option_and_then, option_map}

-- a fact of the value, where there is one
abbrev pub AllOf : {X : Type 0} → (X → Type 0) → Option X → Type 0
AllOf P None = Unit {0}
AllOf P (Some x) = P x

pub all_of-then : {X Y : Type 0} (P : X → Type 0) (Q : Y → Type 0) (f : X → Option Y) (given : Option X) → AllOf P given → ((x : X) → P x → AllOf Q (f x)) → AllOf Q (option_and_then f given)
all_of-then P Q f None h step = tt
all_of-then P Q f (Some x) h step = step x h

pub all_of-map : {X Y : Type 0} (P : X → Type 0) (Q : Y → Type 0) (f : X → Y) (given : Option X) → AllOf P given → ((x : X) → P x → Q (f x)) → AllOf Q (option_map f given)
all_of-map P Q f None h step = tt
all_of-map P Q f (Some x) h step = step x h

pub all_of-if : {X : Type 0} (P : X → Type 0) (b : Bool) (given other : Option X) → AllOf P given → AllOf P other → AllOf P (cond b given other)
all_of-if P true given other h k = h
all_of-if P false given other h k = k

-- a value that is given where a test holds of it passes that test
pub all_of-tested : {X : Type 0} (P : X → Type 0) (b : Bool) (x : X) → (b ≡ true → P x) → AllOf P (cond b (Some x) None)
all_of-tested P true x h = h refl
all_of-tested P false x h = tt
