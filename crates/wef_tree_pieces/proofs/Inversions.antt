-- What a result says of the steps that gave it.
use Rattle.std.proofs.Common.{◌≡◌, Bool, true, false, cond, List, ℕ, refl, ◌⊎◌, inl, inr}
use Rattle.std.specs.Prelude.{Option, Some, None}
use Rattle.std.specs.Option.{option_map, option_and_then}
use Rattle.wef_xml.specs.Fronts.{behind}

pub none_some : {A : Type 0} (x : A) → None ≡ Some x → ⊥
none_some x e = cc

pub some_is : {A : Type 0} (x y : A) → Some x ≡ Some y → x ≡ y
some_is x y e = cc

pub and_then_some : {A B : Type 0} (f : A → Option B) (o : Option A) (y : B) → option_and_then f o ≡ Some y → (x : A) × (o ≡ Some x) × (f x ≡ Some y)
and_then_some f None y e = absurd (none_some y e)
and_then_some f (Some x) y e = (x, refl, e)

pub map_some : {A B : Type 0} (f : A → B) (o : Option A) (y : B) → option_map f o ≡ Some y → (x : A) × (o ≡ Some x) × (f x ≡ y)
map_some f None y e = absurd (none_some y e)
map_some f (Some x) y e = (x, refl, some_is _ _ e)

pub cond_is : {A : Type 0} (b : Bool) (x y z : A) → cond b x y ≡ z → ((b ≡ true) × (x ≡ z)) ⊎ ((b ≡ false) × (y ≡ z))
cond_is true x y z e = inl (refl, e)
cond_is false x y z e = inr (refl, e)

-- a test that must hold, since nothing is given otherwise
pub if_some : {A : Type 0} (b : Bool) (x : Option A) (y : A) → cond b x None ≡ Some y → (b ≡ true) × (x ≡ Some y)
if_some true x y e = (refl, e)
if_some false x y e = absurd (none_some y e)

-- a test that must fail
pub unless_some : {A : Type 0} (b : Bool) (x : Option A) (y : A) → cond b None x ≡ Some y → (b ≡ false) × (x ≡ Some y)
unless_some true x y e = absurd (none_some y e)
unless_some false x y e = (refl, e)

pub behind_some :
    {A : Type 0} (o : Option (List ℕ)) (f : List ℕ → Option A) (other : Option A) (y : A) → behind o f other ≡ Some y →
    ((rest : List ℕ) × (o ≡ Some rest) × (f rest ≡ Some y)) ⊎ ((o ≡ None) × (other ≡ Some y))
behind_some None f other y e = inr (refl, e)
behind_some (Some rest) f other y e = inl (rest, refl, e)
