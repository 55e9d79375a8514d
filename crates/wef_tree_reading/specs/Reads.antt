-- What a call answers, against what a definition gives: the value where there is one, a refusal exactly where there is none;
-- want of memory is free.
use Rattle.std.specs.Prelude.{◌≡◌, Option, Some, None, Result}
use Rattle.std.specs.declared.result.Result.TheVariants.{Ok, Err}
use Rattle.wef_tree_pieces.specs.declared.faults.Halt.{Halt}
use Rattle.wef_tree_pieces.specs.declared.faults.Halt.TheVariants.{NoMemory, Bad}

-- a call that gives a value
abbrev pub Gives : {A : Type 0} → Result A Halt → Option A → Type 0
Gives (Ok value) given = given ≡ Some value
Gives (Err Bad) given = given ≡ None
Gives (Err NoMemory) given = Unit {0}

-- a call that changes what it is given; after an error that may be anything
abbrev pub Takes : {A B : Type 0} → Result A Halt → Option B → B → Type 0
Takes (Ok _) given changed = given ≡ Some changed
Takes (Err Bad) given changed = given ≡ None
Takes (Err NoMemory) given changed = Unit {0}
