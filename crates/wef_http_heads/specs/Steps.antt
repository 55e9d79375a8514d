-- The steps of a judge: the first fault is the answer.
use Rattle.std.specs.Prelude.{◌≡◌, Option, Some, None, Result}
use Rattle.std.specs.declared.result.Result.TheVariants.{Ok, Err}
use Rattle.wef_http_heads.specs.declared.ends.HttpEnd.{HttpEnd}
use Rattle.wef_http_heads.specs.declared.ends.HttpEnd.TheVariants.{NoMemory, BadHead, Method, Path, NoLength, TooLarge, Media}

-- what is judged goes on where there was no fault
abbrev pub and_then : {A B : Type 0} → Result A HttpEnd → (A → Result B HttpEnd) → Result B HttpEnd
and_then (Ok a) more = more a
and_then (Err e) more = Err e

-- what must be there
abbrev pub needed : {A : Type 0} → HttpEnd → Option A → Result A HttpEnd
needed e (Some a) = Ok a
needed e None = Err e

-- A judge answers what the definition gives, but for want of memory. It never tells how a connection ends.
abbrev pub Judges : {A : Type 0} → Result A HttpEnd → Result A HttpEnd → Type 0
Judges (Ok a) given = given ≡ Ok a
Judges (Err NoMemory) given = Unit {0}
Judges (Err BadHead) given = given ≡ Err BadHead
Judges (Err Method) given = given ≡ Err Method
Judges (Err Path) given = given ≡ Err Path
Judges (Err NoLength) given = given ≡ Err NoLength
Judges (Err TooLarge) given = given ≡ Err TooLarge
Judges (Err Media) given = given ≡ Err Media
Judges (Err _) given = ⊥
