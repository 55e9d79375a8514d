-- What a reader answers, against what a definition gives: a refusal exactly where that gives nothing; want of memory is free.
use Rattle.std.specs.Prelude.{◌≡◌, ℕ, List, Option, Some, None, Result}
use Rattle.std.specs.Borrow.{Bor}
use Rattle.std.specs.declared.result.Result.TheVariants.{Ok, Err}
use Rattle.wef_query_tokens.specs.declared.halt.Halt.{Halt}
use Rattle.wef_query_tokens.specs.declared.halt.Halt.TheVariants.{NoMemory, Refused}

-- a reader that gives a value
abbrev pub Reads : {A : Type 0} → Result A Halt → Option A → Type 0
Reads (Ok value) given = given ≡ Some value
Reads (Err Refused) given = given ≡ None
Reads (Err NoMemory) given = Unit {0}

-- a reader that gives a value and what is left of the text
abbrev pub ReadsFront : {A : Type 0} → Result (A × Bor (List ℕ)) Halt → Option (A × List ℕ) → Type 0
ReadsFront (Ok read) given = given ≡ Some (read.0, read.1.now)
ReadsFront (Err Refused) given = given ≡ None
ReadsFront (Err NoMemory) given = Unit {0}
