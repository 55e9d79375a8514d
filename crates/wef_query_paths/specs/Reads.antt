-- What a reader answers, against what a definition gives: a refusal exactly where that gives nothing; want of memory is free.
use Rattle.std.specs.Prelude.{◌≡◌, Option, Some, None, Result}
use Rattle.std.specs.declared.result.Result.TheVariants.{Ok, Err}
use Rattle.wef_query_tokens.specs.declared.halt.Halt.{Halt}
use Rattle.wef_query_tokens.specs.declared.halt.Halt.TheVariants.{NoMemory, Refused}
use Rattle.wef_query_paths.specs.declared.faults.Failure.{Failure}
use Rattle.wef_query_paths.specs.declared.faults.Failure.TheVariants as failure
use Rattle.wef_query_paths.specs.declared.faults.PathFault.{PathFault}
use Rattle.wef_query_paths.specs.declared.faults.PathFault.TheVariants as fault
use Rattle.wef_query_paths.specs.declared.faults.Stop.{Stop}

-- a call that gives a value and changes what it is given; after an error that may be anything
abbrev pub Turns : {A B : Type 0} → Result A Halt → B → Option (B × A) → Type 0
Turns (Ok value) changed given = given ≡ Some (changed, value)
Turns (Err Refused) changed given = given ≡ None
Turns (Err NoMemory) changed given = Unit {0}

-- a reader that tells where it stopped
abbrev pub ReadsOn : {A : Type 0} → Result A Failure → Result A Stop → Type 0
ReadsOn (Ok value) given = given ≡ Ok value
ReadsOn (Err (failure.Stopped stop)) given = given ≡ Err stop
ReadsOn (Err failure.NoMemory) given = Unit {0}

-- a reader of a path that gives it, or its fault
abbrev pub Gives : {A : Type 0} → Result A PathFault → Result A PathFault → Type 0
Gives (Ok value) given = given ≡ Ok value
Gives (Err fault.NoMemory) given = Unit {0}
Gives (Err (fault.BadPath at)) given = given ≡ Err (fault.BadPath at)
Gives (Err (fault.Unsupported at)) given = given ≡ Err (fault.Unsupported at)
Gives (Err (fault.TooDeep at)) given = given ≡ Err (fault.TooDeep at)

-- a reader of a path that refuses, whatever the fault, exactly where there is none
abbrev pub SaysPath : {A : Type 0} → Result A PathFault → Option A → Type 0
SaysPath (Ok path) given = given ≡ Some path
SaysPath (Err fault.NoMemory) given = Unit {0}
SaysPath (Err _) given = given ≡ None
