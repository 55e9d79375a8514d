-- The steps of a reader: the first fault is the answer.
use Rattle.std.specs.Prelude.{◌≡◌, Option, Result, ok_or}
use Rattle.std.specs.declared.result.Result.TheVariants.{Ok, Err}
use Rattle.wef_subscribes.specs.declared.faults.BodyFault.{BodyFault}
use Rattle.wef_subscribes.specs.declared.faults.BodyFault.TheVariants.{NoMemory}

-- what is read goes on where there was no fault
abbrev pub and_then : {A B : Type 0} → Result A BodyFault → (A → Result B BodyFault) → Result B BodyFault
and_then (Ok a) more = more a
and_then (Err fault) more = Err fault

-- what must be there
abbrev pub needed : {A : Type 0} → BodyFault → Option A → Result A BodyFault
needed fault o = ok_or o fault

-- A reader answers what the definition gives, but for want of memory.
abbrev pub Reads : {A : Type 0} → Result A BodyFault → Result A BodyFault → Type 0
Reads (Ok a) given = given ≡ Ok a
Reads (Err NoMemory) given = Unit {0}
Reads (Err fault) given = given ≡ Err fault
