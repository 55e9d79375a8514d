-- What a reader answers.
use Rattle.std.specs.Prelude.{◌≡◌, Result}
use Rattle.std.specs.declared.result.Result.TheVariants.{Ok, Err}
use Rattle.wef_base.specs.declared.names.ValueFault.{ValueFault}
use Rattle.wef_base.specs.declared.names.ValueFault.TheVariants.{NoMemory}

-- A reader answers what the definition gives, but for want of memory.
abbrev pub Reads : {A : Type 0} → Result A ValueFault → Result A ValueFault → Type 0
Reads (Ok a) given = given ≡ Ok a
Reads (Err NoMemory) given = Unit {0}
Reads (Err fault) given = given ≡ Err fault
