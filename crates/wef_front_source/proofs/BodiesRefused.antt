-- What is read of a body that isn't of its form is its fault.
use Rattle.std.proofs.Common.{◌≡◌, subst}
use Rattle.std.specs.Prelude.{Result, Err}
use Rattle.wef_subscribes.specs.Steps.{Reads}
use Rattle.wef_subscribes.specs.declared.faults.BodyFault.{BodyFault}
use Rattle.wef_subscribes.specs.declared.faults.BodyFault.TheVariants.{NoMemory, BadBody, BadMode, BadFilter, BadExpires}
use Rattle.wef_front_source.specs.Heard.{IsOfBody}

read_so : {A : Type 0} (fault : BodyFault) (given : Result A BodyFault) → IsOfBody fault → Reads (Err fault) given → given ≡ Err fault
read_so NoMemory given of reads = absurd of
read_so (BadBody part) given of reads = reads
read_so BadMode given of reads = reads
read_so BadFilter given of reads = reads
read_so BadExpires given of reads = reads

pub read_is : {A : Type 0} (read given : Result A BodyFault) (fault : BodyFault) → read ≡ Err fault → IsOfBody fault → Reads read given → given ≡ Err fault
read_is read given fault is of reads = read_so fault given of (subst (λ r. Reads r given) is reads)
