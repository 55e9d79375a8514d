-- The fault that a message holds.
use Rattle.std.specs.Prelude.{List, [], ◌∷◌, Option, None}
use Rattle.std.specs.Option.{option_map, option_or}
use Rattle.wef_base.specs.declared.tree.Element.{Element}
use Rattle.wef_envelope.specs.Faults.{fault_in}
use Rattle.wef_envelope.specs.declared.faults.Fault.{Fault}
use Rattle.wef_ids.specs.declared.FaultName.{FaultName}

-- the name of the fault that an element is
abbrev pub fault_of : Element → Option FaultName
fault_of e = option_map (λ (f : Fault). f.name) (fault_in e)

-- that of the first in a Body
abbrev pub fault_among : List Element → Option FaultName
fault_among [] = None
fault_among (e ∷ es) = option_or (fault_of e) (fault_among es)
