-- How where an end is is coded.
use Rattle.std.specs.Prelude.{Option, refl}
use Rattle.std.specs.Coded.{Coded, code_by, coded_option, coded×}
use Rattle.std.specs.FinMap as map
use Rattle.wef_keeper.specs.Rows.{Rows}
use Rattle.wef_keeper.specs.contracts.keys.Cell as cell
use Rattle.wef_keeper.specs.contracts.keys.Key as key
use Rattle.wef_machine.specs.Places.{Place}
use Rattle.wef_machine.specs.contracts.arming.Armed as one_armed
use Rattle.wef_machine.specs.declared.arming.Armed.{Armed}

-- where an end is, by a code of what it remembers
abbrev pub coded_place : {M : Type 0} → Coded M → Coded (Place M)
coded_place {M} memory = code_by (Rows × (Option M × Option Armed))
    (coded× (map.code key.the_row.coded cell.the_row.coded) (coded× (coded_option memory) (coded_option one_armed.the_row.coded)))
    (λ p. (p.rows, (p.memory, p.armed))) (λ t. record { rows = t.0; memory = t.1.0; armed = t.1.1 }) (λ _. refl)
