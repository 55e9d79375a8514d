-- What was seen of the table since it was opened.
use Rattle.std.specs.Prelude.{List, Option, refl}
use Rattle.std.specs.Coded.{Coded, code_by, coded×, coded_list, coded_option}
use Rattle.sqlite.specs.Held.{Held, held_code}
use Rattle.wef_keeper.specs.contracts.keys.Change as the_change
use Rattle.wef_keeper.specs.declared.keys.Change.{Change}

-- What was seen of a table.
pub record Seeing (S : Type 0) : Type 0 where
  -- as it was opened
  pub opened : Held S
  -- as it was after the last commit that was done, or as it was opened where none was
  pub last : Held S
  -- the changes of the last commit that failed since, where one did
  pub failed : Option (List Change)

abbrev pub seeing_code : {S : Type 0} → Coded S → Coded (Seeing S)
seeing_code {S} store =
    code_by (Held S × (Held S × Option (List Change)))
    (coded× (held_code store) (coded× (held_code store) (coded_option (coded_list the_change.the_row.coded))))
    (λ s. (s.opened, (s.last, s.failed)))
    (λ p. record { opened = p.0; last = p.1.0; failed = p.1.1 })
    (λ _. refl)
