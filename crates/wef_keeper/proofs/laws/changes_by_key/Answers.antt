use Rattle.wef_keeper.specs.Laws.{get-applied, get-unnamed, applied-append}
use Rattle.wef_keeper.proofs.laws.changes_by_key.Goals as goal

pub returns : goal.returns
returns c = record { decides = get-applied; others_stay = get-unnamed; lists_join = applied-append }
