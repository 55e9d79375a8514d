use Rattle.wef_building.proofs.Fitting.{in_front, most}
use Rattle.wef_building.proofs.laws.built_items_are_the_longest_row.Goals as goal

pub returns-clause-front : goal.returns-clause-front
returns-clause-front c = in_front

pub returns-clause-most : goal.returns-clause-most
returns-clause-most c = most
