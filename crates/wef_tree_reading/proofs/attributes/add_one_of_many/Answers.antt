use Rattle.std.proofs.Common.{sym, subst}
use Rattle.wef_tree_reading.specs.ExpandedNames.{HasNamesOf}
use Rattle.wef_tree_reading.proofs.Expanded.{names_with}
use Rattle.wef_tree_reading.proofs.attributes.add_one_of_many.Goals as goal

pub returns-clause-names : goal.returns-clause-names
returns-clause-names c =
    subst (HasNamesOf c.add_name.new.names) (sym c.in_ok-push_attribute.ensures) (names_with c.args.names.now _ c.args.attributes.now _ c.requires c.in_ok-add_name.ensures.added)
