use Rattle.std.proofs.Common.{◌∙◌, [], sym}
use Rattle.std.specs.Option.{option_copied}
use Rattle.wef_xml.specs.Prefixes.{bound_by}
use Rattle.wef_tree_writing.proofs.Bound.{around_bound, around_unbound}
use Rattle.wef_tree_writing.proofs.bindings.Level.prefix_inside.Goals as goal

pub returns-in-Some : goal.returns-in-Some
returns-in-Some c =
    c.if_bound_to.ensures
    ∙ sym (around_bound (option_copied c.args.outside) (bound_by [] c.args.self.now) c.args.space.now c.in-Some.prefix.now (sym c.in-Some.ensures))

pub returns-in-None : goal.returns-in-None
returns-in-None c =
    c.unless_any_binds.ensures ∙ sym (around_unbound (option_copied c.args.outside) (bound_by [] c.args.self.now) c.args.space.now (sym c.in-None.ensures))
