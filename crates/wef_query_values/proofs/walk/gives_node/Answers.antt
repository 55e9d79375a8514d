use Rattle.std.proofs.Common.{◌∙◌}
use Rattle.wef_query_values.specs.Places.{Document}
use Rattle.wef_query_values.specs.Meaning.{gives, nodes}
use Rattle.wef_query_values.proofs.Leaving.{any_node}
use Rattle.wef_query_values.proofs.walk.gives_node.Goals as goal

-- src/walk.rt:21:1
pub returns : goal.returns
unfolding gives
returns c = c.finds.ensures ∙ any_node (nodes c.args.path.now (Document c.args.root.now))
