use Rattle.std.proofs.Common.{List, ap, ◌∙◌}
use Rattle.wef_query.specs.Items.{QueryItem}
use Rattle.wef_query.specs.Selected.{is_selected}
use Rattle.wef_query.proofs.Groups.{selected-by_items}
use Rattle.wef_query.proofs.selected.Goals as goal

pub returns : goal.returns
returns c =
    c.has_item_in_force.ensures
    ∙ selected-by_items c.as_slice.result.now c.args.channel.now c.args.node.now
    ∙ ap (λ (items : List QueryItem). is_selected items c.args.channel.now c.args.node.now) c.as_slice.ensures
