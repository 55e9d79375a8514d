use Rattle.std.proofs.Common.{◌∷◌, ◌∙◌, ap}
use Rattle.wef_tree_writing.proofs.ToldNodes.{own_told, start_told}
use Rattle.wef_tree_writing.proofs.writing.Writer.start_tag.Goals as goal

pub push_opening-requires : goal.push_opening-requires
push_opening-requires c = start_told c.args.self.now.told c.args.self.now.bound c.args.default.now c.args.element.now c.requires.told

pub push_attributes-requires : goal.push_attributes-requires
push_attributes-requires c =
    let w = c.args.self.now in
    own_told w.told w.bound c.enter.new.self c.args.default.now c.args.element.now c.as_slice-attributes.result.now c.as_slice-attributes.ensures
    (c.in_ok-enter.ensures ∙ ap (λ own. own ∷ w.bound) c.requires.own) c.requires.told
