use Rattle.std.proofs.Common.{◌≡◌, List, ap, ◌∙◌}
use Rattle.std.specs.Prelude.{Some, None}
use Rattle.std.specs.List.{position}
use Rattle.wef_base.specs.declared.tree.Node.{Node}
use Rattle.wef_event.specs.Numbering.{numbered_children, record_id}
use Rattle.wef_event.proofs.FirstNamed.{added, filled_at, is_named}
use Rattle.wef_event.proofs.numbering.numbered_children.Goals as goal
use Rattle.wef_event.proofs.numbering.numbered_children.Goals.{in-Some+in_ok-fill_field-in-Some, in-None+in_ok-add_field-in-None}

pub returns : goal.returns
returns c = c.from.ensures ∙ changed ∙ ap (numbered_children c.args.space.now c.args.digits.now) c.into_vec-nodes.ensures
  where
    nodes : List Node
    nodes = c.into_vec-nodes.result.items

    changed : c.match-first_place.nodes.items ≡ numbered_children c.args.space.now c.args.digits.now nodes
    changed = elim c.match-first_place.branch [
      | in-Some+in_ok-fill_field-in-Some w ↦
          let at : position (is_named record_id) nodes ≡ Some w.in-Some.place = cc in
          ap (λ v. v.items) w.nodes-is
          ∙ filled_at c.args.space.now c.args.digits.now nodes w.in-Some.place w.index_mut.result.now w.fill_field.new.node at w.index_mut.ensures.value w.in_ok-fill_field-in-Some.ensures
      | in-None+in_ok-add_field-in-None w ↦
          let none : position (is_named record_id) nodes ≡ None = cc in
          ap (λ v. v.items) w.nodes-is ∙ w.in_ok-add_field-in-None.ensures ∙ added c.args.space.now c.args.digits.now nodes none
    ]
