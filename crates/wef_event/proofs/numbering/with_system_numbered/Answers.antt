use Rattle.std.proofs.Common.{◌≡◌, List, ap, sym, ◌∙◌, codes}
use Rattle.std.specs.Prelude.{Some, None}
use Rattle.std.specs.List.{position}
use Rattle.wef_base.specs.declared.tree.Node.{Node}
use Rattle.wef_event.specs.Numbering.{numbered_system, with_first_changed}
use Rattle.wef_event.proofs.FirstNamed.{changed_at, changed_nowhere, is_named}
use Rattle.wef_event.proofs.numbering.with_system_numbered.Goals as goal
use Rattle.wef_event.proofs.numbering.with_system_numbered.Goals.{in-Some+in_ok-number_system, in_default}

pub returns : goal.returns
returns c = c.from.ensures ∙ changed ∙ ap (with_first_changed (codes "System") (numbered_system c.args.digits.now)) c.into_vec-nodes.ensures
  where
    nodes : List Node
    nodes = c.into_vec-nodes.result.items

    changed : c.match-first_place.nodes.items ≡ with_first_changed (codes "System") (numbered_system c.args.digits.now) nodes
    changed = elim c.match-first_place.branch [
      | in-Some+in_ok-number_system w ↦
          let at : position (is_named (codes "System")) nodes ≡ Some w.in-Some.place = cc in
          ap (λ v. v.items) w.nodes-is
          ∙ changed_at (codes "System") (numbered_system c.args.digits.now) nodes w.in-Some.place w.index_mut.result.now w.number_system.new.node at w.index_mut.ensures.value w.in_ok-number_system.ensures
      | in_default w ↦
          let none : position (is_named (codes "System")) nodes ≡ None = cc in
          ap (λ v. v.items) w.nodes-is ∙ sym (changed_nowhere (codes "System") (numbered_system c.args.digits.now) nodes none)
    ]
