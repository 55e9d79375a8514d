use Rattle.std.proofs.Common.{List, ap, sym, ◌∙◌}
use Rattle.std.specs.Prelude.{slice_get}
use Rattle.wef_base.specs.declared.tree.Node.{Node}
use Rattle.wef_elements.specs.Children.{elements_in}
use Rattle.wef_batch.proofs.InnerTrees.{root_good, root_told}
use Rattle.wef_batch.proofs.reading.event_at.Goals as goal

pub event_of_root-requires : goal.event_of_root-requires
event_of_root-requires c =
    let first = ap (λ (ns : List Node). slice_get (elements_in ns) 0) (sym c.as_slice-nodes.ensures) ∙ sym c.in-Some.ensures in
    record {
      good = root_good c.args.element.now c.in-Some.root.now c.requires.good first;
      told = root_told c.args.told c.args.element.now c.in-Some.root.now c.requires.told first;
    }
