use Rattle.std.proofs.Common.{List, sym, subst}
use Rattle.wef_base.specs.declared.tree.Node.{Node}
use Rattle.wef_xml.specs.Good.{AreGoodNodes}
use Rattle.wef_batch.specs.Reading.{AreToldNodes}
use Rattle.wef_batch.proofs.InnerTrees.{nodes_told, only_good}
use Rattle.wef_batch.proofs.reading.read_batch.Goals as goal

pub items_in-requires : goal.items_in-requires
items_in-requires c =
    let P : List Node → Type 0 = λ ns. AreGoodNodes ns 63 in
    let Q : List Node → Type 0 = λ ns. AreToldNodes c.args.told ns in
    record {
      good = subst P (sym c.as_slice.ensures) (only_good c.args.body.now c.in-Some.events.now c.requires.good (sym c.in-Some.ensures)).2;
      told = subst Q (sym c.as_slice.ensures) (nodes_told c.args.told c.args.body.now c.in-Some.events.now c.requires.told (sym c.in-Some.ensures));
    }
