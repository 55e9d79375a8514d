use Rattle.std.proofs.Common.{Bool, List, [], sym, subst}
use Rattle.wef_xml.specs.declared.bindings.Binding.{Binding}
use Rattle.wef_tree_writing.specs.Apart.{IsElementTold}
use Rattle.wef_tree_writing.specs.declared.writing.Writer.{Writer}
use Rattle.wef_tree_writing.proofs.ToldNodes.{root_told}
use Rattle.wef_tree_writing.proofs.writing.write_document.Goals as goal

pub write_root-requires : goal.write_root-requires
write_root-requires c =
    let root = c.args.root.now in
    let made = c.in_ok-writer.ensures in
    let w : Writer = c.in_ok-writer.writer in
    let P : Bool → Type 0 = λ told. IsElementTold told w.bound [] root in
    let Q : List (List Binding) → Type 0 = λ levels. IsElementTold c.args.told levels [] root in
    subst P (sym made.0) (subst Q (sym made.5) (root_told c.args.told root c.requires))
