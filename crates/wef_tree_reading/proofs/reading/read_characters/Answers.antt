use Rattle.std.proofs.Common.{◌≤◌, length, sym, subst, arith}
use Rattle.std.specs.declared.result.Result.TheVariants.{Err}
use Rattle.wef_xml.specs.declared.faults.TreeFault.{TreeFault}
use Rattle.wef_tree_reading.specs.Spelling.{ReadsTree}
use Rattle.wef_tree_reading.proofs.Walks.{answers, within}
use Rattle.wef_tree_reading.proofs.reading.read_characters.Goals as goal

pub overflow_sub-text : goal.overflow_sub-text
overflow_sub-text c =
    let fault : c.in-Err-Fault.left ≤ length c.args.text.now =
    within c.args.text.now c.in-Err-Fault.field-0 c.in-Err-Fault.ensures c.in-Err-Fault.kind c.in-Err-Fault.left c.in-Err-Fault.field-0-is in
    omega arith

pub returns-in-Err-Fault : goal.returns-in-Err-Fault
returns-in-Err-Fault c =
    let P : TreeFault → Type 0 = λ f. ReadsTree c.args.charset c.args.bytes.now (Err f) in
    subst P (sym c.fault_at.ensures)
    (answers c.args.charset c.args.bytes.now c.args.characters.now c.args.text.now c.in-Err-Fault.field-0
    c.requires.decoded c.requires.joined c.in-Err-Fault.ensures
    c.in-Err-Fault.kind c.in-Err-Fault.left c.place-at.result c.in-Err-Fault.field-0-is c.place-at.ensures)
