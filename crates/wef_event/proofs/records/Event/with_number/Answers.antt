use Rattle.std.proofs.Common.{sym, subst}
use Rattle.std.specs.Fmt.{decimal}
use Rattle.wef_base.specs.declared.tree.Element.{Element}
use Rattle.wef_xml.specs.Good.{IsGoodTree}
use Rattle.wef_xml.specs.Told.{IsTold}
use Rattle.wef_event.specs.Events.{IsEventOf}
use Rattle.wef_event.proofs.NumberedTold.{numbered_told}
use Rattle.wef_event.proofs.NumberedTrees.{IsNumbered, is_numbered, numbered_good}
use Rattle.wef_event.proofs.records.Event.with_number.Goals as goal

pub event_from-requires : goal.event_from-requires
event_from-requires c =
    let root = c.into_root-root.result in
    let event = subst (λ (node : Element). IsEventOf c.args.self.now node) (sym c.into_root-root.ensures) c.in_ok-tree.ensures.event in
    let told = subst (λ (node : Element). IsTold c.is_told-told.result node) (sym c.into_root-root.ensures) c.is_told-told.ensures in
    record {
      good = subst IsGoodTree (sym c.in_ok-number_root.ensures) (numbered_good c.args.number root c.requires.greatest event.good);
      told = subst (λ (node : Element). IsTold c.is_told-told.result node) (sym c.in_ok-number_root.ensures) (numbered_told c.is_told-told.result (decimal c.args.number) root told);
    }

made : (c : goal.After-drop-root-5) → IsNumbered c.args.self.now c.args.number c.event_from.result
made c =
    let event = subst (λ (node : Element). IsEventOf c.args.self.now node) (sym c.into_root-root.ensures) c.in_ok-tree.ensures.event in
    is_numbered c.args.self.now c.into_root-root.result c.number_root.new.root c.args.number c.event_from.result
    event c.requires.least c.requires.greatest c.in_ok-number_root.ensures c.event_from.ensures

pub returns-clause-given : goal.returns-clause-given
returns-clause-given c = (made c).given

pub returns-clause-channel : goal.returns-clause-channel
returns-clause-channel c = (made c).channel

pub returns-clause-number : goal.returns-clause-number
returns-clause-number c = (made c).number

pub returns-clause-made : goal.returns-clause-made
returns-clause-made c = (made c).made
