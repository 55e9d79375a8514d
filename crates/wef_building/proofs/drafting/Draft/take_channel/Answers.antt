use Rattle.std.proofs.Common.{◌≡◌, subst, None, IfSome}
use Rattle.std.specs.Prelude.{OnOk}
use Rattle.wef_source_log.specs.Judged.{JudgesFirst}
use Rattle.wef_building.specs.Judged.{AreRead}
use Rattle.wef_building.proofs.Judging.{channel_judged}
use Rattle.wef_building.proofs.drafting.Draft.take_channel.Goals as goal

pub returns-clause-judged : goal.returns-clause-judged
returns-clause-judged g c =
    let channel = c.args.channel.now in
    let mid = c.take_unread.new.self in
    let next = c.take_records.new.self in
    let before = (g.K.Keeper.store c.take_unread.new.log.keeper).rows in
    let now = (g.K.Keeper.store c.take_records.new.log.keeper).rows in
    subst (λ n. IfSome now (λ rows. OnOk c.take_records.result (JudgesFirst channel rows × (c.args.self.now.left ≡ None → AreRead channel n next.left rows)))) c.at-position.ensures.number
    (channel_judged c.take_records.result c.args.session.now.query c.room_of.result channel c.at-position.result c.args.self.now mid next before now c.take_records.ensures.reads.0.1
    c.in_ok-take_unread.ensures.judged c.in_ok-take_unread.ensures.ok c.take_records.ensures.ok c.take_records.ensures.judged)
