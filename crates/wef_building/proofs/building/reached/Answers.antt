use Rattle.std.proofs.Common.{◌≡◌, suc, ◌+◌, ◌∷◌, ◌<◌, ◌∙◌, add-one, ap, arith, drop, drop-cons, length, subst, sym, None}
use Rattle.std.specs.FinMap as map
use Rattle.std.specs.Option.{option_to_list}
use Rattle.wef_bookmark.specs.Order.{Marks}
use Rattle.wef_keeper.specs.Rows.{Rows}
use Rattle.wef_building.specs.Building.{reaches, with_reaches}
use Rattle.wef_building.specs.Drafting.{stop_at}
use Rattle.wef_building.specs.Reading.{ReadsAbove}
use Rattle.wef_source_log.specs.LogWindow.{last_of}
use Rattle.wef_building.proofs.Drafts.{reach_read}
use Rattle.wef_building.proofs.ReadAbove.{item_in}
use Rattle.wef_building.proofs.ReadAbove.{reads_further, reads_nothing}
use Rattle.wef_building.proofs.Told.{any_told, read_itself, read_twice, told_since}
use Rattle.wef_building.proofs.building.reached.Goals as goal

pub loop-channel-init : goal.loop-channel-init
loop-channel-init g c =
    let store = g.K.Keeper.store c.args.log.now.keeper in
    let positions = c.args.session.now.positions in
    let channels = c.args.channels.now in
    let left = option_to_list c.args.left.now in
    record {
      read = read_itself store c.requires.ready;
      above = subst (ReadsAbove positions channels) (sym c.new-to.ensures) (reads_nothing positions channels);
      rest = any_told (λ (rows : Rows). with_reaches positions c.new-to.result (reaches rows channels left) ≡ with_reaches positions map.empty (reaches rows channels left)) store.rows
          (λ rows. ap (λ (to : Marks). with_reaches positions to (reaches rows channels left)) c.new-to.ensures);
    }

pub returns-in-Some-clause-above : goal.returns-in-Some-clause-above
returns-in-Some-clause-above g c =
    let all = c.args.channels.now in
    let index = c.loop-channel.channel-index in
    let channel = c.channel-item.result in
    let positions = c.args.session.now.positions in
    let within : index < length all = omega arith in
    let parts : drop index all ≡ channel ∷ drop (suc index) all = drop-cons all index channel within ∙ ap (λ x. x ∷ drop (suc index) all) (sym c.channel-item.is) in
    let listed = item_in all (drop (suc index) all) index channel parts in
    subst (ReadsAbove positions all) (sym c.in_ok-raise_above.ensures.ok) (reads_further positions c.loop-channel.to all channel c.in-Some.number listed c.loop-channel.invariant.above)

pub loop-channel-preserved : goal.loop-channel-preserved
loop-channel-preserved g c =
    let all = c.args.channels.now in
    let index = c.loop-channel.channel-index in
    let channel = c.channel-item.result in
    let positions = c.args.session.now.positions in
    let within : index < length all = omega arith in
    let behind = drop (index + 1) all in
    let parts : drop index all ≡ channel ∷ behind = rw (add-one) (drop-cons all index channel within ∙ ap (λ x. x ∷ drop (suc index) all) (sym c.channel-item.is)) in
    let listed = item_in all behind index channel parts in
    let left = c.args.left.now in
    let none : stop_at channel left ≡ None = cc in
    let to = c.loop-channel.to in
    let next = c.raise_above-in-loop-channel.new.to in
    let start = g.K.Keeper.store c.args.log.now.keeper in
    let mid = g.K.Keeper.store c.loop-channel.log.keeper in
    let now = g.K.Keeper.store c.last_ready.new.self.keeper in
    record {
      read = read_twice start mid now c.loop-channel.invariant.read c.in_ok-last.ensures.reads.0;
      above = subst (ReadsAbove positions all) (sym c.in_ok-raise_above-2.ensures.ok) (reads_further positions to all channel c.in_ok-last.last listed c.loop-channel.invariant.above);
      rest = told_since
          (λ (rows : Rows). with_reaches positions to (reaches rows (drop index all) (option_to_list left)) ≡ with_reaches positions map.empty (reaches rows all (option_to_list left)))
          (λ (rows : Rows). c.in_ok-last.last ≡ last_of rows channel)
          (λ (rows : Rows). with_reaches positions next (reaches rows behind (option_to_list left)) ≡ with_reaches positions map.empty (reaches rows all (option_to_list left)))
          mid.rows now.rows c.in_ok-last.ensures.reads.0.1
          (λ rows before read. reach_read rows positions to next channel c.in_ok-last.last left behind (drop index all) none read c.in_ok-raise_above-2.ensures.ok parts ∙ before)
          c.loop-channel.invariant.rest c.in_ok-last.ensures.ok;
    }
