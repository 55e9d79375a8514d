use Rattle.std.proofs.Common.{◌≡◌, suc, ◌+◌, ◌∷◌, ◌<◌, ◌∙◌, add-one, ap, drop, drop-cons, length, sym, arith}
use Rattle.wef_keeper.specs.Rows.{Rows}
use Rattle.wef_building.specs.Building.{candidates_in, channel_candidates}
use Rattle.wef_building.specs.Drafting.{with_items}
use Rattle.wef_building.specs.Judged.{JudgesChannel}
use Rattle.wef_building.proofs.Drafts.{channel_taken}
use Rattle.wef_building.proofs.Judging.{AreJudgedTo, more_judged}
use Rattle.wef_building.proofs.Told.{both_told, read_twice, told_since}
use Rattle.wef_building.proofs.drafting.Draft.take_channels.Goals as goal

pub loop-channel-preserved : goal.loop-channel-preserved
loop-channel-preserved g c =
    let all = c.args.channels.now in
    let index = c.loop-channel.channel-index in
    let session = c.args.session.now in
    let within : index < length all = omega arith in
    let parts : drop index all ≡ c.channel-item.result ∷ drop (index + 1) all =
    rw (add-one) (drop-cons all index c.channel-item.result within ∙ ap (λ x. x ∷ drop (suc index) all) (sym c.channel-item.is))
    in
    let start = g.K.Keeper.store c.args.log.now.keeper in
    let mid = g.K.Keeper.store c.loop-channel.log.keeper in
    let now = g.K.Keeper.store c.take_channel.new.log.keeper in
    let before = c.args.self.now in
    let draft = c.loop-channel.self in
    let next = c.take_channel.new.self in
    record {
      read = read_twice start mid now c.loop-channel.invariant.read c.in_ok-take_channel.ensures.reads.0;
      numbered = c.in_ok-take_channel.ensures.numbered;
      judged = told_since
          (λ (rows : Rows). AreJudgedTo rows session before.left draft.left (drop index all) all)
          (λ (rows : Rows). (next ≡ with_items draft (channel_candidates rows session c.channel-item.result)) × JudgesChannel rows session.positions c.channel-item.result draft.left next.left)
          (λ (rows : Rows). AreJudgedTo rows session before.left next.left (drop (index + 1) all) all)
          mid.rows now.rows c.in_ok-take_channel.ensures.reads.0.1
          (λ rows kept took. more_judged rows session before.left c.channel-item.result draft next (drop (index + 1) all) (drop index all) all parts took.0 took.1 kept)
          c.loop-channel.invariant.judged
          (both_told (λ (rows : Rows). next ≡ with_items draft (channel_candidates rows session c.channel-item.result)) (λ (rows : Rows). JudgesChannel rows session.positions c.channel-item.result draft.left next.left)
          (λ (rows : Rows). (next ≡ with_items draft (channel_candidates rows session c.channel-item.result)) × JudgesChannel rows session.positions c.channel-item.result draft.left next.left) now.rows (λ rows took read. (took, read))
          c.in_ok-take_channel.ensures.ok c.in_ok-take_channel.ensures.judged);
      rest = told_since
          (λ (rows : Rows). with_items draft (candidates_in rows session (drop index all)) ≡ with_items before (candidates_in rows session all))
          (λ (rows : Rows). next ≡ with_items draft (channel_candidates rows session c.channel-item.result))
          (λ (rows : Rows). with_items next (candidates_in rows session (drop (index + 1) all)) ≡ with_items before (candidates_in rows session all))
          mid.rows now.rows c.in_ok-take_channel.ensures.reads.0.1
          (λ rows kept took. channel_taken rows session draft next c.channel-item.result (drop (index + 1) all) (drop index all) took parts ∙ kept)
          c.loop-channel.invariant.rest c.in_ok-take_channel.ensures.ok;
    }
