use Rattle.std.proofs.Common.{rules, ◌≡◌, ◌∙◌, ◌++◌}
use Rattle.std.proofs.lemmas.Option.{IfSome_then}
use Rattle.std.specs.Prelude.{Some}
use Rattle.wef_batch.specs.Reach.{reach}
use Rattle.wef_collector.specs.Taken.{reach_changes}
use Rattle.wef_collector.proofs.changes.push_channel_changes.Goals as goal

pub returns-clause-changes : goal.returns-clause-changes
returns-clause-changes g c =
    let channel = c.args.of.now.channel.now in
    let batch = c.args.batch.now in
    let to : Some c.in-Some.to ≡ reach channel batch = search rules in
    let now = g.K.Keeper.store c.bookmark_at.new.keeper in
    IfSome_then now.rows c.in_ok-bookmark.ensures.number
    (λ rows is. c.in_ok-push_reach_changes.ensures ∙ (λ i. c.args.changes.now ++ reach_changes c.args.of.now.sub.now c.args.of.now.source.now channel (is i) batch (to i)))
