use Rattle.std.proofs.Common.{◌≡◌, ◌∙◌, ◌+◌, ◌++◌}
use Rattle.std.specs.Fmt.{decimal}
use Rattle.wef_collector_rows.specs.Keys.{loose_key}
use Rattle.wef_collector.proofs.FormedRows.{are_names, as_row, loose_row, next_within}
use Rattle.wef_collector.proofs.changes.push_loose_change.Goals as goal

pub push_put-requires-clause-form : goal.push_put-requires-clause-form
push_put-requires-clause-form c =
    let key : c.in_ok-key.key ≡ loose_key c.args.of.now.sub.now c.args.of.now.source.now c.args.of.now.channel.now (c.args.bookmark + 1) = c.in_ok-key.ensures ∙ (λ i. loose_key (c.as_text.ensures.value i) (c.as_text-2.ensures.value i) (c.as_text-3.ensures.value i) (c.args.bookmark + 1)) in
    let names = are_names c.args.of.now.sub.now c.args.of.now.source.now c.args.of.now.channel.now c.as_text.ensures.kept c.as_text-2.ensures.kept c.as_text-3.ensures.kept in
    as_row (loose_key c.args.of.now.sub.now c.args.of.now.source.now c.args.of.now.channel.now (c.args.bookmark + 1)) c.in_ok-key.key c.args.to (decimal c.args.count) c.push_number.new.self key (c.in_ok-push_number.ensures.ok ∙ (λ i. c.new-digits.ensures i ++ decimal c.args.count)) (loose_row c.args.of.now.sub.now c.args.of.now.source.now c.args.of.now.channel.now (c.args.bookmark + 1) c.args.to c.args.count names (next_within c.args.bookmark c.args.to c.requires.above) c.requires.to c.requires.count)
