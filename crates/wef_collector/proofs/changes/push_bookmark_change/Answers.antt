use Rattle.std.proofs.Common.{◌≡◌, ◌∙◌, []}
use Rattle.wef_collector_rows.specs.Keys.{bookmark_key}
use Rattle.wef_collector.proofs.FormedRows.{are_names, as_row, bookmark_row}
use Rattle.wef_collector.proofs.changes.push_bookmark_change.Goals as goal

pub push_put-requires-clause-form : goal.push_put-requires-clause-form
push_put-requires-clause-form c =
    let key : c.in_ok-key.key ≡ bookmark_key c.args.of.now.sub.now c.args.of.now.source.now c.args.of.now.channel.now = c.in_ok-key.ensures ∙ (λ i. bookmark_key (c.as_text.ensures.value i) (c.as_text-2.ensures.value i) (c.as_text-3.ensures.value i)) in
    let names = are_names c.args.of.now.sub.now c.args.of.now.source.now c.args.of.now.channel.now c.as_text.ensures.kept c.as_text-2.ensures.kept c.as_text-3.ensures.kept in
    as_row (bookmark_key c.args.of.now.sub.now c.args.of.now.source.now c.args.of.now.channel.now) c.in_ok-key.key c.args.to [] c.new.result key c.new.ensures (bookmark_row c.args.of.now.sub.now c.args.of.now.source.now c.args.of.now.channel.now c.args.to names c.requires)
