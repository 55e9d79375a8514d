use Rattle.std.proofs.Common.{◌≡◌, ◌∙◌, []}
use Rattle.wef_collector_rows.specs.Keys.{mark_key}
use Rattle.wef_collector.proofs.FormedRows.{are_names, as_row, mark_row}
use Rattle.wef_collector.proofs.changes.push_mark_change.Goals as goal

pub push_put-requires-clause-form : goal.push_put-requires-clause-form
push_put-requires-clause-form c =
    let key : c.in_ok-key.key ≡ mark_key c.args.of.now.sub.now c.args.of.now.source.now c.args.of.now.channel.now c.args.first = c.in_ok-key.ensures ∙ (λ i. mark_key (c.as_text.ensures.value i) (c.as_text-2.ensures.value i) (c.as_text-3.ensures.value i) c.args.first) in
    let names = are_names c.args.of.now.sub.now c.args.of.now.source.now c.args.of.now.channel.now c.as_text.ensures.kept c.as_text-2.ensures.kept c.as_text-3.ensures.kept in
    as_row (mark_key c.args.of.now.sub.now c.args.of.now.source.now c.args.of.now.channel.now c.args.first) c.in_ok-key.key c.args.last [] c.new.result key c.new.ensures (mark_row c.args.of.now.sub.now c.args.of.now.source.now c.args.of.now.channel.now c.args.first c.args.last names c.requires.order c.requires.last)
