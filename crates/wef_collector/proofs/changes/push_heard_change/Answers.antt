use Rattle.std.proofs.Common.{◌≡◌, ◌∙◌, []}
use Rattle.wef_collector_rows.specs.Keys.{heard_key}
use Rattle.wef_collector.proofs.FormedRows.{as_row, heard_row, is_source, is_subscription}
use Rattle.wef_collector.proofs.changes.push_heard_change.Goals as goal

pub push_put-requires-clause-form : goal.push_put-requires-clause-form
push_put-requires-clause-form c =
    let key : c.in_ok-key.key ≡ heard_key c.args.sub.now c.args.source.now = c.in_ok-key.ensures ∙ (λ i. heard_key (c.as_text.ensures.value i) (c.as_text-2.ensures.value i)) in
    as_row (heard_key c.args.sub.now c.args.source.now) c.in_ok-key.key c.milliseconds.result [] c.new.result key c.new.ensures (heard_row c.args.sub.now c.args.source.now c.milliseconds.result (is_subscription c.args.sub.now c.as_text.ensures.kept) (is_source c.args.source.now c.as_text-2.ensures.kept) c.milliseconds.ensures.bound)
