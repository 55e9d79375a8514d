use Rattle.std.proofs.Common.{◌≡◌, ℕ, List, ◌+◌, min, length, ap, ◌∙◌}
use Rattle.wef_event.specs.Characters.{escaped}
use Rattle.wef_batch.specs.Cost.{most}
use Rattle.wef_batch.proofs.Costs.{capped, event_size}
use Rattle.wef_batch.proofs.costing.event_cost.Goals as goal

pub returns : goal.returns
returns c =
    let text = c.args.text.now in
    let size : c.escaped_len.result ≡ min (length (escaped text)) most = c.escaped_len.ensures ∙ ap (λ (t : List ℕ). min (length (escaped t)) most) c.as_str.ensures in
    c.saturating_add.ensures ∙ ap (λ (n : ℕ). min (n + c.escaped_len.result) most) c.event_tags_len.ensures ∙ capped 77 (length (escaped text)) c.escaped_len.result _ most size (event_size text)
