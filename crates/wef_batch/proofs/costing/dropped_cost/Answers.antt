use Rattle.std.proofs.Common.{◌≡◌, ℕ, List, ◌+◌, min, length, ap, ◌∙◌}
use Rattle.std.specs.Fmt.{decimal}
use Rattle.wef_batch.specs.Cost.{most, quoted}
use Rattle.wef_batch.proofs.Costs.{capped_with_numbers, dropped_size}
use Rattle.wef_batch.proofs.costing.dropped_cost.Goals as goal

pub returns : goal.returns
returns c =
    let channel = c.args.channel.now in
    let size : c.quoted_len.result ≡ min (length (quoted channel)) most =
    c.quoted_len.ensures ∙ ap (λ (t : List ℕ). min (length (quoted t)) most) (c.as_str.ensures ∙ c.as_text.ensures.value) in
    let first = c.decimal_len.ensures.value ∙ ap (λ (n : ℕ). length (decimal n)) c.from.ensures in
    let last = c.decimal_len-2.ensures.value ∙ ap (λ (n : ℕ). length (decimal n)) c.from-2.ensures in
    let count = c.decimal_len-3.ensures.value ∙ ap (λ (n : ℕ). length (decimal (n + 1))) (c.from-count.ensures ∙ c.saturating_sub.ensures) in
    c.saturating_add.ensures
    ∙ ap (λ (n : ℕ). min (c.quoted_len.result + (n + (c.decimal_len.result + c.decimal_len-2.result + c.decimal_len-3.result))) most) c.dropped_tags_len.ensures
    ∙ capped_with_numbers (length (quoted channel)) _ _ _ c.quoted_len.result c.decimal_len.result c.decimal_len-2.result c.decimal_len-3.result _ most size first last count (dropped_size channel c.args.first c.args.last)
