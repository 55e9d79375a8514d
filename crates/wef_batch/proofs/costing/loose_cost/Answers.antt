use Rattle.std.proofs.Common.{◌≡◌, ℕ, ◌+◌, ◌≤◌, min, length, ap, ◌∙◌, arith}
use Rattle.std.specs.Fmt.{decimal}
use Rattle.wef_batch.specs.Cost.{most}
use Rattle.wef_batch.proofs.Costs.{loose_size}
use Rattle.wef_batch.proofs.costing.loose_cost.Goals as goal

within : (tags digits result size top : ℕ) → tags ≡ 35 → result ≡ digits → result ≤ 39 → 100 ≤ top → size ≡ 35 + digits → tags + result ≡ min size top
within tags digits result size top tags_are digits_are small wide whole = omega arith

pub returns : goal.returns
returns c =
    let count = c.decimal_len.ensures.value ∙ ap (λ (n : ℕ). length (decimal n)) c.from.ensures in
    within c.loose_tags_len.result _ c.decimal_len.result _ most c.loose_tags_len.ensures count c.decimal_len.ensures.small (omega arith) (loose_size c.args.count)
