use Rattle.std.proofs.Common.{ℕ, List, ap, ◌∙◌}
use Rattle.wef_front_source.specs.Sending.{enumerate_bytes}
use Rattle.wef_messages.proofs.Said.{wish_says}
use Rattle.wef_messages.proofs.messages.WishBytes.of.Goals as goal

pub returns : goal.returns
returns c =
    let source = c.args.source.now in
    let id = c.args.id.now in
    wish_says (record { source = source; id = id }) c.in_ok-write_enumerate.field-0 c.requires (c.in_ok-write_enumerate.ensures ∙ ap (λ (at : List ℕ). enumerate_bytes at source id) c.in_ok-host.ensures.value)
