use Rattle.std.proofs.Common.{List, ℕ, sym, ◌∙◌, ap, subst}
use Rattle.std.specs.declared.result.Result.TheVariants.{Ok}
use Rattle.wef_base.specs.Names.{channel_name}
use Rattle.wef_event.specs.Events.{HasTree}
use Rattle.wef_event.proofs.ReadEvents.{says_so}
use Rattle.wef_event.proofs.reading.read_seen.Goals as goal

pub invariant_of-result : goal.invariant_of-result
invariant_of-result c =
    subst (λ (text : List ℕ). HasTree (record { channel = c.in-Some.channel; number = c.args.label.now.number; text = text })) (sym c.in_ok-clone-in-Some.ensures)
    (c.requires.tree c.in-Some.channel (ap channel_name (sym c.in_ok-word.ensures) ∙ sym c.in_ok-channel.ensures ∙ c.in-Some.is))

pub returns-in-Some : goal.returns-in-Some
returns-in-Some c =
    let says =
    says_so c.args.needed (record { channel = c.in-Some.channel; number = c.args.label.now.number; text = c.args.text.now })
    (c.requires.tree c.in-Some.channel (ap channel_name (sym c.in_ok-word.ensures) ∙ sym c.in_ok-channel.ensures ∙ c.in-Some.is)) c.requires.some in (
      says.0,
      says.1,
      says.2 ∙ ap (λ (text : List ℕ). Ok (record { channel = c.in-Some.channel; number = c.args.label.now.number; text = text })) (sym c.in_ok-clone-in-Some.ensures),
    )
