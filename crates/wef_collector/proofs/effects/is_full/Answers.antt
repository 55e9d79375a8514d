use Rattle.std.proofs.Common.{◌∙◌, ℕ, ap, nat_eq}
use Rattle.std.proofs.lemmas.Option.{IfSome_then}
use Rattle.wef_collector.proofs.Pages.{is_full_page}
use Rattle.wef_collector.proofs.effects.is_full.Goals as goal

pub returns-clause-full : goal.returns-clause-full
returns-clause-full g c =
    let told = rw c.subscriptions_start-start.ensures at c.in_ok-page.ensures.page in
    let now = g.K.Keeper.store c.formed_page.new.keeper in
    IfSome_then now.rows told (λ rows is. ap (λ (k : ℕ). nat_eq k 256) c.len.ensures ∙ is_full_page 256 _ c.in_ok-page.page is)
