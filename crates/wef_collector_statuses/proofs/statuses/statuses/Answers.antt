use Rattle.std.proofs.Common.{◌∙◌}
use Rattle.wef_keeper.proofs.Told.{told_still}
use Rattle.wef_collector_rows.specs.Standing.{standing}
use Rattle.wef_collector_statuses.specs.Statuses.{IsAbout}
use Rattle.wef_collector_statuses.proofs.About.{statuses_told}
use Rattle.wef_collector_statuses.proofs.statuses.statuses.Goals as goal

pub returns-clause-text : goal.returns-clause-text
returns-clause-text g c =
    let about = c.in_ok-about.about in
    let u = c.args.sub.now in
    let before = g.K.Keeper.store c.subscription_in.new.keeper in
    let now = g.K.Keeper.store c.lines_of.new.keeper in
    let made = c.in_ok-lines_of.ensures in
    statuses_told now.rows c.in_ok-lines_of.field-0 u c.in_ok-clone.field-0 c.args.now about c.as_slice.result.now (c.in_ok-clone.ensures ∙ c.as_text.ensures.value) c.as_slice.ensures
    (told_still before.rows now.rows (λ rows. IsAbout about (standing rows u)) made.reads.0.1 c.in_ok-about.ensures.about) made.judged made.text
