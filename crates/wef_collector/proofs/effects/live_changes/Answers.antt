use Rattle.std.proofs.Common.{rules, ◌≡◌, ◌∙◌, true, false, ap, sym, List}
use Rattle.std.specs.Prelude.{Ok, Err}
use Rattle.std.proofs.lemmas.Option.{IfSome_then}
use Rattle.wef_batch.specs.WellFormed.{is_well_formed}
use Rattle.wef_keeper.specs.declared.keys.Change.{Change}
use Rattle.wef_keeper.proofs.Told.{told_any}
use Rattle.wef_collector_rows.specs.Answers.{channels_read}
use Rattle.wef_collector.specs.Calls.{take_by}
use Rattle.wef_collector.specs.Taken.{batch_changes}
use Rattle.wef_collector_rows.specs.declared.faults.CollectorFault.TheVariants.{NotWellFormed}
use Rattle.wef_collector_rows.specs.declared.standings.Standing.TheVariants.{Live}
use Rattle.wef_collector.proofs.Live.{takes_ill, takes_well}
use Rattle.wef_collector.proofs.effects.live_changes.Goals as goal

pub returns-then-not-judge-clause-effect : goal.returns-then-not-judge-clause-effect
returns-then-not-judge-clause-effect g c =
    let s = c.args.subscription.now in
    let u = c.args.sub.now in
    let source = c.args.source.now in
    let batch = c.args.batch.now in
    let ill : is_well_formed (channels_read s) batch ≡ false = search rules in
    told_any (g.K.Keeper.store c.args.keeper.now).rows (λ rows. take_by (Live s) rows u source batch c.args.now ≡ Err NotWellFormed)
    (λ rows. takes_ill rows u source s batch c.args.now ill)

pub returns-clause-effect : goal.returns-clause-effect
returns-clause-effect g c =
    let s = c.args.subscription.now in
    let u = c.args.sub.now in
    let source = c.args.source.now in
    let batch = c.args.batch.now in
    let well : is_well_formed (channels_read s) batch ≡ true = search rules in
    let now = g.K.Keeper.store c.batch_changes.new.keeper in
    let channels = c.as_slice-2.ensures ∙ c.in_ok-channels.ensures.value in
    IfSome_then now.rows c.in_ok-batch_changes.ensures.changes
    (λ rows is. takes_well rows u source s batch c.args.now well ∙ sym (ap (λ (changes : List Change). Ok changes) (is ∙ ap (λ (cs : List _). batch_changes rows u source cs batch c.args.now) channels)))
