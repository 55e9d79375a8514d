-- Why a batch is acknowledged, and a heartbeat.
use Rattle.std.proofs.Common.{◌≡◌, ◌∙◌, ap, refl, List, [], ◌∷◌, Bool, true, cond, Option, None, Some}
use Rattle.std.specs.Prelude.{Ok, Err, codes}
use Rattle.wef_ids.specs.declared.FaultName.TheVariants.{InvalidMessage}
use Rattle.wef_collector_rows.specs.Answers.{channels_read}
use Rattle.wef_collector.specs.Taken.{batch_changes, heard_changes}
use Rattle.wef_keeper.specs.declared.keys.Change.{Change}
use Rattle.wef_machine.specs.Answering.{answer_by, answer_with, answer_word, commit_word}
use Rattle.wef_machine.specs.Arming.{fate}
use Rattle.wef_machine.specs.Deliveries.{BatchEffect, batch_effect, batch_effect_by, effect_at, heard_effect, heard_effect_by}
use Rattle.wef_machine.specs.declared.arming.Armed.{Armed}
use Rattle.wef_machine.specs.declared.arming.Fate.{Fate}
use Rattle.wef_machine.specs.declared.arming.Fate.TheVariants.{Done}
use Rattle.wef_machine.specs.declared.messages.Message.TheVariants.{Ack}
use Rattle.wef_promises.specs.Laws.{AcknowledgementIsGiven, DeliveriesAreAcknowledged, HeartbeatsAreAcknowledged}

unarmed : (armed : Option Armed) (changes : List Change) → armed ≡ None → fate armed changes ≡ Done
unarmed armed [] e = refl
unarmed armed (change ∷ changes) e = ap (λ (a : Option Armed). fate a (change ∷ changes)) e

pub acknowledged : AcknowledgementIsGiven
acknowledged state u s about batch live good wanted calm =
    let effect : BatchEffect = Ok (batch_changes state.collector.rows u s (channels_read about) batch state.moment) in
    ap (λ found. answer_word state (batch_effect_by state.collector.rows u s batch state.moment found) batch.ack_wanted) live
    ∙ ap (λ (t : Bool). answer_word state (cond t effect (Err InvalidMessage)) batch.ack_wanted) good
    ∙ ap (commit_word batch.ack_wanted) (unarmed state.collector.armed (batch_changes state.collector.rows u s (channels_read about) batch state.moment) calm)
    ∙ ap (λ (t : Bool). cond t (codes "ack") (codes "quiet")) wanted

pub answered : DeliveriesAreAcknowledged
answered state u s r id about delivery path source live good wanted calm =
    let effect : BatchEffect = Ok (batch_changes state.collector.rows u r (channels_read about) delivery.batch state.moment) in
    let ack : Bool = delivery.batch.ack_wanted in
    (λ i. answer_with state (effect_at state.collector.rows (path i) (source i) (λ v w. batch_effect state.collector.rows v w delivery.batch state.moment)) ack s id delivery.id)
    ∙ ap (λ found. answer_with state (batch_effect_by state.collector.rows u r delivery.batch state.moment found) ack s id delivery.id) live
    ∙ ap (λ (t : Bool). answer_with state (cond t effect (Err InvalidMessage)) ack s id delivery.id) good
    ∙ ap (λ (f : Fate). answer_by f ack s id delivery.id) (unarmed state.collector.armed (batch_changes state.collector.rows u r (channels_read about) delivery.batch state.moment) calm)
    ∙ ap (λ (t : Bool). cond t (Some (Ack s id delivery.id)) None) wanted

pub heard : HeartbeatsAreAcknowledged
heard state u s r id about beat path source live calm =
    (λ i. answer_with state (effect_at state.collector.rows (path i) (source i) (λ v w. heard_effect state.collector.rows v w state.moment)) true s id beat.id)
    ∙ ap (λ found. answer_with state (heard_effect_by state.collector.rows u r state.moment found) true s id beat.id) live
    ∙ ap (λ (f : Fate). answer_by f true s id beat.id) (unarmed state.collector.armed (heard_changes state.collector.rows u r state.moment) calm)
