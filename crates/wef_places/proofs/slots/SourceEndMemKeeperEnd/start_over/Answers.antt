use Rattle.std.proofs.Common.{ℕ, subst}
use Rattle.std.specs.Prelude.{Ok, Err, MatchResult}
use Rattle.wef_keeper.specs.Calls.{IsCall}
use Rattle.wef_source.specs.Calls.{start_effect}
use Rattle.wef_building.specs.Faults.{source_store}
use Rattle.wef_source.specs.Machine.{start_of}
use Rattle.wef_source_log.specs.Answers.{next_boot}
use Rattle.wef_source_log.specs.Forms.{AreFormed}
use Rattle.wef_places.proofs.Restarted.{started_given}
use Rattle.wef_places.proofs.Settled.{told_by}
use Rattle.wef_places.proofs.slots.SourceEndMemKeeperEnd.start_over.Goals as goal

pub returns-in-Ok : goal.returns-in-Ok
returns-in-Ok c =
    let before = told_by c.args.store in
    started_given source_store AreFormed (λ rows. start_effect rows c.args.origin.now.capacity) next_boot start_of told_by (λ end. end.keeper) (λ end. end.memory.boot) (λ end. end.memory) c.start.result before
    (subst
    (λ (n : ℕ). MatchResult c.start.result (λ end. IsCall source_store AreFormed (λ rows. start_effect rows n) next_boot (Ok end.memory.boot) before (told_by end.keeper))
    (λ refused. IsCall source_store AreFormed (λ rows. start_effect rows n) next_boot (Err refused.1) before (told_by refused.0)))
    c.records.ensures.number c.start.ensures.call)
    c.start.ensures.memory
