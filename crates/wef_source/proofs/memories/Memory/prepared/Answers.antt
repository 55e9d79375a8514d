use Rattle.std.proofs.Common.{refl, rules}
use Rattle.std.proofs.lemmas.Result.{err_from_is_err_and}
use Rattle.wef_keeper.proofs.Calls.{looked}
use Rattle.wef_source_log.proofs.Looking.{not_looked}
use Rattle.wef_source_log.specs.Forms.{AreFormed}
use Rattle.wef_building.specs.Faults.{source_store}
use Rattle.wef_source.proofs.Handed.{looks_refused}
use Rattle.wef_building.proofs.Told.{opens_itself}
use Rattle.wef_source.proofs.memories.Memory.prepared.Goals as goal

pub returns-then-is_some : goal.returns-then-is_some
returns-then-is_some g c = record {
  ok = search rules;
  refusal = search rules;
  draws = search rules;
  judged = search rules;
  listed = search rules;
  looks = search rules;
  untouched = search rules;
  idle = search rules;
  reads = opens_itself AreFormed (g.K.Keeper.store c.args.log.now.keeper) (g.met.K.Keeper.lawful c.args.log.now.keeper);
}

pub returns-in_err-open : goal.returns-in_err-open
returns-in_err-open g c =
    let p = err_from_is_err_and c.from_residual.result c.from_residual.ensures.1 in
    let fault = c.in_err-open.field-0.0 in
    let before = g.K.Keeper.store c.args.log.now.keeper in
    let now = g.K.Keeper.store c.open.new.self.keeper in
    record {
      ok = search rules;
      refusal = search rules;
      draws = search rules;
      judged = search rules;
      listed = search rules;
      looks = rw (p.1, p.2) (λ idle. looks_refused {S = Unit {0}} AreFormed fault before now (not_looked fault before now c.in_err-open.ensures.looks));
      untouched = search rules;
      idle = search rules;
      reads = rw (p.1, p.2) (looks_refused {S = Unit {0}} {T = Unit {0}} AreFormed fault before now (not_looked fault before now c.in_err-open.ensures.looks)).opened;
    }

pub returns : goal.returns
returns g c =
    let opened = c.in_ok-open.ensures.looks in
    let ready = c.prepared_ready.ensures in
    let looks = looked source_store AreFormed c.prepared_ready.result (g.K.Keeper.store c.args.log.now.keeper) (g.K.Keeper.store c.open.new.self.keeper) (g.K.Keeper.store c.prepared_ready.new.log.keeper)
    (opened.found refl) opened.opened ready.reads in
    record {
      ok = ready.ok;
      refusal = ready.refusal;
      draws = ready.draws;
      judged = search rules;
      listed = ready.listed;
      looks = λ idle. looks;
      untouched = search rules;
      idle = search rules;
      reads = looks.opened;
    }
