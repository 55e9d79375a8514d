use Rattle.std.proofs.Common.{refl}
use Rattle.std.proofs.lemmas.Result.{err_from_is_err_and}
use Rattle.wef_keeper.proofs.Calls.{not_opened}
use Rattle.wef_keeper.specs.Rows.{Rows}
use Rattle.wef_collector_rows.specs.Faults.{collector_fault, collector_store}
use Rattle.wef_collector_rows.specs.Forms.{AreFormed}
use Rattle.wef_collector.specs.Asking.{next_request}
use Rattle.wef_collector.specs.Calls.{no_effect}
use Rattle.wef_collector.proofs.OfStore.{of_collector_fault}
use Rattle.wef_collector.proofs.Shown.{not_shown, shown}
use Rattle.wef_collector.proofs.reading.request_in.Goals as goal

pub returns-in_err-open-clause-call : goal.returns-in_err-open-clause-call
returns-in_err-open-clause-call g c =
    let fault = c.in_err-open.field-0.0 in
    let opened = c.in_err-open.ensures in
    let gives = λ (rows : Rows). next_request rows c.args.memory.now.waiting c.args.memory.now.ids c.args.host.now c.args.now in
    let p = err_from_is_err_and c.from_residual.result c.from_residual.ensures.1 in
    rw (p.1, p.2) (not_opened collector_store AreFormed no_effect gives fault (collector_fault fault)
    (g.K.Keeper.store c.args.keeper.now) (g.K.Keeper.store c.open.new.keeper) (of_collector_fault fault) (g.met.K.Keeper.lawful c.args.keeper.now) (g.met.K.Keeper.lawful c.open.new.keeper) opened.found opened.opened opened.refused)

pub returns-in_err-ask_next-clause-call : goal.returns-in_err-ask_next-clause-call
returns-in_err-ask_next-clause-call g c =
    let gives = λ (rows : Rows). next_request rows c.args.memory.now.waiting c.args.memory.now.ids c.args.host.now c.args.now in
    let p = err_from_is_err_and c.from_residual-in_err-ask_next.result c.from_residual-in_err-ask_next.ensures.1 in
    rw (p.1, p.2) (not_shown gives c.in_err-ask_next.field-0.0
    (g.K.Keeper.store c.args.keeper.now) (g.K.Keeper.store c.open.new.keeper) (g.K.Keeper.store c.ask_next.new.keeper) (g.met.K.Keeper.lawful c.ask_next.new.keeper) (c.in_ok-open.ensures.found refl) c.in_ok-open.ensures.opened c.in_err-ask_next.ensures.reads)

pub returns-clause-call : goal.returns-clause-call
returns-clause-call g c =
    let gives = λ (rows : Rows). next_request rows c.args.memory.now.waiting c.args.memory.now.ids c.args.host.now c.args.now in
    shown gives c.in_ok-ask_next.field-0 (g.K.Keeper.store c.args.keeper.now) (g.K.Keeper.store c.open.new.keeper) (g.K.Keeper.store c.ask_next.new.keeper)
    (g.met.K.Keeper.lawful c.ask_next.new.keeper) (c.in_ok-open.ensures.found refl) c.in_ok-open.ensures.opened c.in_ok-ask_next.ensures.reads c.in_ok-ask_next.ensures.request
