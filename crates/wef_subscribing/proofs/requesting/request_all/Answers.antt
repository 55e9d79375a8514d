use Rattle.std.proofs.Common.{rules, ◌<◌, ◌∙◌, ℕ, inr, refl, subst, arith}
use Rattle.std.specs.Prelude.{Option, Some, None, Ok, Err}
use Rattle.wef_commands.specs.Endings.{Told}
use Rattle.wef_requesting.specs.Requesting.{Asking}
use Rattle.wef_subscribing.proofs.Requested.{done_behind, none_due, none_sent, one_sent, stopped}
use Rattle.wef_subscribing.proofs.requesting.request_all.Goals as goal
use Rattle.wef_subscribing.specs.Requesting.{IsRequested, TurnsBy}

pub requesting-init : goal.requesting-init
requesting-init g c = record {
  so_far = none_sent (IsRequested (g.C.Clock.told c.args.clock.now) c.args.address.now) c.args.count (g.O.Sink.taken c.args.out.now)
      (record { memory = c.args.collector.now.memory; store = g.K.Keeper.store c.args.collector.now.keeper; link = g.L.Port.told c.args.link.now });
  later = omega arith;
  clock = refl;
}

-- a request more
pub requesting-preserved-in-Ok-Some : goal.requesting-preserved-in-Ok-Some
requesting-preserved-in-Ok-Some g c =
    let kept = c.requesting.invariant in
    let clock = g.C.Clock.told c.args.clock.now in
    let some : 0 < c.requesting.left = search rules in
    let before : Asking = record { memory = c.args.collector.now.memory; store = g.K.Keeper.store c.args.collector.now.keeper; link = g.L.Port.told c.args.link.now } in
    let mid : Asking = record { memory = c.requesting.collector.memory; store = g.K.Keeper.store c.requesting.collector.keeper; link = g.L.Port.told c.requesting.link } in
    let now : Asking = record { memory = c.request_next.new.collector.memory; store = g.K.Keeper.store c.request_next.new.collector.keeper; link = g.L.Port.told c.request_next.new.link } in
    let out : Told = record {
      before = g.O.Sink.taken c.requesting.out;
      after = g.O.Sink.taken c.request_next.new.out;
      faults_before = g.O.Sink.faults c.requesting.out;
      faults_after = g.O.Sink.faults c.request_next.new.out;
    } in
    let turn = subst (λ (m : Option ℕ). TurnsBy (IsRequested m c.args.address.now) (Ok (Some c.in-Ok-Some.field-0-0)) out mid now) kept.clock (rw c.in-Ok-Some.field-0-is at c.in-Ok-Some.ensures.turn) in
    record {
      so_far = one_sent (IsRequested clock c.args.address.now) c.args.count c.requesting.left _ c.in-Ok-Some.field-0-0 (g.O.Sink.taken c.args.out.now) out.before out.after before mid now kept.so_far (omega (arith, some)) turn.0 turn.1;
      later = omega (arith, kept.later, c.request_next.ensures.later);
      clock = c.request_next.ensures.clock ∙ kept.clock;
    }

-- none is due, and it tells that it is done
pub returns-in-Ok-None-clause-ends : goal.returns-in-Ok-None-clause-ends
returns-in-Ok-None-clause-ends g c =
    let kept = c.requesting.invariant in
    let clock = g.C.Clock.told c.args.clock.now in
    let some : 0 < c.requesting.left = search rules in
    let mid : Asking = record { memory = c.requesting.collector.memory; store = g.K.Keeper.store c.requesting.collector.keeper; link = g.L.Port.told c.requesting.link } in
    let now : Asking = record { memory = c.request_next.new.collector.memory; store = g.K.Keeper.store c.request_next.new.collector.keeper; link = g.L.Port.told c.request_next.new.link } in
    let b = g.O.Sink.taken c.requesting.out in
    let d = g.O.Sink.taken c.request_next.new.out in
    let e = g.O.Sink.taken c.tell_done.new.out in
    let k = g.O.Sink.faults c.requesting.out in
    let l = g.O.Sink.faults c.request_next.new.out in
    let h = g.O.Sink.faults c.tell_done.new.out in
    let asked : Told = record { before = b; after = d; faults_before = k; faults_after = l } in
    let out : Told = record { before = b; after = e; faults_before = k; faults_after = h } in
    let turn = subst (λ (m : Option ℕ). TurnsBy (IsRequested m c.args.address.now) (Ok None) asked mid now) kept.clock (rw c.in-Ok-None.field-0-is at c.in-Ok-None.ensures.turn) in
    stopped (IsRequested clock c.args.address.now) c.args.count c.requesting.left c.tell_done.result (g.O.Sink.taken c.args.out.now) b e (g.O.Sink.faults c.args.out.now) k h _ mid now kept.so_far kept.later
    (none_due (IsRequested clock c.args.address.now) c.requesting.left out c.tell_done.result mid now some turn.0 (done_behind b d e k l h c.tell_done.result c.request_next.ensures.later turn.1 c.tell_done.ensures))

-- it ends at a request
pub returns-in-Err-clause-ends : goal.returns-in-Err-clause-ends
returns-in-Err-clause-ends g c =
    let kept = c.requesting.invariant in
    let clock = g.C.Clock.told c.args.clock.now in
    let some : 0 < c.requesting.left = search rules in
    let mid : Asking = record { memory = c.requesting.collector.memory; store = g.K.Keeper.store c.requesting.collector.keeper; link = g.L.Port.told c.requesting.link } in
    let now : Asking = record { memory = c.request_next.new.collector.memory; store = g.K.Keeper.store c.request_next.new.collector.keeper; link = g.L.Port.told c.request_next.new.link } in
    let b = g.O.Sink.taken c.requesting.out in
    let d = g.O.Sink.taken c.request_next.new.out in
    let k = g.O.Sink.faults c.requesting.out in
    let h = g.O.Sink.faults c.request_next.new.out in
    let out : Told = record { before = b; after = d; faults_before = k; faults_after = h } in
    stopped (IsRequested clock c.args.address.now) c.args.count c.requesting.left c.in-Err.ending (g.O.Sink.taken c.args.out.now) b d (g.O.Sink.faults c.args.out.now) k h _ mid now kept.so_far kept.later
    (inr (some, subst (λ (m : Option ℕ). TurnsBy (IsRequested m c.args.address.now) (Err c.in-Err.ending) out mid now) kept.clock c.in-Err.ensures.turn))
