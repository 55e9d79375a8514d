use Rattle.wef_requesting.proofs.Sending.{nothing_due, refused, sent_so}
use Rattle.wef_requesting.proofs.requesting.request_once.Goals as goal

pub returns-in-Ok-Some-clause-requests : goal.returns-in-Ok-Some-clause-requests
returns-in-Ok-Some-clause-requests g c =
    let given = c.in-Ok-Some.ensures in
    sent_so c.args.host.now c.args.now c.args.collector.now.memory c.next_request.new.self.memory c.send.new.collector.memory
    (g.K.Keeper.store c.args.collector.now.keeper) (g.K.Keeper.store c.next_request.new.self.keeper) (g.K.Keeper.store c.send.new.collector.keeper)
    (g.L.Port.told c.args.link.now) (g.L.Port.told c.send.new.link) c.in-Ok-Some.request c.send.result
    (rw c.in-Ok-Some.field-0-is at given.call) (rw c.in-Ok-Some.field-0-is at given.looks) (rw c.in-Ok-Some.field-0-is at given.ok) given.judged (rw c.in-Ok-Some.field-0-is at given.memory) (g.met.K.Keeper.lawful c.next_request.new.self.keeper) c.send.ensures.sent

pub returns-in-Ok-None-clause-requests : goal.returns-in-Ok-None-clause-requests
returns-in-Ok-None-clause-requests g c =
    let given = c.in-Ok-None.ensures in
    nothing_due c.args.host.now c.args.now c.args.collector.now.memory c.next_request.new.self.memory
    (g.K.Keeper.store c.args.collector.now.keeper) (g.K.Keeper.store c.next_request.new.self.keeper) (g.L.Port.told c.args.link.now)
    (rw c.in-Ok-None.field-0-is at given.call) (rw c.in-Ok-None.field-0-is at given.looks) (rw c.in-Ok-None.field-0-is at given.ok) given.judged (rw c.in-Ok-None.field-0-is at given.memory) (g.met.K.Keeper.lawful c.next_request.new.self.keeper)

pub returns-in-Err-clause-requests : goal.returns-in-Err-clause-requests
returns-in-Err-clause-requests g c =
    let given = c.in-Err.ensures in
    rw c.from.ensures (refused c.args.host.now c.args.now c.args.collector.now.memory c.next_request.new.self.memory
    (g.K.Keeper.store c.args.collector.now.keeper) (g.K.Keeper.store c.next_request.new.self.keeper) (g.L.Port.told c.args.link.now)
    c.in-Err.fault given.call given.looks given.refusal given.memory (g.met.K.Keeper.lawful c.next_request.new.self.keeper))
