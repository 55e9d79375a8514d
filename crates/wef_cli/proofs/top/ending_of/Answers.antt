use Rattle.std.proofs.Common.{refl}
use Rattle.std.proofs.KnownBytes.{Keeps-refl}
use Rattle.wef_commands.specs.Endings.{Told}
use Rattle.wef_command_line.specs.Command.{command_of}
use Rattle.wef_cli.proofs.Wanting.{nothing_done}
use Rattle.wef_cli.proofs.top.ending_of.Goals as goal

pub returns-in-Err-clause-ends : goal.returns-in-Err-clause-ends
returns-in-Err-clause-ends g c =
    let left = g.I.Source.left c.args.input.now in
    let taken = g.O.Sink.taken c.args.out.now in
    let input : Told = record { before = left; after = left; faults_before = g.I.Source.faults c.args.input.now; faults_after = g.I.Source.faults c.args.input.now } in
    let out : Told = record { before = taken; after = taken; faults_before = g.O.Sink.faults c.args.out.now; faults_after = g.O.Sink.faults c.args.out.now } in
    let front = g.F.Port.told c.args.front.now in
    let link = g.L.Port.told c.args.link.now in
    nothing_done (command_of c.args.words.now) input out
    (record { front_before = front; front_after = front; link_before = link; link_after = link; moment = g.C.Clock.told c.args.clock.now })
    (g.K.Keeper.store c.args.keeper) (Keeps-refl left) (Keeps-refl taken) (refl, refl)
