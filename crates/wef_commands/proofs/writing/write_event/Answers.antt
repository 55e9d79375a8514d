use Rattle.std.proofs.Common.{inl, inr}
use Rattle.std.proofs.KnownBytes.{Appends-nil}
use Rattle.wef_commands.proofs.writing.write_event.Goals as goal

pub returns-in-Err-clause-turn : goal.returns-in-Err-clause-turn
returns-in-Err-clause-turn g c =
    inr (inl (c.in-Err.fault, (c.in-Err.ensures.call, c.in-Err.ensures.judged, g.met.K.Keeper.lawful c.write.new.self.keeper), c.write_ending.ensures, Appends-nil (g.O.Sink.taken c.args.out.now)))
