use Rattle.std.proofs.Common.{◌≡◌, Result, subst, inl}
use Rattle.std.proofs.KnownBytes.{Appends-nil}
use Rattle.wef_forwarding.specs.declared.exchanges.FrontFault.{FrontFault}
use Rattle.wef_forwarding.specs.declared.forwarding.Exchange.{Exchange}
use Rattle.wef_running.specs.Forwarding.{unless_gone}
use Rattle.wef_running.proofs.forwarding.send_next.Goals as goal

pub returns-in-Err-clause-turn : goal.returns-in-Err-clause-turn
returns-in-Err-clause-turn g c =
    inl (
      c.in-Err.fault,
      record {
        moment = c.present-now.result;
        is_moment = c.present-now.ensures.moment;
        answer = c.forward_once-answer.result;
        forwards = c.forward_once-answer.ensures.forwards;
        reads = c.forward_once-answer.ensures.reads;
        result_is = subst (λ (r : Result Exchange FrontFault). r ≡ unless_gone c.forward_once-answer.result) c.in-Err.is c.unless_gone.ensures;
        lawful = g.met.K.Keeper.lawful c.forward_once-answer.new.source.keeper;
      },
      c.front_ending.ensures,
      Appends-nil (g.O.Sink.taken c.args.out.now),
    )
