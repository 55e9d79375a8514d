use Rattle.std.proofs.Common.{inl, inr}
use Rattle.std.proofs.KnownBytes.{Appends-nil}
use Rattle.wef_subscribing.proofs.requesting.request_next.Goals as goal

pub returns-in-Ok-clause-turn : goal.returns-in-Ok-clause-turn
returns-in-Ok-clause-turn g c = (
  record {
    moment = c.present-now.result;
    is_moment = c.present-now.ensures.moment;
    requests = rw c.in-Ok-Some.field-0-is at c.in-Ok-Some.ensures.requests;
    lawful = g.met.K.Keeper.lawful c.request_once.new.collector.keeper;
  },
  c.in-Ok.ensures.told,
)

pub returns-in-Err-tell_request-clause-turn : goal.returns-in-Err-tell_request-clause-turn
returns-in-Err-tell_request-clause-turn g c =
    inr (
      c.in-Ok-Some.sent,
      record {
        moment = c.present-now.result;
        is_moment = c.present-now.ensures.moment;
        requests = rw c.in-Ok-Some.field-0-is at c.in-Ok-Some.ensures.requests;
        lawful = g.met.K.Keeper.lawful c.request_once.new.collector.keeper;
      },
      c.in-Err-tell_request.ensures.told,
    )

pub returns-in-Err-clause-turn : goal.returns-in-Err-clause-turn
returns-in-Err-clause-turn g c =
    inl (
      c.in-Err.fault,
      record {
        moment = c.present-now.result;
        is_moment = c.present-now.ensures.moment;
        requests = c.in-Err.ensures.requests;
        lawful = g.met.K.Keeper.lawful c.request_once.new.collector.keeper;
      },
      c.request_ending.ensures,
      Appends-nil (g.O.Sink.taken c.args.out.now),
    )
