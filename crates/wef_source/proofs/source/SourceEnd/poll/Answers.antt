use Rattle.std.proofs.Common.{rules}
use Rattle.wef_source.proofs.source.SourceEnd.poll.Goals as goal

pub returns-clause-account : goal.returns-clause-account
returns-clause-account g c = record {
  ok = search rules;
  refusal = search rules;
  sends = search rules;
  numbered = search rules;
  remembered = search rules;
  addressed = search rules;
  judged = search rules;
  listed = search rules;
  err = search rules;
  unexpired = search rules;
  looks = search rules;
  untouched = search rules;
  reads = search rules;
}
