use Rattle.std.proofs.Common.{append_assoc}
use Rattle.wef_collector_reports.specs.Report.{subscription_line}
use Rattle.wef_collector_reports.proofs.reporting.push_subscription_line.Goals as goal

pub returns : goal.returns
unfolding subscription_line
returns c = rw (
  c.in_ok-push_str-2.ensures.ok,
  c.in_ok-push_state.ensures,
  c.in_ok-push_printed.ensures.ok,
  c.in_ok-push_str.ensures.ok,
) (simp append_assoc)
