use Rattle.std.proofs.Common.{◌≡◌, true, length}
use Rattle.std.specs.List.{list_any}
use Rattle.wef_query.specs.Runs.{never_fall}
use Rattle.wef_query.specs.Selected.{is_asking_for_all}
use Rattle.wef_query.proofs.selecting.has_group_asking_for_all.Given as goal

abbrev pub invariant-loop-first : goal.invariant-loop-first
invariant-loop-first l = record {
  asked : list_any (is_asking_for_all l.rest l.channel) l.rest ≡ list_any (is_asking_for_all l.items l.channel) l.items;
  together : never_fall 0 l.rest ≡ true;
}

abbrev pub decreases-loop-first : goal.decreases-loop-first
decreases-loop-first l = length l.rest
