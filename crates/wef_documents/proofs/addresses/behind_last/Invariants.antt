use Rattle.std.proofs.Common.{◌≡◌, cond, length}
use Rattle.std.specs.List.{list_any}
use Rattle.wef_documents.specs.Addresses.{behind_last, is_colon}
use Rattle.wef_documents.proofs.addresses.behind_last.Given as goal

abbrev pub invariant-loop-rest : goal.invariant-loop-rest
invariant-loop-rest l = cond (list_any is_colon l.rest) (behind_last l.rest) l.found ≡ behind_last l.characters

abbrev pub decreases-loop-rest : goal.decreases-loop-rest
decreases-loop-rest l = length l.rest
