use Rattle.std.proofs.Common.{◌≡◌, drop}
use Rattle.std.specs.List.{list_any}
use Rattle.wef_http_heads.specs.Fields.{says_close}
use Rattle.wef_http_heads.proofs.fields.any_says_close.Given as goal

abbrev pub invariant-loop-value : goal.invariant-loop-value
invariant-loop-value l = list_any says_close (drop l.value-index l.values) ≡ list_any says_close l.values
