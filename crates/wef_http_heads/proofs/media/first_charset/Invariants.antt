use Rattle.std.proofs.Common.{◌≡◌, drop}
use Rattle.std.specs.Option.{option_map}
use Rattle.wef_http_heads.specs.Media.{first_charset, or_else}
use Rattle.wef_http_heads.proofs.media.first_charset.Given as goal

abbrev pub invariant-loop-value : goal.invariant-loop-value
invariant-loop-value l = option_map (λ other. or_else l.first other) (first_charset (drop l.value-index l.values)) ≡ first_charset l.values
