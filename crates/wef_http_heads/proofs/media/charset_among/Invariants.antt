use Rattle.std.proofs.Common.{◌≡◌, drop}
use Rattle.wef_http_heads.specs.Media.{charset_among}
use Rattle.wef_http_heads.proofs.media.charset_among.Given as goal

abbrev pub invariant-loop-parameter : goal.invariant-loop-parameter
invariant-loop-parameter l = charset_among (drop l.parameter-index l.parameters) ≡ charset_among l.parameters
