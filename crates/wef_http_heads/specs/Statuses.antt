-- The statuses of refusals (RFC 9110, 15.5).
use Rattle.std.specs.Prelude.{ℕ, Option, Some, None}
use Rattle.wef_http_heads.specs.declared.ends.HttpEnd.{HttpEnd}
use Rattle.wef_http_heads.specs.declared.ends.HttpEnd.TheVariants.{BadHead, Method, Path, NoLength, TooLarge, Media}

-- the status of the response that refuses a request, where there is one
abbrev pub refusal : HttpEnd → Option ℕ
refusal BadHead = Some 400
refusal Path = Some 404
refusal Method = Some 405
refusal NoLength = Some 411
refusal TooLarge = Some 413
refusal Media = Some 415
refusal _ = None
