use Rattle.std.proofs.Common.{◌≡◌, List, ℕ, ◌++◌, drop}
use Rattle.wef_http_heads.specs.Ends.{behind_empty_line}
use Rattle.wef_http.specs.Trailers.{stands}
use Rattle.wef_http.proofs.trailers.skip.Given as goal

abbrev pub invariant-loop-index : goal.invariant-loop-index
invariant-loop-index l = (more : List ℕ) → behind_empty_line (stands l.fn.from) (l.bytes ++ more) ≡ behind_empty_line (stands l.place) (drop l.index l.bytes ++ more)
