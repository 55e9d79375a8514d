use Rattle.std.proofs.Common.{◌≡◌, ◌++◌, drop}
use Rattle.wef_base.proofs.Cuts.{behind}
use Rattle.wef_http_heads.specs.declared.media.Quoting.TheVariants.{Outside}
use Rattle.wef_http_heads.specs.Media.{parts_from}
use Rattle.wef_http_heads.proofs.media.parts_of.Given as goal

abbrev pub invariant-loop-byte : goal.invariant-loop-byte
invariant-loop-byte l = l.parts ++ behind l.part (parts_from l.quoting (drop l.byte-index l.value)) ≡ parts_from Outside l.value
