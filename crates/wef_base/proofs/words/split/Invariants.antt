use Rattle.std.proofs.Common.{◌≡◌, ◌++◌, drop}
use Rattle.wef_base.specs.Words.{parts}
use Rattle.wef_base.proofs.Cuts.{behind}
use Rattle.wef_base.proofs.words.split.Given as goal

abbrev pub invariant-loop-byte : goal.invariant-loop-byte
invariant-loop-byte l = l.pieces ++ behind l.piece (parts l.separator (drop l.byte-index l.text)) ≡ parts l.separator l.text
