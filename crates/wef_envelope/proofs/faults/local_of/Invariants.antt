use Rattle.std.proofs.Common.{◌≡◌, ◌++◌, drop, encode_utf8_all}
use Rattle.wef_envelope.specs.Faults.{local_of}
use Rattle.wef_envelope.proofs.faults.local_of.Given as goal

abbrev pub invariant-loop-character : goal.invariant-loop-character
invariant-loop-character l = l.local ++ encode_utf8_all (drop l.character-index l.character-items) ≡ local_of l.text
