use Rattle.std.proofs.Common.{◌≡◌, ◌≤◌, ◌-◌, length, None}
use Rattle.wef_base.specs.declared.tree.Charset.TheVariants.{Utf16}
use Rattle.wef_xml.specs.Decoding.{decoded, decoded16, joined}
use Rattle.wef_xml.proofs.utf16.decode_utf16.Given as goal

abbrev pub invariant-loop-rest : goal.invariant-loop-rest
invariant-loop-rest l = record {
  decodes : joined l.characters.items (length l.bytes - length l.rest) (decoded16 l.order None l.rest) ≡ decoded Utf16 l.bytes;
  within : length l.rest ≤ length l.bytes;
}

abbrev pub decreases-loop-rest : goal.decreases-loop-rest
decreases-loop-rest l = length l.rest
