use Rattle.std.proofs.Common.{◌≡◌, false, ◌++◌, drop}
use Rattle.wef_xml.specs.Decoding.{line_ends}
use Rattle.wef_xml.proofs.line_ends.join_line_ends.Given as goal

abbrev pub invariant-loop-character : goal.invariant-loop-character
invariant-loop-character l = l.text.items ++ line_ends l.after_return (drop l.character-index l.characters) ≡ line_ends false l.characters
