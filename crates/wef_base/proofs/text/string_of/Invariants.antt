use Rattle.std.proofs.Common.{◌≡◌, ◌++◌, drop, encode_utf8_all, string_bytes}
use Rattle.wef_base.proofs.text.string_of.Given as goal

abbrev pub invariant-loop-character : goal.invariant-loop-character
invariant-loop-character l = string_bytes l.string ++ encode_utf8_all (drop l.character-index l.characters) ≡ encode_utf8_all l.characters
