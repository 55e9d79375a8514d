use Rattle.std.proofs.Common.{◌≡◌, ◌++◌, drop, encode_utf8_all}
use Rattle.wef_documents.proofs.addresses.spelt.Given as goal

abbrev pub invariant-loop-character : goal.invariant-loop-character
invariant-loop-character l = l.text ++ encode_utf8_all (drop l.character-index l.characters) ≡ encode_utf8_all l.characters
