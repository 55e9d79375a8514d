use Rattle.std.proofs.Common.{◌≡◌, IsUtf8, encode_utf8_all}
use Rattle.std.specs.Str.Iter.{chars_rest}
use Rattle.wef_base.specs.Names.{same}
use Rattle.wef_tree_pieces.proofs.names.spells.Given as goal

abbrev pub invariant-loop-character : goal.invariant-loop-character
invariant-loop-character l = record {
  utf8 : IsUtf8 (chars_rest l.character-iterator);
  compared : same (encode_utf8_all l.rest) (chars_rest l.character-iterator) ≡ same (encode_utf8_all l.characters) l.text;
}
