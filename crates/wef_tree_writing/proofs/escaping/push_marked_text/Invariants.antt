use Rattle.std.proofs.Common.{◌≡◌, ◌++◌, IsUtf8}
use Rattle.std.specs.Str.Iter.{chars_rest}
use Rattle.wef_xml.specs.Canonical.{text_of}
use Rattle.wef_tree_writing.proofs.escaping.push_marked_text.Given as goal

abbrev pub invariant-loop-character : goal.invariant-loop-character
invariant-loop-character l = record {
  utf8 : IsUtf8 (chars_rest l.character-iterator);
  written : l.out ++ text_of (chars_rest l.character-iterator) ≡ l.fn.out ++ text_of l.fn.text;
}
