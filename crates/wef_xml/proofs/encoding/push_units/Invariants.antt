use Rattle.std.proofs.Common.{◌≡◌, ◌++◌, IsUtf8}
use Rattle.std.specs.Str.{chars}
use Rattle.std.specs.Str.Iter.{chars_rest}
use Rattle.wef_base.specs.declared.tree.Charset.TheVariants.{Utf16}
use Rattle.wef_xml.specs.Canonical.{bytes_of}
use Rattle.wef_xml.proofs.encoding.push_units.Given as goal

abbrev pub invariant-loop-character : goal.invariant-loop-character
invariant-loop-character l = record {
  utf8 : IsUtf8 (chars_rest l.character-iterator);
  written : l.bytes ++ bytes_of Utf16 (chars (chars_rest l.character-iterator)) ≡ l.fn.bytes ++ bytes_of Utf16 (chars l.fn.text);
}
