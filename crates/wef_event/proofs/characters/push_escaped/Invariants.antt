use Rattle.std.proofs.Common.{◌≡◌, ◌++◌, IsUtf8}
use Rattle.std.specs.Str.Iter.{chars_rest}
use Rattle.wef_event.specs.Characters.{escaped}
use Rattle.wef_event.proofs.characters.push_escaped.Given as goal

abbrev pub invariant-loop-character : goal.invariant-loop-character
invariant-loop-character l = record {
  utf8 : IsUtf8 (chars_rest l.character-iterator);
  written : l.text ++ escaped (chars_rest l.character-iterator) ≡ l.fn.text ++ escaped l.fn.word;
}
