use Rattle.std.proofs.Common.{◌≡◌, ◌+◌, ◌≤◌, IsUtf8, length}
use Rattle.std.specs.Str.Iter.{chars_rest}
use Rattle.wef_event.specs.Characters.{escaped}
use Rattle.wef_event.proofs.lengths.escaped_str_length.Given as goal

abbrev pub invariant-loop-character : goal.invariant-loop-character
invariant-loop-character l = record {
  text : IsUtf8 (chars_rest l.character-iterator);
  counted : l.length + length (escaped (chars_rest l.character-iterator)) ≡ length (escaped l.fn.text);
  within : l.length ≤ l.limit;
}
