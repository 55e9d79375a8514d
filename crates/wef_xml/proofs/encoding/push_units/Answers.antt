use Rattle.std.proofs.lemmas.Str.{IsUtf8-past_char}
use Rattle.wef_xml.proofs.Copied.{all_written, next_written}
use Rattle.wef_xml.proofs.encoding.push_units.Goals as goal

pub loop-character-preserved : goal.loop-character-preserved
loop-character-preserved c =
    let held = c.loop-character.invariant in
    let parts = c.in-Some.ensures.steps.0 in
    record {
      utf8 = IsUtf8-past_char _ _ c.in-Some.character held.utf8 parts;
      written = rw c.in_ok-push_utf16.ensures (next_written _ _ _ _ _ c.in-Some.character held.utf8 parts held.written);
    }

pub returns : goal.returns
returns c = all_written _ _ _ _ c.in-None.ensures.steps.0.0 c.loop-character.invariant.written
