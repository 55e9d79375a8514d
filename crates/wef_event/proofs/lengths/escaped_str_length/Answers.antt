use Rattle.std.proofs.Common.{◌≡◌, ℕ, List, length, ap, sym, ◌∙◌, arith}
use Rattle.std.specs.Prelude.{Some}
use Rattle.std.specs.Str.Iter.{chars_rest}
use Rattle.std.specs.List.{flat_map}
use Rattle.std.proofs.StrCases.{chars_of_empty}
use Rattle.std.proofs.lemmas.Str.{IsUtf8-past_char}
use Rattle.wef_event.specs.Characters.{escape, escaped}
use Rattle.wef_event.proofs.Sizes.{escaped_past_char, past_limit, within_limit}
use Rattle.wef_event.proofs.lengths.escaped_str_length.Goals as goal

pub returns-then-length-limit : goal.returns-then-length-limit
returns-then-length-limit c =
    let held = c.loop-character.invariant in
    let step = escaped_past_char _ _ c.in-Some.character held.text c.in-Some.ensures.steps.0 in
    let size = c.escape_length-length.ensures.value in
    sym (past_limit c.args.limit (length (escaped c.args.text.now)) (omega (arith, step)))

pub loop-character-preserved : goal.loop-character-preserved
loop-character-preserved c =
    let held = c.loop-character.invariant in
    let parts = c.in-Some.ensures.steps.0 in
    let step = escaped_past_char _ _ c.in-Some.character held.text parts in
    let size = c.escape_length-length.ensures.value in
    record {
      text = IsUtf8-past_char _ _ c.in-Some.character held.text parts;
      counted = omega (arith, step);
      within = omega arith;
    }

pub returns : goal.returns
returns c =
    let held = c.loop-character.invariant in
    let end : length (escaped (chars_rest c.loop-character.character-iterator)) ≡ 0 = ap (λ (cs : List ℕ). length (flat_map escape cs)) (chars_of_empty _ c.in-None.ensures.steps.0.0) in
    let all : c.loop-character.length ≡ length (escaped c.args.text.now) = omega arith in
    ap (λ (n : ℕ). Some n) all ∙ sym (within_limit c.args.limit (length (escaped c.args.text.now)) (omega arith))
