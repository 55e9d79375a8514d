use Rattle.std.proofs.Common.{◌∙◌, sym, ap, List, ℕ}
use Rattle.std.specs.Prelude.{Some}
use Rattle.percent_encoding.specs.Percent.{percent_decode}
use Rattle.wef_base.specs.Words.{decoded, utf8}
use Rattle.wef_base.proofs.Utf8.{text_of, no_text_of}
use Rattle.wef_base.proofs.words.decode.Goals as goal

pub returns-in_ok-from_string-in-Ok : goal.returns-in_ok-from_string-in-Ok
unfolding decoded
returns-in_ok-from_string-in-Ok c =
    let bytes = c.in_ok-from_string-in-Ok.ensures ∙ c.in_ok-into_owned-in-Ok.ensures.ok ∙ c.in-Ok.ensures.value in
    ap (λ (t : List ℕ). Some t) bytes ∙ sym (text_of (percent_decode c.percent_decode.result.bytes.now) c.in-Ok.ensures.ok_only_if_utf8) ∙ ap utf8 c.percent_decode.ensures.bytes

pub returns-in-Err-Utf8 : goal.returns-in-Err-Utf8
unfolding decoded
returns-in-Err-Utf8 c =
    let only = c.in-Err-Utf8.ensures.utf8 in
    let is = c.in-Err-Utf8.field-0-is in
    sym (no_text_of (percent_decode c.percent_decode.result.bytes.now) (λ good. let wanting = only good in cc)) ∙ ap utf8 c.percent_decode.ensures.bytes
