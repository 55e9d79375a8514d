use Rattle.std.proofs.Common.{Bool, cond, ap, sym, ◌∙◌}
use Rattle.std.specs.Prelude.{Some, None}
use Rattle.wef_base.proofs.Utf8.{is_no_text, is_text}
use Rattle.wef_replay_values.proofs.values.utf8_text_of.Goals as goal

pub returns-in_ok-from_str-in-Ok : goal.returns-in_ok-from_str-in-Ok
returns-in_ok-from_str-in-Ok c =
    ap (λ (b : Bool). cond b (Some c.args.bytes.now) None) (is_text c.args.bytes.now c.in-Ok.ensures.cases.1)
    ∙ ap Some (sym (c.in_ok-from_str-in-Ok.ensures ∙ c.in-Ok.ensures.cases.0))

pub returns-in-Err : goal.returns-in-Err
returns-in-Err c = ap (λ (b : Bool). cond b (Some c.args.bytes.now) None) (is_no_text c.args.bytes.now c.in-Err.ensures.cases.0)
