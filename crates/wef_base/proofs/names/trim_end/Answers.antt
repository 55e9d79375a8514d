use Rattle.std.proofs.Common.{rules, ◌≡◌, sym, ◌∙◌, ap, true, false}
use Rattle.wef_base.specs.Names.{is_space, without_end}
use Rattle.wef_base.proofs.Trimmed.{without_end_space, without_end_other}
use Rattle.wef_base.proofs.names.trim_end.Goals as goal

pub returns-then-not-is_xml_space : goal.returns-then-not-is_xml_space
returns-then-not-is_xml_space c =
    let ends = c.in-Some.ensures.cases.0 in
    let other : is_space c.in-Some.field-0-0.now ≡ false = search rules in
    ends ∙ sym (without_end_other c.in-Some.others.now c.in-Some.field-0-0.now other) ∙ ap without_end (sym ends) ∙ c.loop-last.invariant

pub loop-last-preserved : goal.loop-last-preserved
loop-last-preserved c =
    let ends = c.in-Some.ensures.cases.0 in
    let space : is_space c.in-Some.field-0-0.now ≡ true = search rules in
    sym (without_end_space c.in-Some.others.now c.in-Some.field-0-0.now space) ∙ ap without_end (sym ends) ∙ c.loop-last.invariant
