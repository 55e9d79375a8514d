use Rattle.std.proofs.Common.{rules, ◌++◌, sym, ◌∙◌, ap, subst}
use Rattle.wef_canonical.specs.Passing.{IsAsciiName}
use Rattle.wef_canonical.proofs.BareTags.{all_begin, none_begin, one_begins}
use Rattle.wef_canonical.proofs.tags.behind_attributes.Goals as goal

pub loop-turn-preserved : goal.loop-turn-preserved
loop-turn-preserved c =
    let front = c.in_ok-end.ensures in
    let same = c.in_ok-name.ensures front.0 front.2 in (
      search rules,
      λ behind ahead. c.loop-turn.invariant.1 behind
          (one_begins _ _ c.in_ok-name.name.now c.loop-turn.rest.now c.in-Some.attribute.now c.in_ok-end.end.now c.in_ok-rest.rest.now behind
          (subst IsAsciiName (sym same) front.1) c.in_ok-names.ensures c.in-Some.ensures
          (front.2 ∙ ap (λ name. name ++ c.in_ok-end.end.now) (sym same)) c.in_ok-rest.ensures ahead),
    )

pub returns-in_default : goal.returns-in_default
returns-in_default c =
    all_begin _ c.args.text.now c.loop-turn.rest.now (c.loop-turn.invariant.1 c.loop-turn.rest.now (none_begin _ c.loop-turn.rest.now))
