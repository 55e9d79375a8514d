use Rattle.std.proofs.Common.{◌∙◌, sym, subst}
use Rattle.wef_tree_writing.specs.Levels.{HasDigestsOf, HasTexts}
use Rattle.wef_tree_writing.proofs.Bound.{digests_of_with, texts_with}
use Rattle.wef_tree_writing.proofs.space_sets.SpaceSet.with.Goals as goal

pub invariant_of-result : goal.invariant_of-result
invariant_of-result c =
    let all = sym c.in_ok-push.ensures.ok in (
      subst (HasTexts c.insert.new.self) all
          (texts_with c.self.inside.texts c.insert.new.self c.self.inside.spaces c.args.space c.self.invariant.0 (λ q. rw (sym (c.in_ok-clone.ensures ∙ c.as_text.ensures)) (c.in_ok-_is_new.ensures.updates.0 q))),
      subst (HasDigestsOf c.add_digest.new.digests) all
          (digests_of_with c.self.inside.digests c.add_digest.new.digests c.self.inside.spaces c.args.space c.self.invariant.1 c.in_ok-add_digest.ensures),
    )
