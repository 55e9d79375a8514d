use Rattle.std.proofs.Common.{[], sym, subst}
use Rattle.std.specs.FinMap as map
use Rattle.wef_xml.specs.Prefixes.{bound_by}
use Rattle.wef_tree_writing.specs.Levels.{HasDigests, HasPrefixes, HasSpaces, Texts}
use Rattle.wef_tree_writing.proofs.Bound.{digests_with, prefixes_with, spaces_with}
use Rattle.wef_tree_writing.proofs.bindings.Level.with.Goals as goal

pub invariant_of-result : goal.invariant_of-result
invariant_of-result c =
    let b = c.args.binding in
    let all = c.in_ok-push.ensures.ok in
    let inside = c.self.inside in (
      subst (λ (m : Texts). HasPrefixes m (bound_by [] c.push.new.self)) (sym c.in_ok-bind_text.ensures)
          (subst (λ bs. HasPrefixes (map.insert inside.prefixes b.space b.prefix) (bound_by [] bs)) (sym all) (prefixes_with inside.prefixes inside.bindings b c.self.invariant.0)),
      subst (λ bs. HasDigests c.bind_digest.new.found (bound_by [] bs)) (sym all)
          (digests_with inside.digests c.bind_digest.new.found inside.bindings b c.self.invariant.1 c.in_ok-bind_digest.ensures),
      subst (λ (m : Texts). HasSpaces m (bound_by [] c.push.new.self)) (sym c.in_ok-bind_prefix.ensures)
          (subst (λ bs. HasSpaces (map.insert inside.spaces b.prefix b.space) (bound_by [] bs)) (sym all) (spaces_with inside.spaces inside.bindings b c.self.invariant.2)),
    )
