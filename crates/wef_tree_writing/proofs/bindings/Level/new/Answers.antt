use Rattle.std.proofs.Common.{[], ◌∙◌, ap, sym}
use Rattle.std.specs.BTreeMap.{is_at}
use Rattle.std.specs.Cmp.Lexicographic.{slice_cmp}
use Rattle.std.specs.FinMap as map
use Rattle.std.specs.Map.{lookup}
use Rattle.std.specs.Ordering.{nat_cmp}
use Rattle.wef_xml.specs.Prefixes.{bound_by}
use Rattle.wef_tree_writing.specs.Levels.{bound_to, innermost, innermost_long}
use Rattle.wef_tree_writing.proofs.bindings.Level.new.Goals as goal

pub invariant_of-result : goal.invariant_of-result
invariant_of-result c = (
  λ space. ap (λ m. map.get m space) c.new-2.ensures ∙ map.get-empty _ space ∙ ap (λ bs. innermost (bound_by [] bs) space) (sym c.new.ensures),
  λ digest. ap (λ es. lookup (is_at (slice_cmp nat_cmp digest)) es) c.new-3.ensures.empty ∙ ap (λ bs. innermost_long (bound_by [] bs) digest) (sym c.new.ensures),
  λ prefix. ap (λ m. map.get m prefix) c.new-4.ensures ∙ map.get-empty _ prefix ∙ ap (λ bs. bound_to (bound_by [] bs) prefix) (sym c.new.ensures),
)
