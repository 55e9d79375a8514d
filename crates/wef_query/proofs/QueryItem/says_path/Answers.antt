use Rattle.std.proofs.Common.{ap, sym, ◌∙◌}
use Rattle.wef_query.proofs.SaidPaths.{says}
use Rattle.wef_query.specs.Items.{QueryItem, says_path}
use Rattle.wef_query.proofs.QueryItem.says_path.Goals as goal

pub returns : goal.returns
returns c =
    sym (ap (λ (q : QueryItem). says_path q.text) (sym c.self.view_is) ∙ says c.self.inside.text c.self.inside.path c.self.invariant.0 c.self.invariant.1)
