use Rattle.std.proofs.Common.{refl}
use Rattle.wef_canonical.proofs.BareTags.{start_ends}
use Rattle.wef_canonical.proofs.tags.start_at.Goals as goal

pub returns : goal.returns
returns c =
    start_ends c.args.default.now c.args.text.now c.in_ok-tag.tag (record { name = c.in_ok-tag.tag.name; space = c.in_ok-tag.tag.space; rest = c.in_ok-rest.rest })
    c.in_ok-tag.ensures c.in_ok-rest.ensures refl refl
