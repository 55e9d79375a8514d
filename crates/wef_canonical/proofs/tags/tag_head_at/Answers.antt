use Rattle.wef_canonical.proofs.BareTags.{open_begins}
use Rattle.wef_canonical.proofs.tags.tag_head_at.Goals as goal

pub returns : goal.returns
returns c =
    open_begins c.args.default.now c.args.text.now c.in_ok-named.named.now c.in_ok-behind_name.behind_name.now c.in_ok-space.given.now
    (record { name = c.in_ok-name.name; space = c.in_ok-space.space; rest = c.in_ok-rest.rest })
    c.in_ok-named.ensures c.in_ok-behind_name.ensures c.in_ok-name.ensures c.in_ok-space.ensures c.in_ok-rest.ensures
