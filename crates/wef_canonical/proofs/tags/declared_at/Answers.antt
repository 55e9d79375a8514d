use Rattle.std.proofs.Common.{sym, ◌∙◌}
use Rattle.wef_xml.specs.Prefixes.{is_soap}
use Rattle.wef_xml.specs.Spaces.{is_xml_space}
use Rattle.wef_canonical.proofs.BareTags.{one_declared, or_parts}
use Rattle.wef_canonical.proofs.tags.declared_at.Goals as goal

pub returns : goal.returns
returns c =
    let prefix = or_parts (is_xml_space c.in_ok-space.space.now) (is_soap c.in_ok-space.space.now) (sym c.has_prefix.ensures ∙ c.if-has_prefix.false) in
    one_declared c.args.default.now c.args.value.now c.behind_plain-end.result.now c.in_ok-space.space.now c.in_ok-rest.rest.now
    c.behind_plain-end.ensures c.in_ok-space.ensures (sym c.eq.ensures ∙ c.if-eq.false) prefix.0 prefix.1 c.in_ok-rest.ensures
