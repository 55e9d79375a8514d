use Rattle.std.proofs.Common.{rules, ◌≡◌, true}
use Rattle.wef_http_heads.specs.Fields.{is_host}
use Rattle.wef_http_heads.proofs.Visible.{host_is_text}
use Rattle.wef_http_heads.proofs.fields.host_of.Goals as goal

pub returns-in_default : goal.returns-in_default
returns-in_default c =
    let host : is_host c.args.value.now ≡ true = search rules in
    absurd (c.in_default.ensures.cases.0 (host_is_text c.args.value.now host))
