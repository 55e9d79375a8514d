use Rattle.std.proofs.Common.{[], ◌∷◌, ◌∙◌, ap, codes}
use Rattle.clap.specs.Simple.{App, app_of, with_subcommand}
use Rattle.wef_command_line.proofs.Apps.{one_more}
use Rattle.wef_command_line.proofs.app.with_reports.Goals as goal
use Rattle.wef_command_line.specs.App.{command}

pub returns : goal.returns
returns c =
    let listed = with_subcommand (app_of c.args.app) (command (codes "list") []) in
    let shown = with_subcommand listed (command (codes "show") []) in
    let told = with_subcommand shown (command (codes "status") (codes "NAME" ∷ [])) in
    one_more (app_of c.in_ok-app-3.app) told (command (codes "events") (codes "NAME" ∷ codes "SOURCE" ∷ codes "CHANNEL" ∷ [])) c.with_three.result
    (c.in_ok-app-3.ensures ∙ ap (λ (app : App). with_subcommand app (command (codes "status") (codes "NAME" ∷ [])))
    (c.in_ok-app-2.ensures ∙ ap (λ (app : App). with_subcommand app (command (codes "show") [])) c.in_ok-app.ensures))
    c.with_three.ensures
