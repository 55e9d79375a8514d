use Rattle.std.proofs.Common.{[], ◌∷◌, ◌∙◌, ap, codes}
use Rattle.clap.specs.Simple.{App, app_of, with_subcommand}
use Rattle.wef_command_line.proofs.Apps.{one_more}
use Rattle.wef_command_line.proofs.app.with_schedules.Goals as goal
use Rattle.wef_command_line.specs.App.{command}

pub returns : goal.returns
returns c =
    let replayed = with_subcommand (app_of c.args.app) (command (codes "replay") []) in
    let checked = with_subcommand replayed (command (codes "check") []) in
    one_more (app_of c.in_ok-app-2.app) checked (command (codes "made") (codes "SEED" ∷ codes "SIZE" ∷ [])) c.with_two.result
    (c.in_ok-app-2.ensures ∙ ap (λ (app : App). with_subcommand app (command (codes "check") [])) c.in_ok-app.ensures)
    c.with_two.ensures
