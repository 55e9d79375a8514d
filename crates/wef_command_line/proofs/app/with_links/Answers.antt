use Rattle.std.proofs.Common.{[], ◌∷◌, codes}
use Rattle.clap.specs.Simple.{app_of, with_subcommand}
use Rattle.wef_command_line.proofs.Apps.{one_more}
use Rattle.wef_command_line.proofs.app.with_links.Goals as goal
use Rattle.wef_command_line.specs.App.{command}

pub returns : goal.returns
returns c =
    one_more (app_of c.in_ok-app.app) (with_subcommand (app_of c.args.app) (command (codes "request") (codes "ADDRESS" ∷ codes "N" ∷ [])))
    (command (codes "forward") (codes "ADDRESS" ∷ codes "SOURCE" ∷ codes "N" ∷ [])) c.with_three.result c.in_ok-app.ensures c.with_three.ensures
