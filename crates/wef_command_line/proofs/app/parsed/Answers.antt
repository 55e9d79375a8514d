use Rattle.std.proofs.Common.{◌∙◌, rules}
use Rattle.clap.specs.Simple.{app_of}
use Rattle.clap.specs.Walk.{texts}
use Rattle.wef_command_line.proofs.Found.{parses, refuses}
use Rattle.wef_command_line.proofs.app.parsed.Goals as goal

pub returns-in-Ok : goal.returns-in-Ok
returns-in-Ok c =
    parses (app_of c.in_ok-app.field-0) (texts c.args.words.now) c.in-Ok.found (search rules) c.in-Ok.ensures.matches c.in-Ok.ensures.kinds

pub returns : goal.returns
returns c =
    refuses (app_of c.in_ok-app.field-0) (texts c.args.words.now) c.in-Err.error (search rules)
    (λ memory. c.in_default.not-OutOfMemory (c.kind.ensures ∙ memory)) c.in-Err.ensures.kinds
