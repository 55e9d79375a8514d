-- One command more, behind those that are known.
use Rattle.std.proofs.Common.{◌≡◌, Result, subst}
use Rattle.std.specs.Prelude.{IfOk}
use Rattle.clap.specs.Simple.{App, Shape, app_of, with_subcommand}
use Rattle.clap.specs.declared.builder.command.Command.{Command}

pub one_more : {E : Type 0} (known some : App) (shape : Shape) (result : Result Command E) → known ≡ some
    → IfOk result (λ more. app_of more ≡ with_subcommand known shape) → IfOk result (λ more. app_of more ≡ with_subcommand some shape)
one_more known some shape result is more = subst (λ app. IfOk result (λ more. app_of more ≡ with_subcommand app shape)) is more
