-- The first value of an argument, by its row.
use Rattle.std.proofs.Common.{◌≡◌, ℕ, List}
use Rattle.clap.proofs.WalkLemmas.{first_value-rows}
use Rattle.clap.specs.Matches.{first_value}
use Rattle.clap.specs.Walk.{first_of, rows_of}
use Rattle.clap.specs.declared.parser.matches.Found.{Found}

pub first_is : (f : Found) (id : List ℕ) → first_value f id ≡ first_of id (rows_of f)
first_is f id = first_value-rows f id
