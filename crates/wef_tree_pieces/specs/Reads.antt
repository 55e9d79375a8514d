-- What a reader answers, against what a definition gives: what was read and what is left where there is that, a refusal
-- exactly where there is none; want of memory is free.
use Rattle.std.specs.Prelude.{◌≡◌, ℕ, List, Option, Some, None, Result}
use Rattle.std.specs.Borrow.{Bor}
use Rattle.std.specs.declared.result.Result.TheVariants.{Ok, Err}
use Rattle.wef_tree_pieces.specs.declared.faults.Halt.{Halt}
use Rattle.wef_tree_pieces.specs.declared.faults.Halt.TheVariants.{NoMemory, Bad}

-- a reader that gives a value and what is left of the text
abbrev pub Reads : {A : Type 0} → Result (A × Bor (List ℕ)) Halt → Option (A × List ℕ) → Type 0
Reads (Ok read) given = given ≡ Some (read.0, read.1.now)
Reads (Err Bad) given = given ≡ None
Reads (Err NoMemory) given = Unit {0}
