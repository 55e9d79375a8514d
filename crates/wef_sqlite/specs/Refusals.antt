-- Which failures of the database are want of memory.
use Rattle.sqlite.specs.declared.error.Error.{Error}
use Rattle.sqlite.specs.declared.error.Error.TheVariants.{SqliteFailure}
use Rattle.sqlite.specs.declared.error.ErrorCode.TheVariants.{OutOfMemory}
use Rattle.wef_sqlite.specs.declared.refusal.Refusal.{Refusal}
use Rattle.wef_sqlite.specs.declared.refusal.Refusal.TheVariants.{NoMemory, Failed}

-- want of memory is told apart, and all else is a failure
abbrev pub refusal_of : Error → Refusal
refusal_of (SqliteFailure OutOfMemory) = NoMemory
refusal_of _ = Failed
