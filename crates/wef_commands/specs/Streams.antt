-- What reading a whole input and writing a whole text do.
use Rattle.std.specs.Prelude.{◌≡◌, ℕ, ◌<◌, ◌≤◌, List, ◌++◌, length, take, Option, Result, IfSome}
use Rattle.std.specs.declared.result.Result.TheVariants.{Ok, Err}
use Rattle.std.specs.Io.KnownBytes.{Appends, IsAtEnd}
use Rattle.wef_base.specs.Counts.{Rose}
use Rattle.wef_commands.specs.declared.streams.InputFault.{InputFault}
use Rattle.wef_commands.specs.declared.streams.InputFault.TheVariants.{NoMemory, Failed, TooLong}

-- the greatest schedule or document, in bytes
abbrev pub input_limit : ℕ
input_limit = 16777216

-- An input that is read whole is at its end, and its bytes, at most the limit, are those that were left.
abbrev pub ReadsWhole : ℕ → Option (List ℕ) → Option (List ℕ) → ℕ → ℕ → Result (List ℕ) InputFault → Type 0
ReadsWhole limit left left' faults faults' (Ok bytes) = IsAtEnd left' × IfSome left (λ all. (all ≡ bytes) × (length all ≤ limit))
ReadsWhole limit left left' faults faults' (Err NoMemory) = Unit {0}
ReadsWhole limit left left' faults faults' (Err Failed) = Rose faults faults'
ReadsWhole limit left left' faults faults' (Err TooLong) = IfSome left (λ all. limit < length all)

-- A text, or a part of it from its beginning, was written behind what was there.
abbrev pub WritesPart : Option (List ℕ) → Option (List ℕ) → List ℕ → Type 0
WritesPart taken taken' text = (k : ℕ) × Appends taken taken' (take k text)

-- Of a text a front part was written, behind what was there, and this is left.
pub record IsWrittenUpTo (taken taken' : Option (List ℕ)) (text left : List ℕ) : Type 0 where
  pub front : List ℕ
  pub written : Appends taken taken' front
  pub whole : front ++ left ≡ text
