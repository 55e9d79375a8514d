-- The steps of a reader: the first fault is the answer.
use Rattle.std.specs.Prelude.{◌≡◌, Bool, true, false, Option, Result, ok_or}
use Rattle.std.specs.declared.result.Result.TheVariants.{Ok, Err}
use Rattle.wef_documents.specs.declared.faults.DocumentFault.{DocumentFault}
use Rattle.wef_documents.specs.declared.faults.DocumentFault.TheVariants.{NoMemory, Tree, BadDocument}

-- what is read goes on where there was no fault
abbrev pub and_then : {A B : Type 0} → Result A DocumentFault → (A → Result B DocumentFault) → Result B DocumentFault
and_then (Ok a) more = more a
and_then (Err fault) more = Err fault

-- what must be there
abbrev pub needed : {A : Type 0} → DocumentFault → Option A → Result A DocumentFault
needed fault o = ok_or o fault

-- what must hold
abbrev pub must : DocumentFault → Bool → Result (Unit {0}) DocumentFault
must fault true = Ok tt
must fault false = Err fault

-- A reader answers what the definition gives, but for want of memory. What reads a tree doesn't tell of a document that is none.
abbrev pub Reads : {A : Type 0} → Result A DocumentFault → Result A DocumentFault → Type 0
Reads (Ok a) given = given ≡ Ok a
Reads (Err NoMemory) given = Unit {0}
Reads (Err (Tree fault)) given = ⊥
Reads (Err (BadDocument part)) given = given ≡ Err (BadDocument part)

-- The same of a call that changes a value in place: what it is now, where it was done.
abbrev pub Takes : {A : Type 0} → Result (Unit {0}) DocumentFault → Result A DocumentFault → A → Type 0
Takes (Ok done) given now = given ≡ Ok now
Takes (Err NoMemory) given now = Unit {0}
Takes (Err (Tree fault)) given now = ⊥
Takes (Err (BadDocument part)) given now = given ≡ Err (BadDocument part)
