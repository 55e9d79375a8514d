-- A text that is sent piece by piece, and one behind another.
use Rattle.std.proofs.Common.{ℕ, ◌+◌, List, ◌++◌, take, drop, length, subst, sym}
use Rattle.std.proofs.KnownBytes.{Appends-trans}
use Rattle.std.proofs.Math.Seq.{take-add, take-append-add}
use Rattle.std.specs.Prelude.{Option}
use Rattle.std.specs.Io.KnownBytes.{Appends}

-- the next piece of a text
pub next_piece : (a b c : Option (List ℕ)) (text : List ℕ) (n m : ℕ) → Appends a b (take n text) → Appends b c (take m (drop n text)) → Appends a c (take (n + m) text)
next_piece a b c text n m first next = subst (Appends a c) (sym (take-add n m text)) (Appends-trans a b c (take n text) (take m (drop n text)) first next)

-- a head and a part of the body are a part of the message
pub part_of_body : (a b c : Option (List ℕ)) (head body : List ℕ) (n : ℕ) → Appends a b head → Appends b c (take n body) → (k : ℕ) × Appends a c (take k (head ++ body))
part_of_body a b c head body n first next =
    (length head + n, subst (Appends a c) (sym (take-append-add head body n)) (Appends-trans a b c head (take n body) first next))
