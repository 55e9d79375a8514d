-- Writing piece by piece.
use Rattle.std.proofs.Common.{ℕ, ◌+◌, List, [], ◌++◌, take, drop, subst, sym, ap, ◌∙◌, refl, append_assoc, append-nil, length, take-append-drop}
use Rattle.std.proofs.Math.Seq.{take-add, take-append_seam}
use Rattle.std.specs.Prelude.{Option, None, Some}
use Rattle.std.specs.Io.KnownBytes.{Appends}
use Rattle.wef_commands.specs.Streams.{IsWrittenUpTo, WritesPart}

-- nothing was written
pub nothing : (a : Option (List ℕ)) → Appends a a []
nothing None = tt
nothing (Some x) = sym (append-nil x)

-- one piece behind another
pub both : (a b c : Option (List ℕ)) (xs ys : List ℕ) → Appends a b xs → Appends b c ys → Appends a c (xs ++ ys)
both None b c xs ys first next = tt
both (Some x) None c xs ys first next = absurd first
both (Some x) (Some y) None xs ys first next = absurd next
both (Some x) (Some y) (Some z) xs ys first next = next ∙ ap (λ (w : List ℕ). w ++ ys) first ∙ append_assoc x xs ys

-- the next piece of a text behind those that were written
pub next_piece : (a b c : Option (List ℕ)) (text : List ℕ) (n m : ℕ) → Appends a b (take n text) → Appends b c (take m (drop n text)) → Appends a c (take (n + m) text)
next_piece a b c text n m first next = subst (Appends a c) (sym (take-add n m text)) (both a b c (take n text) (take m (drop n text)) first next)

-- ---- a text of which a front part was written

-- nothing yet
pub unwritten : (a : Option (List ℕ)) (text : List ℕ) → IsWrittenUpTo a a text text
unwritten a text = record { front = []; written = nothing a; whole = refl }

-- of what was left a part more
pub further : (a b c : Option (List ℕ)) (text waiting left rest : List ℕ) → IsWrittenUpTo a b text (waiting ++ rest) → IsWrittenUpTo b c waiting left → IsWrittenUpTo a c text (left ++ rest)
further a b c text waiting left rest first next = record {
  front = first.front ++ next.front;
  written = both a b c first.front next.front first.written next.written;
  whole =
      append_assoc first.front next.front (left ++ rest) ∙ ap (λ (xs : List ℕ). first.front ++ xs) (sym (append_assoc next.front left rest))
      ∙ ap (λ (xs : List ℕ). first.front ++ (xs ++ rest)) next.whole ∙ first.whole;
}

pub part : (a b : Option (List ℕ)) (text left : List ℕ) → IsWrittenUpTo a b text left → WritesPart a b text
part a b text left h = (length h.front, subst (Appends a b) (sym (ap (take (length h.front)) (sym h.whole) ∙ take-append_seam h.front left)) h.written)

pub part_further : (a b c : Option (List ℕ)) (text waiting rest : List ℕ) → IsWrittenUpTo a b text (waiting ++ rest) → WritesPart b c waiting → WritesPart a c text
part_further a b c text waiting rest first (k, next) =
    part a c text (drop k waiting ++ rest) (further a b c text waiting (drop k waiting) rest first (record { front = take k waiting; written = next; whole = take-append-drop k waiting }))

-- all that was left
pub all_written : (a b c : Option (List ℕ)) (text waiting : List ℕ) → IsWrittenUpTo a b text (waiting ++ []) → Appends b c waiting → Appends a c text
all_written a b c text waiting first next =
    subst (Appends a c) (ap (λ (xs : List ℕ). first.front ++ xs) (sym (append-nil waiting)) ∙ first.whole) (both a b c first.front waiting first.written next)

-- all of a text is a front part of it
pub whole_is_part : (a b : Option (List ℕ)) (text : List ℕ) → Appends a b text → WritesPart a b text
whole_is_part a b text h = part a b text [] (record { front = text; written = h; whole = append-nil text })
