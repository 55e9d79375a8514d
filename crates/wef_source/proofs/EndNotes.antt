-- The notes of sessions that end with their source.
use Rattle.std.proofs.Common.{◌≡◌, ℕ, ◌+◌, List, [], ◌∷◌, ◌++◌, length, refl, ap, sym, ◌∙◌, subst, Some, None, arith, append_assoc, length-append}
use Rattle.std.specs.Prelude.{Option, IfSome, true}
use Rattle.std.specs.List.{All, AllByRecursion}
use Rattle.std.proofs.lemmas.List.Elements.{All-head, All-tail}
use Rattle.wef_building.specs.declared.sessions.Lease.{Lease}
use Rattle.wef_building.specs.declared.sessions.Session.{Session}
use Rattle.wef_eventing.specs.Addresses.{is_address}
use Rattle.wef_source.specs.Machine.{note_of, note_to, notes_of}
use Rattle.wef_source.specs.Serving.{NoteCanBeSent, CanBeServed, CanBeTold}
use Rattle.wef_source.specs.declared.messages.EndNote.{EndNote}

-- ---- the texts of notes can stand in messages

all_appended : (xs ys : List EndNote) → AllByRecursion NoteCanBeSent xs → AllByRecursion NoteCanBeSent ys → AllByRecursion NoteCanBeSent (xs ++ ys)
all_appended [] ys p q = q
all_appended (x ∷ xs) ys p q = (p.0, all_appended xs ys p.1 q)

note_can : (id : ℕ) (lease : Option Lease) → IfSome lease CanBeTold → AllByRecursion NoteCanBeSent (note_of id lease)
note_can id None told = tt
note_can id (Some lease) told = by lease.end_to told.end_to
  where
    by : (o : Option (List ℕ)) → IfSome o (λ (a : List ℕ). is_address a ≡ true) → AllByRecursion NoteCanBeSent (note_to id lease.identifier o)
    by None is = tt
    by (Some a) is = (record { id = (id, refl); end_to = is; identifier = told.identifier; trimmed = told.trimmed }, tt)

pub notes_can : (id : ℕ) (ss : List Session) → All CanBeServed ss → AllByRecursion NoteCanBeSent (notes_of id ss)
notes_can id [] all = tt
notes_can id (s ∷ ss) all =
    all_appended (note_of id s.lease) (notes_of (id + length (note_of id s.lease)) ss)
    (note_can id s.lease (All-head CanBeServed s ss all).lease)
    (notes_can (id + length (note_of id s.lease)) ss (All-tail CanBeServed s ss all))

-- ---- one session after the other

-- notes so far, and those that are left from a number of ids on
abbrev pub with_rest : ℕ → List EndNote → List Session → List EndNote
with_rest first notes ss = notes ++ notes_of (first + length notes) ss

pub next_noted : (first : ℕ) (notes more : List EndNote) (s : Session) (ss : List Session) → more ≡ notes ++ note_of (first + length notes) s.lease → with_rest first more ss ≡ with_rest first notes (s ∷ ss)
next_noted first notes more s ss made =
    let one = note_of (first + length notes) s.lease in
    let further : first + length (notes ++ one) ≡ first + length notes + length one = omega (arith, length-append notes one) in
    ap (λ (m : List EndNote). with_rest first m ss) made
    ∙ ap (λ n. notes ++ one ++ notes_of n ss) further
    ∙ append_assoc notes one (notes_of (first + length notes + length one) ss)
