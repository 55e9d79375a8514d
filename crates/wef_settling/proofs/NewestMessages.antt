-- The message that a step sent is the newest one.
use Rattle.std.proofs.Common.{◌≡◌, ℕ, suc, ◌-◌, ◌==◌, Bool, false, cond, List, [], ◌∷◌, ◌++◌, length, refl, ap, ◌∙◌, arith, inr}
use Rattle.std.specs.Prelude.{Option, Some, None, slice_get}
use Rattle.wef_building.proofs.Cases.{eq_itself, eq_refused}
use Rattle.wef_machine.specs.States.{State}
use Rattle.wef_machine.specs.declared.messages.Message.{Message}
use Rattle.wef_machine.specs.Turns.{newest}

abbrev unless : Bool → Option Message → Option Message
unless t o = cond t None o

-- the last message, where there is one more than before
abbrev newest_of : List Message → List Message → Option Message
newest_of old new = unless (length new == length old) (unless (length new == 0) (slice_get new (length new - 1)))

length_more : (ms : List Message) (m : Message) → length (ms ++ m ∷ []) ≡ suc (length ms)
length_more [] m = refl
length_more (x ∷ ms) m = ap suc (length_more ms m)

last_is : (ms : List Message) (m : Message) → slice_get (ms ++ m ∷ []) (length ms) ≡ Some m
last_is [] m = refl
last_is (x ∷ ms) m = last_is ms m

one_more : (n : ℕ) → (suc n == n) ≡ false
one_more n = eq_refused (suc n) n (inr (omega arith))

not_none : (n : ℕ) → (suc n == 0) ≡ false
not_none n = eq_refused (suc n) 0 (inr (omega arith))

one_less : (n : ℕ) → suc n - 1 ≡ n
one_less n = omega arith

newest_one : (ms : List Message) (m : Message) → newest_of ms (ms ++ m ∷ []) ≡ Some m
newest_one ms m =
    ap (λ (n : ℕ). unless (n == length ms) (unless (n == 0) (slice_get (ms ++ m ∷ []) (n - 1)))) (length_more ms m)
    ∙ (λ i. unless (one_more (length ms) i) (unless (not_none (length ms) i) (slice_get (ms ++ m ∷ []) (one_less (length ms) i))))
    ∙ last_is ms m

pub newest_none : (before after : State) → after.messages ≡ before.messages → newest before after ≡ None
newest_none before after same =
    ap (newest_of before.messages) same
    ∙ ap (λ (t : Bool). unless t (unless (length before.messages == 0) (slice_get before.messages (length before.messages - 1)))) (eq_itself (length before.messages))

pub newest_some : (before after : State) (m : Message) → after.messages ≡ before.messages ++ m ∷ [] → newest before after ≡ Some m
newest_some before after m more = ap (newest_of before.messages) more ∙ newest_one before.messages m
