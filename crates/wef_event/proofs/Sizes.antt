-- How many bytes the parts of an event have.
use Rattle.std.proofs.Common.{◌≡◌, ◌<◌, ◌≤◌, ◌+◌, ◌++◌, ◌∙◌, ℕ, Bool, true, false, cond, nat_le, nat_lt, not, List, length, refl, ap, IsUtf8, arith, length-append}
use Rattle.std.specs.Prelude.{Some, None, codes, encode_utf8, is_some}
use Rattle.std.specs.Fmt.{decimal}
use Rattle.std.proofs.lemmas.Bool.Decides.{nat_tests}
use Rattle.wef_event.specs.Characters.{escape, escaped}
use Rattle.wef_event.specs.Lengths.{within}
use Rattle.wef_event.specs.PlainEvent.{plain_text}
use Rattle.wef_event.specs.Unnumbered.{plain_numbered, plain_numbered_text}
use Rattle.wef_event.specs.Events.{Event}
use Rattle.wef_event.specs.declared.unnumbered.PlainEvent.{PlainEvent}
use Rattle.wef_event.proofs.Escaped.{escaped_past}

-- a character in front of a text adds the bytes that it has there
pub escaped_past_char : (text rest : List ℕ) (c : ℕ) → IsUtf8 text → text ≡ encode_utf8 c ++ rest → length (escaped text) ≡ length (escape c) + length (escaped rest)
escaped_past_char text rest c utf8 parts =
    ap length (escaped_past text rest c utf8 parts) ∙ length-append (escape c) (escaped rest)

test_holds : (limit n : ℕ) → n ≤ limit → nat_le n limit ≡ true
test_holds limit n h = grind (arith, nat_tests)

test_fails : (limit n : ℕ) → limit < n → nat_le n limit ≡ false
test_fails limit n h = grind (arith, nat_tests)

pub within_limit : (limit n : ℕ) → n ≤ limit → within limit n ≡ Some n
within_limit limit n h = ap (λ (b : Bool). cond b (Some n) None) (test_holds limit n h)

pub past_limit : (limit n : ℕ) → limit < n → within limit n ≡ None
past_limit limit n h = ap (λ (b : Bool). cond b (Some n) None) (test_fails limit n h)

-- a length within a limit is the length
pub within_is : (limit n m : ℕ) → within limit n ≡ Some m → m ≡ n
within_is limit n m e = by (nat_le n limit) e
  where
    by : (b : Bool) → cond b (Some n) None ≡ Some m → m ≡ n
    by true e = cc
    by false e = cc

-- and without one the limit is passed
pub past_from_none : (limit n : ℕ) → within limit n ≡ None → limit < n
past_from_none limit n e = by (nat_le n limit) refl e
  where
    by : (b : Bool) → nat_le n limit ≡ b → cond b (Some n) None ≡ None → limit < n
    by true test e = cc
    by false test e = grind (arith, nat_tests, test)

joined_length : (a b c d e f i l n h w : List ℕ)
    → length (a ++ i ++ b ++ l ++ c ++ n ++ d ++ h ++ e ++ w ++ f) ≡ (length a + length b + length c + length d + length e + length f) + length i + length l + length n + length h + length w
joined_length a b c d e f i l n h w = simp length-append (omega arith)

-- the bytes of a text: what stands round its parts, and these
pub plain_length : (channel : List ℕ) (number id level : ℕ) (word : List ℕ)
    → length (plain_text channel number id level word) ≡ 214 + length (decimal id) + length (decimal level) + length (decimal number) + length (escaped channel) + length (escaped word)
unfolding plain_text
plain_length channel number id level word =
    joined_length (codes "<Event xmlns=\"http://schemas.microsoft.com/win/2004/08/events/event\"><System><EventID>") (codes "</EventID><Level>")
    (codes "</Level><EventRecordID>") (codes "</EventRecordID><Channel>") (codes "</Channel></System><EventData><Data>") (codes "</Data></EventData></Event>")
    (decimal id) (decimal level) (decimal number) (escaped channel) (escaped word)

not_past : (limit n : ℕ) → not (nat_lt limit n) ≡ nat_le n limit
not_past limit n = grind (arith, nat_tests)

unless_past : (b : Bool) (event : Event) → is_some (cond b None (Some event)) ≡ not b
unless_past true event = refl
unless_past false event = refl

-- an event fits where its text has at most so many bytes
pub fits_by_length : (event : PlainEvent) (number n : ℕ) → length (plain_numbered_text event number) ≡ n → is_some (plain_numbered event number) ≡ nat_le n 1048576
fits_by_length event number n e = unless_past (nat_lt 1048576 (length (plain_numbered_text event number))) _ ∙ not_past 1048576 (length (plain_numbered_text event number)) ∙ ap (λ (m : ℕ). nat_le m 1048576) e

-- a text past the limit doesn't fit
pub past_is_unfit : (event : PlainEvent) (number n : ℕ) → length (plain_numbered_text event number) ≡ n → 1048576 < n → is_some (plain_numbered event number) ≡ false
past_is_unfit event number n e past = fits_by_length event number n e ∙ test_fails 1048576 n past
