-- What the rows of a source that has the window of its histories say of them.
use Rattle.std.proofs.Common.{◌≡◌, ℕ, ◌+◌, ◌≤◌, ◌==◌, Bool, true, false, cond, List, length, refl, ap, ◌∙◌, subst, arith}
use Rattle.std.proofs.lemmas.Bool.Decides.{nat_tests}
use Rattle.std.specs.Option.{option_map}
use Rattle.std.specs.Prelude.{Option, Some, None, IfSome, unwrap_or}
use Rattle.wef_keeper.specs.Rows.{Rows, row_of}
use Rattle.wef_keeper.specs.declared.keys.Cell.{Cell}
use Rattle.wef_source_log.specs.Forms.{AreFormed, is_formed}
use Rattle.wef_source_log.specs.Histories.{Histories, history}
use Rattle.wef_source_log.specs.Keys.{last_key}
use Rattle.wef_source_log.specs.LogWindow.{IsWindow, last_of, number_cell}
use Rattle.wef_source_log.proofs.Forming.{number_within}

nothing_within : (n : ℕ) → (n == 0) ≡ true → n ≤ 9223372036854775807
nothing_within n e = grind (arith, nat_tests, e)

nothing_is : (n : ℕ) → (n == 0) ≡ true → 0 ≡ n
nothing_is n e = grind (arith, nat_tests, e)

-- a channel's history has at most as many records as there are numbers
pub history_within : (rows : Rows) (all : Histories) (capacity boot : ℕ) (c : List ℕ) → AreFormed rows → IsWindow rows all capacity boot → length (history all c) ≤ 9223372036854775807
history_within rows all capacity boot c formed window =
    let holds = formed (last_key c) in
    by (length (history all c)) (length (history all c) == 0) refl (subst (λ (o : Option Cell). IfSome o (λ cell. is_formed (row_of (last_key c, cell)) ≡ true)) (window.last_rows c) holds)
  where
    by : (n : ℕ) (none : Bool) → (n == 0) ≡ none → IfSome (cond none None (Some (number_cell n))) (λ cell. is_formed (row_of (last_key c, cell)) ≡ true) → n ≤ 9223372036854775807
    by n true e h = nothing_within n e
    by n false e h = number_within (row_of (last_key c, number_cell n)) h refl

-- the last number of a channel is how many records its history has
pub last_is : (rows : Rows) (all : Histories) (capacity boot : ℕ) (c : List ℕ) → IsWindow rows all capacity boot → last_of rows c ≡ length (history all c)
last_is rows all capacity boot c window =
    ap (λ (o : Option Cell). unwrap_or (option_map (λ (cell : Cell). cell.value) o) 0) (window.last_rows c) ∙ by (length (history all c)) (length (history all c) == 0) refl
  where
    by : (n : ℕ) (none : Bool) → (n == 0) ≡ none → unwrap_or (option_map (λ (cell : Cell). cell.value) (cond none None (Some (number_cell n)))) 0 ≡ n
    by n true e = nothing_is n e
    by n false e = refl

-- the next number of a channel
pub next_fits : (n : ℕ) → n ≤ 9223372036854775807 → n + 1 ≤ 9223372036854775808
next_fits n h = omega arith
