-- What each event keeps: its number is at most that of a record, and with one it is the event that its text says.
use Rattle.std.proofs.Common.{◌≡◌, ℕ, ◌≤◌, true, false, nat_lt, nat_le, cond, sym, ◌∙◌, subst, arith, inl, inr, refl}
use Rattle.std.proofs.lemmas.Bool.Decides.{nat_tests}
use Rattle.std.specs.Option.{option_and_then}
use Rattle.std.specs.Prelude.{Option, Some, None, Bool, List, codes, ◌⊎◌}
use Rattle.wef_base.specs.Names.{trimmed}
use Rattle.wef_base.specs.Numbers.{is_numeral, number_within, value_from}
use Rattle.wef_base.specs.declared.numbers.TheConstants.{MAX}
use Rattle.wef_base.specs.declared.tree.Element.{Element}
use Rattle.wef_event.specs.Events.{Event, HasTree, is_event}
use Rattle.wef_elements.specs.Texts.{text_inside}
use Rattle.wef_event.specs.Paths.{field_in, number_in, number_of_digits, unless_zero}
use Rattle.wef_event.proofs.Made.{is_read, made}

le_holds : (m n : ℕ) → nat_le m n ≡ true → m ≤ n
le_holds m n e = grind (arith, nat_tests, e)

lt_holds : (n : ℕ) → 1 ≤ n → nat_lt 0 n ≡ true
lt_holds n e = grind (arith, nat_tests, e)

-- a number that was read is at most the greatest
within_limit : (value n : ℕ) → option_and_then unless_zero (cond (nat_le value MAX) (Some value) None) ≡ Some n → n ≤ MAX
within_limit value n is = by (nat_le value MAX) refl is
  where
    not_zero : (b : Bool) → nat_le value MAX ≡ true → cond b (Some value) None ≡ Some n → n ≤ MAX
    not_zero true le e = let same : value ≡ n = cc in subst (λ x. x ≤ MAX) same (le_holds value MAX le)
    not_zero false le e = cc

    by : (b : Bool) → nat_le value MAX ≡ b → option_and_then unless_zero (cond b (Some value) None) ≡ Some n → n ≤ MAX
    by true le e = not_zero (nat_lt 0 value) le e
    by false le e = cc

digits_within : (digits : List ℕ) (n : ℕ) → number_of_digits digits ≡ Some n → n ≤ MAX
digits_within digits n is = by (is_numeral digits) is
  where
    by : (b : Bool) → cond b (option_and_then unless_zero (number_within MAX digits)) None ≡ Some n → n ≤ MAX
    by true e = within_limit (value_from 0 digits) n e
    by false e = cc

number_within_max : (node : Element) (n : ℕ) → number_in node ≡ Some n → n ≤ MAX
unfolding number_in
number_within_max node n is = by (field_in (codes "EventRecordID") node) is
  where
    by : (field : Option Element) → option_and_then (λ field. number_of_digits (trimmed (text_inside field))) field ≡ Some n → n ≤ MAX
    by None e = cc
    by (Some field) e = digits_within (trimmed (text_inside field)) n e

-- the number of an event is at most the greatest
pub kept_number : (event : Event) → HasTree event → event.number ≤ MAX
kept_number event tree = by (made event tree.0 tree.1.event_is).number
  where
    by : (number_in tree.0 ≡ Some event.number) ⊎ ((number_in tree.0 ≡ None) × (event.number ≡ 0)) → event.number ≤ MAX
    by (inl is) = number_within_max tree.0 event.number is
    by (inr none) = subst (λ n. n ≤ MAX) (sym none.1) (omega arith)

-- with a number it is the one that its text says
pub kept_is_read : (event : Event) → HasTree event → 1 ≤ event.number → is_event event ≡ true
kept_is_read event tree some = sym (is_read event tree.0 tree.1) ∙ lt_holds event.number some
