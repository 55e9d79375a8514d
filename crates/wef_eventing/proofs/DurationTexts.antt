-- XML allows the text of a duration.
use Rattle.std.proofs.Common.{◌≡◌, ℕ, ◌+◌, ◌<◌, ◌/◌, ◌%◌, true, List, [], ◌∷◌, ◌++◌, refl, ◌∙◌, arith}
use Rattle.std.specs.Prelude.{codes}
use Rattle.std.specs.Fmt.{decimal}
use Rattle.std.specs.List.{list_all}
use Rattle.std.proofs.lemmas.Bool.{and_from, and_parts}
use Rattle.std.proofs.lemmas.Bool.Decides.{nat_tests}
use Rattle.std.proofs.lemmas.List.Folds.{list_all-append}
use Rattle.wef_base.specs.Numbers.{is_digit}
use Rattle.wef_elements.proofs.DecimalDigits.{decimal_digits}
use Rattle.wef_eventing.specs.Addresses.{is_printed}
use Rattle.wef_eventing.proofs.AddressTexts.{printed_text}
use Rattle.wef_times.specs.Durations.{duration_text, three_digits}
use Rattle.wef_xml.specs.Good.{IsXmlText}

digit_printed : (c : ℕ) → is_digit c ≡ true → is_printed c ≡ true
digit_printed c e = grind (arith, nat_tests)

digits_printed : (cs : List ℕ) → list_all is_digit cs ≡ true → list_all is_printed cs ≡ true
digits_printed [] e = refl
digits_printed (c ∷ cs) e =
    let parts = and_parts (is_digit c) (list_all is_digit cs) e in
    and_from (is_printed c) (list_all is_printed cs) (digit_printed c parts.0) (digits_printed cs parts.1)

one_printed : (d : ℕ) → d < 10 → is_printed (48 + d) ≡ true
one_printed d less = grind (arith, nat_tests)

three_printed : (n : ℕ) → n < 1000 → list_all is_printed (three_digits n) ≡ true
three_printed n less =
    and_from _ _ (one_printed (n / 100) (omega arith)) (and_from _ _ (one_printed (n / 10 % 10) (omega arith)) (and_from _ _ (one_printed (n % 10) (omega arith)) refl))

joined : (cs ds : List ℕ) → list_all is_printed cs ≡ true → list_all is_printed ds ≡ true → list_all is_printed (cs ++ ds) ≡ true
joined cs ds one other = list_all-append is_printed cs ds ∙ and_from _ _ one other

thousandths : (ms : ℕ) → ms % 1000 < 1000
thousandths ms = omega arith

pub duration_good : (ms : ℕ) → IsXmlText (duration_text ms)
unfolding duration_text
duration_good ms =
    let seconds = decimal (ms / 1000) in
    let decimals = three_digits (ms % 1000) in
    let front = codes "PT" ++ seconds ++ codes "." in
    (
    printed_text (duration_text ms)
    (joined (front ++ decimals) (codes "S")
    (joined front decimals
    (joined (codes "PT" ++ seconds) (codes ".") (joined (codes "PT") seconds refl (digits_printed seconds (decimal_digits (ms / 1000)))) refl)
    (three_printed (ms % 1000) (thousandths ms)))
    refl)
    ).1
