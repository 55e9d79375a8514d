-- The first number whose prefix isn't taken, found by counting up.
use Rattle.std.proofs.Common.{◌≡◌, ℕ, suc, ◌+◌, ◌-◌, ◌<◌, Bool, true, List, ◌∙◌, sym, ap, arith}
use Rattle.std.specs.Prelude.{if◌then◌else◌}
use Rattle.std.specs.List.{list_any}
use Rattle.wef_base.specs.Names.{same}
use Rattle.wef_xml.specs.Prefixes.{next_free, numbered_prefix}

pub next_turn :
    (taken : List (List ℕ)) (all turn number found : ℕ) → turn < all → list_any (same (numbered_prefix number)) taken ≡ true →
    next_free (all - turn) taken number ≡ found → next_free (all - (turn + 1)) taken (number + 1) ≡ found
next_turn taken all turn number found within is_taken held =
    let one_less : all - turn ≡ suc (all - (turn + 1)) = omega arith in
    let next : number + 1 ≡ suc number = omega arith in
    ap (λ n. next_free (all - (turn + 1)) taken n) next
    ∙ sym (ap (λ (b : Bool). if b then next_free (all - (turn + 1)) taken (suc number) else number) is_taken)
    ∙ sym (ap (λ n. next_free n taken number) one_less) ∙ held
