-- A `BTreeMap` from names to numbers, seen as a bookmark.
use Rattle.std.proofs.Common.{◌≡◌, ℕ, List, cond, ap, sym, ◌∙◌, Some}
use Rattle.std.specs.Prelude.{Option, max, unwrap_or}
use Rattle.std.specs.Ordering.{nat_cmp}
use Rattle.std.specs.Cmp.Lexicographic.{slice_cmp}
use Rattle.std.specs.BTreeMap.{is_at}
use Rattle.std.specs.FinMap.{insert, from_entries}
use Rattle.wef_xml.proofs.Maps.{get_given, given_at, one_given}
use Rattle.wef_bookmark.specs.Order.{raised}

-- entries that differ at one name, where they have the greater of two numbers, make a raised map
pub raised_given : (es fs : List (List ℕ × ℕ)) (s : List ℕ) (to n : ℕ) (old : Option ℕ) → old ≡ given_at es s → n ≡ max (unwrap_or old 0) to
    → ((q : List ℕ) → given_at fs q ≡ cond (is_at (slice_cmp nat_cmp s) q) (Some n) (given_at es q))
    → from_entries {R = slice_cmp nat_cmp} fs ≡ raised (from_entries es) s to
raised_given es fs s to n old is n_is h =
    one_given es fs s n h ∙ ap (insert (from_entries es) s) (n_is ∙ ap (λ o. max (unwrap_or o 0) to) (is ∙ sym (get_given es s)))
