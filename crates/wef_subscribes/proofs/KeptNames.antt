-- Names that stand in a bookmark's entries are those that are found in it.
use Rattle.std.proofs.Common.{◌≡◌, ℕ, Bool, true, false, cond, List, [], ◌∷◌, refl, sym, subst, ◌∙◌}
use Rattle.std.specs.Prelude.{Some}
use Rattle.std.specs.FinMap.{entries, find, get-entries}
use Rattle.std.specs.List.{AllByRecursion}
use Rattle.std.specs.Ordering.{eq_by_cmp}
use Rattle.std.specs.Str.{IsUtf8}
use Rattle.std.proofs.lemmas.Str.{is_utf8-from_IsUtf8}
use Rattle.wef_bookmark.specs.Nodes.{AreTexts}
use Rattle.wef_bookmark.specs.Order.{Marks}
use Rattle.wef_bookmark.proofs.Joining.{one_name, order}
use Rattle.wef_subscribes.specs.Laws.{IsTextEntry}

found_text : (es : List (List ℕ × ℕ)) → AllByRecursion IsTextEntry es → (c : List ℕ) (n : ℕ) → find order c es ≡ Some n → IsUtf8 c
found_text [] texts c n is = let bad : ⊥ = cc in absurd bad
found_text (e ∷ es) texts c n is = by (eq_by_cmp order c e.0) refl is (λ behind. found_text es texts.1 c n behind)
  where
    by : (t : Bool) → eq_by_cmp order c e.0 ≡ t → cond t (Some e.1) (find order c es) ≡ Some n → (find order c es ≡ Some n → IsUtf8 c) → IsUtf8 c
    by true tied one rest = subst (λ x. IsUtf8 x) (sym (one_name c e.0 tied)) texts.0
    by false tied other rest = rest other

pub found_texts : (b : Marks) → AllByRecursion IsTextEntry (entries b) → AreTexts b
found_texts b texts c n is = is_utf8-from_IsUtf8 c (found_text (entries b) texts c n (sym (get-entries b c) ∙ is))
