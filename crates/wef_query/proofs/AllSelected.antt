-- A Select without a condition, in a group without a Suppress of its channel, selects each event of the channel.
use Rattle.std.proofs.Common.{◌≡◌, ℕ, Bool, true, false, not, ◌&&◌, ◌==◌, List, [], ◌∷◌, refl, ap, sym, ◌∙◌, ⊎_elim, arith}
use Rattle.std.specs.List.{list_any}
use Rattle.std.specs.Prelude.{codes}
use Rattle.std.specs.Cmp.Lexicographic.{bytes_decides}
use Rattle.std.proofs.lemmas.Bool.{and_from, and_parts, or_cases, or_left, or_right}
use Rattle.std.proofs.lemmas.Bool.Decides.{nat_tests}
use Rattle.wef_base.specs.Names.{same}
use Rattle.wef_base.specs.declared.tree.Element.{Element}
use Rattle.wef_query_values.proofs.AnyPath.{any_gives}
use Rattle.wef_query_paths.proofs.AnyPath.{star_is_any}
use Rattle.wef_query_paths.specs.Paths.{path_of}
use Rattle.wef_query.specs.Items.{QueryItem}
use Rattle.wef_query.specs.Laws.{AllAreSelected}
use Rattle.wef_query.specs.Queries.{is_unconditional}
use Rattle.wef_query.specs.Selected.{is_asking_for_all, is_select_of, is_selecting, is_suppress_at, is_suppress_of, item_gives, path_gives, selects_all}
use Rattle.wef_query.proofs.Groups.{selected-by_items}

-- what passes one test in a list passes another that follows from it
some_follows : (p q : QueryItem → Bool) (items : List QueryItem) → ((item : QueryItem) → p item ≡ true → q item ≡ true) → list_any p items ≡ true → list_any q items ≡ true
some_follows p q [] follows e = e
some_follows p q (item ∷ items) follows e =
    ⊎_elim (λ here. or_left (q item) _ (follows item here)) (λ later. or_right (q item) _ (some_follows p q items follows later)) (or_cases (p item) _ e)

none_follows : (p q : QueryItem → Bool) (items : List QueryItem) → ((item : QueryItem) → q item ≡ true → p item ≡ true) → not (list_any p items) ≡ true → not (list_any q items) ≡ true
none_follows p q items follows none = by (list_any q items) refl
  where
    by : (b : Bool) → list_any q items ≡ b → not b ≡ true
    by false e = refl
    by true e = sym (ap not (some_follows q p items follows e)) ∙ none

suppress_stands : (group : ℕ) (channel : List ℕ) (node : Element) (item : QueryItem) → is_suppress_of group channel node item ≡ true → is_suppress_at group channel item ≡ true
suppress_stands group channel node item e =
    let outer = and_parts (item.group == group) _ e in
    let inner = and_parts item.suppress _ outer.1 in
    and_from (item.group == group) _ outer.0 (and_from item.suppress _ inner.0 (and_parts (same item.channel channel) _ inner.1).0)

same_group : (group : ℕ) → (group == group) ≡ true
same_group group = grind (arith, nat_tests)

unconditional_gives : (item : QueryItem) (node : Element) → is_unconditional item ≡ true → item_gives item node ≡ true
unconditional_gives item node e =
    ap (λ path. path_gives path node) (ap path_of ((bytes_decides item.text (codes "*")).0 e) ∙ star_is_any) ∙ any_gives node

selecting : (items : List QueryItem) (channel : List ℕ) (node : Element) (item : QueryItem) → is_asking_for_all items channel item ≡ true → is_selecting items channel node item ≡ true
selecting items channel node item e =
    let outer = and_parts (not item.suppress && (same item.channel channel && is_unconditional item)) _ e in
    let select = and_parts (not item.suppress) _ outer.0 in
    let all = and_parts (same item.channel channel) _ select.1 in
    and_from (is_select_of item.group channel node item) _
    (and_from (item.group == item.group) _ (same_group item.group)
    (and_from (not item.suppress) _ select.0 (and_from (same item.channel channel) _ all.0 (unconditional_gives item node all.1))))
    (none_follows (is_suppress_at item.group channel) (is_suppress_of item.group channel node) items (suppress_stands item.group channel node) outer.1)

pub all_selected : (items : List QueryItem) (channel : List ℕ) → AllAreSelected items channel
unfolding selects_all
all_selected items channel e node =
    sym (selected-by_items items channel node) ∙ some_follows (is_asking_for_all items channel) (is_selecting items channel node) items (selecting items channel node) e
