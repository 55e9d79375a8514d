-- A group of which a Select of a channel gives a node, and no Suppress does, is the group of such a Select.
use Rattle.std.proofs.Common.{◌≡◌, ℕ, true, false, not, ◌&&◌, ◌==◌, List, [], ◌∷◌, sym, subst, ⊎_elim}
use Rattle.std.specs.List.{list_any}
use Rattle.std.proofs.lemmas.Bool.{and_parts, and_from, or_cases, or_left, or_right, eqb-true}
use Rattle.std.proofs.lemmas.Bool.Decides.{same_from_decides}
use Rattle.wef_base.specs.declared.tree.Element.{Element}
use Rattle.wef_query.specs.Selected.{is_select_of, is_suppressed, is_asked_for, is_selected_by, is_selected, is_selecting}
use Rattle.wef_query.specs.Items.{QueryItem}

false_true : {A : Type 0} → false ≡ true → A
false_true e = cc

-- where a Select of a group among some items gives a node, and no Suppress of all does, one among them is selecting
select_from_group : (all items : List QueryItem) (channel : List ℕ) (node : Element) (group : ℕ) → is_asked_for items group channel node ≡ true → not (is_suppressed all group channel node) ≡ true → list_any (is_selecting all channel node) items ≡ true
select_from_group all [] channel node group asked free = asked
select_from_group all (item ∷ items) channel node group asked free =
    ⊎_elim
    (λ (here : is_select_of group channel node item ≡ true).
    let same_group : item.group ≡ group = eqb-true item.group group (and_parts (item.group == group) _ here).0 in
    or_left (is_selecting all channel node item) _
    (subst (λ (g : ℕ). (is_select_of g channel node item && not (is_suppressed all g channel node)) ≡ true) (sym same_group)
    (and_from (is_select_of group channel node item) _ here free)))
    (λ (later : is_asked_for items group channel node ≡ true). or_right (is_selecting all channel node item) _ (select_from_group all items channel node group later free))
    (or_cases (is_select_of group channel node item) (is_asked_for items group channel node) asked)

from_groups : (all items : List QueryItem) (channel : List ℕ) (node : Element) → list_any (λ (item : QueryItem). is_selected_by all channel node item.group) items ≡ true → list_any (is_selecting all channel node) all ≡ true
from_groups all [] channel node some = false_true some
from_groups all (item ∷ items) channel node some =
    ⊎_elim
    (λ (here : is_selected_by all channel node item.group ≡ true).
    let parts = and_parts (is_asked_for all item.group channel node) (not (is_suppressed all item.group channel node)) here in
    select_from_group all all channel node item.group parts.0 parts.1)
    (λ (later : list_any (λ (other : QueryItem). is_selected_by all channel node other.group) items ≡ true). from_groups all items channel node later)
    (or_cases (is_selected_by all channel node item.group) _ some)

to_groups : (all items : List QueryItem) (channel : List ℕ) (node : Element) → ((group : ℕ) → is_asked_for items group channel node ≡ true → is_asked_for all group channel node ≡ true)
    → list_any (is_selecting all channel node) items ≡ true → list_any (λ (item : QueryItem). is_selected_by all channel node item.group) items ≡ true
to_groups all [] channel node among some = some
to_groups all (item ∷ items) channel node among some =
    ⊎_elim
    (λ (here : is_selecting all channel node item ≡ true).
    let parts = and_parts (is_select_of item.group channel node item) (not (is_suppressed all item.group channel node)) here in
    or_left (is_selected_by all channel node item.group) _
    (and_from (is_asked_for all item.group channel node) _ (among item.group (or_left (is_select_of item.group channel node item) _ parts.0)) parts.1))
    (λ (later : list_any (is_selecting all channel node) items ≡ true).
    or_right (is_selected_by all channel node item.group) _
    (to_groups all items channel node (λ group asked. among group (or_right (is_select_of group channel node item) _ asked)) later))
    (or_cases (is_selecting all channel node item) _ some)

-- a list selects an event exactly where one of its items is selecting
pub selected-by_items : (items : List QueryItem) (channel : List ℕ) (node : Element) → list_any (is_selecting items channel node) items ≡ is_selected items channel node
unfolding is_selected
selected-by_items items channel node =
    same_from_decides {P = is_selected items channel node ≡ true} (list_any (is_selecting items channel node) items) (is_selected items channel node)
    (to_groups items items channel node (λ group asked. asked), from_groups items items channel node)
    ((λ h. h), (λ h. h))
