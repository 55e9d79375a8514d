-- What is written for a list of queries is read as it.
use Rattle.std.proofs.Common.{◌≡◌, ℕ, suc, ◌+◌, ◌==◌, Bool, true, false, ◌||◌, cond, List, [], ◌∷◌, ◌++◌, length, map, refl, ap, sym, ◌∙◌, append_assoc, append-nil, arith, subst}
use Rattle.std.specs.Prelude.{codes, Option, Result, is_some}
use Rattle.std.specs.List.{AllByRecursion, flat_map}
use Rattle.std.specs.declared.result.Result.TheVariants.{Ok, Err}
use Rattle.std.proofs.lemmas.Bool.{and_parts}
use Rattle.std.proofs.lemmas.Bool.Decides.{nat_tests}
use Rattle.wef_base.specs.Names.{channel_name, trimmed}
use Rattle.wef_base.specs.declared.tree.Element.{Element}
use Rattle.wef_base.specs.declared.tree.Node.{Node-F}
use Rattle.wef_base.specs.declared.tree.Node.TheVariants.{outs-Chars}
use Rattle.wef_elements.specs.Children.{with_attributes}
use Rattle.wef_elements.specs.Texts.{only_text}
use Rattle.wef_elements.proofs.Again.{elements_again}
use Rattle.wef_query.specs.Laws.{ReadsBack, WrittenIsRead, groups_rise}
use Rattle.wef_query_paths.proofs.Readers.{if_read, read_is_path}
use Rattle.wef_query_paths.specs.Stops.{path_or_fault}
use Rattle.wef_query_paths.specs.declared.faults.PathFault.{PathFault}
use Rattle.wef_query_paths.specs.declared.path.Path.{Path}
use Rattle.wef_query.specs.Reading.{channel_of, characters_of, item_of, items_from, items_in, queries_from, query_in, some_items, then_on, with_channel, with_path, with_query}
use Rattle.wef_query.specs.Writing.{group_element, groups_from, groups_of, item_element, item_name, plain}
use Rattle.wef_query.specs.Items.{QueryItem}
use Rattle.wef_query.specs.declared.QueryList.{QueryList}
use Rattle.wef_query.specs.declared.reading.QueryFault.{QueryFault}

-- an item of a group that reads back
record IsOf (group : ℕ) (item : QueryItem) : Type 0 where
  same : item.group ≡ group
  back : ReadsBack item

-- ---- an item

-- the characters of a text that is the only child
characters_again : (text : List ℕ) → flat_map characters_of (only_text text) ≡ text
characters_again [] = refl
characters_again (c ∷ cs) =
    let more : (suc (length cs) == 0) ≡ false = grind (arith, nat_tests) in
    rw more (ap (λ o. elim o [ Node-F.Element e ↦ [] | Node-F.Chars text ↦ text ] ++ []) (outs-Chars (c ∷ cs)) ∙ append-nil (c ∷ cs))

-- an element of an item is one by its name
as_item : (before group : ℕ) (around : Option (List ℕ)) (suppress : Bool) (channel text : List ℕ) →
    item_of before group around (with_attributes [] (item_name suppress) (plain (codes "Path") channel ∷ []) text)
    ≡ with_channel before group suppress (channel_name channel) (trimmed (flat_map characters_of (only_text text)))
as_item before group around true channel text = refl
as_item before group around false channel text = refl

-- what a path was found for
path_again : (before group : ℕ) (suppress : Bool) (channel text : List ℕ) (read : Result Path PathFault) → is_some (if_read read) ≡ true
    → with_path before group suppress channel text read ≡ Ok (record { group = group; suppress = suppress; channel = channel; text = text })
path_again before group suppress channel text (Ok path) found = refl
path_again before group suppress channel text (Err fault) found = let bad : ⊥ = cc in absurd bad

item_again : (before group : ℕ) (around : Option (List ℕ)) (item : QueryItem) → IsOf group item → item_of before group around (item_element item) ≡ Ok item
item_again before group around item of =
    as_item before group around item.suppress item.channel item.text
    ∙ (λ i. with_channel before group item.suppress (of.back.channel i) (trimmed (characters_again item.text i)))
    ∙ ap (λ text. with_path before group item.suppress item.channel text (path_or_fault text)) of.back.text
    ∙ path_again before group item.suppress item.channel item.text (path_or_fault item.text) (ap is_some (read_is_path item.text) ∙ of.back.path)
    ∙ (λ i. Ok (record { group = sym of.same i; suppress = item.suppress; channel = item.channel; text = item.text }))

items_again : (group : ℕ) (around : Option (List ℕ)) (done items : List QueryItem) → AllByRecursion (IsOf group) items → items_from group around done (map item_element items) ≡ Ok (done ++ items)
items_again group around done [] of = ap Ok (sym (append-nil done))
items_again group around done (item ∷ items) of =
    ap (λ o. then_on (then_on o (λ x. Ok (done ++ x ∷ []))) (λ more. items_from group around more (map item_element items))) (item_again (length done) group around item of.0)
    ∙ items_again group around (done ++ item ∷ []) items of.1
    ∙ ap Ok (append_assoc done (item ∷ []) items)

-- ---- groups

group_again : (group : ℕ) (done : List QueryItem) (item : QueryItem) (items : List QueryItem) → AllByRecursion (IsOf group) (item ∷ items)
    → with_query group done (group_element group (map item_element (item ∷ items))) ≡ Ok (done ++ item ∷ items)
group_again group done item items of =
    let es = map item_element (item ∷ items) in
    ap (some_items group (channel_of (group_element group es)) done) (elements_again es) ∙ items_again group (channel_of (group_element group es)) done (item ∷ items) of

with_last : (group : ℕ) (items : List QueryItem) (item : QueryItem) → AllByRecursion (IsOf group) items → IsOf group item → AllByRecursion (IsOf group) (items ++ item ∷ [])
with_last group [] item of last = (last, tt)
with_last group (x ∷ items) item of last = (of.0, with_last group items item of.1 last)

elements-last : (items : List QueryItem) (item : QueryItem) → map item_element items ++ item_element item ∷ [] ≡ map item_element (items ++ item ∷ [])
elements-last [] item = refl
elements-last (x ∷ items) item = ap (λ es. item_element x ∷ es) (elements-last items item)

one_number : (a b : ℕ) → (a == b) ≡ true → a ≡ b
one_number a b e = grind (arith, nat_tests, e)

-- a group that isn't this one is the next
is_next : (group next : ℕ) → (next == group) ≡ false → (next == group || next == group + 1) ≡ true → next ≡ group + 1
is_next group next other rises = one_number next (group + 1) (sym (ap (λ b. b || next == group + 1) other) ∙ rises)

groups_again :
    (group : ℕ) (done : List QueryItem) (first : QueryItem) (more items : List QueryItem) → AllByRecursion (IsOf group) (first ∷ more) → groups_rise group items ≡ true →
    AllByRecursion ReadsBack items → queries_from group done (groups_from group (map item_element (first ∷ more)) items) ≡ Ok ((done ++ first ∷ more) ++ items)
groups_again group done first more [] of rise back =
    ap (λ o. then_on o (λ xs. Ok xs)) (group_again group done first more of) ∙ ap Ok (sym (append-nil (done ++ first ∷ more)))
groups_again group done first more (item ∷ items) of rise back =
    let parts = and_parts (item.group == group || item.group == group + 1) (groups_rise item.group items) rise in
    by (item.group == group) refl
    (λ (p : item.group ≡ group).
    groups_again group done first (more ++ item ∷ []) items (with_last group (first ∷ more) item of (record { same = p; back = back.0 }))
    (subst (λ (g : ℕ). groups_rise g items ≡ true) p parts.1) back.1)
    (λ (p : item.group ≡ group + 1). groups_again item.group (done ++ first ∷ more) item [] items (record { same = refl; back = back.0 }, tt) parts.1 back.1)
    parts.0
  where
    es : List Element
    es = map item_element (first ∷ more)

    behind : List Element
    behind = groups_from item.group (item_element item ∷ []) items

    by : (b : Bool) → (item.group == group) ≡ b
        → (item.group ≡ group → queries_from group done (groups_from group (map item_element (first ∷ (more ++ item ∷ []))) items) ≡ Ok ((done ++ first ∷ (more ++ item ∷ [])) ++ items))
        → (item.group ≡ group + 1 → queries_from item.group (done ++ first ∷ more) behind ≡ Ok (((done ++ first ∷ more) ++ item ∷ []) ++ items))
        → (item.group == group || item.group == group + 1) ≡ true
        → queries_from group done (cond b (groups_from group (es ++ item_element item ∷ []) items) (group_element group es ∷ behind)) ≡ Ok ((done ++ first ∷ more) ++ item ∷ items)
    by true e same other rises =
        ap (λ xs. queries_from group done (groups_from group xs items)) (elements-last (first ∷ more) item)
        ∙ same (one_number item.group group e)
        ∙ ap (λ xs. Ok (xs ++ items)) (sym (append_assoc done (first ∷ more) (item ∷ [])))
        ∙ ap Ok (append_assoc (done ++ first ∷ more) (item ∷ []) items)
    by false e same other rises =
        let next = is_next group item.group e rises in
        ap (λ o. then_on o (λ xs. queries_from (group + 1) xs behind)) (group_again group done first more of)
        ∙ ap (λ (g : ℕ). queries_from g (done ++ first ∷ more) behind) (sym next)
        ∙ other next
        ∙ ap Ok (append_assoc (done ++ first ∷ more) (item ∷ []) items)

-- ---- lists

some_groups : (group : ℕ) (es : List Element) (items : List QueryItem) → items_in (groups_from group es items) ≡ queries_from 0 [] (groups_from group es items)
some_groups group es [] = refl
some_groups group es (item ∷ items) = by (item.group == group) (some_groups group (es ++ item_element item ∷ []) items)
  where
    behind : List Element
    behind = group_element group es ∷ groups_from item.group (item_element item ∷ []) items

    by : (b : Bool) → items_in (groups_from group (es ++ item_element item ∷ []) items) ≡ queries_from 0 [] (groups_from group (es ++ item_element item ∷ []) items)
        → items_in (cond b (groups_from group (es ++ item_element item ∷ []) items) behind) ≡ queries_from 0 [] (cond b (groups_from group (es ++ item_element item ∷ []) items) behind)
    by true rest = rest
    by false rest = refl

abbrev as_list : Result (List QueryItem) QueryFault → Result QueryList QueryFault
as_list given = then_on given (λ items. Ok (record { items = items }))

pub written_is_read : WrittenIsRead
unfolding query_in
written_is_read [] fits = let bad : ⊥ = cc in absurd bad
written_is_read (item ∷ items) fits =
    let parts = and_parts (item.group == 0) (groups_rise 0 items) fits.grouped in
    let first : item.group ≡ 0 = one_number item.group 0 parts.0 in
    let groups = groups_of (item ∷ items) in
    ap (λ es. as_list (items_in es)) (elements_again groups)
    ∙ ap as_list
    (some_groups item.group (item_element item ∷ []) items
    ∙ ap (λ (g : ℕ). queries_from g [] groups) (sym first)
    ∙ groups_again item.group [] item [] items (record { same = refl; back = fits.each.0 }, tt) (subst (λ (g : ℕ). groups_rise g items ≡ true) (sym first) parts.1) fits.each.1)
