-- What is written for a bookmark is read as it.
use Rattle.std.proofs.Common.{◌≡◌, ℕ, true, ◌&&◌, cond, List, [], ◌∷◌, map, refl, ap, ◌∙◌}
use Rattle.std.specs.Prelude.{Some, None, codes}
use Rattle.std.specs.Cmp.Lexicographic.{nat_list_eq_equiv}
use Rattle.std.specs.FinMap.{empty, entries}
use Rattle.std.specs.List.{AllByRecursion, filter}
use Rattle.std.specs.Option.{option_and_then}
use Rattle.std.specs.Str.{chars}
use Rattle.std.proofs.Math.Utf8.{encode}
use Rattle.wef_base.specs.Names.{same, trimmed}
use Rattle.wef_base.specs.declared.tree.Element.{Element}
use Rattle.wef_base.specs.declared.tree.Node.{Node-F}
use Rattle.wef_base.specs.declared.tree.Node.TheVariants.{Element as Child, outs-Element}
use Rattle.wef_elements.specs.Children.{as_nodes, with_elements, with_text}
use Rattle.wef_elements.specs.Spaces.{management}
use Rattle.wef_elements.proofs.Again.{elements_again, none_inside, said_again, wordless}
use Rattle.wef_elements.proofs.DigitsRead.{digits_say}
use Rattle.wef_bookmark.specs.Entries.{IsEntry}
use Rattle.wef_bookmark.specs.Nodes.{WrittenIsRead, bookmark_in, by_lists, earliest, entry_element, header_of, in_header, in_list, is_list, list_element, of_text, raised_entry, raised_node, raised_nodes, raised_where}
use Rattle.wef_bookmark.specs.Order.{Marks, raised, raised_by}
use Rattle.wef_bookmark.proofs.EachEntry.{each_entry}
use Rattle.wef_bookmark.proofs.Joining.{joined_empty}

-- an entry's name reads back as itself, and its number is that of a record at most
abbrev IsGiven : (List ℕ × ℕ) → Type 0
IsGiven e = IsEntry e.0 e.1

-- ---- lists

-- the element of an entry raises a bookmark as the entry does
entry_again : (b : Marks) (e : List ℕ × ℕ) → IsGiven e → raised_node b (Child (entry_element e)) ≡ Some (raised b e.0 e.1)
entry_again b e given =
    ap (λ o. elim o [ Node-F.Element x ↦ raised_entry b x | Node-F.Chars text ↦ Some b ]) (outs-Element (entry_element e))
    ∙ (λ i. raised_where b (given.0 i) (digits_say e.1 given.1 i))

entries_again : (b : Marks) (es : List (List ℕ × ℕ)) → AllByRecursion IsGiven es → raised_nodes b (as_nodes (map (λ e. entry_element e) es)) ≡ Some (raised_by b es)
entries_again b [] given = refl
entries_again b (e ∷ es) given =
    ap (option_and_then (λ (m : Marks). raised_nodes m (as_nodes (map (λ x. entry_element x) es)))) (entry_again b e given.0) ∙ entries_again (raised b e.0 e.1) es given.1

-- ---- headers

same_self : (text : List ℕ) → same text text ≡ true
same_self text = nat_list_eq_equiv.refl text

-- a header is one
header_read : (e : Element) → same (codes "Bookmark") e.name ≡ true → same management e.space ≡ true → bookmark_in e ≡ in_header e
header_read e named spaced = λ i. cond (named i && spaced i) (in_header e) (cond (is_list e) (in_list e) None)

earliest_trimmed : trimmed earliest ≡ earliest
unfolding earliest chars encode
earliest_trimmed = refl

earliest_read : of_text earliest ≡ Some empty
unfolding of_text
earliest_read = ap (λ b. cond b (Some empty) None) (same_self earliest)

empty_again : bookmark_in (header_of []) ≡ Some empty
empty_again =
    let header = with_text management (codes "Bookmark") earliest in
    header_read header refl (same_self management)
    ∙ ap (λ es. by_lists header (filter is_list es)) (none_inside earliest)
    ∙ ap of_text (said_again management (codes "Bookmark") earliest earliest_trimmed)
    ∙ earliest_read

list_again : (list : Element) → is_list list ≡ true → bookmark_in (with_elements management (codes "Bookmark") (list ∷ [])) ≡ in_list list
list_again list is =
    let header = with_elements management (codes "Bookmark") (list ∷ []) in
    header_read header refl (same_self management)
    ∙ ap (λ es. by_lists header (filter is_list es)) (elements_again (list ∷ []))
    ∙ ap (λ b. by_lists header (cond b (list ∷ []) [])) is
    ∙ ap (λ b. cond b None (in_list list)) (wordless (list ∷ []))

header_again : (es : List (List ℕ × ℕ)) → AllByRecursion IsGiven es → bookmark_in (header_of es) ≡ Some (raised_by empty es)
header_again [] given = empty_again
header_again (e ∷ es) given = list_again (list_element (e ∷ es)) refl ∙ entries_again empty (e ∷ es) given

pub written_is_read : WrittenIsRead
written_is_read b kept = header_again (entries b) (each_entry IsEntry b kept) ∙ ap Some (joined_empty b)
