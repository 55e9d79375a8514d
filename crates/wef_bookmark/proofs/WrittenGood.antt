-- The tree that is written for a bookmark is a good one.
use Rattle.std.proofs.Common.{ℕ, suc, List, [], ◌∷◌, map, refl}
use Rattle.std.specs.Prelude.{codes}
use Rattle.std.specs.Fmt.{decimal}
use Rattle.std.specs.FinMap.{entries}
use Rattle.std.specs.List.{AllByRecursion}
use Rattle.std.proofs.lemmas.Str.{IsUtf8-from_is_utf8}
use Rattle.wef_xml.specs.Good.{IsGoodElement, IsXmlText}
use Rattle.wef_xml.specs.Spaces.{is_xmlns}
use Rattle.wef_xml.proofs.Ascii.{plain_name, plain_text}
use Rattle.wef_elements.specs.Good.{AreGoodElements}
use Rattle.wef_elements.specs.Spaces.{management}
use Rattle.wef_elements.proofs.DecimalDigits.{number_text}
use Rattle.wef_elements.proofs.GoodTexts.{empty_text, management_good, name_text}
use Rattle.wef_elements.proofs.GoodTrees.{holder_good, leaf_good, said_good}
use Rattle.wef_bookmark.specs.Nodes.{WrittenIsGood, earliest, entry_element, header_of, list_element, marked}
use Rattle.wef_bookmark.proofs.EachEntry.{each_entry}

-- the name of an entry is one that XML allows, whatever its number
abbrev IsNamed : List ℕ → ℕ → Type 0
IsNamed c n = IsXmlText c

entry_good : (e : List ℕ × ℕ) (room : ℕ) → IsXmlText e.0 → IsGoodElement (entry_element e) (suc room)
unfolding is_xmlns
entry_good e room named =
    said_good [] (codes "Bookmark") (marked (codes "Channel") e.0 ∷ marked (codes "RecordId") (decimal e.1) ∷ []) [] room (record {
      named = plain_name (codes "Bookmark") refl;
      in_space = empty_text;
      attributed = (
        record { name = plain_name (codes "Channel") refl; space = empty_text; value = named; no_declaration = refl },
        (record { name = plain_name (codes "RecordId") refl; space = empty_text; value = number_text e.1; no_declaration = refl }, tt),
      );
      different = refl;
    }) empty_text

entries_good : (es : List (List ℕ × ℕ)) (room : ℕ) → AllByRecursion (λ (e : List ℕ × ℕ). IsNamed e.0 e.1) es → AreGoodElements (map (λ e. entry_element e) es) (suc room)
entries_good [] room named = tt
entries_good (e ∷ es) room named = (entry_good e room named.0, entries_good es room named.1)

earliest_good : IsXmlText earliest
unfolding earliest
earliest_good = plain_text earliest refl

header_good : (es : List (List ℕ × ℕ)) (room : ℕ) → AllByRecursion (λ (e : List ℕ × ℕ). IsNamed e.0 e.1) es → IsGoodElement (header_of es) (suc (suc (suc room)))
header_good [] room named = leaf_good management (codes "Bookmark") earliest (suc (suc room)) management_good (plain_name (codes "Bookmark") refl) earliest_good
header_good (e ∷ es) room named =
    holder_good management (codes "Bookmark") (list_element (e ∷ es) ∷ []) (suc (suc room)) management_good (plain_name (codes "Bookmark") refl) (
      holder_good [] (codes "BookmarkList") (map (λ x. entry_element x) (e ∷ es)) (suc room) empty_text (plain_name (codes "BookmarkList") refl) (entries_good (e ∷ es) room named),
      tt,
    )

pub written_is_good : WrittenIsGood
written_is_good b room kept texts =
    header_good (entries b) room (each_entry IsNamed b (λ c n is. name_text c (IsUtf8-from_is_utf8 c (texts c n is)) (kept c n is).0))
