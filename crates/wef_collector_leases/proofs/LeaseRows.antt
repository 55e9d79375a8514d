-- What the row at the key of a lease tells.
use Rattle.std.proofs.Common.{◌≡◌, ℕ, ◌≤◌, nat_le, true, false, ◌&&◌, List, ap, sym, ◌∙◌, subst, arith}
use Rattle.std.proofs.lemmas.Bool.{and_parts}
use Rattle.std.proofs.lemmas.Bool.Decides.{nat_tests}
use Rattle.std.specs.Cmp.Lexicographic.{nat_list_eq_equiv}
use Rattle.std.specs.FinMap as map
use Rattle.std.specs.Prelude.{Option, Some, None, IfSome}
use Rattle.wef_base.specs.Characters.{is_xml_text}
use Rattle.wef_base.specs.Names.{source_name, subscription_name}
use Rattle.wef_base.specs.declared.numbers.TheConstants.{MAX}
use Rattle.wef_keeper.specs.Rows.{Rows, row_of}
use Rattle.wef_keeper.specs.declared.keys.Cell.{Cell}
use Rattle.wef_keeper.specs.declared.keys.Key.{Key}
use Rattle.wef_xml.specs.Good.{IsXmlText}
use Rattle.wef_collector_rows.specs.Bookmarks.{is_one}
use Rattle.wef_collector_rows.specs.Forms.{AreFormed, is_formed, is_lease_row, names_source}
use Rattle.wef_collector_rows.specs.Keys.{lease_key}
use Rattle.wef_collector_leases.proofs.Texts.{passes_of}

-- a lease's row of its form has an identifier that XML allows
identifier_allowed : (u s : List ℕ) (cell : Cell) → is_formed (row_of (lease_key u s, cell)) ≡ true → is_xml_text cell.body ≡ true
unfolding is_formed is_lease_row
identifier_allowed u s cell formed = (and_parts (names_source (lease_key u s) && true && true && nat_le cell.value MAX) (is_xml_text cell.body) formed).1

-- so where one has another, not all rows are of their form
pub no_lease : (told : Option Rows) (key : Key) (u s : List ℕ) (cell : Cell) → key ≡ lease_key u s → is_xml_text cell.body ≡ false → IfSome told (λ rows. Some cell ≡ map.get rows key) → IfSome told (λ rows. AreFormed rows → ⊥)
no_lease None key u s cell is ill found = tt
no_lease (Some rows) key u s cell is ill found = λ formed.
    let there = subst (λ (o : Option Cell). IfSome o (λ cell. is_formed (row_of (key, cell)) ≡ true)) (sym found) (formed key) in
    let well = identifier_allowed u s cell (subst (λ (k : Key). is_formed (row_of (k, cell)) ≡ true) is there) in
    cc

le_tested : (n m : ℕ) → n ≤ m → nat_le n m ≡ true
le_tested n m h = grind (arith, nat_tests)

-- a lease that may be kept, of names that read back, makes a row of its form
pub lease_row : (u s body : List ℕ) (expiry : ℕ) (key : Key) → key ≡ lease_key u s → subscription_name u ≡ Some u → source_name s ≡ Some s → expiry ≤ MAX → IsXmlText body
    → is_formed (record { key = key; value = expiry; body = body }) ≡ true
unfolding is_formed is_lease_row
lease_row u s body expiry key is sub source within allowed =
    let name : is_one u (subscription_name u) ≡ true = ap (is_one u) sub ∙ nat_list_eq_equiv.refl u in
    let from : is_one s (source_name s) ≡ true = ap (is_one s) source ∙ nat_list_eq_equiv.refl s in
    subst (λ (k : Key). is_formed (record { key = k; value = expiry; body = body }) ≡ true) (sym is)
    (λ i. (name i && from i) && true && true && le_tested expiry MAX within i && passes_of body allowed i)
