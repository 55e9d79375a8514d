-- The tree that a function gives is the one that the bytes spell.
use Rattle.std.proofs.Common.{◌≡◌, ℕ, zero, suc, ◌≤◌, false, List, [], ◌∷◌, length, refl, ap, sym, ◌∙◌, arith}
use Rattle.std.specs.Prelude.{Option, Some, None, Result}
use Rattle.std.specs.Option.{option_and_then}
use Rattle.std.specs.declared.result.Result.TheVariants.{Ok, Err}
use Rattle.wef_base.specs.declared.tree.Charset.{Charset}
use Rattle.wef_base.specs.declared.tree.Element.{Element}
use Rattle.wef_tree_reading.specs.Building.{nothing, taken}
use Rattle.wef_xml.specs.Decoding.{decoded, line_ends}
use Rattle.wef_tree_reading.specs.Documents.{GivesTree, IsSpelt, led_on, led_to, root_by, root_of, tree_of}
use Rattle.wef_tree_pieces.specs.Pieces.{piece_at}
use Rattle.wef_tree_reading.specs.Spelling.{Leads, ReadsTree, Spells, StopsAt, TextSpells}
use Rattle.wef_tree_reading.specs.declared.building.Builder.{Builder}
use Rattle.wef_tree_reading.specs.declared.faults.FaultKind.{FaultKind}
use Rattle.wef_xml.specs.declared.faults.TreeFault.{TreeFault}
use Rattle.wef_xml.specs.declared.faults.TreeFault.TheVariants.{NoMemory, BadCharset, BadXml, TooDeep, Refused}
use Rattle.wef_tree_pieces.specs.declared.pieces.Piece.{Piece}
use Rattle.wef_tree_pieces.proofs.Inversions.{and_then_some, none_some, some_is}
use Rattle.wef_tree_reading.proofs.Readings.{end_is_stuck, has_no_fault}
use Rattle.wef_tree_pieces.proofs.Shorter.{piece_shorter}

-- pieces that lead to the end of a text are those that the function takes
led : (n : ℕ) (ps : List Piece) (b : Builder) (text : List ℕ) (c : Builder) → length text ≤ n → Leads b ps text c [] → led_to n b text ≡ Some c
led n [] b text c most leads = ap (led_to n b) leads.1 ∙ ap Some leads.0
led n (p ∷ ps) b [] c most leads = absurd (none_some leads.0 (sym (end_is_stuck b p leads.1 leads.2) ∙ leads.3))
led zero (p ∷ ps) b (d ∷ ds) c most leads = absurd (omega arith)
led (suc n) (p ∷ ps) b (d ∷ ds) c most leads =
    let behind : List ℕ = leads.1 in
    let shorter = piece_shorter (d ∷ ds) p behind leads.2 in
    ap (option_and_then (led_on (led_to n) b)) leads.2 ∙ ap (option_and_then (λ t. led_to n t behind)) leads.3 ∙ led n ps leads.0 behind c (omega arith) leads.4

-- and what the function gives is what some pieces lead to
leads_to : (n : ℕ) (b : Builder) (text : List ℕ) (c : Builder) → led_to n b text ≡ Some c → (ps : List Piece) × Leads b ps text c []
leads_to n b [] c e = ([], (some_is b c e, refl))
leads_to zero b (d ∷ ds) c e = absurd (none_some c e)
leads_to (suc n) b (d ∷ ds) c e =
    let read = and_then_some (led_on (led_to n) b) (piece_at (d ∷ ds)) c e in
    let p : Piece = read.0.0 in
    let behind : List ℕ = read.0.1 in
    let took = and_then_some (λ t. led_to n t behind) (taken b p) c read.2 in
    let further = leads_to n took.0 behind c took.2 in
    (p ∷ further.0, (took.0, behind, read.1, took.1, further.1))

root_spelt : (text : List ℕ) (root : Element) → TextSpells text root → root_of text ≡ Some root
root_spelt text root spells =
    ap (option_and_then (λ (b : Builder). b.root)) (led (length text) spells.1.0 nothing text spells.0 (omega arith) spells.1.1) ∙ spells.2

spelt_root : (text : List ℕ) (root : Element) → root_of text ≡ Some root → TextSpells text root
spelt_root text root e =
    let found = and_then_some (λ (b : Builder). b.root) (led_to (length text) nothing text) root e in
    (found.0, leads_to (length text) nothing text found.0 found.1, found.2)

pub is_given : (charset : Charset) (bytes : List ℕ) (root : Element) → Spells charset bytes root → tree_of charset bytes ≡ Some root
unfolding tree_of
is_given charset bytes root spells = ap root_by spells.1 ∙ root_spelt (line_ends false spells.0) root spells.2

pub is_spelt_by : (charset : Charset) (bytes : List ℕ) (root : Element) → tree_of charset bytes ≡ Some root → Spells charset bytes root
unfolding tree_of
is_spelt_by charset bytes root e = by (decoded charset bytes) refl e
  where
    by : (r : Result (List ℕ) ℕ) → decoded charset bytes ≡ r → root_by r ≡ Some root → Spells charset bytes root
    by (Ok characters) is given = (characters, is, spelt_root (line_ends false characters) root given)
    by (Err at) is given = absurd (none_some root given)

pub is_spelt : IsSpelt
is_spelt charset bytes root = (is_given charset bytes root, is_spelt_by charset bytes root)

-- bytes that have a fault have no tree
no_tree : (charset : Charset) (bytes : List ℕ) (kind : FaultKind) (at : ℕ) → StopsAt charset bytes kind at → tree_of charset bytes ≡ None
no_tree charset bytes kind at stops = by (tree_of charset bytes) refl
  where
    by : (o : Option Element) → tree_of charset bytes ≡ o → o ≡ None
    by None e = refl
    by (Some root) e = absurd (has_no_fault charset bytes root kind at (is_spelt_by charset bytes root e) stops)

pub gives_tree : (charset : Charset) (bytes : List ℕ) (result : Result Element TreeFault) → ReadsTree charset bytes result → GivesTree result (tree_of charset bytes)
unfolding tree_of
gives_tree charset bytes (Ok root) h = is_given charset bytes root h
gives_tree charset bytes (Err NoMemory) h = tt
gives_tree charset bytes (Err (BadCharset at)) h = ap root_by h
gives_tree charset bytes (Err (BadXml at)) h = no_tree charset bytes _ at h
gives_tree charset bytes (Err (TooDeep at)) h = no_tree charset bytes _ at h
gives_tree charset bytes (Err (Refused at)) h = no_tree charset bytes _ at h
