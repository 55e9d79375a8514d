-- The tree of a document, as a function of its bytes: piece after piece is taken, until the text ends or no piece is good.
use Rattle.std.specs.Prelude.{◌≡◌, ℕ, zero, suc, false, List, [], ◌∷◌, length, Option, Some, None, Result, ◌↔◌}
use Rattle.std.specs.Option.{option_and_then}
use Rattle.std.specs.declared.result.Result.TheVariants.{Ok, Err}
use Rattle.wef_base.specs.declared.tree.Charset.{Charset}
use Rattle.wef_base.specs.declared.tree.Element.{Element}
use Rattle.wef_tree_reading.specs.Building.{nothing, taken}
use Rattle.wef_xml.specs.Decoding.{decoded, line_ends}
use Rattle.wef_tree_pieces.specs.Pieces.{piece_at}
use Rattle.wef_tree_reading.specs.Spelling.{Spells}
use Rattle.wef_tree_reading.specs.declared.building.Builder.{Builder}
use Rattle.wef_xml.specs.declared.faults.TreeFault.{TreeFault}
use Rattle.wef_xml.specs.declared.faults.TreeFault.TheVariants.{NoMemory, BadCharset, BadXml, TooDeep, Refused}
use Rattle.wef_tree_pieces.specs.declared.pieces.Piece.{Piece}

-- what a piece and all behind it lead to
abbrev pub led_on : (Builder → List ℕ → Option Builder) → Builder → Piece × List ℕ → Option Builder
led_on go b (p, behind) = option_and_then (λ t. go t behind) (taken b p)

-- what the pieces of a text lead to, where it ends after at most so many
abbrev pub led_to : ℕ → Builder → List ℕ → Option Builder
led_to n b [] = Some b
led_to zero b (c ∷ cs) = None
led_to (suc n) b (c ∷ cs) = option_and_then (led_on (led_to n) b) (piece_at (c ∷ cs))

-- the root that a text gives; a piece has a character or more
abbrev pub root_of : List ℕ → Option Element
root_of text = option_and_then (λ b. b.root) (led_to (length text) nothing text)

abbrev pub root_by : Result (List ℕ) ℕ → Option Element
root_by (Ok characters) = root_of (line_ends false characters)
root_by (Err at) = None

-- the root of a document, where the bytes are one
unfoldable pub tree_of : Charset → List ℕ → Option Element
tree_of charset bytes = root_by (decoded charset bytes)

-- A reader of documents gives the root, or a fault exactly where there is none.
abbrev pub GivesTree : Result Element TreeFault → Option Element → Type 0
GivesTree (Ok root) given = given ≡ Some root
GivesTree (Err NoMemory) given = Unit {0}
GivesTree (Err (BadCharset at)) given = given ≡ None
GivesTree (Err (BadXml at)) given = given ≡ None
GivesTree (Err (TooDeep at)) given = given ≡ None
GivesTree (Err (Refused at)) given = given ≡ None

-- The root that the function gives is the one that the bytes spell.
abbrev pub IsSpelt : Type 0
IsSpelt = (charset : Charset) (bytes : List ℕ) (root : Element) → Spells charset bytes root ↔ (tree_of charset bytes ≡ Some root)
