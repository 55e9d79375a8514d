-- Characters that are read at once.
use Rattle.std.specs.Prelude.{◌≡◌, ℕ, ◌==◌, ◌<◌, Bool, ◌&&◌, ◌||◌, not, List, length, Result}
use Rattle.std.specs.Borrow.{Bor}
use Rattle.std.specs.declared.result.Result.TheVariants.{Ok, Err}
use Rattle.wef_base.specs.Characters.{is_xml_char}
use Rattle.wef_tree_reading.specs.Spelling.{IsStuck, Leads, kind_of}
use Rattle.wef_tree_reading.specs.declared.building.Builder.{Builder}
use Rattle.wef_tree_reading.specs.declared.faults.Stop.{Stop}
use Rattle.wef_tree_reading.specs.declared.faults.Stop.TheVariants.{NoMemory as OutOfMemory, Fault}
use Rattle.wef_tree_pieces.specs.declared.pieces.Piece.{Piece}

-- a character that is a piece by itself, whatever follows
abbrev pub is_letter : ℕ → Bool
is_letter c = not (c == 60 || c == 38 || c == 93) && is_xml_char c

-- What the first pieces of a text lead to: one or more were read and are good, or no piece is, and what that fault would be.
abbrev pub Walks : Builder → Builder → List ℕ → Result (Bor (List ℕ)) Stop → Type 0
Walks before after text (Ok behind) = (ps : List Piece) × (Leads before ps text after behind.now) × (length behind.now < length text)
Walks before after text (Err OutOfMemory) = Unit {0}
Walks before after text (Err (Fault kind left)) = IsStuck before text × (kind ≡ kind_of before text) × (left ≡ length text)
