-- Laws of reading: a document has one root or one fault, and never both.
use Rattle.std.specs.Prelude.{◌≡◌, ℕ, ◌≤◌, List, length}
use Rattle.std.specs.declared.result.Result.TheVariants.{Err}
use Rattle.wef_base.specs.declared.tree.Charset.{Charset}
use Rattle.wef_base.specs.declared.tree.Element.{Element}
use Rattle.wef_xml.specs.Decoding.{decoded}
use Rattle.wef_tree_reading.specs.Spelling.{Leads, Reaches, Spells, Stops, StopsAt}
use Rattle.wef_tree_reading.specs.declared.building.Builder.{Builder}
use Rattle.wef_tree_reading.specs.declared.faults.FaultKind.{FaultKind}
use Rattle.wef_tree_pieces.specs.declared.pieces.Piece.{Piece}

-- The same bytes don't spell two roots.
abbrev pub HasOneRoot : Type 0
HasOneRoot = (charset : Charset) (bytes : List ℕ) (one other : Element) → Spells charset bytes one → Spells charset bytes other → one ≡ other

-- Bytes that spell a root have no fault, of their text or of their charset.
abbrev pub HasNoFault : Type 0
HasNoFault = (charset : Charset) (bytes : List ℕ) (root : Element) (kind : FaultKind) (at : ℕ) → Spells charset bytes root → ¬ (StopsAt charset bytes kind at)

abbrev pub IsDecoded : Type 0
IsDecoded = (charset : Charset) (bytes : List ℕ) (root : Element) (at : ℕ) → Spells charset bytes root → ¬ (decoded charset bytes ≡ Err at)

-- The same bytes have no two faults.
abbrev pub HasOneFault : Type 0
HasOneFault =
    (charset : Charset) (bytes : List ℕ) (one other : FaultKind) (here there : ℕ) →
    StopsAt charset bytes one here → StopsAt charset bytes other there → (one ≡ other) × (here ≡ there)

-- Where reading stops, each list of good pieces that begins the text is the beginning of the one that leads here.
abbrev pub GoesOnToTheFault : Type 0
GoesOnToTheFault =
    (text rest left : List ℕ) (kind : FaultKind) (b : Builder) (stops : Stops text kind rest) →
    Reaches text b left → (more : List Piece) × Leads b more left stops.there rest

-- No list of good pieces that begins the text is longer than the one that leads to the fault.
abbrev pub IsLongest : Type 0
IsLongest = (text rest left : List ℕ) (kind : FaultKind) (b : Builder) → Stops text kind rest → Reaches text b left → length rest ≤ length left
