-- What a document says. Its bytes decode to a text that is a list of pieces, each good in its place, which together give
-- the root. Where they don't, the longest list of good pieces that begins the text says where the fault is.
use Rattle.std.specs.Prelude.{◌≡◌, ℕ, ◌-◌, nat_le, Bool, true, false, ◌&&◌, ◌||◌, is_some, List, [], ◌∷◌, length, Option, Some, None, Result, codes, if◌then◌else◌}
use Rattle.std.specs.declared.result.Result.TheVariants.{Ok, Err}
use Rattle.std.specs.Borrow.{Bor}
use Rattle.wef_base.specs.declared.tree.Charset.{Charset}
use Rattle.wef_base.specs.declared.tree.Element.{Element}
use Rattle.wef_xml.specs.Good.{greatest_depth}
use Rattle.wef_tree_reading.specs.Building.{nothing, taken}
use Rattle.wef_xml.specs.Decoding.{decoded, line_ends, place}
use Rattle.wef_xml.specs.Fronts.{strip}
use Rattle.wef_tree_pieces.specs.Pieces.{piece_at}
use Rattle.wef_tree_reading.specs.declared.building.Builder.{Builder}
use Rattle.wef_tree_reading.specs.declared.faults.FaultKind.{FaultKind}
use Rattle.wef_tree_reading.specs.declared.faults.FaultKind.TheVariants.{Xml, Deep, Refused as Forbidden}
use Rattle.wef_tree_reading.specs.declared.faults.Stop.{Stop}
use Rattle.wef_tree_reading.specs.declared.faults.Stop.TheVariants.{NoMemory as OutOfMemory, Fault}
use Rattle.wef_xml.specs.declared.faults.TreeFault.{TreeFault}
use Rattle.wef_xml.specs.declared.faults.TreeFault.TheVariants.{NoMemory, BadCharset, BadXml, TooDeep, Refused}
use Rattle.wef_tree_pieces.specs.declared.pieces.Piece.{Piece}
use Rattle.wef_tree_pieces.specs.declared.pieces.Piece.TheVariants.{Start, Empty}

-- Good pieces lead from a builder and a text to another builder and what is left of the text.
abbrev pub Leads : Builder → List Piece → List ℕ → Builder → List ℕ → Type 0
Leads b [] text c rest = (b ≡ c) × (text ≡ rest)
Leads b (p ∷ ps) text c rest = (t : Builder) × (behind : List ℕ) × (piece_at text ≡ Some (p, behind)) × (taken b p ≡ Some t) × Leads t ps behind c rest

-- Some list of good pieces that begins the text leads to this builder, and leaves this.
abbrev pub Reaches : List ℕ → Builder → List ℕ → Type 0
Reaches text b rest = (ps : List Piece) × Leads nothing ps text b rest

-- The text is a list of good pieces, which give the root.
abbrev pub TextSpells : List ℕ → Element → Type 0
TextSpells text root = (b : Builder) × Reaches text b [] × (b.root ≡ Some root)

-- The bytes are a document of this root.
abbrev pub Spells : Charset → List ℕ → Element → Type 0
Spells charset bytes root = (characters : List ℕ) × (decoded charset bytes ≡ Ok characters) × TextSpells (line_ends false characters) root

-- No piece is good here.
abbrev pub IsStuck : Builder → List ℕ → Type 0
IsStuck b rest = (p : Piece) (behind : List ℕ) → piece_at rest ≡ Some (p, behind) → taken b p ≡ None

-- what a tag that stands here, whole, would be
abbrev pub is_tag : Piece → Bool
is_tag (Start tag) = true
is_tag (Empty tag) = true
is_tag _ = false

abbrev pub is_whole_tag : Option (Piece × List ℕ) → Bool
is_whole_tag (Some read) = is_tag read.0
is_whole_tag None = false

-- The kind of a fault, by what stands there: a document type or a processing instruction, also a declaration that isn't
-- good or isn't first; a tag where the greatest number of elements is open; or something else.
abbrev pub kind_by : List ℕ → Bool → ℕ → FaultKind
kind_by rest is_tag depth =
    if is_some (strip (codes "<!DOCTYPE") rest) || is_some (strip (codes "<?") rest) then Forbidden
    else (if is_tag && nat_le greatest_depth depth then Deep else Xml)

abbrev pub kind_of : Builder → List ℕ → FaultKind
kind_of b rest = kind_by rest (is_whole_tag (piece_at rest)) (length b.around)

-- The longest list of good pieces leaves this of the text, and gives no root.
pub record Stops (text : List ℕ) (kind : FaultKind) (rest : List ℕ) : Type 0 where
  pub there : Builder
  pub reached : Reaches text there rest
  pub stuck : IsStuck there rest
  pub rootless : rest ≡ [] → there.root ≡ None
  pub kind_is : kind ≡ kind_of there rest

-- The bytes decode, and are no document: the fault is of this kind, and at this byte.
pub record StopsAt (charset : Charset) (bytes : List ℕ) (kind : FaultKind) (at : ℕ) : Type 0 where
  pub characters : List ℕ
  pub decodes : decoded charset bytes ≡ Ok characters
  pub rest : List ℕ
  pub stops : Stops (line_ends false characters) kind rest
  pub at_is : at ≡ place charset bytes characters (length (line_ends false characters) - length rest)

-- What reading answers: the root that the bytes spell, or the fault that they have.
abbrev pub ReadsTree : Charset → List ℕ → Result Element TreeFault → Type 0
ReadsTree charset bytes (Ok root) = Spells charset bytes root
ReadsTree charset bytes (Err NoMemory) = Unit {0}
ReadsTree charset bytes (Err (BadCharset at)) = decoded charset bytes ≡ Err at
ReadsTree charset bytes (Err (BadXml at)) = StopsAt charset bytes Xml at
ReadsTree charset bytes (Err (TooDeep at)) = StopsAt charset bytes Deep at
ReadsTree charset bytes (Err (Refused at)) = StopsAt charset bytes Forbidden at

-- What the first piece of a text leads to: it was read and is good, or no piece is, and what that fault would be.
abbrev pub Steps : Builder → Builder → List ℕ → Result (Bor (List ℕ)) Stop → Type 0
Steps before after text (Ok behind) = (p : Piece) × (piece_at text ≡ Some (p, behind.now)) × (taken before p ≡ Some after)
Steps before after text (Err OutOfMemory) = Unit {0}
Steps before after text (Err (Fault kind left)) = IsStuck before text × (kind ≡ kind_of before text) × (left ≡ length text)

-- What reading a text answers.
abbrev pub ReadsText : List ℕ → Result Element Stop → Type 0
ReadsText text (Ok root) = TextSpells text root
ReadsText text (Err OutOfMemory) = Unit {0}
ReadsText text (Err (Fault kind left)) = (rest : List ℕ) × Stops text kind rest × (left ≡ length rest)

-- the fault of this kind at a place
abbrev pub fault_at : FaultKind → ℕ → TreeFault
fault_at Xml at = BadXml at
fault_at Deep at = TooDeep at
fault_at Forbidden at = Refused at
