-- The tag that a start tag of the canonical text is, and when what a writer has in force is what a reader has.
use Rattle.std.proofs.Common.{◌≡◌, ℕ, true, false, ◌||◌, List, [], ◌∷◌, ◌++◌, map, ◌⊎◌}
use Rattle.std.specs.Prelude.{Some, is_some, unwrap_or, codes, if◌then◌else◌}
use Rattle.std.specs.Option.{option_or}
use Rattle.wef_base.specs.Names.{same}
use Rattle.wef_base.specs.declared.tree.Attribute.{Attribute}
use Rattle.wef_tree_writing.specs.Levels.{bound_to}
use Rattle.wef_tree.specs.Loose.{empty_of}
use Rattle.wef_tree_reading.specs.Building.{has_room, is_outside, opened}
use Rattle.wef_xml.specs.Canonical.{end_of, start_of, text_of}
use Rattle.wef_xml.specs.Good.{IsGoodHead, IsLocalName, IsXmlText}
use Rattle.wef_tree_pieces.specs.Pieces.{piece_at}
use Rattle.wef_xml.specs.Prefixes.{Scope, attribute_prefix, element_prefix, inside, new_bindings, nine, prefix_of}
use Rattle.wef_tree_reading.specs.Scopes.{declared_outside}
use Rattle.wef_xml.specs.Spaces.{is_empty, is_xml_prefix, is_xml_space, is_xmlns}
use Rattle.wef_tree_reading.specs.Spelling.{Leads}
use Rattle.wef_xml.specs.declared.bindings.Binding.{Binding}
use Rattle.wef_tree_reading.specs.declared.building.Builder.{Builder}
use Rattle.wef_tree_pieces.specs.declared.names.Name.{Name}
use Rattle.wef_tree_pieces.specs.declared.pieces.Piece.{Piece}
use Rattle.wef_tree_pieces.specs.declared.pieces.Piece.TheVariants.{Start, Empty, End}
use Rattle.wef_tree_reading.specs.declared.stack.Open.{Open}
use Rattle.wef_tree_pieces.specs.declared.tags.Given.{Given}
use Rattle.wef_tree_pieces.specs.declared.tags.Tag.{Tag}

-- the name of an element, as it is spelt
abbrev pub spelled_name : Scope → List ℕ → List ℕ → Name
spelled_name scope space name = record { prefix = unwrap_or (element_prefix scope.soap space) []; local = name }

abbrev pub default_given : Scope → List ℕ → List Given
default_given scope space =
    if is_some (element_prefix scope.soap space) || same scope.default space then []
    else record { name = record { prefix = []; local = codes "xmlns" }; value = space } ∷ []

abbrev pub declaration_given : Binding → Given
declaration_given b = record { name = record { prefix = codes "xmlns"; local = b.prefix }; value = b.space }

abbrev pub attribute_given : List Binding → Attribute → Given
attribute_given bound a = record { name = record { prefix = unwrap_or (attribute_prefix bound a.space) []; local = a.name }; value = a.value }

-- the tag of an element, as it is spelt
abbrev pub spelled : List Binding → Scope → List ℕ → List ℕ → List Attribute → Tag
spelled first scope space name attributes = record {
  name = spelled_name scope space name;
  given = default_given scope space ++ map declaration_given first ++ map declaration_given (new_bindings scope.bound attributes)
      ++ map (attribute_given (inside scope space attributes).bound) attributes;
}

-- a binding that may be declared, of a prefix that isn't one of the reserved ones
pub record IsGoodBinding (b : Binding) : Type 0 where
  pub prefix : IsLocalName b.prefix
  pub space : IsXmlText b.space
  pub some : is_empty b.space ≡ false
  pub no_xml_space : is_xml_space b.space ≡ false
  pub no_xml : is_xml_prefix b.prefix ≡ false
  pub no_xmlns : is_xmlns b.prefix ≡ false

abbrev pub AreGoodBindings : List Binding → Type 0
AreGoodBindings [] = Unit {0}
AreGoodBindings (b ∷ bs) = IsGoodBinding b × AreGoodBindings bs

-- What a writer has in force is what a reader has, who has these elements open and reads a tag that declares these
-- bindings first.
pub record Agrees (first : List Binding) (scope : Scope) (around : List Open) : Type 0 where
  pub default : option_or (declared_outside around []) (Some []) ≡ Some scope.default
  pub default_is : IsXmlText scope.default
  pub bindings : AreGoodBindings scope.bound
  pub bound : (space prefix : List ℕ) → prefix_of scope.bound space ≡ Some prefix → option_or (bound_to first prefix) (declared_outside around prefix) ≡ Some space
  pub nine_bound : scope.soap ≡ true → (space prefix : List ℕ) → prefix_of nine space ≡ Some prefix → prefix_of scope.bound space ≡ Some prefix

-- a start tag is read again
abbrev pub StartAgain : Type 0
StartAgain =
    (first : List Binding) (scope : Scope) (space name : List ℕ) (attributes : List Attribute) (rest : List ℕ) →
    IsGoodHead space name attributes → AreGoodBindings first → AreGoodBindings scope.bound →
    piece_at (start_of first scope space name attributes ++ rest) ≡ Some (Start (spelled first scope space name attributes), rest)

-- an empty tag is read so
abbrev pub EmptyAgain : Type 0
EmptyAgain =
    (first : List Binding) (scope : Scope) (space name : List ℕ) (attributes : List Attribute) (rest : List ℕ) →
    IsGoodHead space name attributes → AreGoodBindings first → AreGoodBindings scope.bound →
    piece_at (empty_of first scope space name attributes ++ rest) ≡ Some (Empty (spelled first scope space name attributes), rest)

-- an end tag is read again
abbrev pub EndAgain : Type 0
EndAgain =
    (scope : Scope) (space name rest : List ℕ) → IsLocalName name →
    piece_at (end_of scope space name ++ rest) ≡ Some (End (spelled_name scope space name), rest)

-- a text in front of a tag is read again
abbrev pub TextAgain : Type 0
TextAgain =
    (b : Builder) (text rest : List ℕ) → IsXmlText text → is_outside b ≡ false → b.begun ≡ true →
    (ps : List Piece) × Leads b ps (text_of text ++ 60 ∷ rest) (record b { text = b.text ++ text }) (60 ∷ rest)

-- a tag that is read opens its element again, with all that the writer has in force inside
pub record Opens (b : Builder) (first : List Binding) (scope : Scope) (space name : List ℕ) (attributes : List Attribute) : Type 0 where
  pub element : Open
  pub opens : opened b (spelled first scope space name attributes) ≡ Some element
  pub named : element.name ≡ spelled_name scope space name
  pub in_space : element.space ≡ space
  pub attributed : element.attributes ≡ attributes
  pub childless : element.children ≡ []
  pub agrees : (around : List Open) → ((prefix : List ℕ) → declared_outside around prefix ≡ declared_outside b.around prefix) → Agrees [] (inside scope space attributes) (element ∷ around)

-- The first bindings are those of the root, or none. There are no more attributes than numbers that a prefix has.
abbrev pub OpenedAgain : Type 0
OpenedAgain =
    (b : Builder) (first : List Binding) (scope : Scope) (space name : List ℕ) (attributes : List Attribute) →
    IsGoodHead space name attributes → has_room b ≡ true → Agrees first scope b.around → (first ≡ []) ⊎ ((first ≡ nine) × (b.around ≡ []) × (scope.soap ≡ true)) →
    Opens b first scope space name attributes
