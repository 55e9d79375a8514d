-- What a text begins with where a tag stands as in the one text of a tree, with no prefixes.
use Rattle.std.specs.Prelude.{◌≡◌, ℕ, ◌||◌, Bool, true, false, List, [], ◌∷◌, ◌++◌, encode_utf8_all}
use Rattle.std.specs.List.{flat_map}
use Rattle.wef_base.specs.Names.{same}
use Rattle.wef_base.specs.declared.tree.Attribute.{Attribute}
use Rattle.wef_xml.specs.Canonical.{attribute_of, declaration_of, default_of, name_of, start_of, value_of}
use Rattle.wef_xml.specs.Good.{AreGoodAttributes, IsGoodHead, IsXmlText, are_different, differ_behind}
use Rattle.wef_xml.specs.Prefixes.{Scope, element_prefix, inside, is_soap, new_bindings}
use Rattle.wef_xml.specs.Spaces.{is_empty, is_xml_space, is_xmlns}
use Rattle.wef_xml.specs.declared.bindings.Binding.{Binding}
use Rattle.wef_canonical.specs.declared.tags.Names.{Names}
use Rattle.wef_canonical.specs.declared.tags.Start.{Start}

-- inside an element of this namespace, with no prefix in force
abbrev pub bare_scope : List ℕ → Scope
bare_scope space = record { default = space; soap = false; bound = [] }

-- A namespace whose elements have no prefix, and whose roots declare none.
pub record IsBareSpace (space : List ℕ) : Type 0 where
  pub allowed : IsXmlText space
  pub no_xml : is_xml_space space ≡ false
  pub no_soap : is_soap space ≡ false

-- attributes without a namespace
abbrev pub AreBare : List Attribute → Type 0
AreBare [] = Unit {0}
AreBare (a ∷ more) = (a.space ≡ []) × AreBare more

-- attributes as they stand in a tag, in UTF-8
abbrev pub attribute_bytes : Attribute → List ℕ
attribute_bytes a = encode_utf8_all (attribute_of [] a)

abbrev pub attributes_bytes : List Attribute → List ℕ
attributes_bytes attributes = flat_map attribute_bytes attributes

-- one of the names that are kept, which are filled with empty ones
abbrev pub is_kept : Names → List ℕ → Bool
is_kept names name = same name names.first.now || same name names.second.now || same name names.third.now || same name names.fourth.now

-- the names of these attributes are kept
abbrev pub AreKept : Names → List Attribute → Type 0
AreKept names [] = Unit {0}
AreKept names (a ∷ more) = (is_empty a.name ≡ false) × (is_kept names a.name ≡ true) × AreKept names more

-- The name of an attribute that wasn't kept is so from here on, beside those before.
pub record KeepsMore (names : Names) (name : List ℕ) (more : Names) : Type 0 where
  pub no_xmlns : is_xmlns name ≡ false
  pub other : is_kept names name ≡ false
  pub kept : is_kept more name ≡ true
  pub others : (before : List ℕ) → is_empty before ≡ false → is_kept names before ≡ true → is_kept more before ≡ true

-- Attributes that differ, also from all whose names are kept.
abbrev pub DifferFrom : Names → List Attribute → Type 0
DifferFrom names attributes = (before : List Attribute) → AreBare before → AreKept names before → differ_behind before attributes ≡ true

-- Good attributes without namespaces that a text begins with, which differ from those whose names are kept.
pub record BeginsWithAttributes (names : Names) (text rest : List ℕ) : Type 0 where
  pub attributes : List Attribute
  pub good : AreGoodAttributes attributes
  pub bare : AreBare attributes
  pub differ : DifferFrom names attributes
  pub stand : text ≡ attributes_bytes attributes ++ rest

-- all attributes of a tag
abbrev pub HasAttributes : List ℕ → List ℕ → Type 0
HasAttributes text rest = (attributes : List Attribute) × AreGoodAttributes attributes × AreBare attributes × (are_different attributes ≡ true) × (text ≡ attributes_bytes attributes ++ rest)

-- A namespace that is declared where another one is in force.
pub record IsDeclared (default value space rest : List ℕ) : Type 0 where
  pub bare : IsBareSpace space
  pub other : same default space ≡ false
  pub plain : encode_utf8_all (value_of space) ≡ space
  pub stands : value ≡ space ++ 34 ∷ rest

-- The namespace of an element behind its name.
pub record HasSpace (default text space rest : List ℕ) : Type 0 where
  pub bare : IsBareSpace space
  pub stands : text ≡ encode_utf8_all (default_of (bare_scope default) space) ++ rest

-- a tag without the sign that ends it
abbrev pub open_of : List Binding → Scope → List ℕ → List ℕ → List Attribute → List ℕ
open_of first scope space name attributes =
    60 ∷ name_of (element_prefix scope.soap space) name ++ default_of scope space
    ++ flat_map declaration_of first ++ flat_map declaration_of (new_bindings scope.bound attributes)
    ++ flat_map (attribute_of (inside scope space attributes).bound) attributes

-- A tag inside an element of a namespace, as it is spelt.
pub record IsTag (spelt : List Binding → Scope → List ℕ → List ℕ → List Attribute → List ℕ) (default text : List ℕ) (tag : Start) : Type 0 where
  pub attributes : List Attribute
  pub head : IsGoodHead tag.space.now tag.name.now attributes
  pub bare : AreBare attributes
  pub space : IsBareSpace tag.space.now
  pub stands : text ≡ encode_utf8_all (spelt [] (bare_scope default) tag.space.now tag.name.now attributes) ++ tag.rest.now

-- such a tag without the sign that ends it
abbrev pub IsOpen : List ℕ → List ℕ → Start → Type 0
IsOpen = IsTag open_of

-- a start tag
abbrev pub IsStart : List ℕ → List ℕ → Start → Type 0
IsStart = IsTag start_of
