-- Loose texts of a tree: its one text, but that any elements without children may stand as their start tag alone, which
-- then ends with `/>` (XML 1.0, rule EmptyElemTag).
use Rattle.std.specs.Prelude.{◌≡◌, ℕ, List, [], ◌∷◌, ◌++◌, ◌⊎◌, codes, encode_utf8_all, Some}
use Rattle.std.specs.List.{flat_map}
use Rattle.wef_base.specs.declared.tree.Attribute.{Attribute}
use Rattle.wef_base.specs.declared.tree.Charset.{Charset}
use Rattle.wef_base.specs.declared.tree.Charset.TheVariants.{Utf8}
use Rattle.wef_base.specs.declared.tree.Element.{Element}
use Rattle.wef_base.specs.declared.tree.Node.{Node, Chars, Element', Row_of-Node, end_of-Node, more_of-Node, items-the_row-Node}
use Rattle.wef_xml.specs.Canonical.{attribute_of, canonical, declaration_of, default_of, encoded, end_of, name_of, start_of, text_of}
use Rattle.wef_xml.specs.Good.{IsGoodTree}
use Rattle.wef_xml.specs.Prefixes.{Scope, element_prefix, inside, new_bindings, outermost, root_bindings}
use Rattle.wef_xml.specs.declared.bindings.Binding.{Binding}
use Rattle.wef_tree_reading.specs.Documents.{tree_of}
use Rattle.wef_tree_reading.specs.Spelling.{Spells}

-- an empty tag: a start tag that ends with `/>`
abbrev pub empty_of : List Binding → Scope → List ℕ → List ℕ → List Attribute → List ℕ
empty_of first scope space name attributes =
    60 ∷ name_of (element_prefix scope.soap space) name ++ default_of scope space
    ++ flat_map declaration_of first ++ flat_map declaration_of (new_bindings scope.bound attributes)
    ++ flat_map (attribute_of (inside scope space attributes).bound) attributes ++ codes "/>"

-- An element as it may stand, whose children may stand so: an empty tag, where it has none, or between its two tags.
abbrev pub StandsSo : List Binding → Scope → List ℕ → List ℕ → List Attribute → List Node → (List ℕ → Type 0) → List ℕ → Type 0
StandsSo first scope space name attributes children StandInside text =
    ((children ≡ []) × (text ≡ empty_of first scope space name attributes))
    ⊎ ((body : List ℕ) × StandInside body × (text ≡ start_of first scope space name attributes ++ body ++ end_of scope space name))

abbrev mutual
  -- A text of a node with all inside it.
  pub IsLooseNode : Node → Scope → List ℕ → Type 0
  IsLooseNode (Chars characters) scope text = text ≡ text_of characters
  IsLooseNode (Element' space name attributes shape row) scope text =
      StandsSo [] scope space name attributes (items-the_row-Node _ row) (λ body. IsLooseRow row (inside scope space attributes) body) text

  pub IsLooseRow : {m : _} → Row_of-Node m → Scope → List ℕ → Type 0
  IsLooseRow end_of-Node scope text = text ≡ []
  IsLooseRow (more_of-Node n rest) scope text =
      (one : List ℕ) × (others : List ℕ) × IsLooseNode n scope one × IsLooseRow rest scope others × (text ≡ one ++ others)

-- Nodes one behind the other.
abbrev pub AreLooseNodes : List Node → Scope → List ℕ → Type 0
AreLooseNodes [] scope text = text ≡ []
AreLooseNodes (n ∷ ns) scope text =
    (one : List ℕ) × (others : List ℕ) × IsLooseNode n scope one × AreLooseNodes ns scope others × (text ≡ one ++ others)

-- An element with all inside it.
abbrev pub IsLooseElement : List Binding → Scope → Element → List ℕ → Type 0
IsLooseElement first scope e text =
    StandsSo first scope e.space e.name e.attributes e.children (λ body. AreLooseNodes e.children (inside scope e.space e.attributes) body) text

-- A loose text of a tree.
abbrev pub IsLoose : Element → List ℕ → Type 0
IsLoose root text = IsLooseElement (root_bindings root.space) (outermost root.space) root text

-- A loose text of a good tree is a document of this tree, in each charset.
abbrev pub ReadsLoose : Type 0
ReadsLoose = (charset : Charset) (root : Element) (text : List ℕ) → IsGoodTree root → IsLoose root text → Spells charset (encoded charset text) root

-- So in UTF-8 it is read as the tree.
abbrev pub GivesLoose : Type 0
GivesLoose = (root : Element) (text : List ℕ) → IsGoodTree root → IsLoose root text → tree_of Utf8 (encode_utf8_all text) ≡ Some root

-- The one text of a tree is a loose one.
abbrev pub IsOneOfThem : Type 0
IsOneOfThem = (root : Element) → IsLoose root (canonical root)
