-- Good trees: those that documents say, and that have a document. Names are names without `:`, texts, values and
-- namespaces hold characters that XML allows, no text is empty or stands beside another, no two attributes of an element
-- have one namespace and local name, none is called `xmlns` without a namespace, and at most 64 elements stand in one
-- another.
use Rattle.std.specs.Prelude.{◌≡◌, ℕ, zero, suc, Bool, true, false, ◌&&◌, not, List, [], ◌∷◌, ◌++◌, encode_utf8_all}
use Rattle.std.specs.List.{list_all, list_any}
use Rattle.wef_base.specs.Characters.{is_xml_char}
use Rattle.wef_base.specs.declared.tree.Attribute.{Attribute}
use Rattle.wef_base.specs.declared.tree.Element.{Element}
use Rattle.wef_base.specs.declared.tree.Node.{Node, Chars, Element', Row_of-Node, end_of-Node, more_of-Node, items-the_row-Node}
use Rattle.wef_xml.specs.Letters.{is_name_char, is_name_start}
use Rattle.wef_xml.specs.Spaces.{is_attribute, is_empty, is_xmlns}

-- how many elements may be in one another
abbrev pub greatest_depth : ℕ
greatest_depth = 64

-- a text of characters that XML allows
pub record IsXmlText (text : List ℕ) : Type 0 where
  pub characters : List ℕ
  pub spelt : text ≡ encode_utf8_all characters
  pub allowed : list_all is_xml_char characters ≡ true

-- a name without `:`
pub record IsLocalName (name : List ℕ) : Type 0 where
  pub first : ℕ
  pub more : List ℕ
  pub spelt : name ≡ encode_utf8_all (first ∷ more)
  pub begins : is_name_start first ≡ true
  pub goes_on : list_all is_name_char more ≡ true

-- an attribute by itself
pub record IsGoodAttribute (a : Attribute) : Type 0 where
  pub name : IsLocalName a.name
  pub space : IsXmlText a.space
  pub value : IsXmlText a.value
  pub no_declaration : (is_empty a.space && is_xmlns a.name) ≡ false

abbrev pub AreGoodAttributes : List Attribute → Type 0
AreGoodAttributes [] = Unit {0}
AreGoodAttributes (a ∷ more) = IsGoodAttribute a × AreGoodAttributes more

-- no attribute has the namespace and the local name of one before it; some stand before all of these
abbrev pub differ_behind : List Attribute → List Attribute → Bool
differ_behind before [] = true
differ_behind before (a ∷ more) = not (list_any (is_attribute a.space a.name) before) && differ_behind (before ++ a ∷ []) more

abbrev pub are_different : List Attribute → Bool
are_different attributes = differ_behind [] attributes

-- what an element is apart from its children
pub record IsGoodHead (space name : List ℕ) (attributes : List Attribute) : Type 0 where
  pub named : IsLocalName name
  pub in_space : IsXmlText space
  pub attributed : AreGoodAttributes attributes
  pub different : are_different attributes ≡ true

abbrev pub is_text : Node → Bool
is_text (Chars text) = true
is_text (Element' space name attributes shape row) = false

-- no text stands beside another; `after`: a text stands before these
abbrev pub are_apart : Bool → List Node → Bool
are_apart after [] = true
are_apart after (n ∷ ns) = not (after && is_text n) && are_apart (is_text n) ns

-- a text that may stand between two tags
pub record IsGoodText (text : List ℕ) : Type 0 where
  pub allowed : IsXmlText text
  pub some : is_empty text ≡ false

-- A node, inside of which so many elements may stand in one another.
abbrev mutual
  pub IsGoodNode : Node → ℕ → Type 0
  IsGoodNode (Chars text) room = IsGoodText text
  IsGoodNode (Element' space name attributes shape row) zero = ⊥
  IsGoodNode (Element' space name attributes shape row) (suc room) =
      IsGoodHead space name attributes × (are_apart false (items-the_row-Node _ row) ≡ true) × IsGoodRow row room

  pub IsGoodRow : {m : _} → Row_of-Node m → ℕ → Type 0
  IsGoodRow end_of-Node room = Unit {0}
  IsGoodRow (more_of-Node n rest) room = IsGoodNode n room × IsGoodRow rest room

abbrev pub AreGoodNodes : List Node → ℕ → Type 0
AreGoodNodes [] room = Unit {0}
AreGoodNodes (n ∷ ns) room = IsGoodNode n room × AreGoodNodes ns room

-- An element with this many elements in one another, itself the first.
abbrev pub IsGoodElement : Element → ℕ → Type 0
IsGoodElement e zero = ⊥
IsGoodElement e (suc room) = IsGoodHead e.space e.name e.attributes × (are_apart false e.children ≡ true) × AreGoodNodes e.children room

-- a good tree, by its root
abbrev pub IsGoodTree : Element → Type 0
IsGoodTree root = IsGoodElement root greatest_depth
