-- The one text of a tree. Each element has a start tag and an end tag, attributes keep their order and stand behind the
-- declarations, and nothing is added. Texts are in characters here, since a document is.
use Rattle.std.specs.Prelude.{ℕ, ◌==◌, nat_lt, ◌+◌, ◌-◌, ◌/◌, ◌%◌, ◌||◌, is_some, List, [], ◌∷◌, ◌++◌, length, encode_utf8, Option, Some, None, codes, if◌then◌else◌}
use Rattle.std.specs.List.{flat_map}
use Rattle.std.specs.Str.{chars}
use Rattle.wef_base.specs.Names.{same}
use Rattle.wef_base.specs.declared.tree.Attribute.{Attribute}
use Rattle.wef_base.specs.declared.tree.Charset.{Charset}
use Rattle.wef_base.specs.declared.tree.Charset.TheVariants.{Utf8, Utf16}
use Rattle.wef_base.specs.declared.tree.Element.{Element}
use Rattle.wef_base.specs.declared.tree.Node.{Node, Chars, Element', Row_of-Node, end_of-Node, more_of-Node}
use Rattle.wef_xml.specs.Prefixes.{Scope, attribute_prefix, element_prefix, inside, new_bindings, outermost, root_bindings}
use Rattle.wef_xml.specs.declared.bindings.Binding.{Binding}

-- a character as it stands between two tags: markup, and the white space that a reader would change, as references
abbrev pub text_char : ℕ → List ℕ
text_char c =
    if c == 38 then codes "&amp;"
    else (if c == 60 then codes "&lt;"
    else (if c == 62 then codes "&gt;"
    else (if c == 9 then codes "&#x9;"
    else (if c == 10 then codes "&#xA;"
    else (if c == 13 then codes "&#xD;"
    else c ∷ [])))))

-- a character as it stands in a value, where `"` is one too
abbrev pub value_char : ℕ → List ℕ
value_char c = if c == 34 then codes "&quot;" else text_char c

abbrev pub text_of : List ℕ → List ℕ
text_of text = flat_map text_char (chars text)

abbrev pub value_of : List ℕ → List ℕ
value_of value = flat_map value_char (chars value)

-- a name with its prefix, if it has one
abbrev pub name_of : Option (List ℕ) → List ℕ → List ℕ
name_of None local = chars local
name_of (Some prefix) local = chars prefix ++ 58 ∷ chars local

-- `="value"`
abbrev pub assigned : List ℕ → List ℕ
assigned value = codes "=\"" ++ value_of value ++ 34 ∷ []

-- the declaration of a prefix
abbrev pub declaration_of : Binding → List ℕ
declaration_of b = codes " xmlns:" ++ chars b.prefix ++ assigned b.space

-- the declaration of a default namespace, where the element has no prefix and another one is in force
abbrev pub default_of : Scope → List ℕ → List ℕ
default_of scope space =
    if is_some (element_prefix scope.soap space) || same scope.default space then [] else codes " xmlns" ++ assigned space

-- an attribute, behind a space
abbrev pub attribute_of : List Binding → Attribute → List ℕ
attribute_of bound a = 32 ∷ name_of (attribute_prefix bound a.space) a.name ++ assigned a.value

-- A start tag. `first`: what it declares besides its own needs.
abbrev pub start_of : List Binding → Scope → List ℕ → List ℕ → List Attribute → List ℕ
start_of first scope space name attributes =
    60 ∷ name_of (element_prefix scope.soap space) name ++ default_of scope space
    ++ flat_map declaration_of first ++ flat_map declaration_of (new_bindings scope.bound attributes)
    ++ flat_map (attribute_of (inside scope space attributes).bound) attributes ++ 62 ∷ []

abbrev pub end_of : Scope → List ℕ → List ℕ → List ℕ
end_of scope space name = codes "</" ++ name_of (element_prefix scope.soap space) name ++ 62 ∷ []

abbrev mutual
  -- a node with all inside it
  pub node_of : Node → Scope → List ℕ
  node_of (Chars text) scope = text_of text
  node_of (Element' space name attributes shape row) scope =
      start_of [] scope space name attributes ++ row_of row (inside scope space attributes) ++ end_of scope space name

  pub row_of : {m : _} → Row_of-Node m → Scope → List ℕ
  row_of end_of-Node scope = []
  row_of (more_of-Node n rest) scope = node_of n scope ++ row_of rest scope

-- an element with all inside it
abbrev pub element_text : List Binding → Scope → Element → List ℕ
element_text first scope e =
    start_of first scope e.space e.name e.attributes ++ flat_map (λ n. node_of n (inside scope e.space e.attributes)) e.children
    ++ end_of scope e.space e.name

-- the text of a tree, in characters
abbrev pub canonical : Element → List ℕ
canonical root = element_text (root_bindings root.space) (outermost root.space) root

-- a unit of UTF-16, the low byte first
abbrev pub unit_bytes : ℕ → List ℕ
unit_bytes u = (u % 256) ∷ (u / 256) ∷ []

-- a character in bytes; in UTF-16 one past U+FFFF is a pair of units (RFC 2781, 2.1)
abbrev pub character_bytes : Charset → ℕ → List ℕ
character_bytes Utf8 c = encode_utf8 c
character_bytes Utf16 c =
    if nat_lt c 0x10000 then unit_bytes c
    else unit_bytes (0xD800 + (c - 0x10000) / 1024) ++ unit_bytes (0xDC00 + (c - 0x10000) % 1024)

-- the byte order mark that is written: none in UTF-8, little-endian in UTF-16
abbrev pub written_mark : Charset → List ℕ
written_mark Utf8 = []
written_mark Utf16 = 0xFF ∷ 0xFE ∷ []

-- characters in bytes
abbrev pub bytes_of : Charset → List ℕ → List ℕ
bytes_of charset cs = flat_map (character_bytes charset) cs

-- characters in bytes, behind the mark
abbrev pub encoded : Charset → List ℕ → List ℕ
encoded charset cs = written_mark charset ++ bytes_of charset cs

-- bytes, where they are at most so many
abbrev pub unless_longer : ℕ → List ℕ → Option (List ℕ)
unless_longer limit bytes = if nat_lt limit (length bytes) then None else Some bytes
