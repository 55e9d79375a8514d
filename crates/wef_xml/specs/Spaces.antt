-- Namespaces and prefixes of XML itself, and which attributes have one name (Namespaces in XML 1.0, 3 and 6.3).
use Rattle.std.specs.Prelude.{ℕ, ◌==◌, Bool, ◌&&◌, List, length, codes}
use Rattle.wef_base.specs.Names.{same}
use Rattle.wef_base.specs.declared.tree.Attribute.{Attribute}

-- the namespace of the prefix `xml`
unfoldable pub xml_space : List ℕ
xml_space = codes "http://www.w3.org/XML/1998/namespace"

-- whether a namespace is that of the prefix `xml`
unfoldable pub is_xml_space : List ℕ → Bool
is_xml_space space = same space xml_space

unfoldable pub is_xml_prefix : List ℕ → Bool
is_xml_prefix word = same word (codes "xml")

unfoldable pub is_xmlns : List ℕ → Bool
is_xmlns word = same word (codes "xmlns")

abbrev pub is_empty : List ℕ → Bool
is_empty text = length text == 0

-- an attribute of this namespace and local name
abbrev pub is_attribute : List ℕ → List ℕ → Attribute → Bool
is_attribute space name a = same name a.name && same space a.space
