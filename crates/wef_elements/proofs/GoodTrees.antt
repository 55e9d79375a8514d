-- Elements of good parts are good.
use Rattle.std.proofs.Common.{◌≡◌, ℕ, suc, ◌==◌, Bool, true, false, cond, List, [], ◌∷◌, length, refl, ap, ◌∙◌}
use Rattle.wef_base.specs.declared.tree.Attribute.{Attribute}
use Rattle.wef_base.specs.declared.tree.Element.{Element}
use Rattle.wef_base.specs.declared.tree.Node.{Node, Chars}
use Rattle.wef_base.specs.declared.tree.Node.TheVariants.{Element as Child}
use Rattle.wef_xml.specs.Good.{AreGoodNodes, IsGoodElement, IsGoodHead, IsLocalName, IsXmlText, are_apart}
use Rattle.wef_xml.proofs.GoodNodes.{good_child, is_no_text}
use Rattle.wef_elements.specs.Children.{as_nodes, with_attributes, with_elements, with_text}
use Rattle.wef_elements.specs.Good.{AreGoodElements}
use Rattle.wef_elements.specs.Texts.{only_text}

-- a name and a namespace without attributes
pub bare_head : (space name : List ℕ) → IsXmlText space → IsLocalName name → IsGoodHead space name []
bare_head space name in_space named = record { named = named; in_space = in_space; attributed = tt; different = refl }

-- ---- children

-- nodes that stand apart and are good
abbrev pub AreGoodChildren : List Node → ℕ → Type 0
AreGoodChildren ns room = (are_apart false ns ≡ true) × AreGoodNodes ns room

-- an element in front of others
pub with_one : (e : Element) (ns : List Node) (room : ℕ) → IsGoodElement e room → AreGoodChildren ns room → AreGoodChildren (Child e ∷ ns) room
with_one e ns room good rest = (ap (λ b. are_apart b ns) (is_no_text e) ∙ rest.0, (good_child (Child e) e room refl good, rest.1))

pub elements_good : (es : List Element) (room : ℕ) → AreGoodElements es room → AreGoodChildren (as_nodes es) room
elements_good [] room good = (refl, tt)
elements_good (e ∷ es) room good = with_one e (as_nodes es) room good.0 (elements_good es room good.1)

-- a text as the children of an element
pub children_of_text : (text : List ℕ) (room : ℕ) → IsXmlText text → AreGoodChildren (only_text text) room
children_of_text text room allowed = by (length text == 0) refl
  where
    by : (b : Bool) → (length text == 0) ≡ b → AreGoodChildren (cond b [] (Chars text ∷ [])) room
    by true e = (refl, tt)
    by false e = (refl, (record { allowed = allowed; some = e }, tt))

-- ---- elements

-- an element of a good head and good children
of_parts :
    (space name : List ℕ) (attributes : List Attribute) (children : List Node) (room : ℕ) → IsGoodHead space name attributes → AreGoodChildren children room →
    IsGoodElement (record { space = space; name = name; attributes = attributes; children = children }) (suc room)
of_parts space name attributes children room head inner = (head, inner.0, inner.1)

-- one that has attributes and a text
pub said_good :
    (space name : List ℕ) (attributes : List Attribute) (text : List ℕ) (room : ℕ) → IsGoodHead space name attributes → IsXmlText text →
    IsGoodElement (with_attributes space name attributes text) (suc room)
said_good space name attributes text room head allowed = of_parts space name attributes (only_text text) room head (children_of_text text room allowed)

-- one that has a text alone
pub leaf_good : (space name text : List ℕ) (room : ℕ) → IsXmlText space → IsLocalName name → IsXmlText text → IsGoodElement (with_text space name text) (suc room)
leaf_good space name text room in_space named allowed = said_good space name [] text room (bare_head space name in_space named) allowed

-- one that has elements
pub holder_good :
    (space name : List ℕ) (es : List Element) (room : ℕ) → IsXmlText space → IsLocalName name → AreGoodElements es room → IsGoodElement (with_elements space name es) (suc room)
holder_good space name es room in_space named good = of_parts space name [] (as_nodes es) room (bare_head space name in_space named) (elements_good es room good)
