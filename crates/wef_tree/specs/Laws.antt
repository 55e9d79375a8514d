-- What is written for a tree is read as this tree.
use Rattle.std.specs.Prelude.{◌≡◌}
use Rattle.wef_base.specs.declared.tree.Charset.{Charset}
use Rattle.wef_base.specs.declared.tree.Element.{Element}
use Rattle.wef_xml.specs.Canonical.{canonical, encoded}
use Rattle.wef_xml.specs.Good.{IsGoodTree}
use Rattle.wef_tree_reading.specs.Spelling.{Spells}

-- What is written for a good tree is a document of this tree, in each charset.
abbrev pub ReadsBack : Type 0
ReadsBack = (charset : Charset) (root : Element) → IsGoodTree root → Spells charset (encoded charset (canonical root)) root

-- Two good trees with one text are one.
abbrev pub HasOneTree : Type 0
HasOneTree = (one other : Element) → IsGoodTree one → IsGoodTree other → canonical one ≡ canonical other → one ≡ other
