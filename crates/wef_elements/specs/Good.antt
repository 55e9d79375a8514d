-- Good trees among elements.
use Rattle.std.specs.Prelude.{ℕ, List}
use Rattle.std.specs.List.{AllByRecursion}
use Rattle.wef_base.specs.declared.tree.Element.{Element}
use Rattle.wef_xml.specs.Good.{IsGoodElement}

-- each of some elements is good, with room for so many in one another
abbrev pub AreGoodElements : List Element → ℕ → Type 0
AreGoodElements es room = AllByRecursion (λ (e : Element). IsGoodElement e room) es
