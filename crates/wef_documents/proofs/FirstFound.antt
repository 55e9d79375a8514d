-- What is so of the first element and of the first found behind it is so of the first found among all.
use Rattle.std.proofs.Common.{Bool, true, false, cond}
use Rattle.std.specs.Prelude.{Option, Some, IfSome}
use Rattle.wef_base.specs.declared.tree.Element.{Element}

pub either_is : (P : Element → Type 0) (b : Bool) (e : Element) (o : Option Element) → P e → IfSome o P → IfSome (cond b (Some e) o) P
either_is P true e o first rest = first
either_is P false e o first rest = rest
