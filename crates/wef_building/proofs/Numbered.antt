-- Items with numbers such as records have.
use Rattle.std.proofs.Common.{List, [], ◌∷◌, ◌++◌}
use Rattle.wef_batch.specs.Numbers.{AreNumbered, IsNumbered}
use Rattle.wef_batch.specs.declared.items.Item.{Item}

-- one item more
pub push_numbered : (items : List Item) (i : Item) → AreNumbered items → IsNumbered i → AreNumbered (items ++ i ∷ [])
push_numbered [] i all one = (one, tt)
push_numbered (first ∷ items) i all one = (all.0, push_numbered items i all.1 one)
