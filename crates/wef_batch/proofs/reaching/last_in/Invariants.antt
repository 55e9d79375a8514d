use Rattle.std.proofs.Common.{◌≡◌, ◌≤◌, drop}
use Rattle.std.specs.Prelude.{IfSome}
use Rattle.wef_base.specs.declared.numbers.TheConstants.{MAX}
use Rattle.wef_batch.specs.Numbers.{AreNumbered}
use Rattle.wef_batch.specs.Reach.{last_after, last_in}
use Rattle.wef_batch.proofs.reaching.last_in.Given as goal

abbrev pub invariant-loop-item : goal.invariant-loop-item
invariant-loop-item l = record {
  value : last_after l.channel l.last (drop l.item-index l.items) ≡ last_in l.channel l.items;
  numbered : AreNumbered l.items → AreNumbered (drop l.item-index l.items);
  bound : AreNumbered l.items → IfSome l.last (λ n. n ≤ MAX);
}
