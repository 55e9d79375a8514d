-- What was known is; with what is left of the declarations, all are known.
use Rattle.std.proofs.Common.{drop}
use Rattle.wef_xml.specs.Told.{IsFound}
use Rattle.wef_tree_reading.specs.Known.{AreGivensIn, Grows, Holds}
use Rattle.wef_tree_reading.proofs.known.Known.add_declared.Given as goal

abbrev pub invariant-loop-one : goal.invariant-loop-one
invariant-loop-one l = record {
  grows : Grows l.fn.self l.self;
  knows : Holds l.self (λ find. AreGivensIn (IsFound find) (drop l.one-index l.given) → AreGivensIn (IsFound find) l.given);
}
