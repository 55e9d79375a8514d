use Rattle.std.proofs.Common.{◌≡◌, ◌++◌, drop}
use Rattle.wef_xml.specs.Prefixes.{bindings_from}
use Rattle.wef_tree_writing.proofs.prefixes.bindings_from.Given as goal

abbrev pub invariant-loop-space : goal.invariant-loop-space
invariant-loop-space l = l.bindings ++ bindings_from l.taken l.number (drop l.space-index l.spaces) ≡ bindings_from l.taken 1 l.spaces
