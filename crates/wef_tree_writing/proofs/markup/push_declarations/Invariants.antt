use Rattle.std.proofs.Common.{◌≡◌, ◌++◌, drop}
use Rattle.std.specs.List.{flat_map}
use Rattle.wef_xml.specs.Canonical.{declaration_of}
use Rattle.wef_tree_writing.proofs.markup.push_declarations.Given as goal

abbrev pub invariant-loop-binding : goal.invariant-loop-binding
invariant-loop-binding l = l.out ++ flat_map declaration_of (drop l.binding-index l.bindings) ≡ l.fn.out ++ flat_map declaration_of l.bindings
