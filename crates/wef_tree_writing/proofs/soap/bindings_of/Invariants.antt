use Rattle.std.proofs.Common.{◌≡◌, ◌++◌, drop, map}
use Rattle.wef_xml.specs.declared.bindings.Binding.{Binding}
use Rattle.wef_tree_writing.proofs.soap.bindings_of.Given as goal

abbrev pub invariant-loop-prefix : goal.invariant-loop-prefix
invariant-loop-prefix l =
    l.bindings ++ map (λ p. let b : Binding = record { prefix = p.0.now; space = p.1.now } in b) (drop l.prefix-index l.rows)
    ≡ map (λ p. let b : Binding = record { prefix = p.0.now; space = p.1.now } in b) l.rows
