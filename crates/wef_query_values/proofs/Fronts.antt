-- The texts of nodes, stripped one after the other.
use Rattle.std.proofs.Common.{◌≡◌, ℕ, suc, ◌+◌, ◌<◌, List, ◌∷◌, length, get_or, drop, Option, ap, sym, ◌∙◌, arith, drop-cons}
use Rattle.std.specs.List.{flat_map}
use Rattle.std.specs.Option.{option_and_then}
use Rattle.wef_base.specs.declared.tree.Node.{Node}
use Rattle.wef_elements.specs.Texts.{text_in}
use Rattle.wef_query_values.specs.Stripped.{behind}
use Rattle.wef_query_values.proofs.Stripped.{behind_append}

-- behind one node come the others
pub next_node : (nodes : List Node) (at : ℕ) (node : Node) (text : List ℕ) (o : Option (List ℕ)) → at < length nodes → node ≡ get_or nodes at node →
    o ≡ behind (text_in node) text →
    option_and_then (behind (flat_map text_in (drop (at + 1) nodes))) o ≡ behind (flat_map text_in (drop at nodes)) text
next_node nodes at node text o inside is given =
    let step : at + 1 ≡ suc at = omega arith in
    let rest = drop (at + 1) nodes in
    let split : drop at nodes ≡ node ∷ rest = drop-cons nodes at node inside ∙ (λ i. sym is i ∷ drop (sym step i) nodes) in
    ap (option_and_then (behind (flat_map text_in rest))) given
    ∙ sym (behind_append (text_in node) (flat_map text_in rest) text)
    ∙ ap (λ ns. behind (flat_map text_in ns) text) (sym split)
