-- How great a node is, so that what is in it is less.
use Rattle.std.proofs.Common.{◌≡◌, ℕ, zero, suc, ◌+◌, ◌<◌, List, [], ◌∷◌, drop, drop-cons, get_or, length, refl, ap, sym, ◌∙◌, subst, arith}
use Rattle.wef_base.specs.declared.tree.Element.{Element}
use Rattle.wef_base.specs.declared.tree.Node.{Node, Chars, Element', Row_of-Node, end_of-Node, more_of-Node, items-the_row-Node, items_shown-the_row-Node-0, out-Node, Node-F}
use Rattle.wef_base.specs.declared.tree.Node.TheVariants.{Element as Child, outs-Chars, outs-Element', outs-Element}

abbrev mutual
  pub node_size : Node → ℕ
  node_size (Chars text) = 0
  node_size (Element' space name attributes shape row) = row_size row + 1

  pub row_size : {m : _} → Row_of-Node m → ℕ
  row_size end_of-Node = 1
  row_size (more_of-Node n rest) = node_size n + row_size rest

abbrev pub nodes_size : List Node → ℕ
nodes_size [] = 1
nodes_size (n ∷ ns) = node_size n + nodes_size ns

row_is : {m : _} (row : Row_of-Node m) → row_size row ≡ nodes_size (items-the_row-Node m row)
row_is end_of-Node = refl
row_is (more_of-Node n rest) = ap (λ (k : ℕ). node_size n + k) (row_is rest)

pub element_size : (n : Node) (e : Element) → n ≡ Child e → node_size n ≡ nodes_size e.children + 1
element_size (Chars text) e same = let opened = sym (outs-Chars text) ∙ ap out-Node same ∙ outs-Element e in cc
element_size (Element' space name attributes shape row) e same =
    let opened = sym (outs-Element' space name attributes shape row) ∙ ap out-Node same ∙ outs-Element e in
    let P : Element → Type 0 = λ x. row_size row + 1 ≡ nodes_size x.children + 1 in
    subst P (ap (λ x. elim x [ Node-F.Element z ↦ z | Node-F.Chars t ↦ e ]) opened)
    (ap (λ (k : ℕ). k + 1) (row_is row) ∙ ap (λ ns. nodes_size ns + 1) (sym (items_shown-the_row-Node-0 shape row)))

-- what stands at an index and behind it
pub item_at : (ns : List Node) (index : ℕ) (n : Node) → index < length ns → n ≡ get_or ns index n → drop index ns ≡ n ∷ drop (suc index) ns
item_at ns index n inside is = drop-cons ns index n inside ∙ ap (λ x. x ∷ drop (suc index) ns) (sym is)

some_size : (ns : List Node) → 0 < nodes_size ns
some_size [] = omega arith
some_size (n ∷ ns) = let more = some_size ns in omega arith

pub child_size : (ns : List Node) (index : ℕ) (n : Node) (rest : List Node) → drop index ns ≡ n ∷ rest → node_size n < nodes_size ns
child_size [] zero n rest e = absurd (cc)
child_size [] (suc index) n rest e = absurd (cc)
child_size (m ∷ ms) zero n rest e =
    let P : List Node → Type 0 = λ ns. node_size n < nodes_size ns in
    let some = some_size rest in
    subst P (sym e) (omega arith)
child_size (m ∷ ms) (suc index) n rest e = let more = child_size ms index n rest e in omega arith
