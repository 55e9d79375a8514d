-- The text of an element, by the data that a node is.
use Rattle.std.proofs.Common.{◌≡◌, ℕ, ◌+◌, ◌≤◌, List, [], ◌∷◌, ◌++◌, length, drop, refl, ap, sym, ◌∙◌, subst, append_assoc, append-nil, arith}
use Rattle.std.proofs.lemmas.Grind.{flat_map-append}
use Rattle.std.proofs.lemmas.List.{drop_all, length-append}
use Rattle.std.specs.List.{flat_map}
use Rattle.std.specs.Prelude.{IfErr, Result}
use Rattle.std.specs.declared.result.Result.TheVariants.{Ok, Err}
use Rattle.wef_base.specs.declared.tree.Attribute.{Attribute}
use Rattle.wef_base.specs.declared.tree.Element.{Element}
use Rattle.wef_base.specs.declared.tree.Node.{Node, Chars, Element', Row_of-Node, end_of-Node, more_of-Node, items-the_row-Node, items_shown-the_row-Node-0, out-Node, Node-F}
use Rattle.wef_base.specs.declared.tree.Node.TheVariants.{Element as Child, outs-Chars, outs-Element', outs-Element}
use Rattle.wef_base.specs.declared.tree.Charset.{Charset}
use Rattle.wef_xml.specs.Canonical.{bytes_of, character_bytes, element_text, end_of, node_of, row_of, start_of}
use Rattle.wef_tree_writing.specs.Levels.{all_of}
use Rattle.wef_tree_writing.specs.Markup.{IsPast, IsTooLong, scope_of}
use Rattle.wef_xml.specs.Prefixes.{Scope, inside, new_bindings}
use Rattle.wef_xml.specs.declared.bindings.Binding.{Binding}
use Rattle.wef_tree_writing.specs.declared.writing.Stop.{Stop}
use Rattle.wef_tree_writing.specs.declared.writing.Stop.TheVariants.{NoMemory, TooLong}
use Rattle.wef_tree_writing.specs.declared.writing.Writer.{Writer}

-- the text of a row of nodes, by its list
row_is : {m : _} (row : Row_of-Node m) (scope : Scope) → row_of row scope ≡ flat_map (λ n. node_of n scope) (items-the_row-Node m row)
row_is end_of-Node scope = refl
row_is (more_of-Node n rest) scope = ap (λ t. node_of n scope ++ t) (row_is rest scope)

-- the same where the children are known as a list
closed :
    (space name : List ℕ) (attributes : List Attribute) (shape : _) (row : Row_of-Node _) (children : List Node) (scope : Scope) →
    children ≡ items-the_row-Node _ row →
    node_of (Element' space name attributes shape row) scope
    ≡ element_text [] scope (record { space = space; name = name; attributes = attributes; children = children })
closed space name attributes shape row children scope same =
    let around : List ℕ → List ℕ = λ t. start_of [] scope space name attributes ++ t ++ end_of scope space name in
    ap around (row_is row _ ∙ ap (λ ns. flat_map (λ n. node_of n (inside scope space attributes)) ns) (sym same))

pub node_text : (n : Node) (e : Element) (scope : Scope) → n ≡ Child e → node_of n scope ≡ element_text [] scope e
node_text (Chars text) e scope same =
    let opened = sym (outs-Chars text) ∙ ap out-Node same ∙ outs-Element e in
    cc
node_text (Element' space name attributes shape row) e scope same =
    let opened = sym (outs-Element' space name attributes shape row) ∙ ap out-Node same ∙ outs-Element e in
    let P : Element → Type 0 = λ x. node_of (Element' space name attributes shape row) scope ≡ element_text [] scope x in
    subst P (ap (λ x. elim x [ Node-F.Element z ↦ z | Node-F.Chars t ↦ e ]) opened)
    (closed space name attributes shape row _ scope (items_shown-the_row-Node-0 shape row))

-- the bytes of a text that goes on are those of its front, and those of what follows
pub in_two : (charset : Charset) (before front more : List ℕ) → before ++ bytes_of charset (front ++ more) ≡ (before ++ bytes_of charset front) ++ bytes_of charset more
in_two charset before front more =
    ap (λ (bytes : List ℕ). before ++ bytes) (flat_map-append (character_bytes charset) front more)
    ∙ sym (append_assoc before (bytes_of charset front) (bytes_of charset more))

in_three :
    (charset : Charset) (before start inner end : List ℕ) →
    ((before ++ bytes_of charset start) ++ bytes_of charset inner) ++ bytes_of charset end ≡ before ++ bytes_of charset ((start ++ inner) ++ end)
in_three charset before start inner end =
    sym (in_two charset before (start ++ inner) end ∙ ap (λ (bytes : List ℕ). bytes ++ bytes_of charset end) (in_two charset before start inner))

-- the bytes of some nodes, node by node
abbrev pub node_bytes : Charset → Scope → Node → List ℕ
node_bytes charset scope n = bytes_of charset (node_of n scope)

nodes_bytes :
    (charset : Charset) (scope : Scope) (ns : List Node) →
    flat_map (node_bytes charset scope) ns ≡ bytes_of charset (flat_map (λ n. node_of n scope) ns)
nodes_bytes charset scope [] = refl
nodes_bytes charset scope (n ∷ ns) =
    ap (λ (bytes : List ℕ). node_bytes charset scope n ++ bytes) (nodes_bytes charset scope ns)
    ∙ sym (flat_map-append (character_bytes charset) (node_of n scope) (flat_map (λ n. node_of n scope) ns))

-- more bytes are too long where their front is
longer : (stop : Stop) (limit : ℕ) (front more : List ℕ) → IsTooLong stop limit front → IsTooLong stop limit (front ++ more)
longer NoMemory limit front more past = tt
longer TooLong limit front more past = let e : length (front ++ more) ≡ length front + length more = length-append front more in omega arith

-- A writer that stops at the front of a text stops at the text.
pub past_front : (stop : Stop) (w : Writer) (front more : List ℕ) → IsPast stop w front → IsPast stop w (front ++ more)
past_front stop w front more past =
    subst (λ (bytes : List ℕ). IsTooLong stop w.limit bytes) (sym (in_two w.charset w.bytes front more))
    (longer stop w.limit (w.bytes ++ bytes_of w.charset front) (bytes_of w.charset more) past)

-- Where a start tag is written, all that is written of an element's children stands behind it.
pub record Inside (w began through : Writer) (first : List Binding) (default inner : List ℕ) (e : Element) (index : ℕ) (items : List Node) : Type 0 where
  pub started : began ≡ record w { bytes = w.bytes ++ bytes_of w.charset (start_of first (scope_of w default) e.space e.name e.attributes); bound = new_bindings (all_of w.bound) e.attributes ∷ w.bound }
  pub inner_is : inner ≡ (inside (scope_of began default) e.space []).default
  pub all : items ≡ e.children
  pub written :
      through.bytes ++ flat_map (node_bytes began.charset (scope_of began inner)) (drop index items)
      ≡ began.bytes ++ flat_map (node_bytes began.charset (scope_of began inner)) items
  pub kept : through ≡ record began { bytes = through.bytes }

-- the same, from what a loop over the children keeps
pub inside_at :
    {w began through : Writer} {first : List Binding} {default inner : List ℕ} {e : Element} {index : ℕ} {items : List Node} →
    began ≡ record w { bytes = w.bytes ++ bytes_of w.charset (start_of first (scope_of w default) e.space e.name e.attributes); bound = new_bindings (all_of w.bound) e.attributes ∷ w.bound } →
    inner ≡ (inside (scope_of began default) e.space []).default → items ≡ e.children →
    record {
      written :
          through.bytes ++ flat_map (node_bytes began.charset (scope_of began inner)) (drop index items)
          ≡ began.bytes ++ flat_map (node_bytes began.charset (scope_of began inner)) items;
      kept : through ≡ record began { bytes = through.bytes };
    } → Inside w began through first default inner e index items
inside_at started inner_is all so_far = record { started = started; inner_is = inner_is; all = all; written = so_far.written; kept = so_far.kept }

-- the same parts of a writer that is further on
root_kept : (w began through : Writer) (first : List Binding) (default inner : List ℕ) (e : Element) (index : ℕ) (items : List Node) →
    Inside w began through first default inner e index items → through.root ≡ w.root
root_kept w began through first default inner e index items is = ap (λ (v : Writer). v.root) is.kept ∙ ap (λ (v : Writer). v.root) is.started

charset_kept : (w began through : Writer) (first : List Binding) (default inner : List ℕ) (e : Element) (index : ℕ) (items : List Node) →
    Inside w began through first default inner e index items → through.charset ≡ w.charset
charset_kept w began through first default inner e index items is = ap (λ (v : Writer). v.charset) is.kept ∙ ap (λ (v : Writer). v.charset) is.started

pub limit_kept : (w began through : Writer) (first : List Binding) (default inner : List ℕ) (e : Element) (index : ℕ) (items : List Node) →
    Inside w began through first default inner e index items → through.limit ≡ w.limit
limit_kept w began through first default inner e index items is = ap (λ (v : Writer). v.limit) is.kept ∙ ap (λ (v : Writer). v.limit) is.started

-- what the children have with the start tag before them, in bytes
with_children :
    (w began through : Writer) (first : List Binding) (default inner : List ℕ) (e : Element) (index : ℕ) (items : List Node) →
    Inside w began through first default inner e index items →
    through.bytes ++ flat_map (node_bytes began.charset (scope_of began inner)) (drop index items)
    ≡ (w.bytes ++ bytes_of w.charset (start_of first (scope_of w default) e.space e.name e.attributes))
    ++ bytes_of w.charset (flat_map (λ n. node_of n (inside (scope_of w default) e.space e.attributes)) e.children)
with_children w began through first default inner e index items is =
    let default_is : inner ≡ (inside (scope_of w default) e.space e.attributes).default =
    is.inner_is ∙ ap (λ (v : Writer). (inside (scope_of v default) e.space []).default) is.started in
    let scope_is : scope_of began inner ≡ inside (scope_of w default) e.space e.attributes =
    λ i. record { default = default_is i; soap = (is.started i).root; bound = all_of (is.started i).bound } in
    let start = bytes_of w.charset (start_of first (scope_of w default) e.space e.name e.attributes) in
    is.written ∙ (λ i. (is.started i).bytes ++ flat_map (node_bytes (is.started i).charset (scope_is i)) (is.all i))
    ∙ ap (λ (bytes : List ℕ). (w.bytes ++ start) ++ bytes) (nodes_bytes w.charset (inside (scope_of w default) e.space e.attributes) e.children)

-- where all children are written, the end tag completes the element
with_end :
    (w began through : Writer) (first : List Binding) (default inner : List ℕ) (e : Element) (index : ℕ) (items : List Node) →
    Inside w began through first default inner e index items → length items ≤ index →
    through.bytes ++ bytes_of through.charset (end_of (record { default = []; soap = through.root; bound = [] }) e.space e.name)
    ≡ w.bytes ++ bytes_of w.charset (element_text first (scope_of w default) e)
with_end w began through first default inner e index items is past =
    let root_is = root_kept w began through first default inner e index items is in
    let charset_is = charset_kept w began through first default inner e index items is in
    let nodes : List Node → List ℕ = λ ns. through.bytes ++ flat_map (node_bytes began.charset (scope_of began inner)) ns in
    let inside_is = sym (append-nil through.bytes) ∙ ap nodes (sym (drop_all index items past)) ∙ with_children w began through first default inner e index items is in
    (λ i. inside_is i ++ bytes_of (charset_is i) (end_of (record { default = []; soap = root_is i; bound = [] }) e.space e.name))
    ∙ in_three w.charset w.bytes (start_of first (scope_of w default) e.space e.name e.attributes)
    (flat_map (λ n. node_of n (inside (scope_of w default) e.space e.attributes)) e.children) (end_of (scope_of w default) e.space e.name)

-- Where a start tag, all children and an end tag are written, and the bindings of the tag are left, the element is written.
pub element_written :
    (w began through : Writer) (first : List Binding) (left : List (List Binding)) (default inner : List ℕ) (e : Element) (index : ℕ) (items : List Node) →
    Inside w began through first default inner e index items → length items ≤ index → left ≡ drop 1 through.bound →
    record through { bytes = through.bytes ++ bytes_of through.charset (end_of (scope_of (record through { bound = left }) []) e.space e.name); bound = left }
    ≡ record w { bytes = w.bytes ++ bytes_of w.charset (element_text first (scope_of w default) e) }
element_written w began through first left default inner e index items is past left_is =
    let bound_is : through.bound ≡ new_bindings (all_of w.bound) e.attributes ∷ w.bound =
    ap (λ (v : Writer). v.bound) is.kept ∙ ap (λ (v : Writer). v.bound) is.started in
    let left_outer : left ≡ w.bound = left_is ∙ ap (λ (levels : List (List Binding)). drop 1 levels) bound_is in
    let alloc_is = ap (λ (v : Writer). v.alloc) is.kept ∙ ap (λ (v : Writer). v.alloc) is.started in
    let charset_is = charset_kept w began through first default inner e index items is in
    let limit_is = limit_kept w began through first default inner e index items is in
    let root_is = root_kept w began through first default inner e index items is in
    let bytes_are = with_end w began through first default inner e index items is past in
    let told_is = ap (λ (v : Writer). v.told) is.kept ∙ ap (λ (v : Writer). v.told) is.started in
    λ i. record { alloc = alloc_is i; told = told_is i; charset = charset_is i; limit = limit_is i; bytes = bytes_are i; root = root_is i; bound = left_outer i; spare = tt }

-- A writer that stops at the start tag stops at the element, and so does one that stops at a child or at the end tag.
pub past_start :
    (stop : Stop) (w : Writer) (first : List Binding) (default : List ℕ) (e : Element) →
    IsPast stop w (start_of first (scope_of w default) e.space e.name e.attributes) → IsPast stop w (element_text first (scope_of w default) e)
past_start stop w first default e past =
    let kids = flat_map (λ n. node_of n (inside (scope_of w default) e.space e.attributes)) e.children in
    let start = start_of first (scope_of w default) e.space e.name e.attributes in
    past_front stop w (start ++ kids) (end_of (scope_of w default) e.space e.name) (past_front stop w start kids past)

pub past_child :
    (stop : Stop) (w began through : Writer) (first : List Binding) (default inner : List ℕ) (e : Element) (index : ℕ) (items : List Node)
    (n : Node) (rest : List Node) →
    Inside w began through first default inner e index items → drop index items ≡ n ∷ rest →
    IsPast stop through (node_of n (scope_of through inner)) → IsPast stop w (element_text first (scope_of w default) e)
past_child stop w began through first default inner e index items n rest is next past =
    let nodes : List Node → List ℕ = λ ns. through.bytes ++ flat_map (node_bytes began.charset (scope_of began inner)) ns in
    let g = node_bytes began.charset (scope_of began inner) in
    let kids = flat_map (λ n. node_of n (inside (scope_of w default) e.space e.attributes)) e.children in
    let start = start_of first (scope_of w default) e.space e.name e.attributes in
    let end = end_of (scope_of w default) e.space e.name in
    let in_began : IsTooLong stop began.limit (through.bytes ++ g n) =
    subst (λ (v : Writer). IsTooLong stop v.limit (through.bytes ++ node_bytes v.charset (scope_of v inner) n)) is.kept past in
    let in_w : IsTooLong stop w.limit (through.bytes ++ g n) =
    subst (λ (v : Writer). IsTooLong stop v.limit (through.bytes ++ g n)) is.started in_began in
    let joined : (through.bytes ++ g n) ++ flat_map g rest ≡ (w.bytes ++ bytes_of w.charset start) ++ bytes_of w.charset kids =
    append_assoc through.bytes (g n) (flat_map g rest) ∙ ap nodes (sym next) ∙ with_children w began through first default inner e index items is in
    let P : List ℕ → Type 0 = λ bytes. IsTooLong stop w.limit bytes in
    subst P (in_three w.charset w.bytes start kids end)
    (longer stop w.limit _ (bytes_of w.charset end) (subst P joined (longer stop w.limit (through.bytes ++ g n) (flat_map g rest) in_w)))

past_end :
    (stop : Stop) (w began through : Writer) (first : List Binding) (left : List (List Binding)) (default inner : List ℕ) (e : Element) (index : ℕ) (items : List Node) →
    Inside w began through first default inner e index items → length items ≤ index →
    IsPast stop (record through { bound = left }) (end_of (scope_of (record through { bound = left }) []) e.space e.name) →
    IsPast stop w (element_text first (scope_of w default) e)
past_end stop w began through first left default inner e index items is all past =
    let limit_is = limit_kept w began through first default inner e index items is in
    let bytes_are = with_end w began through first default inner e index items is all in
    subst (λ (bytes : List ℕ). IsTooLong stop w.limit bytes) bytes_are
    (subst (λ (limit : ℕ). IsTooLong stop limit (through.bytes ++ bytes_of through.charset (end_of (record { default = []; soap = through.root; bound = [] }) e.space e.name))) limit_is past)

pub past_end_of :
    {A : Type 0} (result : Result A Stop) (w began through : Writer) (first : List Binding) (left : List (List Binding)) (default inner : List ℕ) (e : Element) (index : ℕ)
    (items : List Node) → Inside w began through first default inner e index items → length items ≤ index →
    IfErr result (λ stop. IsPast stop (record through { bound = left }) (end_of (scope_of (record through { bound = left }) []) e.space e.name)) →
    IfErr result (λ stop. IsPast stop w (element_text first (scope_of w default) e))
past_end_of (Ok _) w began through first left default inner e index items is all past = tt
past_end_of (Err stop) w began through first left default inner e index items is all past =
    past_end stop w began through first left default inner e index items is all past
