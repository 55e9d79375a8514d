-- The nodes that a path reaches from a place (XPath 1.0, 2: location paths), by a clause for each rule of the grammar.
use Rattle.std.specs.Prelude.{ℕ, ◌+◌, ◌==◌, nat_lt, Bool, true, false, not, ◌&&◌, ◌||◌, List, [], ◌∷◌, length, map, Option, Some, None, if◌then◌else◌}
use Rattle.std.specs.List.{list_all, list_any, filter_map, flat_map}
use Rattle.wef_base.specs.Names.{same}
use Rattle.wef_base.specs.declared.tree.Attribute.{Attribute}
use Rattle.wef_base.specs.declared.tree.Element.{Element}
use Rattle.wef_base.specs.declared.tree.Node.{Node, out-Node, Node-F}
use Rattle.wef_query_tokens.specs.declared.axis.Axis.{Axis}
use Rattle.wef_query_tokens.specs.declared.axis.Axis.TheVariants.{Child, Attribute as Side}
use Rattle.wef_query_tokens.specs.declared.operator.Operator.{Operator}
use Rattle.wef_query_tokens.specs.declared.operator.Operator.TheVariants.{Equal, NotEqual, Less, LessOrEqual, Greater, GreaterOrEqual}
use Rattle.wef_query_paths.specs.declared.path.NameTest.{NameTest}
use Rattle.wef_query_paths.specs.declared.path.NameTest.TheVariants.{Any, Named}
use Rattle.wef_query_paths.specs.declared.path.Literal.{Literal}
use Rattle.wef_query_paths.specs.declared.path.Literal.TheVariants.{Number, Quoted}
use Rattle.wef_query_paths.specs.declared.path.And.{And}
use Rattle.wef_query_paths.specs.declared.path.Or.{Or}
use Rattle.wef_query_paths.specs.declared.path.Path.{Path}
use Rattle.wef_query_paths.specs.declared.path.Predicate.{Predicate}
use Rattle.wef_query_paths.specs.declared.path.Step.{Step}
use Rattle.wef_query_paths.specs.declared.path.Unit.{Unit}
use Rattle.wef_query_paths.specs.declared.path.Value.{Value}
use Rattle.wef_query_paths.specs.declared.path.Predicate.TheFolds.{fold-Predicate, fold-Unit, fold-Value, fold-And, fold-Or, fold-Path, fold-Step}
use Rattle.wef_query_paths.specs.declared.path.Predicate.TheOpen.{Predicate-F, At, Whether, Unit-F, Group, Alone, Compared, Mirrored, Value-F, Nodes, Position, Band, And-F, Or-F, Path-F, Step-F}
use Rattle.wef_query_values.specs.Comparisons.{compares, has_bits, masked_compares}
use Rattle.wef_query_values.specs.Operators.{mirrored}
use Rattle.wef_query_values.specs.Places.{Place, Document, Inside, Worth}

-- whether something holds of a node that stands at this place among its siblings, the first at 1
abbrev pub Test : Type 0
Test = Place → ℕ → Bool

-- the nodes that are found from a node
abbrev pub Finds : Type 0
Finds = Place → List Place

-- what a value speaks of: the nodes of a path, the place of the node itself, or the bits of a mask in the numbers of nodes
pub data Given : Type 0 where
  Found : Finds → Given
  Counted : Given
  Masked : Finds → ℕ → Given

-- ---- the nodes of an axis, of which a step takes those of its name

-- whether a step takes nodes of a local name; namespaces aren't looked at
abbrev pub takes : NameTest → List ℕ → Bool
takes Any name = true
takes (Named wanted) name = same name wanted

-- a node, where a step takes its name
abbrev pub if_taken : NameTest → List ℕ → Place → Option Place
if_taken test name place = if takes test name then Some place else None

-- an element, where a step takes it
abbrev pub taken_element : NameTest → Element → Option Place
taken_element test e = if_taken test e.name (Inside e)

-- a child, where it is an element that a step takes
abbrev pub taken_child : NameTest → Node → Option Place
taken_child test n = elim (out-Node n) [ Node-F.Element e ↦ taken_element test e | Node-F.Chars text ↦ None ]

-- an attribute, where a step takes it
abbrev pub taken_attribute : NameTest → Attribute → Option Place
taken_attribute test a = if_taken test a.name (Worth a.value)

-- for each child or attribute in order the node that it is, where a step takes it; a document's one child is its root
abbrev pub slots : Axis → NameTest → Place → List (Option Place)
slots Child test (Document root) = taken_element test root ∷ []
slots Child test (Inside e) = map (taken_child test) e.children
slots Child test (Worth text) = []
slots Side test (Document root) = []
slots Side test (Inside e) = map (taken_attribute test) e.attributes
slots Side test (Worth text) = []

-- those that are there
abbrev pub somes : List (Option Place) → List Place
somes os = filter_map (λ o. o) os

-- ---- predicates

-- the nodes that a predicate keeps, of which so many stood before
abbrev pub kept : Test → ℕ → List Place → List Place
kept holds n [] = []
kept holds n (x ∷ xs) = if holds x (n + 1) then x ∷ kept holds (n + 1) xs else kept holds (n + 1) xs

-- the nodes that predicates leave, each of which counts those that the ones before it left
abbrev pub left_by : List Test → List Place → List Place
left_by [] xs = xs
left_by (p ∷ ps) xs = left_by ps (kept p 0 xs)

-- whether one number is to another as an operator says
abbrev pub ordered : Operator → ℕ → ℕ → Bool
ordered Equal a b = a == b
ordered NotEqual a b = not (a == b)
ordered Less a b = nat_lt a b
ordered LessOrEqual a b = not (nat_lt b a)
ordered Greater a b = nat_lt b a
ordered GreaterOrEqual a b = not (nat_lt a b)

-- whether a place compares so with a literal; with a text it never does
abbrev pub place_compares : Operator → Literal → ℕ → Bool
place_compares op (Number number) place = ordered op place number
place_compares op (Quoted text) place = false

-- whether there is what a value speaks of: a node, or one of the bits in a node; each node has a place
abbrev pub alone : Given → Test
alone (Found finds) x n = not (length (finds x) == 0)
alone Counted x n = true
alone (Masked finds mask) x n = list_any (has_bits mask) (finds x)

-- whether what a value speaks of compares so with a literal: the place, or one of the nodes
abbrev pub compared : Given → Operator → Literal → Test
compared (Found finds) op literal x n = list_any (compares op literal) (finds x)
compared Counted op literal x n = place_compares op literal n
compared (Masked finds mask) op literal x n = list_any (masked_compares mask op literal) (finds x)

-- ---- the rules of the grammar, each with the meaning of its parts in their place

-- a path's nodes, `position()`, or the bits of a mask in a path's nodes
abbrev pub value_step : Value-F Test Test Given Test Test Finds Finds → Given
value_step (Nodes finds) = Found finds
value_step Position = Counted
value_step (Band finds mask) = Masked finds mask

-- what stands in brackets, a value alone, or one that compares with a literal behind it or before it
abbrev pub unit_step : Unit-F Test Test Given Test Test Finds Finds → Test
unit_step (Group o) = o
unit_step (Alone value) = alone value
unit_step (Compared value op literal) = compared value op literal
unit_step (Mirrored literal op value) = compared value (mirrored op) literal

-- all of the units hold
abbrev pub and_step : And-F Test Test Given Test Test Finds Finds → Test
and_step a x n = a.first x n && list_all (λ u. u x n) a.rest

-- one of those hold that `or` joins
abbrev pub or_step : Or-F Test Test Given Test Test Finds Finds → Test
or_step o x n = o.first x n || list_any (λ a. a x n) o.rest

-- the node has this place, or a condition holds of it
abbrev pub predicate_step : Predicate-F Test Test Given Test Test Finds Finds → Test
predicate_step (At place) x n = n == place
predicate_step (Whether o) x n = o x n

-- of the children or attributes that a step takes, those that its predicates leave
abbrev pub step_step : Step-F Test Test Given Test Test Finds Finds → Finds
step_step s x = left_by s.predicates (somes (slots s.axis s.test x))

-- the nodes that steps reach, one after the other, each from all nodes of the one before it
abbrev pub after : List Finds → List Place → List Place
after [] xs = xs
after (s ∷ ss) xs = after ss (flat_map s xs)

-- what the first step reaches, and all others behind it
abbrev pub path_step : Path-F Test Test Given Test Test Finds Finds → Finds
path_step p x = after p.rest (p.first x)

-- ---- paths and their parts

-- the nodes that a path finds from a node, in the order of the document
abbrev pub nodes : Path → Place → List Place
nodes = fold-Path Test Test Given Test Test Finds Finds predicate_step unit_step value_step and_step or_step path_step step_step

-- whether a path gives a node of an event, which is the child of a document (XPath 1.0, 5.1)
unfoldable pub gives : Path → Element → Bool
gives p root = not (length (nodes p (Document root)) == 0)

-- the nodes that a step reaches from a node
abbrev pub goes : Step → Place → List Place
goes = fold-Step Test Test Given Test Test Finds Finds predicate_step unit_step value_step and_step or_step path_step step_step

-- whether a predicate, and each part of one, holds of a node with this place
abbrev pub holds : Predicate → Place → ℕ → Bool
holds = fold-Predicate Test Test Given Test Test Finds Finds predicate_step unit_step value_step and_step or_step path_step step_step

abbrev pub holds_or : Or → Place → ℕ → Bool
holds_or = fold-Or Test Test Given Test Test Finds Finds predicate_step unit_step value_step and_step or_step path_step step_step

abbrev pub holds_and : And → Place → ℕ → Bool
holds_and = fold-And Test Test Given Test Test Finds Finds predicate_step unit_step value_step and_step or_step path_step step_step

abbrev pub holds_unit : Unit → Place → ℕ → Bool
holds_unit = fold-Unit Test Test Given Test Test Finds Finds predicate_step unit_step value_step and_step or_step path_step step_step

-- what a value speaks of
abbrev pub given : Value → Given
given = fold-Value Test Test Given Test Test Finds Finds predicate_step unit_step value_step and_step or_step path_step step_step
