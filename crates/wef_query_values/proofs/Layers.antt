-- The meaning of a path and of its parts, by their own parts.
use Rattle.std.proofs.Common.{◌≡◌, ◌==◌, ℕ, Bool, ◌&&◌, ◌||◌, List, [], ◌∷◌, map, refl, ◌∙◌, ap}
use Rattle.std.specs.List.{list_all, list_any}
use Rattle.std.proofs.lemmas.List.Folds.{list_all-map}
use Rattle.wef_query_tokens.specs.declared.operator.Operator.{Operator}
use Rattle.wef_query_paths.specs.declared.path.And.{And, out-And}
use Rattle.wef_query_paths.specs.declared.path.Or.{Or, out-Or}
use Rattle.wef_query_paths.specs.declared.path.Path.{Path, out-Path}
use Rattle.wef_query_paths.specs.declared.path.Predicate.{Predicate, map-Predicate, out-Predicate}
use Rattle.wef_query_paths.specs.declared.path.Step.{Step, out-Step}
use Rattle.wef_query_paths.specs.declared.path.Unit.{Unit, map-Unit, out-Unit}
use Rattle.wef_query_paths.specs.declared.path.Value.{Value, map-Value, out-Value}
use Rattle.wef_query_paths.specs.declared.path.Unit.TheVariants.{Compared, Group}
use Rattle.wef_query_paths.specs.declared.path.Literal.{Literal}
use Rattle.wef_query_paths.specs.declared.path.Predicate.TheVariants.{At}
use Rattle.wef_query_paths.specs.declared.path.Value.TheVariants.{Nodes, Position}
use Rattle.wef_query_paths.specs.declared.path.Predicate.TheOpen.{Predicate-F, Unit-F, Value-F}
use Rattle.wef_query_paths.specs.declared.path.Predicate.TheOpen as layer
use Rattle.wef_query_paths.specs.declared.path.Predicate.TheFolds.{fold_out-And, fold_out-Or, fold_out-Path, fold_out-Predicate, fold_out-Step, fold_out-Unit, fold_out-Value}
use Rattle.wef_query_paths.specs.declared.path.Predicate.TheViews.{outs-At, outs-Compared, outs-Group, outs-Nodes, outs-Position}
use Rattle.wef_query_values.specs.Operators.{mirrored}
use Rattle.wef_query_values.specs.Places.{Place}
use Rattle.wef_query_values.specs.Meaning.{Test, Given, Found, Counted, Masked, Finds, after, alone, compared, given, left_by, slots, somes, nodes, goes, holds, holds_or, holds_and, holds_unit, predicate_step, unit_step, value_step, and_step, or_step, path_step, step_step}

pub holds_and_out : (a : And) (x : Place) (n : ℕ) → holds_and a x n ≡ (holds_unit (out-And a).first x n && list_all (λ u. u x n) (map holds_unit (out-And a).rest))
holds_and_out a x n = ap (λ (f : Test). f x n) (fold_out-And Test Test Given Test Test Finds Finds predicate_step unit_step value_step and_step or_step path_step step_step a)

pub holds_or_out : (o : Or) (x : Place) (n : ℕ) → holds_or o x n ≡ (holds_and (out-Or o).first x n || list_any (λ a. a x n) (map holds_and (out-Or o).rest))
holds_or_out o x n = ap (λ (f : Test). f x n) (fold_out-Or Test Test Given Test Test Finds Finds predicate_step unit_step value_step and_step or_step path_step step_step o)

list_any-map : {A B : Type 0} (p : B → Bool) (f : A → B) (xs : List A) → list_any p (map f xs) ≡ list_any (λ x. p (f x)) xs
list_any-map p f [] = refl
list_any-map p f (x ∷ xs) = ap (λ b. p (f x) || b) (list_any-map p f xs)

-- the same by their items
pub holds_and_by : (a : And) (x : Place) (n : ℕ) → holds_and a x n ≡ (holds_unit (out-And a).first x n && list_all (λ u. holds_unit u x n) (out-And a).rest)
holds_and_by a x n = holds_and_out a x n ∙ ap (λ b. holds_unit (out-And a).first x n && b) (list_all-map (λ p. p x n) holds_unit (out-And a).rest)

pub holds_or_by : (o : Or) (x : Place) (n : ℕ) → holds_or o x n ≡ (holds_and (out-Or o).first x n || list_any (λ a. holds_and a x n) (out-Or o).rest)
holds_or_by o x n = holds_or_out o x n ∙ ap (λ b. holds_and (out-Or o).first x n || b) (list_any-map (λ p. p x n) holds_and (out-Or o).rest)

pub nodes_out : (p : Path) (x : Place) → nodes p x ≡ after (map goes (out-Path p).rest) (goes (out-Path p).first x)
nodes_out p x = ap (λ (f : Finds). f x) (fold_out-Path Test Test Given Test Test Finds Finds predicate_step unit_step value_step and_step or_step path_step step_step p)

pub goes_out : (s : Step) (x : Place) → goes s x ≡ left_by (map holds (out-Step s).predicates) (somes (slots (out-Step s).axis (out-Step s).test x))
goes_out s x = ap (λ (f : Finds). f x) (fold_out-Step Test Test Given Test Test Finds Finds predicate_step unit_step value_step and_step or_step path_step step_step s)

-- a unit by its layer
unit_read : Unit-F Predicate Unit Value And Or Path Step → Test
unit_read (layer.Group o) = holds_or o
unit_read (layer.Alone v) = alone (given v)
unit_read (layer.Compared v op literal) = compared (given v) op literal
unit_read (layer.Mirrored literal op v) = compared (given v) (mirrored op) literal

unit_mapped : (l : Unit-F Predicate Unit Value And Or Path Step) → unit_step (map-Unit Predicate Unit Value And Or Path Step Test Test Given Test Test Finds Finds holds holds_unit given holds_and holds_or nodes goes l) ≡ unit_read l
unfolding unit_read
unit_mapped (layer.Group o) = refl
unit_mapped (layer.Alone v) = refl
unit_mapped (layer.Compared v op literal) = refl
unit_mapped (layer.Mirrored literal op v) = refl

holds_unit_out : (u : Unit) (x : Place) (n : ℕ) → holds_unit u x n ≡ unit_read (out-Unit u) x n
holds_unit_out u x n =
    ap (λ (f : Test). f x n) (fold_out-Unit Test Test Given Test Test Finds Finds predicate_step unit_step value_step and_step or_step path_step step_step u ∙ unit_mapped (out-Unit u))

pub holds_group : (o : Or) (x : Place) (n : ℕ) → holds_unit (Group o) x n ≡ holds_or o x n
unfolding unit_read
holds_group o x n = holds_unit_out (Group o) x n ∙ ap (λ l. unit_read l x n) (outs-Group o)

value_read : Value-F Predicate Unit Value And Or Path Step → Given
value_read (layer.Nodes p) = Found (nodes p)
value_read layer.Position = Counted
value_read (layer.Band p mask) = Masked (nodes p) mask

value_mapped : (l : Value-F Predicate Unit Value And Or Path Step) → value_step (map-Value Predicate Unit Value And Or Path Step Test Test Given Test Test Finds Finds holds holds_unit given holds_and holds_or nodes goes l) ≡ value_read l
unfolding value_read
value_mapped (layer.Nodes p) = refl
value_mapped layer.Position = refl
value_mapped (layer.Band p mask) = refl

pub given_nodes : (p : Path) → given (Nodes p) ≡ Found (nodes p)
unfolding value_read
given_nodes p =
    fold_out-Value Test Test Given Test Test Finds Finds predicate_step unit_step value_step and_step or_step path_step step_step (Nodes p) ∙ value_mapped (out-Value (Nodes p)) ∙ ap value_read (outs-Nodes p)

pub given_position : given Position ≡ Counted
unfolding value_read
given_position =
    fold_out-Value Test Test Given Test Test Finds Finds predicate_step unit_step value_step and_step or_step path_step step_step Position ∙ value_mapped (out-Value Position) ∙ ap value_read outs-Position

pub holds_compared : (v : Value) (op : Operator) (literal : Literal) (x : Place) (n : ℕ) → holds_unit (Compared v op literal) x n ≡ compared (given v) op literal x n
unfolding unit_read
holds_compared v op literal x n = holds_unit_out (Compared v op literal) x n ∙ ap (λ l. unit_read l x n) (outs-Compared v op literal)

predicate_read : Predicate-F Predicate Unit Value And Or Path Step → Test
predicate_read (layer.At place) = λ x n. n == place
predicate_read (layer.Whether o) = holds_or o

predicate_mapped : (l : Predicate-F Predicate Unit Value And Or Path Step) → predicate_step (map-Predicate Predicate Unit Value And Or Path Step Test Test Given Test Test Finds Finds holds holds_unit given holds_and holds_or nodes goes l) ≡ predicate_read l
unfolding predicate_read
predicate_mapped (layer.At place) = refl
predicate_mapped (layer.Whether o) = refl

pub holds_at : (place : ℕ) (x : Place) (n : ℕ) → holds (At place) x n ≡ (n == place)
unfolding predicate_read
holds_at place x n =
    ap (λ (f : Test). f x n)
    (fold_out-Predicate Test Test Given Test Test Finds Finds predicate_step unit_step value_step and_step or_step path_step step_step (At place)
    ∙ predicate_mapped (out-Predicate (At place)) ∙ ap predicate_read (outs-At place))
