-- What a path and its parts weigh, by their own parts.
use Rattle.std.proofs.Common.{◌≡◌, ℕ, ◌+◌, ◌*◌, ◌<◌, ◌≤◌, List, get_or, length, take, refl, sym, ◌∙◌, ap, subst, arith}
use Rattle.std.specs.List.{sum_by}
use Rattle.std.proofs.lemmas.List.Sums.{get_or-le-sum_by, sum-map, sum_by_more_le, sum_by-take-le}
use Rattle.std.proofs.lemmas.List.{length-take-le, take-take}
use Rattle.wef_query_tokens.specs.declared.operator.Operator.{Operator}
use Rattle.wef_query_paths.specs.declared.path.And.{And, out-And}
use Rattle.wef_query_paths.specs.declared.path.Literal.{Literal}
use Rattle.wef_query_paths.specs.declared.path.Or.{Or, out-Or}
use Rattle.wef_query_paths.specs.declared.path.Path.{Path, out-Path}
use Rattle.wef_query_paths.specs.declared.path.Predicate.{Predicate, map-Predicate, out-Predicate}
use Rattle.wef_query_paths.specs.declared.path.Step.{Step, out-Step}
use Rattle.wef_query_paths.specs.declared.path.Unit.{Unit, map-Unit, out-Unit}
use Rattle.wef_query_paths.specs.declared.path.Value.{Value, map-Value, out-Value}
use Rattle.wef_query_paths.specs.declared.path.Predicate.TheFolds.{fold_out-And, fold_out-Or, fold_out-Path, fold_out-Step, fold_out-Predicate, fold_out-Unit, fold_out-Value}
use Rattle.wef_query_paths.specs.declared.path.Predicate.TheOpen.{Predicate-F, Unit-F, Value-F}
use Rattle.wef_query_paths.specs.declared.path.Predicate.TheOpen as layer
use Rattle.wef_query_paths.specs.declared.path.Predicate.TheVariants.{Whether, Group, Alone, Compared, Mirrored, Nodes, Band}
use Rattle.wef_query_paths.specs.declared.path.Predicate.TheViews.{outs-Whether, outs-Group, outs-Alone, outs-Compared, outs-Mirrored, outs-Nodes, outs-Band}
use Rattle.wef_query_values.specs.Weights.{predicate_above, unit_above, value_above, and_above, or_above, path_above, step_above, predicate_weight, unit_weight, value_weight, and_weight, or_weight, path_weight, step_weight}

pub and_weighs : (a : And) → and_weight a ≡ unit_weight (out-And a).first + sum_by unit_weight (out-And a).rest + 1
and_weighs a = fold_out-And ℕ ℕ ℕ ℕ ℕ ℕ ℕ predicate_above unit_above value_above and_above or_above path_above step_above a ∙ ap (λ k. unit_weight (out-And a).first + k + 1) (sum-map unit_weight (out-And a).rest)

pub or_weighs : (a : Or) → or_weight a ≡ and_weight (out-Or a).first + sum_by and_weight (out-Or a).rest + 1
or_weighs a = fold_out-Or ℕ ℕ ℕ ℕ ℕ ℕ ℕ predicate_above unit_above value_above and_above or_above path_above step_above a ∙ ap (λ k. and_weight (out-Or a).first + k + 1) (sum-map and_weight (out-Or a).rest)

pub path_weighs : (a : Path) → path_weight a ≡ step_weight (out-Path a).first + sum_by step_weight (out-Path a).rest + 1
path_weighs a = fold_out-Path ℕ ℕ ℕ ℕ ℕ ℕ ℕ predicate_above unit_above value_above and_above or_above path_above step_above a ∙ ap (λ k. step_weight (out-Path a).first + k + 1) (sum-map step_weight (out-Path a).rest)

pub step_weighs : (a : Step) → step_weight a ≡ sum_by predicate_weight (out-Step a).predicates + 1
step_weighs a = fold_out-Step ℕ ℕ ℕ ℕ ℕ ℕ ℕ predicate_above unit_above value_above and_above or_above path_above step_above a ∙ ap (λ k. k + 1) (sum-map predicate_weight (out-Step a).predicates)

predicate_size : Predicate-F Predicate Unit Value And Or Path Step → ℕ
predicate_size (layer.At place) = 1
predicate_size (layer.Whether o) = or_weight o + 1

predicate_mapped : (l : Predicate-F Predicate Unit Value And Or Path Step) → predicate_above (map-Predicate Predicate Unit Value And Or Path Step ℕ ℕ ℕ ℕ ℕ ℕ ℕ predicate_weight unit_weight value_weight and_weight or_weight path_weight step_weight l) ≡ predicate_size l
unfolding predicate_size
predicate_mapped (layer.At place) = refl
predicate_mapped (layer.Whether o) = refl

predicate_weighs : (x : Predicate) → predicate_weight x ≡ predicate_size (out-Predicate x)
predicate_weighs x = fold_out-Predicate ℕ ℕ ℕ ℕ ℕ ℕ ℕ predicate_above unit_above value_above and_above or_above path_above step_above x ∙ predicate_mapped (out-Predicate x)

abbrev unit_size : Unit-F Predicate Unit Value And Or Path Step → ℕ
unit_size (layer.Group o) = or_weight o + 1
unit_size (layer.Alone v) = value_weight v + 1
unit_size (layer.Compared v op literal) = value_weight v + 1
unit_size (layer.Mirrored literal op v) = value_weight v + 1

unit_mapped : (l : Unit-F Predicate Unit Value And Or Path Step) → unit_above (map-Unit Predicate Unit Value And Or Path Step ℕ ℕ ℕ ℕ ℕ ℕ ℕ predicate_weight unit_weight value_weight and_weight or_weight path_weight step_weight l) ≡ unit_size l
unit_mapped (layer.Group o) = refl
unit_mapped (layer.Alone v) = refl
unit_mapped (layer.Compared v op literal) = refl
unit_mapped (layer.Mirrored literal op v) = refl

unit_weighs : (x : Unit) → unit_weight x ≡ unit_size (out-Unit x)
unit_weighs x = fold_out-Unit ℕ ℕ ℕ ℕ ℕ ℕ ℕ predicate_above unit_above value_above and_above or_above path_above step_above x ∙ unit_mapped (out-Unit x)

value_size : Value-F Predicate Unit Value And Or Path Step → ℕ
value_size (layer.Nodes p) = path_weight p + 1
value_size (layer.Position) = 1
value_size (layer.Band p mask) = path_weight p + 1

value_mapped : (l : Value-F Predicate Unit Value And Or Path Step) → value_above (map-Value Predicate Unit Value And Or Path Step ℕ ℕ ℕ ℕ ℕ ℕ ℕ predicate_weight unit_weight value_weight and_weight or_weight path_weight step_weight l) ≡ value_size l
unfolding value_size
value_mapped (layer.Nodes p) = refl
value_mapped (layer.Position) = refl
value_mapped (layer.Band p mask) = refl

value_weighs : (x : Value) → value_weight x ≡ value_size (out-Value x)
value_weighs x = fold_out-Value ℕ ℕ ℕ ℕ ℕ ℕ ℕ predicate_above unit_above value_above and_above or_above path_above step_above x ∙ value_mapped (out-Value x)

pub in_whether : (x : Predicate) (o : Or) → x ≡ Whether o → predicate_weight x ≡ or_weight o + 1
unfolding predicate_size
in_whether x o is = predicate_weighs x ∙ ap (λ y. predicate_size (out-Predicate y)) is ∙ ap predicate_size (outs-Whether o)

pub in_group : (x : Unit) (o : Or) → x ≡ Group o → unit_weight x ≡ or_weight o + 1
in_group x o is = unit_weighs x ∙ ap (λ y. unit_size (out-Unit y)) is ∙ ap unit_size (outs-Group o)

pub in_alone : (x : Unit) (v : Value) → x ≡ Alone v → unit_weight x ≡ value_weight v + 1
in_alone x v is = unit_weighs x ∙ ap (λ y. unit_size (out-Unit y)) is ∙ ap unit_size (outs-Alone v)

pub in_compared : (x : Unit) (v : Value) (op : Operator) (literal : Literal) → x ≡ Compared v op literal → unit_weight x ≡ value_weight v + 1
in_compared x v op literal is = unit_weighs x ∙ ap (λ y. unit_size (out-Unit y)) is ∙ ap unit_size (outs-Compared v op literal)

pub in_mirrored : (x : Unit) (literal : Literal) (op : Operator) (v : Value) → x ≡ Mirrored literal op v → unit_weight x ≡ value_weight v + 1
in_mirrored x literal op v is = unit_weighs x ∙ ap (λ y. unit_size (out-Unit y)) is ∙ ap unit_size (outs-Mirrored literal op v)

pub in_nodes : (x : Value) (p : Path) → x ≡ Nodes p → value_weight x ≡ path_weight p + 1
unfolding value_size
in_nodes x p is = value_weighs x ∙ ap (λ y. value_size (out-Value y)) is ∙ ap value_size (outs-Nodes p)

pub in_band : (x : Value) (p : Path) (mask : ℕ) → x ≡ Band p mask → value_weight x ≡ path_weight p + 1
unfolding value_size
in_band x p mask is = value_weighs x ∙ ap (λ y. value_size (out-Value y)) is ∙ ap value_size (outs-Band p mask)

size_some : (l : Predicate-F Predicate Unit Value And Or Path Step) → 1 ≤ predicate_size l
unfolding predicate_size
size_some (layer.At place) = omega arith
size_some (layer.Whether o) = omega arith

-- a predicate weighs something
predicate_some : (p : Predicate) → 1 ≤ predicate_weight p
predicate_some p = subst (λ n. 1 ≤ n) (sym (predicate_weighs p)) (size_some (out-Predicate p))

-- fewer predicates weigh less
pub fewer_weigh : (ps : List Predicate) (k e : ℕ) (d : Predicate) → k < e → e ≤ length ps → sum_by predicate_weight (take k ps) + 1 ≤ sum_by predicate_weight (take e ps)
fewer_weigh ps k e d under within =
    let front : sum_by predicate_weight (take k (take e ps)) + predicate_weight (get_or (take e ps) k d) ≤ sum_by predicate_weight (take e ps) =
    sum_by_more_le predicate_weight (take e ps) k d (let size : length (take e ps) ≡ e = length-take-le e ps within in omega arith) in
    let same : sum_by predicate_weight (take k (take e ps)) ≡ sum_by predicate_weight (take k ps) = ap (sum_by predicate_weight) (take-take k e ps (omega arith)) in
    let some : 1 ≤ predicate_weight (get_or (take e ps) k d) = predicate_some (get_or (take e ps) k d) in
    omega arith

pub no_more_weigh : (ps : List Predicate) (k e : ℕ) → k ≤ e → sum_by predicate_weight (take k ps) ≤ sum_by predicate_weight (take e ps)
no_more_weigh ps k e within =
    let front : sum_by predicate_weight (take k (take e ps)) ≤ sum_by predicate_weight (take e ps) = sum_by-take-le predicate_weight (take e ps) k in
    let same : sum_by predicate_weight (take k (take e ps)) ≡ sum_by predicate_weight (take k ps) = ap (sum_by predicate_weight) (take-take k e ps within) in
    omega arith

-- a part among others weighs less than the whole
pub part_weighs : {A : Type 0} (weight : A → ℕ) (xs parts : List A) (k : ℕ) (d : A) (first whole : ℕ) → k < length xs → d ≡ get_or xs k d → xs ≡ parts → whole ≡ first + sum_by weight parts + 1 →
    10 * weight d < 10 * whole
part_weighs weight xs parts k d first whole h is same weighs =
    let part = get_or-le-sum_by weight xs k d h in
    let item = ap weight is in
    let all = ap (sum_by weight) same in
    omega (arith, part, item, all, weighs)
