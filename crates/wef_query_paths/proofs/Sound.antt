-- What the machine reads, the grammar says.
use Rattle.std.proofs.Common.{◌≡◌, ℕ, Bool, true, false, if◌then◌else◌, List, [], ◌∷◌, codes, Option, Some, None, refl, sym, subst}
use Rattle.std.specs.Cmp.Lexicographic.{bytes_decides}
use Rattle.wef_base.specs.Names.{same}
use Rattle.wef_query_tokens.specs.declared.axis.Axis.{Axis}
use Rattle.wef_query_tokens.specs.declared.axis.Axis.TheVariants.{Child}
use Rattle.wef_query_tokens.specs.declared.operator.Operator.{Operator}
use Rattle.wef_query_tokens.specs.declared.tokens.Token.{Token}
use Rattle.wef_query_tokens.specs.declared.tokens.Token.TheVariants.{Along, Star, Word, Joint, PositionCall, BandCall, Compare, Figure, Quote, OpenSquare, CloseSquare, OpenRound, CloseRound, Slash, Comma}
use Rattle.wef_query_tokens.specs.Steps.{goes_to_children}
use Rattle.wef_query_paths.specs.declared.conditions.Around.{Around}
use Rattle.wef_query_paths.specs.declared.conditions.Around.TheVariants.{Round, Square}
use Rattle.wef_query_paths.specs.declared.conditions.Level.{Level}
use Rattle.wef_query_paths.specs.declared.steps.Place.{Place}
use Rattle.wef_query_paths.specs.declared.steps.Place.TheVariants.{Whole, InValue, InBand}
use Rattle.wef_query_paths.specs.declared.values.Side.{Side}
use Rattle.wef_query_paths.specs.declared.values.Side.TheVariants.{Left, Right}
use Rattle.wef_query_paths.specs.declared.path.And.{And}
use Rattle.wef_query_paths.specs.declared.path.Literal.{Literal}
use Rattle.wef_query_paths.specs.declared.path.Literal.TheVariants.{Number, Quoted}
use Rattle.wef_query_paths.specs.declared.path.NameTest.{NameTest}
use Rattle.wef_query_paths.specs.declared.path.Or.{Or, roll-Or, out-roll-Or}
use Rattle.wef_query_paths.specs.declared.path.Path.{Path, roll-Path, out-roll-Path}
use Rattle.wef_query_paths.specs.declared.path.Predicate.{Predicate}
use Rattle.wef_query_paths.specs.declared.path.Predicate.TheVariants.{At, Whether}
use Rattle.wef_query_paths.specs.declared.path.Step.{Step}
use Rattle.wef_query_paths.specs.declared.path.Unit as unit
use Rattle.wef_query_paths.specs.declared.path.Unit.TheVariants.{Group, Alone, Compared, Mirrored}
use Rattle.wef_query_paths.specs.declared.path.Value.{Value}
use Rattle.wef_query_paths.specs.declared.path.Value.TheVariants.{Nodes, Position, Band}
use Rattle.wef_query_paths.specs.declared.turns.Next.{Next}
use Rattle.wef_query_paths.specs.declared.turns.Next.TheVariants.{BeforeStep, BeforeTest, BehindStep, BeforePredicate, BehindCount, BeforeUnit, BehindLiteral, BeforeValue, BehindPosition, InPosition, BehindBand, BeforeMask, BehindMask, BehindValue, BeforeLiteral, BehindUnit}
use Rattle.wef_query_paths.specs.Grammar.{the_path, the_steps, the_step, the_test, the_predicates, the_predicate, the_or, the_ands, the_and, the_units, the_unit, the_value, the_literal, Begins, path_is, no_step, one_step, child_step, axis_step, any_name, one_name, no_predicate, one_predicate, at_place, whether, or_is, no_and, one_and, and_is, no_unit, one_unit, group, alone, compared, mirrored, number, quote, nodes, position, band, may_compare, Joins}
use Rattle.wef_query_paths.specs.Levels.{alternatives_in, opened, square, with_and, with_predicate, with_step, with_unit}
use Rattle.wef_query_paths.specs.Turns.{before_comma, before_literal, before_mask, before_predicate, before_step, before_test, before_unit, before_value, behind_band, behind_count, behind_left, behind_literal, behind_mask, behind_path, behind_position, behind_step, behind_unit, behind_value, closed_round, closed_square, finished, in_position, inside, is_position, turn, with_and_behind, with_or_behind}
use Rattle.wef_query_paths.proofs.Runs.{may_stand, on, run}
use Rattle.wef_query_paths.proofs.Trees.{and_parts, and_with, or_parts, or_with, path_parts, path_with, step_whole, step_with}

-- ---- what may come behind each part, so that a path results: K behind a unit, W behind the whole path

data ValueGoes (K : unit.Unit → List Token → Type 0) (v : Value) : Side → List Token → Type 0 where
  stands_alone : {ks : List Token} → is_position v ≡ false → K (Alone v) ks → ValueGoes K v Left ks
  is_compared : {operator : Operator} {l : Literal} {ls ms : List Token} → may_compare v l ≡ true → Begins (the_literal l) ls ms → K (Compared v operator l) ms → ValueGoes K v Left (Compare operator ∷ ls)
  is_mirrored : {operator : Operator} {l : Literal} {ks : List Token} → K (Mirrored l operator v) ks → ValueGoes K v (Right l operator) ks

data PathGoes (K : unit.Unit → List Token → Type 0) (W : Path → List Token → Type 0) : Path → Place → List Token → Type 0 where
  as_whole : {q : Path} {ks : List Token} → W q ks → PathGoes K W q Whole ks
  as_value : {q : Path} {side : Side} {ks : List Token} → ValueGoes K (Nodes q) side ks → PathGoes K W q (InValue side) ks
  as_masked : {q : Path} {side : Side} {n : ℕ} {ks : List Token} → ValueGoes K (Band q n) side ks → PathGoes K W q (InBand side) (Comma ∷ Figure n ∷ CloseRound ∷ ks)

data StepGoes (K : unit.Unit → List Token → Type 0) (W : Path → List Token → Type 0) (place : Place) (so_far : Option Path) (step : Step) : List Token → Type 0 where
  step_goes : {xs : List Predicate} {ss : List Step} {ks ms ns : List Token} → Begins (the_predicates xs) ks ms → Begins (the_steps step.axis ss) ms ns → PathGoes K W (path_with (with_step so_far (step_with step xs)) ss) place ns → StepGoes K W place so_far step ks

data BracketGoes (K : unit.Unit → List Token → Type 0) (W : Path → List Token → Type 0) (o : Or) : Around → List Token → Type 0 where
  round_goes : {ks : List Token} → K (Group o) ks → BracketGoes K W o Round (CloseRound ∷ ks)
  square_goes : {place : Place} {so_far : Option Path} {step : Step} {ks : List Token} → StepGoes K W place so_far (with_predicate step (Whether o)) ks → BracketGoes K W o (Square place so_far step) (CloseSquare ∷ ks)

data LevelGoes (K : unit.Unit → List Token → Type 0) (W : Path → List Token → Type 0) (level : Level) (u : unit.Unit) : List Token → Type 0 where
  level_goes : {us : List unit.Unit} {more : List And} {ks ms ns : List Token} → Begins (the_units us) ks ms → Begins (the_ands more) ms ns → BracketGoes K W (or_with (with_and level.alternatives (and_with (with_unit level.units u) us)) more) level.around ns → LevelGoes K W level u ks

abbrev WholeGoes : Path → List Level → Path → List Token → Type 0
WholeGoes p [] q ks = (q ≡ p) × (ks ≡ [])
WholeGoes p (level ∷ levels) q ks = ⊥

abbrev UnitGoes : Path → List Level → unit.Unit → List Token → Type 0
UnitGoes p [] u ks = ⊥
UnitGoes p (level ∷ levels) u ks = LevelGoes (UnitGoes p levels) (WholeGoes p levels) level u ks

-- ---- what may come before each part

data BeforeStepGoes (K : unit.Unit → List Token → Type 0) (W : Path → List Token → Type 0) (place : Place) (so_far : Option Path) : List Token → Type 0 where
  before_step_goes : {s : Step} {ss : List Step} {ks ms ns : List Token} → Begins (the_step s) ks ms → Begins (the_steps s.axis ss) ms ns → PathGoes K W (path_with (with_step so_far s) ss) place ns → BeforeStepGoes K W place so_far ks

data TestGoes (K : unit.Unit → List Token → Type 0) (W : Path → List Token → Type 0) (place : Place) (so_far : Option Path) (axis : Axis) : List Token → Type 0 where
  test_goes : {t : NameTest} {ks ms : List Token} → Begins (the_test t) ks ms → StepGoes K W place so_far (record { axis = axis; test = t; predicates = [] }) ms → TestGoes K W place so_far axis ks

data PredicateGoes (K : unit.Unit → List Token → Type 0) (W : Path → List Token → Type 0) (place : Place) (so_far : Option Path) (step : Step) : List Token → Type 0 where
  predicate_goes : {x : Predicate} {ks ms : List Token} → Begins (the_predicate x) ks (CloseSquare ∷ ms) → StepGoes K W place so_far (with_predicate step x) ms → PredicateGoes K W place so_far step ks

data UnitComes (K : unit.Unit → List Token → Type 0) : List Token → Type 0 where
  unit_comes : {u : unit.Unit} {ks ms : List Token} → Begins (the_unit u) ks ms → K u ms → UnitComes K ks

data ValueComes (K : unit.Unit → List Token → Type 0) (side : Side) : List Token → Type 0 where
  value_comes : {v : Value} {ks ms : List Token} → may_stand side v ≡ true → Begins (the_value v) ks ms → ValueGoes K v side ms → ValueComes K side ks

data LiteralComes (K : unit.Unit → List Token → Type 0) (v : Value) (operator : Operator) : List Token → Type 0 where
  literal_comes : {l : Literal} {ks ms : List Token} → may_compare v l ≡ true → Begins (the_literal l) ks ms → K (Compared v operator l) ms → LiteralComes K v operator ks

data LiteralGoes (K : unit.Unit → List Token → Type 0) (l : Literal) : List Token → Type 0 where
  literal_goes : {operator : Operator} {ks : List Token} → ValueComes K (Right l operator) ks → LiteralGoes K l (Compare operator ∷ ks)

data CountGoes (K : unit.Unit → List Token → Type 0) (W : Path → List Token → Type 0) (L : unit.Unit → List Token → Type 0) (place : Place) (so_far : Option Path) (step : Step) (n : ℕ) : List Token → Type 0 where
  count_closes : {ks : List Token} → StepGoes K W place so_far (with_predicate step (At n)) ks → CountGoes K W L place so_far step n (CloseSquare ∷ ks)
  count_compares : {operator : Operator} {ks : List Token} → ValueComes L (Right (Number n) operator) ks → CountGoes K W L place so_far step n (Compare operator ∷ ks)

data PositionGoes (K : unit.Unit → List Token → Type 0) (side : Side) : List Token → Type 0 where
  position_goes : {ks : List Token} → ValueGoes K Position side ks → PositionGoes K side (OpenRound ∷ CloseRound ∷ ks)

data InPositionGoes (K : unit.Unit → List Token → Type 0) (side : Side) : List Token → Type 0 where
  in_position_goes : {ks : List Token} → ValueGoes K Position side ks → InPositionGoes K side (CloseRound ∷ ks)

data BandGoes (K : unit.Unit → List Token → Type 0) (W : Path → List Token → Type 0) (side : Side) : List Token → Type 0 where
  band_goes : {ks : List Token} → BeforeStepGoes K W (InBand side) None ks → BandGoes K W side (OpenRound ∷ ks)

data MaskComes (K : unit.Unit → List Token → Type 0) (side : Side) (q : Path) : List Token → Type 0 where
  mask_comes : {n : ℕ} {ks : List Token} → ValueGoes K (Band q n) side ks → MaskComes K side q (Figure n ∷ CloseRound ∷ ks)

data MaskGoes (K : unit.Unit → List Token → Type 0) (side : Side) (q : Path) (n : ℕ) : List Token → Type 0 where
  mask_goes : {ks : List Token} → ValueGoes K (Band q n) side ks → MaskGoes K side q n (CloseRound ∷ ks)

-- what tokens are to come, for each of what may come next
abbrev Goes : Path → List Level → Next → List Token → Type 0
Goes p levels (BeforeStep place so_far) ks = BeforeStepGoes (UnitGoes p levels) (WholeGoes p levels) place so_far ks
Goes p levels (BeforeTest place so_far axis) ks = TestGoes (UnitGoes p levels) (WholeGoes p levels) place so_far axis ks
Goes p levels (BehindStep place so_far step) ks = StepGoes (UnitGoes p levels) (WholeGoes p levels) place so_far step ks
Goes p levels (BeforePredicate place so_far step) ks = PredicateGoes (UnitGoes p levels) (WholeGoes p levels) place so_far step ks
Goes p levels (BehindCount place so_far step n) ks = CountGoes (UnitGoes p levels) (WholeGoes p levels) (UnitGoes p (square place so_far step ∷ levels)) place so_far step n ks
Goes p levels BeforeUnit ks = UnitComes (UnitGoes p levels) ks
Goes p levels (BehindLiteral l) ks = LiteralGoes (UnitGoes p levels) l ks
Goes p levels (BeforeValue l operator) ks = ValueComes (UnitGoes p levels) (Right l operator) ks
Goes p levels (BehindPosition side) ks = PositionGoes (UnitGoes p levels) side ks
Goes p levels (InPosition side) ks = InPositionGoes (UnitGoes p levels) side ks
Goes p levels (BehindBand side) ks = BandGoes (UnitGoes p levels) (WholeGoes p levels) side ks
Goes p levels (BeforeMask side q) ks = MaskComes (UnitGoes p levels) side q ks
Goes p levels (BehindMask side q n) ks = MaskGoes (UnitGoes p levels) side q n ks
Goes p levels (BehindValue side v) ks = ValueGoes (UnitGoes p levels) v side ks
Goes p levels (BeforeLiteral v operator) ks = LiteralComes (UnitGoes p levels) v operator ks
Goes p levels (BehindUnit u) ks = UnitGoes p levels u ks

abbrev OnGoes : Path → List Token → Option (List Level × Next) → Type 0
OnGoes p ks None = ⊥
OnGoes p ks (Some turned) = Goes p turned.0 turned.1 ks

-- ---- parts that are whole

path_made : {s : Step} {ss : List Step} {ks ms ns : List Token} → Begins (the_step s) ks ms → Begins (the_steps s.axis ss) ms ns → Begins (the_path (path_with (with_step None s) ss)) ks ns
path_made {s = s} {ss = ss} {ks = ks} {ms = ms} {ns = ns} d ds =
    let e = out-roll-Path (record { first = s; rest = ss }) in
    let whole : Begins (the_path (roll-Path (record { first = s; rest = ss }))) ks ns = path_is (subst (λ w. Begins (the_step w.first) ks ms) (sym e) d) (subst (λ w. Begins (the_steps w.first.axis w.rest) ms ns) (sym e) ds) in
    subst (λ (q : Path). Begins (the_path q) ks ns) (sym (path_parts s [] ss)) whole

or_made : {a : And} {more : List And} {ks ms ns : List Token} → Begins (the_and a) ks ms → Begins (the_ands more) ms ns → Begins (the_or (or_with (with_and None a) more)) ks ns
or_made {a = a} {more = more} {ks = ks} {ms = ms} {ns = ns} d ds =
    let e = out-roll-Or (record { first = a; rest = more }) in
    let whole : Begins (the_or (roll-Or (record { first = a; rest = more }))) ks ns = or_is (subst (λ w. Begins (the_and w.first) ks ms) (sym e) d) (subst (λ w. Begins (the_ands w.rest) ms ns) (sym e) ds) in
    subst (λ (o : Or). Begins (the_or o) ks ns) (sym (or_parts a [] more)) whole

and_made : {u : unit.Unit} {us : List unit.Unit} {ks ms ns : List Token} → Begins (the_unit u) ks ms → Begins (the_units us) ms ns → Begins (the_and (and_with (with_unit None u) us)) ks ns
and_made {u = u} {us = us} {ks = ks} {ns = ns} d ds =
    let whole : Begins (the_and (record { first = u; rest = us })) ks ns = and_is d ds in
    subst (λ (a : And). Begins (the_and a) ks ns) (sym (and_parts u [] us)) whole

-- ---- each token

by_bool : (P : Bool → Type 0) (b : Bool) → P true → P false → P b
by_bool P true t f = t
by_bool P false t f = f

back_test : (p : Path) (levels : List Level) (place : Place) (so_far : Option Path) (axis : Axis) (t : Token) (ks : List Token) → OnGoes p ks (inside levels (before_test place so_far axis t)) → Goes p levels (BeforeTest place so_far axis) (t ∷ ks)
back_test p levels place so_far axis Star ks h = test_goes any_name h
back_test p levels place so_far axis (Word name) ks h = test_goes one_name h
back_test p levels place so_far axis _ ks h = absurd h

step_again : (K : unit.Unit → List Token → Type 0) (W : Path → List Token → Type 0) (place : Place) (so_far : Option Path) (axis : Axis) (t : NameTest) (xs : List Predicate) (ss : List Step) (ns : List Token)
    → PathGoes K W (path_with (with_step so_far (step_with (record { axis = axis; test = t; predicates = [] }) xs)) ss) place ns
    → PathGoes K W (path_with (with_step so_far (record { axis = axis; test = t; predicates = xs })) ss) place ns
step_again K W place so_far axis t xs ss ns h = subst (λ (s : Step). PathGoes K W (path_with (with_step so_far s) ss) place ns) (step_whole (record { axis = axis; test = t; predicates = xs })) h

along : (K : unit.Unit → List Token → Type 0) (W : Path → List Token → Type 0) (place : Place) (so_far : Option Path) (axis : Axis) (ks : List Token) → TestGoes K W place so_far axis ks → BeforeStepGoes K W place so_far (Along axis ∷ ks)
along K W place so_far axis ks (test_goes {t = t} d (step_goes {xs = xs} {ss = ss} {ns = ns} ds dss h)) =
    before_step_goes {s = record { axis = axis; test = t; predicates = xs }} (axis_step refl d ds) dss (step_again K W place so_far axis t xs ss ns h)

child : (K : unit.Unit → List Token → Type 0) (W : Path → List Token → Type 0) (place : Place) (so_far : Option Path) (ks : List Token) → TestGoes K W place so_far Child ks → BeforeStepGoes K W place so_far ks
child K W place so_far ks (test_goes {t = t} d (step_goes {xs = xs} {ss = ss} {ns = ns} ds dss h)) =
    before_step_goes {s = record { axis = Child; test = t; predicates = xs }} (child_step refl d ds) dss (step_again K W place so_far Child t xs ss ns h)

back_step : (p : Path) (levels : List Level) (place : Place) (so_far : Option Path) (t : Token) (ks : List Token) → OnGoes p ks (inside levels (before_step place so_far t)) → Goes p levels (BeforeStep place so_far) (t ∷ ks)
back_step p levels place so_far (Along axis) ks h = along (UnitGoes p levels) (WholeGoes p levels) place so_far axis ks h
back_step p levels place so_far Star ks h = child (UnitGoes p levels) (WholeGoes p levels) place so_far (Star ∷ ks) (back_test p levels place so_far Child Star ks h)
back_step p levels place so_far (Word name) ks h = child (UnitGoes p levels) (WholeGoes p levels) place so_far (Word name ∷ ks) (back_test p levels place so_far Child (Word name) ks h)
back_step p levels place so_far _ ks h = absurd h

nodes_come : (K : unit.Unit → List Token → Type 0) (W : Path → List Token → Type 0) (side : Side) (ks : List Token) → BeforeStepGoes K W (InValue side) None ks → ValueComes K side ks
nodes_come K W Left ks (before_step_goes d ds (as_value g)) = value_comes refl (nodes (path_made d ds)) g
nodes_come K W (Right l operator) ks (before_step_goes d ds (as_value g)) = value_comes refl (nodes (path_made d ds)) g

band_comes : (K : unit.Unit → List Token → Type 0) (W : Path → List Token → Type 0) (side : Side) (ks : List Token) → BandGoes K W side ks → ValueComes K side (BandCall ∷ ks)
band_comes K W Left ks (band_goes (before_step_goes d ds (as_masked g))) = value_comes refl (band (path_made d ds)) g
band_comes K W (Right l operator) ks (band_goes (before_step_goes d ds (as_masked g))) = value_comes refl (band (path_made d ds)) g

position_comes : (K : unit.Unit → List Token → Type 0) (side : Side) (ks : List Token) → may_stand side Position ≡ true → PositionGoes K side ks → ValueComes K side (PositionCall ∷ ks)
position_comes K side ks e (position_goes g) = value_comes e position g

back_position : (p : Path) (levels : List Level) (side : Side) (ks : List Token) → OnGoes p ks (inside levels (before_value side PositionCall)) → ValueComes (UnitGoes p levels) side (PositionCall ∷ ks)
back_position p levels Left ks h = position_comes (UnitGoes p levels) Left ks refl h
back_position p levels (Right (Number n) operator) ks h = position_comes (UnitGoes p levels) (Right (Number n) operator) ks refl h
back_position p levels (Right (Quoted text) operator) ks h = absurd h

back_value : (p : Path) (levels : List Level) (side : Side) (t : Token) (ks : List Token) → OnGoes p ks (inside levels (before_value side t)) → ValueComes (UnitGoes p levels) side (t ∷ ks)
back_value p levels side PositionCall ks h = back_position p levels side ks h
back_value p levels side BandCall ks h = band_comes (UnitGoes p levels) (WholeGoes p levels) side ks h
back_value p levels side (Along axis) ks h = nodes_come (UnitGoes p levels) (WholeGoes p levels) side (Along axis ∷ ks) (back_step p levels (InValue side) None (Along axis) ks h)
back_value p levels side Star ks h = nodes_come (UnitGoes p levels) (WholeGoes p levels) side (Star ∷ ks) (back_step p levels (InValue side) None Star ks h)
back_value p levels side (Word name) ks h = nodes_come (UnitGoes p levels) (WholeGoes p levels) side (Word name ∷ ks) (back_step p levels (InValue side) None (Word name) ks h)
back_value p levels side _ ks h = absurd h

-- a unit that begins with a value
first_value : (K : unit.Unit → List Token → Type 0) (ks : List Token) → ValueComes K Left ks → UnitComes K ks
first_value K ks (value_comes e d (stands_alone f k)) = unit_comes (alone f d) k
first_value K ks (value_comes e d (is_compared c l k)) = unit_comes (compared c d l) k

-- a unit that begins with a literal
first_number : (K : unit.Unit → List Token → Type 0) (n : ℕ) (operator : Operator) (ks : List Token) → ValueComes K (Right (Number n) operator) ks → UnitComes K (Figure n ∷ Compare operator ∷ ks)
first_number K n operator ks (value_comes e d (is_mirrored k)) = unit_comes (mirrored e number d) k

number_first : (K : unit.Unit → List Token → Type 0) (n : ℕ) (ks : List Token) → LiteralGoes K (Number n) ks → UnitComes K (Figure n ∷ ks)
number_first K n ks (literal_goes {operator = operator} {ks = ls} g) = first_number K n operator ls g

quote_first : (K : unit.Unit → List Token → Type 0) (text : List ℕ) (ks : List Token) → LiteralGoes K (Quoted text) ks → UnitComes K (Quote text ∷ ks)
quote_first K text ks (literal_goes (value_comes e d (is_mirrored k))) = unit_comes (mirrored e quote d) k

group_comes : (p : Path) (levels : List Level) (ks : List Token) → UnitComes (UnitGoes p (opened Round ∷ levels)) ks → UnitComes (UnitGoes p levels) (OpenRound ∷ ks)
group_comes p levels ks (unit_comes d (level_goes us more (round_goes k))) = unit_comes (group (or_made (and_made d us) more)) k

back_unit : (p : Path) (levels : List Level) (t : Token) (ks : List Token) → OnGoes p ks (before_unit levels t) → UnitComes (UnitGoes p levels) (t ∷ ks)
back_unit p levels OpenRound ks h = group_comes p levels ks h
back_unit p levels (Figure n) ks h = number_first (UnitGoes p levels) n ks h
back_unit p levels (Quote text) ks h = quote_first (UnitGoes p levels) text ks h
back_unit p levels PositionCall ks h = first_value (UnitGoes p levels) (PositionCall ∷ ks) (back_value p levels Left PositionCall ks h)
back_unit p levels BandCall ks h = first_value (UnitGoes p levels) (BandCall ∷ ks) (back_value p levels Left BandCall ks h)
back_unit p levels (Along axis) ks h = first_value (UnitGoes p levels) (Along axis ∷ ks) (back_value p levels Left (Along axis) ks h)
back_unit p levels Star ks h = first_value (UnitGoes p levels) (Star ∷ ks) (back_value p levels Left Star ks h)
back_unit p levels (Word name) ks h = first_value (UnitGoes p levels) (Word name ∷ ks) (back_value p levels Left (Word name) ks h)
back_unit p levels _ ks h = absurd h

whether_comes : (p : Path) (levels : List Level) (place : Place) (so_far : Option Path) (step : Step) (ks : List Token) → UnitComes (UnitGoes p (square place so_far step ∷ levels)) ks → PredicateGoes (UnitGoes p levels) (WholeGoes p levels) place so_far step ks
whether_comes p levels place so_far step ks (unit_comes d (level_goes us more (square_goes g))) = predicate_goes (whether (or_made (and_made d us) more)) g

count_comes : (p : Path) (levels : List Level) (place : Place) (so_far : Option Path) (step : Step) (n : ℕ) (ks : List Token) → Goes p levels (BehindCount place so_far step n) ks → PredicateGoes (UnitGoes p levels) (WholeGoes p levels) place so_far step (Figure n ∷ ks)
count_comes p levels place so_far step n ks (count_closes g) = predicate_goes at_place g
count_comes p levels place so_far step n ks (count_compares {operator = operator} {ks = ls} g) = whether_comes p levels place so_far step (Figure n ∷ Compare operator ∷ ls) (first_number (UnitGoes p (square place so_far step ∷ levels)) n operator ls g)

back_predicate : (p : Path) (levels : List Level) (place : Place) (so_far : Option Path) (step : Step) (t : Token) (ks : List Token) → OnGoes p ks (before_predicate levels place so_far step t) → Goes p levels (BeforePredicate place so_far step) (t ∷ ks)
back_predicate p levels place so_far step (Figure n) ks h = count_comes p levels place so_far step n ks h
back_predicate p levels place so_far step OpenRound ks h = whether_comes p levels place so_far step (OpenRound ∷ ks) (back_unit p (square place so_far step ∷ levels) OpenRound ks h)
back_predicate p levels place so_far step (Quote text) ks h = whether_comes p levels place so_far step (Quote text ∷ ks) (back_unit p (square place so_far step ∷ levels) (Quote text) ks h)
back_predicate p levels place so_far step PositionCall ks h = whether_comes p levels place so_far step (PositionCall ∷ ks) (back_unit p (square place so_far step ∷ levels) PositionCall ks h)
back_predicate p levels place so_far step BandCall ks h = whether_comes p levels place so_far step (BandCall ∷ ks) (back_unit p (square place so_far step ∷ levels) BandCall ks h)
back_predicate p levels place so_far step (Along axis) ks h = whether_comes p levels place so_far step (Along axis ∷ ks) (back_unit p (square place so_far step ∷ levels) (Along axis) ks h)
back_predicate p levels place so_far step Star ks h = whether_comes p levels place so_far step (Star ∷ ks) (back_unit p (square place so_far step ∷ levels) Star ks h)
back_predicate p levels place so_far step (Word name) ks h = whether_comes p levels place so_far step (Word name ∷ ks) (back_unit p (square place so_far step ∷ levels) (Word name) ks h)
back_predicate p levels place so_far step _ ks h = absurd h

back_count : (p : Path) (levels : List Level) (place : Place) (so_far : Option Path) (step : Step) (n : ℕ) (t : Token) (ks : List Token) → OnGoes p ks (behind_count levels place so_far step n t) → Goes p levels (BehindCount place so_far step n) (t ∷ ks)
back_count p levels place so_far step n CloseSquare ks h = count_closes h
back_count p levels place so_far step n (Compare operator) ks h = count_compares h
back_count p levels place so_far step n _ ks h = absurd h

-- ---- behind a unit

pub is_name : (a b : List ℕ) → same a b ≡ true → a ≡ b
is_name a b e = (bytes_decides a b).0 e

and_goes : (p : Path) (levels : List Level) (level : Level) (u : unit.Unit) (token : Token) (ks : List Token) → Joins token (codes "and") → UnitComes (UnitGoes p (with_and_behind level u ∷ levels)) ks → UnitGoes p (level ∷ levels) u (token ∷ ks)
and_goes p levels level u token ks e (unit_comes d (level_goes us more g)) = level_goes (one_unit e d us) more g

or_goes : (p : Path) (levels : List Level) (level : Level) (u : unit.Unit) (token : Token) (ks : List Token) → Joins token (codes "or") → UnitComes (UnitGoes p (with_or_behind level u ∷ levels)) ks → UnitGoes p (level ∷ levels) u (token ∷ ks)
or_goes p levels level u token ks e (unit_comes d (level_goes us more g)) = level_goes no_unit (one_and e (and_made d us) more) g

joined_goes : (p : Path) (levels : List Level) (level : Level) (u : unit.Unit) (token : Token) (ks : List Token) (is_and is_or : Bool) → (is_and ≡ true → Joins token (codes "and")) → (is_or ≡ true → Joins token (codes "or"))
    → OnGoes p ks (if is_and then Some (with_and_behind level u ∷ levels, BeforeUnit) else (if is_or then Some (with_or_behind level u ∷ levels, BeforeUnit) else None)) → UnitGoes p (level ∷ levels) u (token ∷ ks)
joined_goes p levels level u token ks true is_or e f h = and_goes p levels level u token ks (e refl) h
joined_goes p levels level u token ks false true e f h = or_goes p levels level u token ks (f refl) h
joined_goes p levels level u token ks false false e f h = absurd h

round_back : (p : Path) (levels : List Level) (around : Around) (o : Or) (ks : List Token) → OnGoes p ks (inside levels (closed_round around o)) → BracketGoes (UnitGoes p levels) (WholeGoes p levels) o around (CloseRound ∷ ks)
round_back p levels Round o ks h = round_goes h
round_back p levels (Square place so_far step) o ks h = absurd h

square_back : (p : Path) (levels : List Level) (around : Around) (o : Or) (ks : List Token) → OnGoes p ks (inside levels (closed_square around o)) → BracketGoes (UnitGoes p levels) (WholeGoes p levels) o around (CloseSquare ∷ ks)
square_back p levels Round o ks h = absurd h
square_back p levels (Square place so_far step) o ks h = square_goes h

back_behind_unit : (p : Path) (levels : List Level) (u : unit.Unit) (t : Token) (ks : List Token) → OnGoes p ks (behind_unit levels u t) → UnitGoes p levels u (t ∷ ks)
back_behind_unit p [] u t ks h = h
back_behind_unit p (level ∷ levels) u (Word name) ks h = joined_goes p levels level u (Word name) ks (same name (codes "and")) (same name (codes "or")) (is_name name (codes "and")) (is_name name (codes "or")) h
back_behind_unit p (level ∷ levels) u (Joint name) ks h = joined_goes p levels level u (Joint name) ks (same name (codes "and")) (same name (codes "or")) (is_name name (codes "and")) (is_name name (codes "or")) h
back_behind_unit p (level ∷ levels) u CloseRound ks h = level_goes no_unit no_and (round_back p levels level.around (alternatives_in level u) ks h)
back_behind_unit p (level ∷ levels) u CloseSquare ks h = level_goes no_unit no_and (square_back p levels level.around (alternatives_in level u) ks h)
back_behind_unit p (level ∷ levels) u _ ks h = absurd h

-- ---- behind a value

alone_back : (p : Path) (levels : List Level) (v : Value) (t : Token) (ks : List Token) (b : Bool) → is_position v ≡ b → OnGoes p ks (if b then None else behind_unit levels (Alone v) t) → ValueGoes (UnitGoes p levels) v Left (t ∷ ks)
alone_back p levels v t ks true e h = absurd h
alone_back p levels v t ks false e h = stands_alone e (back_behind_unit p levels (Alone v) t ks h)

compared_back : (p : Path) (levels : List Level) (v : Value) (operator : Operator) (ks : List Token) → LiteralComes (UnitGoes p levels) v operator ks → ValueGoes (UnitGoes p levels) v Left (Compare operator ∷ ks)
compared_back p levels v operator ks (literal_comes c d k) = is_compared c d k

back_left : (p : Path) (levels : List Level) (v : Value) (t : Token) (ks : List Token) → OnGoes p ks (behind_left levels v t) → ValueGoes (UnitGoes p levels) v Left (t ∷ ks)
back_left p levels v (Compare operator) ks h = compared_back p levels v operator ks h
back_left p levels v t ks h = alone_back p levels v t ks (is_position v) refl h

back_behind_value : (p : Path) (levels : List Level) (side : Side) (v : Value) (t : Token) (ks : List Token) → OnGoes p ks (behind_value levels side v t) → ValueGoes (UnitGoes p levels) v side (t ∷ ks)
back_behind_value p levels Left v t ks h = back_left p levels v t ks h
back_behind_value p levels (Right l operator) v t ks h = is_mirrored (back_behind_unit p levels (Mirrored l operator v) t ks h)

number_fits : (v : Value) (n : ℕ) → may_compare v (Number n) ≡ true
number_fits (Nodes q) n = refl
number_fits Position n = refl
number_fits (Band q m) n = refl

quote_fits : (v : Value) (text : List ℕ) → is_position v ≡ false → may_compare v (Quoted text) ≡ true
quote_fits (Nodes q) text e = refl
quote_fits Position text e = sym e
quote_fits (Band q n) text e = refl

quote_back : (p : Path) (levels : List Level) (v : Value) (operator : Operator) (text : List ℕ) (ks : List Token) (b : Bool) → is_position v ≡ b → OnGoes p ks (inside levels (if b then None else Some (BehindUnit (Compared v operator (Quoted text))))) → LiteralComes (UnitGoes p levels) v operator (Quote text ∷ ks)
quote_back p levels v operator text ks true e h = absurd h
quote_back p levels v operator text ks false e h = literal_comes (quote_fits v text e) quote h

back_literal : (p : Path) (levels : List Level) (v : Value) (operator : Operator) (t : Token) (ks : List Token) → OnGoes p ks (inside levels (before_literal v operator t)) → LiteralComes (UnitGoes p levels) v operator (t ∷ ks)
back_literal p levels v operator (Figure n) ks h = literal_comes (number_fits v n) number h
back_literal p levels v operator (Quote text) ks h = quote_back p levels v operator text ks (is_position v) refl h
back_literal p levels v operator _ ks h = absurd h

-- ---- behind a path and a step

masked_back : (p : Path) (levels : List Level) (side : Side) (q : Path) (ks : List Token) → MaskComes (UnitGoes p levels) side q ks → PathGoes (UnitGoes p levels) (WholeGoes p levels) q (InBand side) (Comma ∷ ks)
masked_back p levels side q ks (mask_comes g) = as_masked g

comma_back : (p : Path) (levels : List Level) (side : Side) (q : Path) (t : Token) (ks : List Token) → OnGoes p ks (inside levels (before_comma side q t)) → PathGoes (UnitGoes p levels) (WholeGoes p levels) q (InBand side) (t ∷ ks)
comma_back p levels side q Comma ks h = masked_back p levels side q ks h
comma_back p levels side q _ ks h = absurd h

back_path : (p : Path) (levels : List Level) (place : Place) (q : Path) (t : Token) (ks : List Token) → OnGoes p ks (behind_path levels place q t) → PathGoes (UnitGoes p levels) (WholeGoes p levels) q place (t ∷ ks)
back_path p levels Whole q t ks h = absurd h
back_path p levels (InValue side) q t ks h = as_value (back_behind_value p levels side (Nodes q) t ks h)
back_path p levels (InBand side) q t ks h = comma_back p levels side q t ks h

bracket_back : (K : unit.Unit → List Token → Type 0) (W : Path → List Token → Type 0) (place : Place) (so_far : Option Path) (step : Step) (ks : List Token) → PredicateGoes K W place so_far step ks → StepGoes K W place so_far step (OpenSquare ∷ ks)
bracket_back K W place so_far step ks (predicate_goes d (step_goes ds dss g)) = step_goes (one_predicate d ds) dss g

further_back : (K : unit.Unit → List Token → Type 0) (W : Path → List Token → Type 0) (place : Place) (so_far : Option Path) (step : Step) (ks : List Token) → goes_to_children step.axis ≡ true → BeforeStepGoes K W place (Some (with_step so_far step)) ks → StepGoes K W place so_far step (Slash ∷ ks)
further_back K W place so_far step ks e (before_step_goes d ds g) = step_goes no_predicate (one_step e d ds) g

slash_back : (p : Path) (levels : List Level) (place : Place) (so_far : Option Path) (step : Step) (ks : List Token) (b : Bool) → goes_to_children step.axis ≡ b → OnGoes p ks (inside levels (if b then Some (BeforeStep place (Some (with_step so_far step))) else None)) → Goes p levels (BehindStep place so_far step) (Slash ∷ ks)
slash_back p levels place so_far step ks true e h = further_back (UnitGoes p levels) (WholeGoes p levels) place so_far step ks e h
slash_back p levels place so_far step ks false e h = absurd h

back_behind_step : (p : Path) (levels : List Level) (place : Place) (so_far : Option Path) (step : Step) (t : Token) (ks : List Token) → OnGoes p ks (behind_step levels place so_far step t) → Goes p levels (BehindStep place so_far step) (t ∷ ks)
back_behind_step p levels place so_far step OpenSquare ks h = bracket_back (UnitGoes p levels) (WholeGoes p levels) place so_far step ks h
back_behind_step p levels place so_far step Slash ks h = slash_back p levels place so_far step ks (goes_to_children step.axis) refl h
back_behind_step p levels place so_far step t ks h = step_goes no_predicate no_step (back_path p levels place (with_step so_far step) t ks h)

-- ---- the other turns

back_literal_goes : (p : Path) (levels : List Level) (l : Literal) (t : Token) (ks : List Token) → OnGoes p ks (inside levels (behind_literal l t)) → LiteralGoes (UnitGoes p levels) l (t ∷ ks)
back_literal_goes p levels l (Compare operator) ks h = literal_goes h
back_literal_goes p levels l _ ks h = absurd h

open_position : (K : unit.Unit → List Token → Type 0) (side : Side) (ks : List Token) → InPositionGoes K side ks → PositionGoes K side (OpenRound ∷ ks)
open_position K side ks (in_position_goes g) = position_goes g

back_position_goes : (p : Path) (levels : List Level) (side : Side) (t : Token) (ks : List Token) → OnGoes p ks (inside levels (behind_position side t)) → PositionGoes (UnitGoes p levels) side (t ∷ ks)
back_position_goes p levels side OpenRound ks h = open_position (UnitGoes p levels) side ks h
back_position_goes p levels side _ ks h = absurd h

back_in_position : (p : Path) (levels : List Level) (side : Side) (t : Token) (ks : List Token) → OnGoes p ks (inside levels (in_position side t)) → InPositionGoes (UnitGoes p levels) side (t ∷ ks)
back_in_position p levels side CloseRound ks h = in_position_goes h
back_in_position p levels side _ ks h = absurd h

back_band_goes : (p : Path) (levels : List Level) (side : Side) (t : Token) (ks : List Token) → OnGoes p ks (inside levels (behind_band side t)) → BandGoes (UnitGoes p levels) (WholeGoes p levels) side (t ∷ ks)
back_band_goes p levels side OpenRound ks h = band_goes h
back_band_goes p levels side _ ks h = absurd h

mask_there : (K : unit.Unit → List Token → Type 0) (side : Side) (q : Path) (n : ℕ) (ks : List Token) → MaskGoes K side q n ks → MaskComes K side q (Figure n ∷ ks)
mask_there K side q n ks (mask_goes g) = mask_comes g

back_mask_comes : (p : Path) (levels : List Level) (side : Side) (q : Path) (t : Token) (ks : List Token) → OnGoes p ks (inside levels (before_mask side q t)) → MaskComes (UnitGoes p levels) side q (t ∷ ks)
back_mask_comes p levels side q (Figure n) ks h = mask_there (UnitGoes p levels) side q n ks h
back_mask_comes p levels side q _ ks h = absurd h

back_mask_goes : (p : Path) (levels : List Level) (side : Side) (q : Path) (n : ℕ) (t : Token) (ks : List Token) → OnGoes p ks (inside levels (behind_mask side q n t)) → MaskGoes (UnitGoes p levels) side q n (t ∷ ks)
back_mask_goes p levels side q n CloseRound ks h = mask_goes h
back_mask_goes p levels side q n _ ks h = absurd h

back : (p : Path) (levels : List Level) (next : Next) (t : Token) (ks : List Token) → OnGoes p ks (turn levels next t) → Goes p levels next (t ∷ ks)
back p levels (BeforeStep place so_far) t ks h = back_step p levels place so_far t ks h
back p levels (BeforeTest place so_far axis) t ks h = back_test p levels place so_far axis t ks h
back p levels (BehindStep place so_far step) t ks h = back_behind_step p levels place so_far step t ks h
back p levels (BeforePredicate place so_far step) t ks h = back_predicate p levels place so_far step t ks h
back p levels (BehindCount place so_far step n) t ks h = back_count p levels place so_far step n t ks h
back p levels BeforeUnit t ks h = back_unit p levels t ks h
back p levels (BehindLiteral l) t ks h = back_literal_goes p levels l t ks h
back p levels (BeforeValue l operator) t ks h = back_value p levels (Right l operator) t ks h
back p levels (BehindPosition side) t ks h = back_position_goes p levels side t ks h
back p levels (InPosition side) t ks h = back_in_position p levels side t ks h
back p levels (BehindBand side) t ks h = back_band_goes p levels side t ks h
back p levels (BeforeMask side q) t ks h = back_mask_comes p levels side q t ks h
back p levels (BehindMask side q n) t ks h = back_mask_goes p levels side q n t ks h
back p levels (BehindValue side v) t ks h = back_behind_value p levels side v t ks h
back p levels (BeforeLiteral v operator) t ks h = back_literal p levels v operator t ks h
back p levels (BehindUnit u) t ks h = back_behind_unit p levels u t ks h

-- ---- the end, and all tokens

ends_whole : (p : Path) (place : Place) (so_far : Option Path) (step : Step) → finished [] (BehindStep place so_far step) ≡ Some p → Goes p [] (BehindStep place so_far step) []
ends_whole p Whole so_far step e = let same_path : with_step so_far step ≡ p = cc in step_goes no_predicate no_step (as_whole (same_path, refl))
ends_whole p (InValue side) so_far step e = cc
ends_whole p (InBand side) so_far step e = cc

ends_next : (p : Path) (next : Next) → finished [] next ≡ Some p → Goes p [] next []
ends_next p (BehindStep place so_far step) e = ends_whole p place so_far step e
ends_next p _ e = cc

ends_all : (p : Path) (levels : List Level) (next : Next) → finished levels next ≡ Some p → Goes p levels next []
ends_all p [] next e = ends_next p next e
ends_all p (level ∷ levels) next e = cc

on_goes : (p : Path) (ks : List Token) (turned : Option (List Level × Next)) → ((levels : List Level) (next : Next) → run levels next ks ≡ Some p → Goes p levels next ks) → on ks turned ≡ Some p → OnGoes p ks turned
on_goes p ks None h e = cc
on_goes p ks (Some turned) h e = h turned.0 turned.1 e

sound : (p : Path) (ks : List Token) (levels : List Level) (next : Next) → run levels next ks ≡ Some p → Goes p levels next ks
sound p [] levels next e = ends_all p levels next e
sound p (t ∷ ks) levels next e = back p levels next t ks (on_goes p ks (turn levels next t) (λ levels' next' f. sound p ks levels' next' f) e)

whole_said : (p : Path) (ks : List Token) → Goes p [] (BeforeStep Whole None) ks → Begins (the_path p) ks []
whole_said p ks (before_step_goes {s = s} {ss = ss} {ns = ns} d ds (as_whole (e, f))) =
    subst (λ (q : Path). Begins (the_path q) ks []) e (subst (λ (ms : List Token). Begins (the_path (path_with (with_step None s) ss)) ks ms) f (path_made d ds))

pub said : (p : Path) (ks : List Token) → run [] (BeforeStep Whole None) ks ≡ Some p → Begins (the_path p) ks []
said p ks e = whole_said p ks (sound p ks [] (BeforeStep Whole None) e)
