-- What the parts that are still to come give, the machine takes, but for the names of functions as names, and for paths that go on behind steps to attributes.
use Rattle.std.proofs.Common.{◌≡◌, ℕ, Bool, true, false, ◌||◌, if◌then◌else◌, List, [], ◌∷◌, codes, Option, Some, None, refl, sym, ap, subst, ◌⊎◌, inl, inr}
use Rattle.wef_query_tokens.specs.declared.axis.Axis.{Axis}
use Rattle.wef_query_tokens.specs.declared.axis.Axis.TheVariants.{Child, Attribute}
use Rattle.wef_query_tokens.specs.declared.operator.Operator.{Operator}
use Rattle.wef_query_tokens.specs.declared.tokens.Token.{Token}
use Rattle.wef_query_tokens.specs.declared.tokens.Token.TheVariants.{Along, Star, Word, Joint, PositionCall, BandCall, Compare, Figure, Quote, OpenSquare, CloseSquare, OpenRound, CloseRound, Slash, Comma}
use Rattle.wef_query_tokens.specs.Calls.{is_band_call, is_position_call, is_call}
use Rattle.wef_query_tokens.specs.Steps.{goes_to_children}
use Rattle.wef_query_paths.specs.declared.conditions.Around.{Around}
use Rattle.wef_query_paths.specs.declared.conditions.Around.TheVariants.{Round, Square}
use Rattle.wef_query_paths.specs.declared.conditions.Level.{Level}
use Rattle.wef_query_paths.specs.declared.steps.Place.{Place}
use Rattle.wef_query_paths.specs.declared.steps.Place.TheVariants.{Whole, InValue, InBand}
use Rattle.wef_query_paths.specs.declared.values.Side.{Side}
use Rattle.wef_query_paths.specs.declared.values.Side.TheVariants.{Left, Right}
use Rattle.wef_query_paths.specs.declared.path.Literal.{Literal}
use Rattle.wef_query_paths.specs.declared.path.Literal.TheVariants.{Number, Quoted}
use Rattle.wef_query_paths.specs.declared.path.Or.{Or}
use Rattle.wef_query_paths.specs.declared.path.Path.{Path}
use Rattle.wef_query_paths.specs.declared.path.Step.{Step}
use Rattle.wef_query_paths.specs.declared.path.Unit as unit
use Rattle.wef_query_paths.specs.declared.path.Unit.TheVariants.{Alone, Mirrored}
use Rattle.wef_query_paths.specs.declared.path.Value.{Value}
use Rattle.wef_query_paths.specs.declared.path.Value.TheVariants.{Nodes, Position, Band}
use Rattle.wef_query_paths.specs.declared.turns.Next.{Next}
use Rattle.wef_query_paths.specs.declared.turns.Next.TheVariants.{BeforeStep, BeforeTest, BehindStep, BeforePredicate, BehindCount, BeforeUnit, BehindLiteral, BeforeValue, BehindPosition, InPosition, BehindBand, BeforeMask, BehindMask, BehindValue, BeforeLiteral, BehindUnit}
use Rattle.wef_query_paths.specs.Allows.{Part, one, the, many, maybe, a_path, a_child_step, an_attribute_step, a_predicate, an_or, an_and, a_unit, a_value, a_numeric_value, Gives, stop, takes, opens, ends, again, skips, goes_on, says_child_first, says_attribute_last, says_attribute_first, says_child, says_along_child, says_attribute, says_place, says_condition, says_or, says_and, says_group, says_value, says_position, says_behind_text, says_behind_number, says_nodes, says_band, says_numeric, says_numeric_position, says_literal, is_name_test, is_and, is_or, along, is_compare, is_figure, sign, is_quote}
use Rattle.wef_query_paths.specs.Fronts.{is_behind_attribute, is_behind_call, is_named_call}
use Rattle.wef_query_paths.specs.Grammar.{Joins}
use Rattle.wef_query_paths.specs.Levels.{alternatives_in, square, with_step}
use Rattle.wef_query_paths.specs.Turns.{before_comma, before_literal, before_mask, before_predicate, before_step, before_test, before_unit, before_value, behind_band, behind_count, behind_last, behind_left, behind_literal, behind_mask, behind_path, behind_position, behind_step, behind_unit, behind_value, closed_round, closed_square, in_position, inside, is_position, turn}
use Rattle.wef_query_paths.proofs.Completes.{joined_and, joined_or}
use Rattle.wef_query_paths.proofs.Sound.{is_name}
use Rattle.wef_query_paths.proofs.Stacks.{Comes, OnComes, bracket_parts, further_parts, path_parts, step_parts, unit_parts, value_parts, whole_parts, worth_parts}

-- the name of a function was one of a child step's, and these tokens come behind it
pub data Named (loose cut : Bool) (k : Token) (ks : List Token) : Type 0 where
  named : (levels : List Level) (side : Side) → is_call k ≡ true → Gives loose cut (step_parts loose (unit_parts loose levels) (whole_parts levels) Child (InValue side)) ks → Named loose cut k ks

-- the same of a state where no function may stand
pub data Misnamed (loose cut : Bool) (next : Next) (k : Token) (ks : List Token) : Type 0 where
  misnamed : (levels : List Level) (axis : Axis) (place : Place) → is_named_call next k ≡ true → Gives loose cut (step_parts loose (unit_parts loose levels) (whole_parts levels) axis place) ks → Misnamed loose cut next k ks

abbrev pub BehindCall : Option (List Level × Next) → Type 0
BehindCall None = ⊥
BehindCall (Some t) = is_behind_call t.1 ≡ true

-- a token that comes: it turns the machine, or is the name of a function and of a step, or goes on behind a step to attributes
pub data Taken (loose cut : Bool) (levels : List Level) (next : Next) (k : Token) (ks : List Token) : Type 0 where
  turns : OnComes loose cut ks (turn levels next k) → Taken loose cut levels next k ks
  names : Named loose cut k ks → BehindCall (turn levels next k) → Taken loose cut levels next k ks
  misnames : Misnamed loose cut next k ks → Taken loose cut levels next k ks
  loosens : loose ≡ true → is_behind_attribute next ≡ true → k ≡ Slash → Taken loose cut levels next k ks

-- ---- steps

-- a step's name
test_in : (loose cut : Bool) (levels : List Level) (place : Place) (so_far : Option Path) (axis : Axis) (k : Token) (ks : List Token) → is_name_test k ≡ true → Gives loose cut (step_parts loose (unit_parts loose levels) (whole_parts levels) axis place) ks
    → OnComes loose cut ks (inside levels (before_test place so_far axis k)) ⊎ (is_call k ≡ true)
test_in loose cut levels place so_far axis Star ks e g = inl g
test_in loose cut levels place so_far axis (Word name) ks e g = inl g
test_in loose cut levels place so_far axis PositionCall ks e g = inr refl
test_in loose cut levels place so_far axis BandCall ks e g = inr refl
test_in loose cut levels place so_far axis _ ks e g = cc

-- a path's first token: it turns the machine, or is the name of a function and a child step's
data PathTaken (loose cut : Bool) (levels : List Level) (place : Place) (so_far : Option Path) (k : Token) (ks : List Token) : Type 0 where
  path_turns : OnComes loose cut ks (inside levels (before_step place so_far k)) → PathTaken loose cut levels place so_far k ks
  path_names : is_call k ≡ true → Gives loose cut (step_parts loose (unit_parts loose levels) (whole_parts levels) Child place) ks → PathTaken loose cut levels place so_far k ks

child_in : (loose cut : Bool) (levels : List Level) (place : Place) (so_far : Option Path) (k : Token) (ks : List Token) → is_name_test k ≡ true → Gives loose cut (step_parts loose (unit_parts loose levels) (whole_parts levels) Child place) ks → PathTaken loose cut levels place so_far k ks
child_in loose cut levels place so_far Star ks e g = path_turns g
child_in loose cut levels place so_far (Word name) ks e g = path_turns g
child_in loose cut levels place so_far PositionCall ks e g = path_names refl g
child_in loose cut levels place so_far BandCall ks e g = path_names refl g
child_in loose cut levels place so_far _ ks e g = cc

along_child_in : (loose cut : Bool) (levels : List Level) (place : Place) (so_far : Option Path) (k : Token) (ks : List Token) → along Child k ≡ true → Comes loose cut levels (BeforeTest place so_far Child) ks → PathTaken loose cut levels place so_far k ks
along_child_in loose cut levels place so_far (Along Child) ks e g = path_turns g
along_child_in loose cut levels place so_far (Along Attribute) ks e g = cc
along_child_in loose cut levels place so_far _ ks e g = cc

attribute_in : (loose cut : Bool) (levels : List Level) (place : Place) (so_far : Option Path) (k : Token) (ks : List Token) → along Attribute k ≡ true → Comes loose cut levels (BeforeTest place so_far Attribute) ks → PathTaken loose cut levels place so_far k ks
attribute_in loose cut levels place so_far (Along Attribute) ks e g = path_turns g
attribute_in loose cut levels place so_far (Along Child) ks e g = cc
attribute_in loose cut levels place so_far _ ks e g = cc

-- what is behind the first step of a path
attribute_first_in : (loose cut : Bool) (levels : List Level) (place : Place) (so_far : Option Path) (b : Bool) (k : Token) (ks : List Token) → loose ≡ b
    → Gives loose cut (the an_attribute_step ∷ further_parts b Attribute (path_parts (unit_parts loose levels) (whole_parts levels) place)) (k ∷ ks) → PathTaken loose cut levels place so_far k ks
attribute_first_in loose cut levels place so_far b k ks e (opens says_attribute (takes f g)) =
    attribute_in loose cut levels place so_far k ks f (subst (λ (c : Bool). Gives loose cut (one is_name_test ∷ many (sign OpenSquare) a_predicate ∷ further_parts c Attribute (path_parts (unit_parts loose levels) (whole_parts levels) place)) ks) (sym e) g)

child_first_in : (loose cut : Bool) (levels : List Level) (place : Place) (so_far : Option Path) (k : Token) (ks : List Token)
    → Gives loose cut (the a_child_step ∷ maybe (sign Slash) a_path ∷ path_parts (unit_parts loose levels) (whole_parts levels) place) (k ∷ ks) → PathTaken loose cut levels place so_far k ks
child_first_in loose cut levels place so_far k ks (opens says_child (takes e g)) = child_in loose cut levels place so_far k ks e g
child_first_in loose cut levels place so_far k ks (opens says_along_child (takes e g)) = along_child_in loose cut levels place so_far k ks e g

path_in : (loose cut : Bool) (levels : List Level) (place : Place) (so_far : Option Path) (k : Token) (ks : List Token) → Comes loose cut levels (BeforeStep place so_far) (k ∷ ks) → PathTaken loose cut levels place so_far k ks
path_in loose cut levels place so_far k ks (opens says_child_first g) = child_first_in loose cut levels place so_far k ks g
path_in loose cut levels place so_far k ks (opens (says_attribute_last e) g) = attribute_first_in loose cut levels place so_far false k ks e g
path_in loose cut levels place so_far k ks (opens (says_attribute_first e) g) = attribute_first_in loose cut levels place so_far true k ks e g

step_taken : (loose cut : Bool) (levels : List Level) (place : Place) (so_far : Option Path) (k : Token) (ks : List Token) → PathTaken loose cut levels place so_far k ks → Taken loose cut levels (BeforeStep place so_far) k ks
step_taken loose cut levels place so_far k ks (path_turns h) = turns h
step_taken loose cut levels place so_far k ks (path_names e g) = misnames (misnamed levels Child place e g)

test_taken : (loose cut : Bool) (levels : List Level) (place : Place) (so_far : Option Path) (axis : Axis) (k : Token) (ks : List Token) → Comes loose cut levels (BeforeTest place so_far axis) (k ∷ ks) → Taken loose cut levels (BeforeTest place so_far axis) k ks
test_taken loose cut levels place so_far axis k ks (takes e g) = elim (test_in loose cut levels place so_far axis k ks e g) as (λ _. Taken loose cut levels (BeforeTest place so_far axis) k ks) [ inl h ↦ turns h | inr f ↦ misnames (misnamed levels axis place f g) ]

-- ---- values and units that begin

nodes_in : (loose cut : Bool) (levels : List Level) (side : Side) (k : Token) (ks : List Token) → PathTaken loose cut levels (InValue side) None k ks → OnComes loose cut ks (inside levels (before_value side k)) ⊎ Named loose cut k ks
nodes_in loose cut levels side k ks (path_names e g) = inr (named levels side e g)
nodes_in loose cut levels side PositionCall ks (path_turns h) = absurd h
nodes_in loose cut levels side BandCall ks (path_turns h) = absurd h
nodes_in loose cut levels side k ks (path_turns h) = inl h

band_in : (loose cut : Bool) (levels : List Level) (side : Side) (k : Token) (ks : List Token) → is_band_call k ≡ true → Comes loose cut levels (BehindBand side) ks → OnComes loose cut ks (inside levels (before_value side k))
band_in loose cut levels side BandCall ks e g = g
band_in loose cut levels side _ ks e g = cc

value_in : (loose cut : Bool) (levels : List Level) (side : Side) (k : Token) (ks : List Token) → Gives loose cut (the a_value ∷ value_parts (unit_parts loose levels) side) (k ∷ ks) → OnComes loose cut ks (inside levels (before_value side k)) ⊎ Named loose cut k ks
value_in loose cut levels side k ks (opens says_nodes g) = nodes_in loose cut levels side k ks (path_in loose cut levels (InValue side) None k ks g)
value_in loose cut levels side k ks (opens says_band (takes e g)) = inl (band_in loose cut levels side k ks e g)

numeric_position_in : (loose cut : Bool) (levels : List Level) (n : ℕ) (operator : Operator) (k : Token) (ks : List Token) → is_position_call k ≡ true → Comes loose cut levels (BehindPosition (Right (Number n) operator)) ks
    → OnComes loose cut ks (inside levels (before_value (Right (Number n) operator) k))
numeric_position_in loose cut levels n operator PositionCall ks e g = g
numeric_position_in loose cut levels n operator _ ks e g = cc

right_in : (loose cut : Bool) (levels : List Level) (literal : Literal) (operator : Operator) (k : Token) (ks : List Token) → Comes loose cut levels (BeforeValue literal operator) (k ∷ ks)
    → OnComes loose cut ks (inside levels (before_value (Right literal operator) k)) ⊎ Named loose cut k ks
right_in loose cut levels (Number n) operator k ks (opens says_numeric g) = value_in loose cut levels (Right (Number n) operator) k ks g
right_in loose cut levels (Number n) operator k ks (opens says_numeric_position (takes e g)) = inl (numeric_position_in loose cut levels n operator k ks e g)
right_in loose cut levels (Quoted text) operator k ks g = value_in loose cut levels (Right (Quoted text) operator) k ks g

-- all the tokens of a value that begins on the left
left_in : (loose cut : Bool) (levels : List Level) (k : Token) (ks : List Token) → OnComes loose cut ks (inside levels (before_value Left k)) ⊎ Named loose cut k ks → OnComes loose cut ks (before_unit levels k) ⊎ Named loose cut k ks
left_in loose cut levels k ks (inr n) = inr n
left_in loose cut levels OpenRound ks (inl h) = absurd h
left_in loose cut levels (Figure n) ks (inl h) = absurd h
left_in loose cut levels (Quote text) ks (inl h) = absurd h
left_in loose cut levels k ks (inl h) = inl h

-- the first unit of a condition
and_in : (loose cut : Bool) (parts : List Part) (ks : List Token) → Gives loose cut (the an_and ∷ parts) ks → Gives loose cut (the a_unit ∷ many is_and a_unit ∷ parts) ks
and_in loose cut parts [] (stop e) = stop e
and_in loose cut parts ks (opens says_and g) = g

or_in : (loose cut : Bool) (parts : List Part) (ks : List Token) → Gives loose cut (the an_or ∷ parts) ks → Gives loose cut (the a_unit ∷ many is_and a_unit ∷ many is_or an_and ∷ parts) ks
or_in loose cut parts [] (stop e) = stop e
or_in loose cut parts ks (opens says_or g) = and_in loose cut (many is_or an_and ∷ parts) ks g

group_in : (loose cut : Bool) (levels : List Level) (k : Token) (ks : List Token) → sign OpenRound k ≡ true → Gives loose cut (the an_or ∷ one (sign CloseRound) ∷ unit_parts loose levels) ks → OnComes loose cut ks (before_unit levels k)
group_in loose cut levels OpenRound ks e g = or_in loose cut (one (sign CloseRound) ∷ unit_parts loose levels) ks g
group_in loose cut levels _ ks e g = cc

left_position_in : (loose cut : Bool) (levels : List Level) (k : Token) (ks : List Token) → is_position_call k ≡ true → Comes loose cut levels (BehindPosition Left) ks → OnComes loose cut ks (before_unit levels k)
left_position_in loose cut levels PositionCall ks e g = g
left_position_in loose cut levels _ ks e g = cc

quote_in : (loose cut : Bool) (levels : List Level) (k : Token) (ks : List Token) → is_quote k ≡ true → Gives loose cut (one is_compare ∷ the a_value ∷ unit_parts loose levels) ks → OnComes loose cut ks (before_unit levels k)
quote_in loose cut levels (Quote text) ks e g = g
quote_in loose cut levels _ ks e g = cc

figure_in : (loose cut : Bool) (levels : List Level) (k : Token) (ks : List Token) → is_figure k ≡ true → Gives loose cut (one is_compare ∷ the a_numeric_value ∷ unit_parts loose levels) ks → OnComes loose cut ks (before_unit levels k)
figure_in loose cut levels (Figure n) ks e g = g
figure_in loose cut levels _ ks e g = cc

unit_in : (loose cut : Bool) (levels : List Level) (k : Token) (ks : List Token) → Comes loose cut levels BeforeUnit (k ∷ ks) → OnComes loose cut ks (before_unit levels k) ⊎ Named loose cut k ks
unit_in loose cut levels k ks (opens says_group (takes e g)) = inl (group_in loose cut levels k ks e g)
unit_in loose cut levels k ks (opens says_value g) = left_in loose cut levels k ks (value_in loose cut levels Left k ks g)
unit_in loose cut levels k ks (opens says_position (takes e g)) = inl (left_position_in loose cut levels k ks e g)
unit_in loose cut levels k ks (opens says_behind_text (takes e g)) = inl (quote_in loose cut levels k ks e g)
unit_in loose cut levels k ks (opens says_behind_number (takes e g)) = inl (figure_in loose cut levels k ks e g)

-- ---- predicates that begin

condition_in : (loose cut : Bool) (levels : List Level) (place : Place) (so_far : Option Path) (step : Step) (k : Token) (ks : List Token) → OnComes loose cut ks (before_unit (square place so_far step ∷ levels) k) ⊎ Named loose cut k ks
    → OnComes loose cut ks (before_predicate levels place so_far step k) ⊎ Named loose cut k ks
condition_in loose cut levels place so_far step k ks (inr n) = inr n
condition_in loose cut levels place so_far step (Figure n) ks (inl h) = inl (inr h)
condition_in loose cut levels place so_far step k ks (inl h) = inl h

place_in : (loose cut : Bool) (levels : List Level) (place : Place) (so_far : Option Path) (step : Step) (k : Token) (ks : List Token) → is_figure k ≡ true → Gives loose cut (one (sign CloseSquare) ∷ step_parts loose (unit_parts loose levels) (whole_parts levels) step.axis place) ks
    → OnComes loose cut ks (before_predicate levels place so_far step k)
place_in loose cut levels place so_far step (Figure n) ks e g = inl g
place_in loose cut levels place so_far step _ ks e g = cc

predicate_in : (loose cut : Bool) (levels : List Level) (place : Place) (so_far : Option Path) (step : Step) (k : Token) (ks : List Token) → Comes loose cut levels (BeforePredicate place so_far step) (k ∷ ks)
    → OnComes loose cut ks (before_predicate levels place so_far step k) ⊎ Named loose cut k ks
predicate_in loose cut levels place so_far step k ks (opens says_place (takes e g)) = inl (place_in loose cut levels place so_far step k ks e g)
predicate_in loose cut levels place so_far step k ks (opens says_condition g) =
    condition_in loose cut levels place so_far step k ks (unit_in loose cut (square place so_far step ∷ levels) k ks (or_in loose cut (one (sign CloseSquare) ∷ step_parts loose (unit_parts loose levels) (whole_parts levels) step.axis place) (k ∷ ks) g))

close_count_in : (loose cut : Bool) (levels : List Level) (place : Place) (so_far : Option Path) (step : Step) (n : ℕ) (k : Token) (ks : List Token) → sign CloseSquare k ≡ true → Comes loose cut levels (BehindStep place so_far step) ks
    → OnComes loose cut ks (behind_count levels place so_far step n k)
close_count_in loose cut levels place so_far step n CloseSquare ks e g = g
close_count_in loose cut levels place so_far step n _ ks e g = cc

compare_count_in : (loose cut : Bool) (levels : List Level) (place : Place) (so_far : Option Path) (step : Step) (n : ℕ) (k : Token) (ks : List Token) → is_compare k ≡ true → Gives loose cut (the a_numeric_value ∷ unit_parts loose (square place so_far step ∷ levels)) ks
    → OnComes loose cut ks (behind_count levels place so_far step n k)
compare_count_in loose cut levels place so_far step n (Compare operator) ks e g = g
compare_count_in loose cut levels place so_far step n _ ks e g = cc

count_in : (loose cut : Bool) (levels : List Level) (place : Place) (so_far : Option Path) (step : Step) (n : ℕ) (k : Token) (ks : List Token) → Comes loose cut levels (BehindCount place so_far step n) (k ∷ ks)
    → OnComes loose cut ks (behind_count levels place so_far step n k)
count_in loose cut levels place so_far step n k ks (inl (takes e g)) = close_count_in loose cut levels place so_far step n k ks e g
count_in loose cut levels place so_far step n k ks (inr (takes e g)) = compare_count_in loose cut levels place so_far step n k ks e g

-- ---- behind a unit

bracket_in : (loose cut : Bool) (levels : List Level) (around : Around) (o : Or) (k : Token) (ks : List Token) → Gives loose cut (bracket_parts loose (unit_parts loose levels) (whole_parts levels) around) (k ∷ ks)
    → ((k ≡ CloseRound) × OnComes loose cut ks (inside levels (closed_round around o))) ⊎ ((k ≡ CloseSquare) × OnComes loose cut ks (inside levels (closed_square around o)))
bracket_in loose cut levels Round o CloseRound ks (takes e g) = inl (refl, g)
bracket_in loose cut levels Round o _ ks (takes e g) = cc
bracket_in loose cut levels (Square place so_far step) o CloseSquare ks (takes e g) = inr (refl, g)
bracket_in loose cut levels (Square place so_far step) o _ ks (takes e g) = cc

closes_in : (loose cut : Bool) (levels : List Level) (level : Level) (u : unit.Unit) (k : Token) (ks : List Token)
    → ((k ≡ CloseRound) × OnComes loose cut ks (inside levels (closed_round level.around (alternatives_in level u)))) ⊎ ((k ≡ CloseSquare) × OnComes loose cut ks (inside levels (closed_square level.around (alternatives_in level u))))
    → OnComes loose cut ks (behind_last levels level u k)
closes_in loose cut levels level u k ks (inl both) = subst (λ (t : Token). OnComes loose cut ks (behind_last levels level u t)) (sym both.0) both.1
closes_in loose cut levels level u k ks (inr both) = subst (λ (t : Token). OnComes loose cut ks (behind_last levels level u t)) (sym both.0) both.1

joins_and : (k : Token) → is_and k ≡ true → Joins k (codes "and")
joins_and (Word name) e = is_name name (codes "and") e
joins_and (Joint name) e = is_name name (codes "and") e
joins_and _ e = cc

joins_or : (k : Token) → is_or k ≡ true → Joins k (codes "or")
joins_or (Word name) e = is_name name (codes "or") e
joins_or (Joint name) e = is_name name (codes "or") e
joins_or _ e = cc

behind_unit_in : (loose cut : Bool) (levels : List Level) (u : unit.Unit) (k : Token) (ks : List Token) → Gives loose cut (unit_parts loose levels) (k ∷ ks) → OnComes loose cut ks (behind_unit levels u k)
behind_unit_in loose cut [] u k ks (takes e g) = cc
behind_unit_in loose cut (level ∷ levels) u k ks (again e g) = subst (OnComes loose cut ks) (sym (joined_and levels level u k (joins_and k e))) g
behind_unit_in loose cut (level ∷ levels) u k ks (ends (again e g)) = subst (OnComes loose cut ks) (sym (joined_or levels level u k (joins_or k e))) (and_in loose cut (many is_or an_and ∷ bracket_parts loose (unit_parts loose levels) (whole_parts levels) level.around) ks g)
behind_unit_in loose cut (level ∷ levels) u k ks (ends (ends g)) = closes_in loose cut levels level u k ks (bracket_in loose cut levels level.around (alternatives_in level u) k ks g)

-- ---- behind a value

-- behind a value no unit ends with an operator
left_alone_in : (loose cut : Bool) (levels : List Level) (v : Value) (k : Token) (ks : List Token) → OnComes loose cut ks (behind_unit levels (Alone v) k) → is_position v ≡ false → OnComes loose cut ks (behind_left levels v k)
left_alone_in loose cut [] v k ks h e = absurd h
left_alone_in loose cut (level ∷ levels) v (Compare operator) ks h e = absurd h
left_alone_in loose cut (level ∷ levels) (Nodes path) k ks h e = h
left_alone_in loose cut (level ∷ levels) (Band path n) k ks h e = h
left_alone_in loose cut (level ∷ levels) Position k ks h e = cc

compare_in : (loose cut : Bool) (levels : List Level) (v : Value) (k : Token) (ks : List Token) → is_compare k ≡ true → ((operator : Operator) → Comes loose cut levels (BeforeLiteral v operator) ks) → OnComes loose cut ks (behind_left levels v k)
compare_in loose cut levels v (Compare operator) ks e g = g operator
compare_in loose cut levels v _ ks e g = cc

behind_left_in : (loose cut : Bool) (levels : List Level) (v : Value) (k : Token) (ks : List Token) → Gives loose cut (worth_parts (unit_parts loose levels) Left v) (k ∷ ks) → OnComes loose cut ks (behind_left levels v k)
behind_left_in loose cut levels Position k ks (takes e g) = compare_in loose cut levels Position k ks e (λ operator. g)
behind_left_in loose cut levels (Nodes path) k ks (goes_on e g) = compare_in loose cut levels (Nodes path) k ks e (λ operator. g)
behind_left_in loose cut levels (Band path n) k ks (goes_on e g) = compare_in loose cut levels (Band path n) k ks e (λ operator. g)
behind_left_in loose cut levels (Nodes path) k ks (skips g) = left_alone_in loose cut levels (Nodes path) k ks (behind_unit_in loose cut levels (Alone (Nodes path)) k ks g) refl
behind_left_in loose cut levels (Band path n) k ks (skips g) = left_alone_in loose cut levels (Band path n) k ks (behind_unit_in loose cut levels (Alone (Band path n)) k ks g) refl

behind_value_in : (loose cut : Bool) (levels : List Level) (side : Side) (v : Value) (k : Token) (ks : List Token) → Gives loose cut (worth_parts (unit_parts loose levels) side v) (k ∷ ks) → OnComes loose cut ks (behind_value levels side v k)
behind_value_in loose cut levels Left v k ks g = behind_left_in loose cut levels v k ks g
behind_value_in loose cut levels (Right literal operator) Position k ks g = behind_unit_in loose cut levels (Mirrored literal operator Position) k ks g
behind_value_in loose cut levels (Right literal operator) (Nodes path) k ks g = behind_unit_in loose cut levels (Mirrored literal operator (Nodes path)) k ks g
behind_value_in loose cut levels (Right literal operator) (Band path n) k ks g = behind_unit_in loose cut levels (Mirrored literal operator (Band path n)) k ks g

literal_in : (loose cut : Bool) (levels : List Level) (v : Value) (operator : Operator) (k : Token) (ks : List Token) → Comes loose cut levels (BeforeLiteral v operator) (k ∷ ks) → OnComes loose cut ks (inside levels (before_literal v operator k))
literal_in loose cut levels Position operator (Figure n) ks (takes e g) = g
literal_in loose cut levels Position operator _ ks (takes e g) = cc
literal_in loose cut levels (Nodes path) operator (Figure n) ks (opens says_literal (takes e g)) = g
literal_in loose cut levels (Nodes path) operator (Quote text) ks (opens says_literal (takes e g)) = g
literal_in loose cut levels (Nodes path) operator _ ks (opens says_literal (takes e g)) = cc
literal_in loose cut levels (Band path m) operator (Figure n) ks (opens says_literal (takes e g)) = g
literal_in loose cut levels (Band path m) operator (Quote text) ks (opens says_literal (takes e g)) = g
literal_in loose cut levels (Band path m) operator _ ks (opens says_literal (takes e g)) = cc

-- ---- behind a path and a step

comma_in : (loose cut : Bool) (levels : List Level) (side : Side) (path : Path) (k : Token) (ks : List Token) → Gives loose cut (path_parts (unit_parts loose levels) (whole_parts levels) (InBand side)) (k ∷ ks) → OnComes loose cut ks (inside levels (before_comma side path k))
comma_in loose cut levels side path Comma ks (takes e g) = g
comma_in loose cut levels side path _ ks (takes e g) = cc

whole_in : (loose cut : Bool) (levels : List Level) (k : Token) (ks : List Token) → Gives loose cut (whole_parts levels) (k ∷ ks) → ⊥
whole_in loose cut [] k ks g = elim g [ ]
whole_in loose cut (level ∷ levels) k ks (takes e g) = cc

pub behind_path_in : (loose cut : Bool) (levels : List Level) (place : Place) (path : Path) (k : Token) (ks : List Token) → Gives loose cut (path_parts (unit_parts loose levels) (whole_parts levels) place) (k ∷ ks) → OnComes loose cut ks (behind_path levels place path k)
behind_path_in loose cut levels Whole path k ks g = absurd (whole_in loose cut levels k ks g)
behind_path_in loose cut levels (InValue side) path k ks g = behind_value_in loose cut levels side (Nodes path) k ks g
behind_path_in loose cut levels (InBand side) path k ks g = comma_in loose cut levels side path k ks g

-- tokens that never stand behind a unit, nor behind a path but as parts of it
abbrev pub is_inner : Token → Bool
is_inner Star = true
is_inner token = sign OpenSquare token || sign OpenRound token || sign Slash token

pub unit_refuses : (loose cut : Bool) (levels : List Level) (u : unit.Unit) (k : Token) (ks : List Token) → is_inner k ≡ true → OnComes loose cut ks (behind_unit levels u k) → ⊥
unit_refuses loose cut [] u k ks e h = h
unit_refuses loose cut (level ∷ levels) u Star ks e h = h
unit_refuses loose cut (level ∷ levels) u OpenSquare ks e h = h
unit_refuses loose cut (level ∷ levels) u OpenRound ks e h = h
unit_refuses loose cut (level ∷ levels) u Slash ks e h = h
unit_refuses loose cut (level ∷ levels) u _ ks e h = cc

left_refuses : (loose cut : Bool) (levels : List Level) (path : Path) (k : Token) (ks : List Token) → is_inner k ≡ true → OnComes loose cut ks (behind_left levels (Nodes path) k) → ⊥
left_refuses loose cut levels path (Compare operator) ks e h = cc
left_refuses loose cut levels path k ks e h = unit_refuses loose cut levels (Alone (Nodes path)) k ks e h

comma_refuses : (loose cut : Bool) (levels : List Level) (side : Side) (path : Path) (k : Token) (ks : List Token) → is_inner k ≡ true → OnComes loose cut ks (inside levels (before_comma side path k)) → ⊥
comma_refuses loose cut levels side path Comma ks e h = cc
comma_refuses loose cut levels side path _ ks e h = h

pub path_refuses : (loose cut : Bool) (levels : List Level) (place : Place) (path : Path) (k : Token) (ks : List Token) → is_inner k ≡ true → OnComes loose cut ks (behind_path levels place path k) → ⊥
path_refuses loose cut levels Whole path k ks e h = h
path_refuses loose cut levels (InValue Left) path k ks e h = left_refuses loose cut levels path k ks e h
path_refuses loose cut levels (InValue (Right literal operator)) path k ks e h = unit_refuses loose cut levels (Mirrored literal operator (Nodes path)) k ks e h
path_refuses loose cut levels (InBand side) path k ks e h = comma_refuses loose cut levels side path k ks e h

-- what comes behind a step's predicates: the path goes on, goes on where it may not, or ends
pub data Further (loose cut : Bool) (axis : Axis) (parts : List Part) (k : Token) (ks : List Token) : Type 0 where
  goes_further : goes_to_children axis ≡ true → k ≡ Slash → Gives loose cut (the a_path ∷ parts) ks → Further loose cut axis parts k ks
  goes_too_far : loose ≡ true → goes_to_children axis ≡ false → k ≡ Slash → Further loose cut axis parts k ks
  goes_behind : Gives loose cut parts (k ∷ ks) → Further loose cut axis parts k ks

slash_is : (k : Token) → sign Slash k ≡ true → k ≡ Slash
slash_is Slash e = refl
slash_is _ e = cc

pub further_in : (loose cut : Bool) (axis : Axis) (parts : List Part) (k : Token) (ks : List Token) → Gives loose cut (further_parts loose axis parts) (k ∷ ks) → Further loose cut axis parts k ks
further_in loose cut Child parts k ks (skips g) = goes_behind g
further_in loose cut Child parts k ks (goes_on e g) = goes_further refl (slash_is k e) g
further_in true cut Attribute parts k ks (skips g) = goes_behind g
further_in true cut Attribute parts k ks (goes_on e g) = goes_too_far refl refl (slash_is k e)
further_in false cut Attribute parts k ks g = goes_behind g

open_square_in : (loose cut : Bool) (levels : List Level) (place : Place) (so_far : Option Path) (step : Step) (k : Token) (ks : List Token) → sign OpenSquare k ≡ true → Comes loose cut levels (BeforePredicate place so_far step) ks → OnComes loose cut ks (behind_step levels place so_far step k)
open_square_in loose cut levels place so_far step OpenSquare ks e g = g
open_square_in loose cut levels place so_far step _ ks e g = cc

-- behind a step, what may stand behind its path
ends_in : (loose cut : Bool) (levels : List Level) (place : Place) (so_far : Option Path) (step : Step) (k : Token) (ks : List Token) → OnComes loose cut ks (behind_path levels place (with_step so_far step) k) → OnComes loose cut ks (behind_step levels place so_far step k)
ends_in loose cut levels place so_far step OpenSquare ks h = absurd (path_refuses loose cut levels place (with_step so_far step) OpenSquare ks refl h)
ends_in loose cut levels place so_far step Slash ks h = absurd (path_refuses loose cut levels place (with_step so_far step) Slash ks refl h)
ends_in loose cut levels place so_far step k ks h = h

behind_step_in : (loose cut : Bool) (levels : List Level) (place : Place) (so_far : Option Path) (step : Step) (k : Token) (ks : List Token) → Further loose cut step.axis (path_parts (unit_parts loose levels) (whole_parts levels) place) k ks → Taken loose cut levels (BehindStep place so_far step) k ks
behind_step_in loose cut levels place so_far step k ks (goes_further e f g) =
    turns (subst (λ (t : Token). OnComes loose cut ks (behind_step levels place so_far step t)) (sym f) (subst (λ (b : Bool). OnComes loose cut ks (inside levels (if b then Some (BeforeStep place (Some (with_step so_far step))) else None))) (sym e) g))
behind_step_in loose cut levels place so_far step k ks (goes_too_far e f g) = loosens e (ap (λ b. if b then false else true) f) g
behind_step_in loose cut levels place so_far step k ks (goes_behind g) = turns (ends_in loose cut levels place so_far step k ks (behind_path_in loose cut levels place (with_step so_far step) k ks g))

step_in : (loose cut : Bool) (levels : List Level) (place : Place) (so_far : Option Path) (step : Step) (k : Token) (ks : List Token) → Comes loose cut levels (BehindStep place so_far step) (k ∷ ks) → Taken loose cut levels (BehindStep place so_far step) k ks
step_in loose cut levels place so_far step k ks (again e g) = turns (open_square_in loose cut levels place so_far step k ks e g)
step_in loose cut levels place so_far step k ks (ends g) = behind_step_in loose cut levels place so_far step k ks (further_in loose cut step.axis (path_parts (unit_parts loose levels) (whole_parts levels) place) k ks g)

-- ---- the other states, and all of them

literal_goes_in : (loose cut : Bool) (levels : List Level) (literal : Literal) (k : Token) (ks : List Token) → Comes loose cut levels (BehindLiteral literal) (k ∷ ks) → OnComes loose cut ks (inside levels (behind_literal literal k))
literal_goes_in loose cut levels (Number n) (Compare operator) ks (takes e g) = g
literal_goes_in loose cut levels (Number n) _ ks (takes e g) = cc
literal_goes_in loose cut levels (Quoted text) (Compare operator) ks (takes e g) = g
literal_goes_in loose cut levels (Quoted text) _ ks (takes e g) = cc

position_goes_in : (loose cut : Bool) (levels : List Level) (side : Side) (k : Token) (ks : List Token) → Comes loose cut levels (BehindPosition side) (k ∷ ks) → OnComes loose cut ks (inside levels (behind_position side k))
position_goes_in loose cut levels side OpenRound ks (takes e g) = g
position_goes_in loose cut levels side _ ks (takes e g) = cc

in_position_in : (loose cut : Bool) (levels : List Level) (side : Side) (k : Token) (ks : List Token) → Comes loose cut levels (InPosition side) (k ∷ ks) → OnComes loose cut ks (inside levels (in_position side k))
in_position_in loose cut levels Left CloseRound ks (takes e g) = g
in_position_in loose cut levels (Right literal operator) CloseRound ks (takes e g) = g
in_position_in loose cut levels side _ ks (takes e g) = cc

band_goes_in : (loose cut : Bool) (levels : List Level) (side : Side) (k : Token) (ks : List Token) → Comes loose cut levels (BehindBand side) (k ∷ ks) → OnComes loose cut ks (inside levels (behind_band side k))
band_goes_in loose cut levels side OpenRound ks (takes e g) = g
band_goes_in loose cut levels side _ ks (takes e g) = cc

mask_in : (loose cut : Bool) (levels : List Level) (side : Side) (path : Path) (k : Token) (ks : List Token) → Comes loose cut levels (BeforeMask side path) (k ∷ ks) → OnComes loose cut ks (inside levels (before_mask side path k))
mask_in loose cut levels side path (Figure n) ks (takes e g) = g
mask_in loose cut levels side path _ ks (takes e g) = cc

mask_goes_in : (loose cut : Bool) (levels : List Level) (side : Side) (path : Path) (n : ℕ) (k : Token) (ks : List Token) → Comes loose cut levels (BehindMask side path n) (k ∷ ks) → OnComes loose cut ks (inside levels (behind_mask side path n k))
mask_goes_in loose cut levels side path n CloseRound ks (takes e g) = g
mask_goes_in loose cut levels side path n _ ks (takes e g) = cc

unit_call : (levels : List Level) (k : Token) → is_call k ≡ true → BehindCall (before_unit levels k)
unit_call levels PositionCall e = refl
unit_call levels BandCall e = refl
unit_call levels _ e = cc

predicate_call : (levels : List Level) (place : Place) (so_far : Option Path) (step : Step) (k : Token) → is_call k ≡ true → BehindCall (before_predicate levels place so_far step k)
predicate_call levels place so_far step PositionCall e = refl
predicate_call levels place so_far step BandCall e = refl
predicate_call levels place so_far step _ e = cc

unit_taken : (loose cut : Bool) (levels : List Level) (k : Token) (ks : List Token) → OnComes loose cut ks (before_unit levels k) ⊎ Named loose cut k ks → Taken loose cut levels BeforeUnit k ks
unit_taken loose cut levels k ks (inl h) = turns h
unit_taken loose cut levels k ks (inr (named inner side e g)) = names (named inner side e g) (unit_call levels k e)

predicate_taken : (loose cut : Bool) (levels : List Level) (place : Place) (so_far : Option Path) (step : Step) (k : Token) (ks : List Token) → OnComes loose cut ks (before_predicate levels place so_far step k) ⊎ Named loose cut k ks → Taken loose cut levels (BeforePredicate place so_far step) k ks
predicate_taken loose cut levels place so_far step k ks (inl h) = turns h
predicate_taken loose cut levels place so_far step k ks (inr (named inner side e g)) = names (named inner side e g) (predicate_call levels place so_far step k e)

right_named : (loose cut : Bool) (levels : List Level) (literal : Literal) (operator : Operator) (k : Token) (ks : List Token) → is_call k ≡ true → (inner : List Level) (side : Side) → Gives loose cut (step_parts loose (unit_parts loose inner) (whole_parts inner) Child (InValue side)) ks
    → Taken loose cut levels (BeforeValue literal operator) k ks
right_named loose cut levels (Number n) operator PositionCall ks e inner side g = names (named inner side e g) refl
right_named loose cut levels (Quoted text) operator PositionCall ks e inner side g = misnames (misnamed inner Child (InValue side) refl g)
right_named loose cut levels literal operator BandCall ks e inner side g = names (named inner side e g) refl
right_named loose cut levels literal operator _ ks e inner side g = cc

right_taken : (loose cut : Bool) (levels : List Level) (literal : Literal) (operator : Operator) (k : Token) (ks : List Token) → OnComes loose cut ks (inside levels (before_value (Right literal operator) k)) ⊎ Named loose cut k ks → Taken loose cut levels (BeforeValue literal operator) k ks
right_taken loose cut levels literal operator k ks (inl h) = turns h
right_taken loose cut levels literal operator k ks (inr (named inner side e g)) = right_named loose cut levels literal operator k ks e inner side g

pub forward : (loose cut : Bool) (levels : List Level) (next : Next) (k : Token) (ks : List Token) → Comes loose cut levels next (k ∷ ks) → Taken loose cut levels next k ks
forward loose cut levels (BeforeStep place so_far) k ks g = step_taken loose cut levels place so_far k ks (path_in loose cut levels place so_far k ks g)
forward loose cut levels (BeforeTest place so_far axis) k ks g = test_taken loose cut levels place so_far axis k ks g
forward loose cut levels (BehindStep place so_far step) k ks g = step_in loose cut levels place so_far step k ks g
forward loose cut levels (BeforePredicate place so_far step) k ks g = predicate_taken loose cut levels place so_far step k ks (predicate_in loose cut levels place so_far step k ks g)
forward loose cut levels (BehindCount place so_far step n) k ks g = turns (count_in loose cut levels place so_far step n k ks g)
forward loose cut levels BeforeUnit k ks g = unit_taken loose cut levels k ks (unit_in loose cut levels k ks g)
forward loose cut levels (BehindLiteral literal) k ks g = turns (literal_goes_in loose cut levels literal k ks g)
forward loose cut levels (BeforeValue literal operator) k ks g = right_taken loose cut levels literal operator k ks (right_in loose cut levels literal operator k ks g)
forward loose cut levels (BehindPosition side) k ks g = turns (position_goes_in loose cut levels side k ks g)
forward loose cut levels (InPosition side) k ks g = turns (in_position_in loose cut levels side k ks g)
forward loose cut levels (BehindBand side) k ks g = turns (band_goes_in loose cut levels side k ks g)
forward loose cut levels (BeforeMask side path) k ks g = turns (mask_in loose cut levels side path k ks g)
forward loose cut levels (BehindMask side path n) k ks g = turns (mask_goes_in loose cut levels side path n k ks g)
forward loose cut levels (BehindValue side v) k ks g = turns (behind_value_in loose cut levels side v k ks g)
forward loose cut levels (BeforeLiteral v operator) k ks g = turns (literal_in loose cut levels v operator k ks g)
forward loose cut levels (BehindUnit u) k ks g = turns (behind_unit_in loose cut levels u k ks g)
