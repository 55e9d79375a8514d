-- The parts that are still to come, for each state of the machine; what these give behind a token, they give with it.
use Rattle.std.proofs.Common.{◌≡◌, ℕ, Bool, true, false, if◌then◌else◌, List, [], ◌∷◌, ◌++◌, codes, Option, Some, None, refl, subst, ◌⊎◌, inl, inr}
use Rattle.std.specs.Option.{option_and_then}
use Rattle.wef_base.specs.Names.{same}
use Rattle.wef_query_tokens.specs.declared.axis.Axis.{Axis}
use Rattle.wef_query_tokens.specs.declared.axis.Axis.TheVariants.{Child, Attribute}
use Rattle.wef_query_tokens.specs.declared.operator.Operator.{Operator}
use Rattle.wef_query_tokens.specs.declared.tokens.Token.{Token}
use Rattle.wef_query_tokens.specs.declared.tokens.Token.TheVariants.{Along, Star, Word, Joint, PositionCall, BandCall, Compare, Figure, Quote, OpenSquare, CloseSquare, OpenRound, CloseRound, Slash, Comma}
use Rattle.wef_query_tokens.specs.Steps.{goes_to_children}
use Rattle.wef_query_paths.specs.declared.conditions.Around.{Around}
use Rattle.wef_query_paths.specs.declared.conditions.Around.TheVariants.{Round, Square}
use Rattle.wef_query_paths.specs.declared.conditions.Level.{Level}
use Rattle.wef_query_paths.specs.declared.steps.Place.{Place}
use Rattle.wef_query_paths.specs.declared.steps.Place.TheVariants.{Whole, InValue, InBand}
use Rattle.wef_query_paths.specs.declared.values.Side.{Side}
use Rattle.wef_query_paths.specs.declared.values.Side.TheVariants.{Left, Right}
use Rattle.wef_query_paths.specs.declared.path.Literal.{Literal}
use Rattle.wef_query_paths.specs.declared.path.Literal.TheVariants.{Number, Quoted}
use Rattle.wef_query_paths.specs.declared.path.Or.{Or}
use Rattle.wef_query_paths.specs.declared.path.Path.{Path}
use Rattle.wef_query_paths.specs.declared.path.Step.{Step}
use Rattle.wef_query_paths.specs.declared.path.Unit as unit
use Rattle.wef_query_paths.specs.declared.path.Unit.TheVariants.{Alone, Mirrored}
use Rattle.wef_query_paths.specs.declared.path.Value.{Value}
use Rattle.wef_query_paths.specs.declared.path.Value.TheVariants.{Nodes, Position, Band}
use Rattle.wef_query_paths.specs.declared.turns.Next.{Next}
use Rattle.wef_query_paths.specs.declared.turns.Next.TheVariants.{BeforeStep, BeforeTest, BehindStep, BeforePredicate, BehindCount, BeforeUnit, BehindLiteral, BeforeValue, BehindPosition, InPosition, BehindBand, BeforeMask, BehindMask, BehindValue, BeforeLiteral, BehindUnit}
use Rattle.wef_query_paths.specs.Allows.{Part, one, the, many, maybe, a_path, a_predicate, an_and, a_unit, a_value, a_numeric_value, a_literal, Gives, takes, opens, ends, again, skips, goes_on, says_child_first, says_attribute_last, says_attribute_first, says_child, says_along_child, says_attribute, says_place, says_condition, says_or, says_and, says_group, says_value, says_position, says_behind_text, says_behind_number, says_nodes, says_band, says_numeric, says_numeric_position, says_literal, is_name_test, is_and, is_or, is_compare, is_figure, sign}
use Rattle.wef_query_paths.specs.Fronts.{turned}
use Rattle.wef_query_paths.specs.Levels.{alternatives_in, square, with_step}
use Rattle.wef_query_paths.specs.Turns.{before_comma, before_literal, before_mask, before_predicate, before_step, before_test, before_unit, before_value, behind_band, behind_count, behind_left, behind_literal, behind_mask, behind_path, behind_position, behind_step, behind_unit, behind_value, closed_round, closed_square, in_position, inside, turn, with_and_behind, with_or_behind}

-- ---- what is still to come

-- a part that no token is
abbrev pub nothing : Part
nothing = one (λ _. false)

-- behind all of the text's path
abbrev pub whole_parts : List Level → List Part
whole_parts [] = []
whole_parts (level ∷ levels) = nothing ∷ []

-- behind `position` `(` `)`, where K is what comes behind a unit
abbrev pub position_parts : List Part → Side → List Part
position_parts K Left = one is_compare ∷ one is_figure ∷ K
position_parts K (Right literal operator) = K

-- behind another value
abbrev pub value_parts : List Part → Side → List Part
value_parts K Left = maybe is_compare a_literal ∷ K
value_parts K (Right literal operator) = K

-- behind a path, where W is what comes behind the whole one
abbrev pub path_parts : List Part → List Part → Place → List Part
path_parts K W Whole = W
path_parts K W (InValue side) = value_parts K side
path_parts K W (InBand side) = one (sign Comma) ∷ one is_figure ∷ one (sign CloseRound) ∷ value_parts K side

-- behind a step's predicates
abbrev pub further_parts : Bool → Axis → List Part → List Part
further_parts loose Child parts = maybe (sign Slash) a_path ∷ parts
further_parts true Attribute parts = maybe (sign Slash) a_path ∷ parts
further_parts false Attribute parts = parts

-- behind a step's name
abbrev pub step_parts : Bool → List Part → List Part → Axis → Place → List Part
step_parts loose K W axis place = many (sign OpenSquare) a_predicate ∷ further_parts loose axis (path_parts K W place)

-- behind a condition in brackets
abbrev pub bracket_parts : Bool → List Part → List Part → Around → List Part
bracket_parts loose K W Round = one (sign CloseRound) ∷ K
bracket_parts loose K W (Square place so_far step) = one (sign CloseSquare) ∷ step_parts loose K W step.axis place

-- behind a unit
abbrev pub unit_parts : Bool → List Level → List Part
unit_parts loose [] = nothing ∷ []
unit_parts loose (level ∷ levels) = many is_and a_unit ∷ many is_or an_and ∷ bracket_parts loose (unit_parts loose levels) (whole_parts levels) level.around

-- where a value stands, it and what is behind it
abbrev pub start_parts : List Part → Side → List Part
start_parts K Left = the a_unit ∷ K
start_parts K (Right (Number n) operator) = the a_numeric_value ∷ K
start_parts K (Right (Quoted text) operator) = the a_value ∷ K

abbrev pub literal_parts : List Part → Literal → List Part
literal_parts K (Number n) = one is_compare ∷ the a_numeric_value ∷ K
literal_parts K (Quoted text) = one is_compare ∷ the a_value ∷ K

abbrev pub worth_parts : List Part → Side → Value → List Part
worth_parts K side Position = position_parts K side
worth_parts K side (Nodes path) = value_parts K side
worth_parts K side (Band path n) = value_parts K side

abbrev pub compared_parts : List Part → Value → List Part
compared_parts K Position = one is_figure ∷ K
compared_parts K (Nodes path) = the a_literal ∷ K
compared_parts K (Band path n) = the a_literal ∷ K

-- what may come in a state of the machine; behind `[` and a number there are two ways
abbrev pub Comes : Bool → Bool → List Level → Next → List Token → Type 0
Comes loose cut levels (BeforeStep place so_far) ks = Gives loose cut (the a_path ∷ path_parts (unit_parts loose levels) (whole_parts levels) place) ks
Comes loose cut levels (BeforeTest place so_far axis) ks = Gives loose cut (one is_name_test ∷ step_parts loose (unit_parts loose levels) (whole_parts levels) axis place) ks
Comes loose cut levels (BehindStep place so_far step) ks = Gives loose cut (step_parts loose (unit_parts loose levels) (whole_parts levels) step.axis place) ks
Comes loose cut levels (BeforePredicate place so_far step) ks = Gives loose cut (the a_predicate ∷ step_parts loose (unit_parts loose levels) (whole_parts levels) step.axis place) ks
Comes loose cut levels (BehindCount place so_far step n) ks = Gives loose cut (one (sign CloseSquare) ∷ step_parts loose (unit_parts loose levels) (whole_parts levels) step.axis place) ks ⊎ Gives loose cut (one is_compare ∷ the a_numeric_value ∷ unit_parts loose (square place so_far step ∷ levels)) ks
Comes loose cut levels BeforeUnit ks = Gives loose cut (start_parts (unit_parts loose levels) Left) ks
Comes loose cut levels (BehindLiteral literal) ks = Gives loose cut (literal_parts (unit_parts loose levels) literal) ks
Comes loose cut levels (BeforeValue literal operator) ks = Gives loose cut (start_parts (unit_parts loose levels) (Right literal operator)) ks
Comes loose cut levels (BehindPosition side) ks = Gives loose cut (one (sign OpenRound) ∷ one (sign CloseRound) ∷ position_parts (unit_parts loose levels) side) ks
Comes loose cut levels (InPosition side) ks = Gives loose cut (one (sign CloseRound) ∷ position_parts (unit_parts loose levels) side) ks
Comes loose cut levels (BehindBand side) ks = Gives loose cut (one (sign OpenRound) ∷ the a_path ∷ path_parts (unit_parts loose levels) (whole_parts levels) (InBand side)) ks
Comes loose cut levels (BeforeMask side path) ks = Gives loose cut (one is_figure ∷ one (sign CloseRound) ∷ value_parts (unit_parts loose levels) side) ks
Comes loose cut levels (BehindMask side path n) ks = Gives loose cut (one (sign CloseRound) ∷ value_parts (unit_parts loose levels) side) ks
Comes loose cut levels (BehindValue side value) ks = Gives loose cut (worth_parts (unit_parts loose levels) side value) ks
Comes loose cut levels (BeforeLiteral value operator) ks = Gives loose cut (compared_parts (unit_parts loose levels) value) ks
Comes loose cut levels (BehindUnit last) ks = Gives loose cut (unit_parts loose levels) ks

-- the same behind a turn
abbrev pub OnComes : Bool → Bool → List Token → Option (List Level × Next) → Type 0
OnComes loose cut ks None = ⊥
OnComes loose cut ks (Some t) = Comes loose cut t.0 t.1 ks

-- ---- back over a token

attribute_back : (loose cut : Bool) (parts : List Part) (ks : List Token) → Gives loose cut (one is_name_test ∷ many (sign OpenSquare) a_predicate ∷ further_parts loose Attribute parts) ks → Gives loose cut (the a_path ∷ parts) (Along Attribute ∷ ks)
attribute_back true cut parts ks g = opens (says_attribute_first refl) (opens says_attribute (takes refl g))
attribute_back false cut parts ks g = opens (says_attribute_last refl) (opens says_attribute (takes refl g))

test_back : (loose cut : Bool) (levels : List Level) (place : Place) (so_far : Option Path) (axis : Axis) (k : Token) (ks : List Token) → OnComes loose cut ks (inside levels (before_test place so_far axis k)) → Comes loose cut levels (BeforeTest place so_far axis) (k ∷ ks)
test_back loose cut levels place so_far axis Star ks g = takes refl g
test_back loose cut levels place so_far axis (Word name) ks g = takes refl g
test_back loose cut levels place so_far axis _ ks g = absurd g

step_back : (loose cut : Bool) (levels : List Level) (place : Place) (so_far : Option Path) (k : Token) (ks : List Token) → OnComes loose cut ks (inside levels (before_step place so_far k)) → Comes loose cut levels (BeforeStep place so_far) (k ∷ ks)
step_back loose cut levels place so_far (Along Child) ks g = opens says_child_first (opens says_along_child (takes refl g))
step_back loose cut levels place so_far (Along Attribute) ks g = attribute_back loose cut (path_parts (unit_parts loose levels) (whole_parts levels) place) ks g
step_back loose cut levels place so_far Star ks g = opens says_child_first (opens says_child (takes refl g))
step_back loose cut levels place so_far (Word name) ks g = opens says_child_first (opens says_child (takes refl g))
step_back loose cut levels place so_far _ ks g = absurd g

value_opens : (loose cut : Bool) (K : List Part) (side : Side) (ks : List Token) → Gives loose cut (the a_value ∷ value_parts K side) ks → Gives loose cut (start_parts K side) ks
value_opens loose cut K Left ks g = opens says_value g
value_opens loose cut K (Right (Number n) operator) ks g = opens says_numeric g
value_opens loose cut K (Right (Quoted text) operator) ks g = g

position_back : (loose cut : Bool) (levels : List Level) (side : Side) (ks : List Token) → OnComes loose cut ks (inside levels (before_value side PositionCall)) → Gives loose cut (start_parts (unit_parts loose levels) side) (PositionCall ∷ ks)
position_back loose cut levels Left ks g = opens says_position (takes refl g)
position_back loose cut levels (Right (Number n) operator) ks g = opens says_numeric_position (takes refl g)
position_back loose cut levels (Right (Quoted text) operator) ks g = absurd g

value_back : (loose cut : Bool) (levels : List Level) (side : Side) (k : Token) (ks : List Token) → OnComes loose cut ks (inside levels (before_value side k)) → Gives loose cut (start_parts (unit_parts loose levels) side) (k ∷ ks)
value_back loose cut levels side PositionCall ks g = position_back loose cut levels side ks g
value_back loose cut levels side BandCall ks g = value_opens loose cut (unit_parts loose levels) side (BandCall ∷ ks) (opens says_band (takes refl g))
value_back loose cut levels side k ks g = value_opens loose cut (unit_parts loose levels) side (k ∷ ks) (opens says_nodes (step_back loose cut levels (InValue side) None k ks g))

unit_back : (loose cut : Bool) (levels : List Level) (k : Token) (ks : List Token) → OnComes loose cut ks (before_unit levels k) → Comes loose cut levels BeforeUnit (k ∷ ks)
unit_back loose cut levels OpenRound ks g = opens says_group (takes refl (opens says_or (opens says_and g)))
unit_back loose cut levels (Figure n) ks g = opens says_behind_number (takes refl g)
unit_back loose cut levels (Quote text) ks g = opens says_behind_text (takes refl g)
unit_back loose cut levels k ks g = value_back loose cut levels Left k ks g

-- a condition that a predicate begins with
condition_back : (loose cut : Bool) (levels : List Level) (place : Place) (so_far : Option Path) (step : Step) (ks : List Token) → Comes loose cut (square place so_far step ∷ levels) BeforeUnit ks → Comes loose cut levels (BeforePredicate place so_far step) ks
condition_back loose cut levels place so_far step ks g = opens says_condition (opens says_or (opens says_and g))

number_back : (loose cut : Bool) (levels : List Level) (place : Place) (so_far : Option Path) (step : Step) (n : ℕ) (ks : List Token) → Comes loose cut levels (BehindCount place so_far step n) ks → Comes loose cut levels (BeforePredicate place so_far step) (Figure n ∷ ks)
number_back loose cut levels place so_far step n ks (inl g) = opens says_place (takes refl g)
number_back loose cut levels place so_far step n ks (inr g) = condition_back loose cut levels place so_far step (Figure n ∷ ks) (opens says_behind_number (takes refl g))

predicate_back : (loose cut : Bool) (levels : List Level) (place : Place) (so_far : Option Path) (step : Step) (k : Token) (ks : List Token) → OnComes loose cut ks (before_predicate levels place so_far step k) → Comes loose cut levels (BeforePredicate place so_far step) (k ∷ ks)
predicate_back loose cut levels place so_far step (Figure n) ks g = number_back loose cut levels place so_far step n ks g
predicate_back loose cut levels place so_far step k ks g = condition_back loose cut levels place so_far step (k ∷ ks) (unit_back loose cut (square place so_far step ∷ levels) k ks g)

count_back : (loose cut : Bool) (levels : List Level) (place : Place) (so_far : Option Path) (step : Step) (n : ℕ) (k : Token) (ks : List Token) → OnComes loose cut ks (behind_count levels place so_far step n k) → Comes loose cut levels (BehindCount place so_far step n) (k ∷ ks)
count_back loose cut levels place so_far step n CloseSquare ks g = inl (takes refl g)
count_back loose cut levels place so_far step n (Compare operator) ks g = inr (takes refl g)
count_back loose cut levels place so_far step n _ ks g = absurd g

literal_goes_back : (loose cut : Bool) (levels : List Level) (literal : Literal) (k : Token) (ks : List Token) → OnComes loose cut ks (inside levels (behind_literal literal k)) → Comes loose cut levels (BehindLiteral literal) (k ∷ ks)
literal_goes_back loose cut levels (Number n) (Compare operator) ks g = takes refl g
literal_goes_back loose cut levels (Quoted text) (Compare operator) ks g = takes refl g
literal_goes_back loose cut levels literal _ ks g = absurd g

-- ---- back to behind a unit

round_back : (loose cut : Bool) (levels : List Level) (around : Around) (o : Or) (ks : List Token) → OnComes loose cut ks (inside levels (closed_round around o)) → Gives loose cut (bracket_parts loose (unit_parts loose levels) (whole_parts levels) around) (CloseRound ∷ ks)
round_back loose cut levels Round o ks g = takes refl g
round_back loose cut levels (Square place so_far step) o ks g = absurd g

square_back : (loose cut : Bool) (levels : List Level) (around : Around) (o : Or) (ks : List Token) → OnComes loose cut ks (inside levels (closed_square around o)) → Gives loose cut (bracket_parts loose (unit_parts loose levels) (whole_parts levels) around) (CloseSquare ∷ ks)
square_back loose cut levels Round o ks g = absurd g
square_back loose cut levels (Square place so_far step) o ks g = takes refl g

joined_back : (loose cut : Bool) (levels : List Level) (level : Level) (u : unit.Unit) (k : Token) (ks : List Token) (by_and by_or : Bool) → (by_and ≡ true → is_and k ≡ true) → (by_or ≡ true → is_or k ≡ true)
    → OnComes loose cut ks (if by_and then Some (with_and_behind level u ∷ levels, BeforeUnit) else (if by_or then Some (with_or_behind level u ∷ levels, BeforeUnit) else None)) → Gives loose cut (unit_parts loose (level ∷ levels)) (k ∷ ks)
joined_back loose cut levels level u k ks true by_or e f g = again (e refl) g
joined_back loose cut levels level u k ks false true e f g = ends (again (f refl) (opens says_and g))
joined_back loose cut levels level u k ks false false e f g = absurd g

behind_unit_back : (loose cut : Bool) (levels : List Level) (u : unit.Unit) (k : Token) (ks : List Token) → OnComes loose cut ks (behind_unit levels u k) → Gives loose cut (unit_parts loose levels) (k ∷ ks)
behind_unit_back loose cut [] u k ks g = absurd g
behind_unit_back loose cut (level ∷ levels) u (Word name) ks g = joined_back loose cut levels level u (Word name) ks (same name (codes "and")) (same name (codes "or")) (λ e. e) (λ e. e) g
behind_unit_back loose cut (level ∷ levels) u (Joint name) ks g = joined_back loose cut levels level u (Joint name) ks (same name (codes "and")) (same name (codes "or")) (λ e. e) (λ e. e) g
behind_unit_back loose cut (level ∷ levels) u CloseRound ks g = ends (ends (round_back loose cut levels level.around (alternatives_in level u) ks g))
behind_unit_back loose cut (level ∷ levels) u CloseSquare ks g = ends (ends (square_back loose cut levels level.around (alternatives_in level u) ks g))
behind_unit_back loose cut (level ∷ levels) u _ ks g = absurd g

-- ---- back to behind a value

left_back : (loose cut : Bool) (levels : List Level) (v : Value) (k : Token) (ks : List Token) → OnComes loose cut ks (behind_left levels v k) → Gives loose cut (worth_parts (unit_parts loose levels) Left v) (k ∷ ks)
left_back loose cut levels Position (Compare operator) ks g = takes refl g
left_back loose cut levels (Nodes path) (Compare operator) ks g = goes_on refl g
left_back loose cut levels (Band path n) (Compare operator) ks g = goes_on refl g
left_back loose cut levels Position _ ks g = absurd g
left_back loose cut levels (Nodes path) k ks g = skips (behind_unit_back loose cut levels (Alone (Nodes path)) k ks g)
left_back loose cut levels (Band path n) k ks g = skips (behind_unit_back loose cut levels (Alone (Band path n)) k ks g)

behind_value_back : (loose cut : Bool) (levels : List Level) (side : Side) (v : Value) (k : Token) (ks : List Token) → OnComes loose cut ks (behind_value levels side v k) → Gives loose cut (worth_parts (unit_parts loose levels) side v) (k ∷ ks)
behind_value_back loose cut levels Left v k ks g = left_back loose cut levels v k ks g
behind_value_back loose cut levels (Right literal operator) Position k ks g = behind_unit_back loose cut levels (Mirrored literal operator Position) k ks g
behind_value_back loose cut levels (Right literal operator) (Nodes path) k ks g = behind_unit_back loose cut levels (Mirrored literal operator (Nodes path)) k ks g
behind_value_back loose cut levels (Right literal operator) (Band path n) k ks g = behind_unit_back loose cut levels (Mirrored literal operator (Band path n)) k ks g

literal_back : (loose cut : Bool) (levels : List Level) (v : Value) (operator : Operator) (k : Token) (ks : List Token) → OnComes loose cut ks (inside levels (before_literal v operator k)) → Comes loose cut levels (BeforeLiteral v operator) (k ∷ ks)
literal_back loose cut levels Position operator (Figure n) ks g = takes refl g
literal_back loose cut levels (Nodes path) operator (Figure n) ks g = opens says_literal (takes refl g)
literal_back loose cut levels (Band path m) operator (Figure n) ks g = opens says_literal (takes refl g)
literal_back loose cut levels (Nodes path) operator (Quote text) ks g = opens says_literal (takes refl g)
literal_back loose cut levels (Band path m) operator (Quote text) ks g = opens says_literal (takes refl g)
literal_back loose cut levels v operator _ ks g = absurd g

-- ---- back to behind a path and a step

comma_back : (loose cut : Bool) (levels : List Level) (side : Side) (path : Path) (k : Token) (ks : List Token) → OnComes loose cut ks (inside levels (before_comma side path k)) → Gives loose cut (path_parts (unit_parts loose levels) (whole_parts levels) (InBand side)) (k ∷ ks)
comma_back loose cut levels side path Comma ks g = takes refl g
comma_back loose cut levels side path _ ks g = absurd g

path_back : (loose cut : Bool) (levels : List Level) (place : Place) (path : Path) (k : Token) (ks : List Token) → OnComes loose cut ks (behind_path levels place path k) → Gives loose cut (path_parts (unit_parts loose levels) (whole_parts levels) place) (k ∷ ks)
path_back loose cut levels Whole path k ks g = absurd g
path_back loose cut levels (InValue side) path k ks g = behind_value_back loose cut levels side (Nodes path) k ks g
path_back loose cut levels (InBand side) path k ks g = comma_back loose cut levels side path k ks g

-- a path may end behind any step
pub ends_path : (loose cut : Bool) (axis : Axis) (parts : List Part) (ks : List Token) → Gives loose cut parts ks → Gives loose cut (further_parts loose axis parts) ks
ends_path loose cut Child parts ks g = skips g
ends_path true cut Attribute parts ks g = skips g
ends_path false cut Attribute parts ks g = g

slash_back : (loose cut : Bool) (levels : List Level) (place : Place) (so_far : Option Path) (axis : Axis) (ks : List Token)
    → OnComes loose cut ks (inside levels (if goes_to_children axis then Some (BeforeStep place so_far) else None)) → Gives loose cut (further_parts loose axis (path_parts (unit_parts loose levels) (whole_parts levels) place)) (Slash ∷ ks)
slash_back loose cut levels place so_far Child ks g = goes_on refl g
slash_back loose cut levels place so_far Attribute ks g = absurd g

behind_step_back : (loose cut : Bool) (levels : List Level) (place : Place) (so_far : Option Path) (step : Step) (k : Token) (ks : List Token) → OnComes loose cut ks (behind_step levels place so_far step k) → Comes loose cut levels (BehindStep place so_far step) (k ∷ ks)
behind_step_back loose cut levels place so_far step OpenSquare ks g = again refl g
behind_step_back loose cut levels place so_far step Slash ks g = ends (slash_back loose cut levels place (Some (with_step so_far step)) step.axis ks g)
behind_step_back loose cut levels place so_far step k ks g = ends (ends_path loose cut step.axis (path_parts (unit_parts loose levels) (whole_parts levels) place) (k ∷ ks) (path_back loose cut levels place (with_step so_far step) k ks g))

-- ---- the other turns, and all of them

position_goes_back : (loose cut : Bool) (levels : List Level) (side : Side) (k : Token) (ks : List Token) → OnComes loose cut ks (inside levels (behind_position side k)) → Comes loose cut levels (BehindPosition side) (k ∷ ks)
position_goes_back loose cut levels side OpenRound ks g = takes refl g
position_goes_back loose cut levels side _ ks g = absurd g

in_position_back : (loose cut : Bool) (levels : List Level) (side : Side) (k : Token) (ks : List Token) → OnComes loose cut ks (inside levels (in_position side k)) → Comes loose cut levels (InPosition side) (k ∷ ks)
in_position_back loose cut levels side CloseRound ks g = takes refl g
in_position_back loose cut levels side _ ks g = absurd g

band_goes_back : (loose cut : Bool) (levels : List Level) (side : Side) (k : Token) (ks : List Token) → OnComes loose cut ks (inside levels (behind_band side k)) → Comes loose cut levels (BehindBand side) (k ∷ ks)
band_goes_back loose cut levels side OpenRound ks g = takes refl g
band_goes_back loose cut levels side _ ks g = absurd g

mask_back : (loose cut : Bool) (levels : List Level) (side : Side) (path : Path) (k : Token) (ks : List Token) → OnComes loose cut ks (inside levels (before_mask side path k)) → Comes loose cut levels (BeforeMask side path) (k ∷ ks)
mask_back loose cut levels side path (Figure n) ks g = takes refl g
mask_back loose cut levels side path _ ks g = absurd g

mask_goes_back : (loose cut : Bool) (levels : List Level) (side : Side) (path : Path) (n : ℕ) (k : Token) (ks : List Token) → OnComes loose cut ks (inside levels (behind_mask side path n k)) → Comes loose cut levels (BehindMask side path n) (k ∷ ks)
mask_goes_back loose cut levels side path n CloseRound ks g = takes refl g
mask_goes_back loose cut levels side path n _ ks g = absurd g

pub back : (loose cut : Bool) (levels : List Level) (next : Next) (k : Token) (ks : List Token) → OnComes loose cut ks (turn levels next k) → Comes loose cut levels next (k ∷ ks)
back loose cut levels (BeforeStep place so_far) k ks g = step_back loose cut levels place so_far k ks g
back loose cut levels (BeforeTest place so_far axis) k ks g = test_back loose cut levels place so_far axis k ks g
back loose cut levels (BehindStep place so_far step) k ks g = behind_step_back loose cut levels place so_far step k ks g
back loose cut levels (BeforePredicate place so_far step) k ks g = predicate_back loose cut levels place so_far step k ks g
back loose cut levels (BehindCount place so_far step n) k ks g = count_back loose cut levels place so_far step n k ks g
back loose cut levels BeforeUnit k ks g = unit_back loose cut levels k ks g
back loose cut levels (BehindLiteral literal) k ks g = literal_goes_back loose cut levels literal k ks g
back loose cut levels (BeforeValue literal operator) k ks g = value_back loose cut levels (Right literal operator) k ks g
back loose cut levels (BehindPosition side) k ks g = position_goes_back loose cut levels side k ks g
back loose cut levels (InPosition side) k ks g = in_position_back loose cut levels side k ks g
back loose cut levels (BehindBand side) k ks g = band_goes_back loose cut levels side k ks g
back loose cut levels (BeforeMask side path) k ks g = mask_back loose cut levels side path k ks g
back loose cut levels (BehindMask side path n) k ks g = mask_goes_back loose cut levels side path n k ks g
back loose cut levels (BehindValue side v) k ks g = behind_value_back loose cut levels side v k ks g
back loose cut levels (BeforeLiteral v operator) k ks g = literal_back loose cut levels v operator k ks g
back loose cut levels (BehindUnit u) k ks g = behind_unit_back loose cut levels u k ks g

-- ---- back over all of them

on_back : (loose cut : Bool) (front ks : List Token) (s : List Level × Next) (o : Option (List Level × Next)) → ((t : List Level × Next) → turned t.0 t.1 front ≡ Some s → Comes loose cut t.0 t.1 (front ++ ks)) → option_and_then (λ t. turned t.0 t.1 front) o ≡ Some s → OnComes loose cut (front ++ ks) o
on_back loose cut front ks s None f e = cc
on_back loose cut front ks s (Some t) f e = f t e

-- what comes in a state comes behind the tokens that led to it
pub all_back : (loose cut : Bool) (front ks : List Token) (s : List Level × Next) → Comes loose cut s.0 s.1 ks → (t : List Level × Next) → turned t.0 t.1 front ≡ Some s → Comes loose cut t.0 t.1 (front ++ ks)
all_back loose cut [] ks s g t e = let same_state : s ≡ t = cc in subst (λ (r : List Level × Next). Comes loose cut r.0 r.1 ks) same_state g
all_back loose cut (k ∷ front) ks s g t e = back loose cut t.0 t.1 k (front ++ ks) (on_back loose cut front ks s (turn t.0 t.1 k) (λ r f. all_back loose cut front ks s g r f) e)
