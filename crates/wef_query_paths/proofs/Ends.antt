-- Where no more is to come, and which tokens a step comes behind.
use Rattle.std.proofs.Common.{◌≡◌, ℕ, Bool, true, false, if◌then◌else◌, List, [], ◌∷◌, codes, Option, Some, None, refl, subst, inl, inr}
use Rattle.std.specs.Option.{option_and_then}
use Rattle.wef_base.specs.Names.{same}
use Rattle.wef_query_tokens.specs.declared.axis.Axis.{Axis}
use Rattle.wef_query_tokens.specs.declared.axis.Axis.TheVariants.{Child, Attribute}
use Rattle.wef_query_tokens.specs.declared.operator.Operator.{Operator}
use Rattle.wef_query_tokens.specs.declared.tokens.Token.{Token}
use Rattle.wef_query_tokens.specs.declared.tokens.Token.TheVariants.{Along, Star, Word, Joint, PositionCall, BandCall, Compare, Figure, Quote, OpenSquare, CloseSquare, OpenRound, CloseRound, Slash, Comma}
use Rattle.wef_query_tokens.specs.Calls.{is_call}
use Rattle.wef_query_tokens.specs.Steps.{goes_to_children}
use Rattle.wef_query_paths.specs.declared.conditions.Around.{Around}
use Rattle.wef_query_paths.specs.declared.conditions.Around.TheVariants.{Round, Square}
use Rattle.wef_query_paths.specs.declared.conditions.Level.{Level}
use Rattle.wef_query_paths.specs.declared.steps.Place.{Place}
use Rattle.wef_query_paths.specs.declared.steps.Place.TheVariants.{Whole, InValue, InBand}
use Rattle.wef_query_paths.specs.declared.values.Side.{Side}
use Rattle.wef_query_paths.specs.declared.values.Side.TheVariants.{Left, Right}
use Rattle.wef_query_paths.specs.declared.path.Literal.{Literal}
use Rattle.wef_query_paths.specs.declared.path.Literal.TheVariants.{Number, Quoted}
use Rattle.wef_query_paths.specs.declared.path.Or.{Or}
use Rattle.wef_query_paths.specs.declared.path.Path.{Path}
use Rattle.wef_query_paths.specs.declared.path.Step.{Step}
use Rattle.wef_query_paths.specs.declared.path.Unit as unit
use Rattle.wef_query_paths.specs.declared.path.Unit.TheVariants.{Alone, Mirrored}
use Rattle.wef_query_paths.specs.declared.path.Value.{Value}
use Rattle.wef_query_paths.specs.declared.path.Value.TheVariants.{Nodes, Position, Band}
use Rattle.wef_query_paths.specs.declared.turns.Next.{Next}
use Rattle.wef_query_paths.specs.declared.turns.Next.TheVariants.{BeforeStep, BeforeTest, BehindStep, BeforePredicate, BehindCount, BeforeUnit, BehindLiteral, BeforeValue, BehindPosition, InPosition, BehindBand, BeforeMask, BehindMask, BehindValue, BeforeLiteral, BehindUnit}
use Rattle.wef_query_paths.specs.Allows.{Part, Rule, one, the, a_path, a_child_step, an_attribute_step, a_predicate, an_or, an_and, a_unit, a_value, a_numeric_value, a_literal, Gives, done, stop, opens, ends, skips, says_child_first, says_attribute_last, says_attribute_first, says_child, says_along_child, says_attribute, says_place, says_condition, says_or, says_and, says_group, says_value, says_position, says_behind_text, says_behind_number, says_nodes, says_band, says_numeric, says_numeric_position, says_literal, ends_in_path}
use Rattle.wef_query_paths.specs.Fronts.{ends_in_call, is_behind_call, turned}
use Rattle.wef_query_paths.specs.Levels.{alternatives_in, square, with_step}
use Rattle.wef_query_paths.specs.Turns.{before_comma, before_literal, before_mask, before_predicate, before_step, before_test, before_unit, before_value, behind_band, behind_count, behind_left, behind_literal, behind_mask, behind_path, behind_position, behind_step, behind_unit, behind_value, closed_round, closed_square, finished, in_position, inside, is_position, joined, turn, with_and_behind, with_or_behind}
use Rattle.wef_query_paths.proofs.Stacks.{Comes, bracket_parts, further_parts, path_parts, step_parts, unit_parts, value_parts, whole_parts, worth_parts, ends_path}

-- ---- rules that are not cut take a token or more

no_one : (loose : Bool) (test : Token → Bool) (parts : List Part) → Gives loose false (one test ∷ parts) [] → ⊥
no_one loose test parts (stop e) = cc

no_rule : (loose : Bool) (rule : Rule) (parts : List Part) → Gives loose false (the rule ∷ parts) [] → ⊥
no_rule loose rule parts (stop e) = cc
no_rule loose a_child_step parts (opens says_child g) = no_one loose _ _ g
no_rule loose a_child_step parts (opens says_along_child g) = no_one loose _ _ g
no_rule loose an_attribute_step parts (opens says_attribute g) = no_one loose _ _ g
no_rule loose a_path parts (opens says_child_first g) = no_rule loose a_child_step _ g
no_rule loose a_path parts (opens (says_attribute_last e) g) = no_rule loose an_attribute_step _ g
no_rule loose a_path parts (opens (says_attribute_first e) g) = no_rule loose an_attribute_step _ g
no_rule loose a_value parts (opens says_nodes g) = no_rule loose a_path _ g
no_rule loose a_value parts (opens says_band g) = no_one loose _ _ g
no_rule loose a_numeric_value parts (opens says_numeric g) = no_rule loose a_value _ g
no_rule loose a_numeric_value parts (opens says_numeric_position g) = no_one loose _ _ g
no_rule loose a_literal parts (opens says_literal g) = no_one loose _ _ g
no_rule loose a_unit parts (opens says_group g) = no_one loose _ _ g
no_rule loose a_unit parts (opens says_value g) = no_rule loose a_value _ g
no_rule loose a_unit parts (opens says_position g) = no_one loose _ _ g
no_rule loose a_unit parts (opens says_behind_text g) = no_one loose _ _ g
no_rule loose a_unit parts (opens says_behind_number g) = no_one loose _ _ g
no_rule loose an_and parts (opens says_and g) = no_rule loose a_unit _ g
no_rule loose an_or parts (opens says_or g) = no_rule loose an_and _ g
no_rule loose a_predicate parts (opens says_place g) = no_one loose _ _ g
no_rule loose a_predicate parts (opens says_condition g) = no_rule loose an_or _ g

-- ---- and so do brackets

no_bracket : (loose : Bool) (K W : List Part) (around : Around) → Gives loose false (bracket_parts loose K W around) [] → ⊥
no_bracket loose K W Round g = no_one loose _ _ g
no_bracket loose K W (Square place so_far step) g = no_one loose _ _ g

no_end : (loose : Bool) (levels : List Level) → Gives loose false (unit_parts loose levels) [] → ⊥
no_end loose [] g = no_one loose _ _ g
no_end loose (level ∷ levels) (stop e) = cc
no_end loose (level ∷ levels) (ends (stop e)) = cc
no_end loose (level ∷ levels) (ends (ends g)) = no_bracket loose (unit_parts loose levels) (whole_parts levels) level.around g

no_value_end : (loose : Bool) (levels : List Level) (side : Side) → Gives loose false (value_parts (unit_parts loose levels) side) [] → ⊥
no_value_end loose levels Left (stop e) = cc
no_value_end loose levels Left (skips g) = no_end loose levels g
no_value_end loose levels (Right literal operator) g = no_end loose levels g

no_worth_end : (loose : Bool) (levels : List Level) (side : Side) (v : Value) → Gives loose false (worth_parts (unit_parts loose levels) side v) [] → ⊥
no_worth_end loose levels Left Position g = no_one loose _ _ g
no_worth_end loose levels (Right literal operator) Position g = no_end loose levels g
no_worth_end loose levels side (Nodes path) g = no_value_end loose levels side g
no_worth_end loose levels side (Band path n) g = no_value_end loose levels side g

further_end : (loose : Bool) (axis : Axis) (parts : List Part) → Gives loose false (further_parts loose axis parts) [] → Gives loose false parts []
further_end loose Child parts (stop e) = cc
further_end loose Child parts (skips g) = g
further_end true Attribute parts (stop e) = cc
further_end true Attribute parts (skips g) = g
further_end false Attribute parts g = g

pub step_end : (loose : Bool) (K W : List Part) (axis : Axis) (place : Place) → Gives loose false (step_parts loose K W axis place) [] → Gives loose false (path_parts K W place) []
step_end loose K W axis place (stop e) = cc
step_end loose K W axis place (ends g) = further_end loose axis (path_parts K W place) g

-- a value's step is never the end
pub no_step_end : (loose : Bool) (levels : List Level) (axis : Axis) (side : Side) → Gives loose false (step_parts loose (unit_parts loose levels) (whole_parts levels) axis (InValue side)) [] → ⊥
no_step_end loose levels axis side g = no_value_end loose levels side (step_end loose (unit_parts loose levels) (whole_parts levels) axis (InValue side) g)

path_end : (loose : Bool) (levels : List Level) (place : Place) (so_far : Option Path) (step : Step) → Gives loose false (path_parts (unit_parts loose levels) (whole_parts levels) place) [] → (p : Path) × (finished levels (BehindStep place so_far step) ≡ Some p)
path_end loose [] Whole so_far step g = (with_step so_far step, refl)
path_end loose (level ∷ levels) Whole so_far step g = absurd (no_one loose _ _ g)
path_end loose levels (InValue side) so_far step g = absurd (no_value_end loose levels side g)
path_end loose levels (InBand side) so_far step g = absurd (no_one loose _ _ g)

-- where nothing more has to come, the machine has a path
pub end_is_path : (loose : Bool) (levels : List Level) (next : Next) → Comes loose false levels next [] → (p : Path) × (finished levels next ≡ Some p)
end_is_path loose levels (BeforeStep place so_far) g = absurd (no_rule loose a_path _ g)
end_is_path loose levels (BeforeTest place so_far axis) g = absurd (no_one loose _ _ g)
end_is_path loose levels (BehindStep place so_far step) g = path_end loose levels place so_far step (step_end loose (unit_parts loose levels) (whole_parts levels) step.axis place g)
end_is_path loose levels (BeforePredicate place so_far step) g = absurd (no_rule loose a_predicate _ g)
end_is_path loose levels (BehindCount place so_far step n) (inl g) = absurd (no_one loose _ _ g)
end_is_path loose levels (BehindCount place so_far step n) (inr g) = absurd (no_one loose _ _ g)
end_is_path loose levels BeforeUnit g = absurd (no_rule loose a_unit _ g)
end_is_path loose levels (BehindLiteral (Number n)) g = absurd (no_one loose _ _ g)
end_is_path loose levels (BehindLiteral (Quoted text)) g = absurd (no_one loose _ _ g)
end_is_path loose levels (BeforeValue (Number n) operator) g = absurd (no_rule loose a_numeric_value _ g)
end_is_path loose levels (BeforeValue (Quoted text) operator) g = absurd (no_rule loose a_value _ g)
end_is_path loose levels (BehindPosition side) g = absurd (no_one loose _ _ g)
end_is_path loose levels (InPosition side) g = absurd (no_one loose _ _ g)
end_is_path loose levels (BehindBand side) g = absurd (no_one loose _ _ g)
end_is_path loose levels (BeforeMask side path) g = absurd (no_one loose _ _ g)
end_is_path loose levels (BehindMask side path n) g = absurd (no_one loose _ _ g)
end_is_path loose levels (BehindValue side v) g = absurd (no_worth_end loose levels side v g)
end_is_path loose levels (BeforeLiteral Position operator) g = absurd (no_one loose _ _ g)
end_is_path loose levels (BeforeLiteral (Nodes path) operator) g = absurd (no_rule loose a_literal _ g)
end_is_path loose levels (BeforeLiteral (Band path n) operator) g = absurd (no_rule loose a_literal _ g)
end_is_path loose levels (BehindUnit u) g = absurd (no_end loose levels g)

whole_is_end : (place : Place) (so_far : Option Path) (step : Step) (p : Path) → finished [] (BehindStep place so_far step) ≡ Some p → Comes false false [] (BehindStep place so_far step) []
whole_is_end Whole so_far step p e = ends (ends_path false false step.axis [] [] done)
whole_is_end (InValue side) so_far step p e = cc
whole_is_end (InBand side) so_far step p e = cc

next_is_end : (next : Next) (p : Path) → finished [] next ≡ Some p → Comes false false [] next []
next_is_end (BehindStep place so_far step) p e = whole_is_end place so_far step p e
next_is_end _ p e = cc

pub path_is_end : (levels : List Level) (next : Next) (p : Path) → finished levels next ≡ Some p → Comes false false levels next []
path_is_end [] next p e = next_is_end next p e
path_is_end (level ∷ levels) next p e = cc

-- ---- a step of a path that has begun is to come behind `/` and behind an axis alone

abbrev pub is_in_path : Next → Bool
is_in_path (BeforeStep place (Some path)) = true
is_in_path (BeforeTest place so_far axis) = true
is_in_path _ = false

-- what a state tells of the last of the tokens that led to it
pub record Told (next : Next) (front : List Token) : Type 0 where
  pub step : is_in_path next ≡ ends_in_path front
  pub call : is_behind_call next ≡ ends_in_call front

both : {next : Next} {front : List Token} → is_in_path next ≡ ends_in_path front → is_behind_call next ≡ ends_in_call front → Told next front
both e f = record { step = e; call = f }

abbrev Leads : Token → Option (List Level × Next) → Type 0
Leads k None = Unit {0}
Leads k (Some t) = Told t.1 (k ∷ [])

either_leads : (k : Token) (b : Bool) (x y : Option (List Level × Next)) → Leads k x → Leads k y → Leads k (if b then x else y)
either_leads k true x y p q = p
either_leads k false x y p q = q

inside_leads : (k : Token) (levels : List Level) (b : Bool) (next : Next) → Told next (k ∷ []) → Leads k (inside levels (if b then Some next else None))
inside_leads k levels true next e = e
inside_leads k levels false next e = tt

test_leads : (levels : List Level) (place : Place) (so_far : Option Path) (axis : Axis) (k : Token) → Leads k (inside levels (before_test place so_far axis k))
test_leads levels place so_far axis Star = both refl refl
test_leads levels place so_far axis (Word name) = both refl refl
test_leads levels place so_far axis _ = tt

step_leads : (levels : List Level) (place : Place) (so_far : Option Path) (k : Token) → Leads k (inside levels (before_step place so_far k))
step_leads levels place so_far (Along axis) = both refl refl
step_leads levels place so_far k = test_leads levels place so_far Child k

position_leads : (levels : List Level) (side : Side) → Leads PositionCall (inside levels (before_value side PositionCall))
position_leads levels Left = both refl refl
position_leads levels (Right (Number n) operator) = both refl refl
position_leads levels (Right (Quoted text) operator) = tt

value_leads : (levels : List Level) (side : Side) (k : Token) → Leads k (inside levels (before_value side k))
value_leads levels side PositionCall = position_leads levels side
value_leads levels side BandCall = both refl refl
value_leads levels side k = step_leads levels (InValue side) None k

unit_leads : (levels : List Level) (k : Token) → Leads k (before_unit levels k)
unit_leads levels OpenRound = both refl refl
unit_leads levels (Figure n) = both refl refl
unit_leads levels (Quote text) = both refl refl
unit_leads levels k = value_leads levels Left k

predicate_leads : (levels : List Level) (place : Place) (so_far : Option Path) (step : Step) (k : Token) → Leads k (before_predicate levels place so_far step k)
predicate_leads levels place so_far step (Figure n) = both refl refl
predicate_leads levels place so_far step k = unit_leads (square place so_far step ∷ levels) k

count_leads : (levels : List Level) (place : Place) (so_far : Option Path) (step : Step) (n : ℕ) (k : Token) → Leads k (behind_count levels place so_far step n k)
count_leads levels place so_far step n CloseSquare = both refl refl
count_leads levels place so_far step n (Compare operator) = both refl refl
count_leads levels place so_far step n _ = tt

literal_leads : (levels : List Level) (literal : Literal) (k : Token) → Leads k (inside levels (behind_literal literal k))
literal_leads levels literal (Compare operator) = both refl refl
literal_leads levels literal _ = tt

round_leads : (levels : List Level) (around : Around) (o : Or) → Leads CloseRound (inside levels (closed_round around o))
round_leads levels Round o = both refl refl
round_leads levels (Square place so_far step) o = tt

square_leads : (levels : List Level) (around : Around) (o : Or) → Leads CloseSquare (inside levels (closed_square around o))
square_leads levels Round o = tt
square_leads levels (Square place so_far step) o = both refl refl

joined_leads : (levels : List Level) (level : Level) (u : unit.Unit) (k : Token) (name : List ℕ) → Told BeforeUnit (k ∷ []) → Leads k (joined levels (with_and_behind level u) name)
joined_leads levels level u k name e =
    either_leads k (same name (codes "and")) (Some (with_and_behind level u ∷ levels, BeforeUnit)) (if same name (codes "or") then Some (with_or_behind level u ∷ levels, BeforeUnit) else None) e
    (either_leads k (same name (codes "or")) (Some (with_or_behind level u ∷ levels, BeforeUnit)) None e tt)

behind_unit_leads : (levels : List Level) (u : unit.Unit) (k : Token) → Leads k (behind_unit levels u k)
behind_unit_leads [] u k = tt
behind_unit_leads (level ∷ levels) u (Word name) = joined_leads levels level u (Word name) name (both refl refl)
behind_unit_leads (level ∷ levels) u (Joint name) = joined_leads levels level u (Joint name) name (both refl refl)
behind_unit_leads (level ∷ levels) u CloseRound = round_leads levels level.around (alternatives_in level u)
behind_unit_leads (level ∷ levels) u CloseSquare = square_leads levels level.around (alternatives_in level u)
behind_unit_leads (level ∷ levels) u _ = tt

left_leads : (levels : List Level) (v : Value) (k : Token) → Leads k (behind_left levels v k)
left_leads levels v (Compare operator) = both refl refl
left_leads levels v k = either_leads k (is_position v) None (behind_unit levels (Alone v) k) tt (behind_unit_leads levels (Alone v) k)

behind_value_leads : (levels : List Level) (side : Side) (v : Value) (k : Token) → Leads k (behind_value levels side v k)
behind_value_leads levels Left v k = left_leads levels v k
behind_value_leads levels (Right literal operator) v k = behind_unit_leads levels (Mirrored literal operator v) k

before_literal_leads : (levels : List Level) (v : Value) (operator : Operator) (k : Token) → Leads k (inside levels (before_literal v operator k))
before_literal_leads levels v operator (Figure n) = both refl refl
before_literal_leads levels Position operator (Quote text) = tt
before_literal_leads levels (Nodes path) operator (Quote text) = both refl refl
before_literal_leads levels (Band path n) operator (Quote text) = both refl refl
before_literal_leads levels v operator _ = tt

comma_leads : (levels : List Level) (side : Side) (path : Path) (k : Token) → Leads k (inside levels (before_comma side path k))
comma_leads levels side path Comma = both refl refl
comma_leads levels side path _ = tt

path_leads : (levels : List Level) (place : Place) (path : Path) (k : Token) → Leads k (behind_path levels place path k)
path_leads levels Whole path k = tt
path_leads levels (InValue side) path k = behind_value_leads levels side (Nodes path) k
path_leads levels (InBand side) path k = comma_leads levels side path k

behind_step_leads : (levels : List Level) (place : Place) (so_far : Option Path) (step : Step) (k : Token) → Leads k (behind_step levels place so_far step k)
behind_step_leads levels place so_far step OpenSquare = both refl refl
behind_step_leads levels place so_far step Slash = inside_leads Slash levels (goes_to_children step.axis) (BeforeStep place (Some (with_step so_far step))) (both refl refl)
behind_step_leads levels place so_far step k = path_leads levels place (with_step so_far step) k

position_goes_leads : (levels : List Level) (side : Side) (k : Token) → Leads k (inside levels (behind_position side k))
position_goes_leads levels side OpenRound = both refl refl
position_goes_leads levels side _ = tt

in_position_leads : (levels : List Level) (side : Side) (k : Token) → Leads k (inside levels (in_position side k))
in_position_leads levels side CloseRound = both refl refl
in_position_leads levels side _ = tt

band_leads : (levels : List Level) (side : Side) (k : Token) → Leads k (inside levels (behind_band side k))
band_leads levels side OpenRound = both refl refl
band_leads levels side _ = tt

mask_leads : (levels : List Level) (side : Side) (path : Path) (k : Token) → Leads k (inside levels (before_mask side path k))
mask_leads levels side path (Figure n) = both refl refl
mask_leads levels side path _ = tt

behind_mask_leads : (levels : List Level) (side : Side) (path : Path) (n : ℕ) (k : Token) → Leads k (inside levels (behind_mask side path n k))
behind_mask_leads levels side path n CloseRound = both refl refl
behind_mask_leads levels side path n _ = tt

leads : (levels : List Level) (next : Next) (k : Token) → Leads k (turn levels next k)
leads levels (BeforeStep place so_far) k = step_leads levels place so_far k
leads levels (BeforeTest place so_far axis) k = test_leads levels place so_far axis k
leads levels (BehindStep place so_far step) k = behind_step_leads levels place so_far step k
leads levels (BeforePredicate place so_far step) k = predicate_leads levels place so_far step k
leads levels (BehindCount place so_far step n) k = count_leads levels place so_far step n k
leads levels BeforeUnit k = unit_leads levels k
leads levels (BehindLiteral literal) k = literal_leads levels literal k
leads levels (BeforeValue literal operator) k = value_leads levels (Right literal operator) k
leads levels (BehindPosition side) k = position_goes_leads levels side k
leads levels (InPosition side) k = in_position_leads levels side k
leads levels (BehindBand side) k = band_leads levels side k
leads levels (BeforeMask side path) k = mask_leads levels side path k
leads levels (BehindMask side path n) k = behind_mask_leads levels side path n k
leads levels (BehindValue side v) k = behind_value_leads levels side v k
leads levels (BeforeLiteral v operator) k = before_literal_leads levels v operator k
leads levels (BehindUnit u) k = behind_unit_leads levels u k

told_call : (k : Token) (t : List Level × Next) (o : Option (List Level × Next)) → Leads k o → o ≡ Some t → is_behind_call t.1 ≡ is_call k
told_call k t o l e = let told : Told t.1 (k ∷ []) = subst (Leads k) e l in told.call

-- a function's name was read last behind that token alone
pub turned_call : (levels : List Level) (next : Next) (k : Token) (t : List Level × Next) → turn levels next k ≡ Some t → is_behind_call t.1 ≡ is_call k
turned_call levels next k t e = told_call k t (turn levels next k) (leads levels next k) e

last_leads : (k : Token) (s : List Level × Next) (o : Option (List Level × Next)) → Leads k o → option_and_then (λ t. turned t.0 t.1 []) o ≡ Some s → Told s.1 (k ∷ [])
last_leads k s None l e = cc
last_leads k s (Some t) l e = let same_state : t ≡ s = cc in subst (λ (r : List Level × Next). Told r.1 (k ∷ [])) same_state l

on_leads : (front : List Token) (s : List Level × Next) (P : Type 0) (o : Option (List Level × Next)) → ((t : List Level × Next) → turned t.0 t.1 front ≡ Some s → P) → option_and_then (λ t. turned t.0 t.1 front) o ≡ Some s → P
on_leads front s P None f e = cc
on_leads front s P (Some t) f e = f t e

longer_ends : (k l : Token) (front : List Token) (next : Next) → Told next (l ∷ front) → Told next (k ∷ l ∷ front)
longer_ends Slash l front next told = both told.step told.call
longer_ends (Along axis) l front next told = both told.step told.call
longer_ends _ l front next told = both told.step told.call

-- whether a step of a path that has begun is to come, and whether a function's `(`, is told by the last token
pub last_token : (k : Token) (front : List Token) (s t : List Level × Next) → turned t.0 t.1 (k ∷ front) ≡ Some s → Told s.1 (k ∷ front)
last_token k [] s t e = last_leads k s (turn t.0 t.1 k) (leads t.0 t.1 k) e
last_token k (l ∷ front) s t e = longer_ends k l front s.1 (on_leads (l ∷ front) s (Told s.1 (l ∷ front)) (turn t.0 t.1 k) (λ r f. last_token l front s r f) e)
