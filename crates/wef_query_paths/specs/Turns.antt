-- What may come next in a path, and what a token makes of it.
use Rattle.std.specs.Prelude.{ℕ, Bool, true, false, List, [], ◌∷◌, codes, Option, Some, None, if◌then◌else◌}
use Rattle.std.specs.Option.{option_map, option_and_then}
use Rattle.wef_base.specs.Names.{same}
use Rattle.wef_query_tokens.specs.declared.axis.Axis.{Axis}
use Rattle.wef_query_tokens.specs.declared.axis.Axis.TheVariants.{Child}
use Rattle.wef_query_tokens.specs.declared.operator.Operator.{Operator}
use Rattle.wef_query_tokens.specs.declared.tokens.Token.{Token}
use Rattle.wef_query_tokens.specs.declared.tokens.Token.TheVariants.{Along, Star, Word, Joint, PositionCall, BandCall, Compare, Figure, Quote, OpenSquare, CloseSquare, OpenRound, CloseRound, Slash, Comma}
use Rattle.wef_query_tokens.specs.Steps.{goes_to_children}
use Rattle.wef_query_paths.specs.declared.conditions.Around.{Around}
use Rattle.wef_query_paths.specs.declared.conditions.Around.TheVariants.{Round, Square}
use Rattle.wef_query_paths.specs.declared.conditions.Level.{Level}
use Rattle.wef_query_paths.specs.declared.steps.Place.{Place}
use Rattle.wef_query_paths.specs.declared.steps.Place.TheVariants.{Whole, InValue, InBand}
use Rattle.wef_query_paths.specs.declared.values.Side.{Side}
use Rattle.wef_query_paths.specs.declared.values.Side.TheVariants.{Left, Right}
use Rattle.wef_query_paths.specs.declared.path.Literal.{Literal}
use Rattle.wef_query_paths.specs.declared.path.Literal.TheVariants.{Number, Quoted}
use Rattle.wef_query_paths.specs.declared.path.NameTest.{NameTest}
use Rattle.wef_query_paths.specs.declared.path.NameTest.TheVariants.{Any, Named}
use Rattle.wef_query_paths.specs.declared.path.Or.{Or}
use Rattle.wef_query_paths.specs.declared.path.Path.{Path}
use Rattle.wef_query_paths.specs.declared.path.Predicate.TheVariants.{At, Whether}
use Rattle.wef_query_paths.specs.declared.path.Step.{Step}
use Rattle.wef_query_paths.specs.declared.path.Unit as unit
use Rattle.wef_query_paths.specs.declared.path.Unit.TheVariants.{Group, Alone, Compared, Mirrored}
use Rattle.wef_query_paths.specs.declared.path.Value.{Value}
use Rattle.wef_query_paths.specs.declared.path.Value.TheVariants.{Nodes, Position, Band}
use Rattle.wef_query_paths.specs.declared.turns.Next.{Next}
use Rattle.wef_query_paths.specs.declared.turns.Next.TheVariants.{BeforeStep, BeforeTest, BehindStep, BeforePredicate, BehindCount, BeforeUnit, BehindLiteral, BeforeValue, BehindPosition, InPosition, BehindBand, BeforeMask, BehindMask, BehindValue, BeforeLiteral, BehindUnit}
use Rattle.wef_query_paths.specs.Levels.{is_whole, opened, square, with_predicate, with_step, with_unit, with_units_ended}

-- where the brackets that are open stay so
abbrev pub inside : List Level → Option Next → Option (List Level × Next)
inside levels next = option_map (λ n. (levels, n)) next

-- ---- steps

-- which nodes a token tells a step to take
abbrev pub name_test : Token → Option NameTest
name_test Star = Some Any
name_test (Word name) = Some (Named name)
name_test _ = None

abbrev pub before_test : Place → Option Path → Axis → Token → Option Next
before_test place so_far axis token = option_map (λ test. BehindStep place so_far (record { axis = axis; test = test; predicates = [] })) (name_test token)

abbrev pub before_step : Place → Option Path → Token → Option Next
before_step place so_far (Along axis) = Some (BeforeTest place so_far axis)
before_step place so_far token = before_test place so_far Child token

-- ---- values and conditions that begin

-- `position()` is compared with a number
abbrev pub may_be_position : Side → Bool
may_be_position Left = true
may_be_position (Right (Number n) operator) = true
may_be_position (Right (Quoted text) operator) = false

abbrev pub before_value : Side → Token → Option Next
before_value side PositionCall = if may_be_position side then Some (BehindPosition side) else None
before_value side BandCall = Some (BehindBand side)
before_value side token = before_step (InValue side) None token

abbrev pub before_unit : List Level → Token → Option (List Level × Next)
before_unit levels OpenRound = Some (opened Round ∷ levels, BeforeUnit)
before_unit levels (Figure n) = Some (levels, BehindLiteral (Number n))
before_unit levels (Quote text) = Some (levels, BehindLiteral (Quoted text))
before_unit levels token = inside levels (before_value Left token)

abbrev pub before_predicate : List Level → Place → Option Path → Step → Token → Option (List Level × Next)
before_predicate levels place so_far step (Figure n) = Some (levels, BehindCount place so_far step n)
before_predicate levels place so_far step token = before_unit (square place so_far step ∷ levels) token

-- a number alone is the place of a node, and before an operator a literal
abbrev pub behind_count : List Level → Place → Option Path → Step → ℕ → Token → Option (List Level × Next)
behind_count levels place so_far step n CloseSquare = Some (levels, BehindStep place so_far (with_predicate step (At n)))
behind_count levels place so_far step n (Compare operator) = Some (square place so_far step ∷ levels, BeforeValue (Number n) operator)
behind_count levels place so_far step n _ = None

abbrev pub behind_literal : Literal → Token → Option Next
behind_literal literal (Compare operator) = Some (BeforeValue literal operator)
behind_literal literal _ = None

-- ---- `position()` and `band(path, number)`

-- what comes behind the `(` of a call
abbrev pub in_call : Next → Token → Option Next
in_call next OpenRound = Some next
in_call next _ = None

-- what comes behind the `)` of a call
abbrev pub behind_call : Next → Token → Option Next
behind_call next CloseRound = Some next
behind_call next _ = None

abbrev pub behind_position : Side → Token → Option Next
behind_position side token = in_call (InPosition side) token

abbrev pub in_position : Side → Token → Option Next
in_position side token = behind_call (BehindValue side Position) token

abbrev pub behind_band : Side → Token → Option Next
behind_band side token = in_call (BeforeStep (InBand side) None) token

abbrev pub before_comma : Side → Path → Token → Option Next
before_comma side path Comma = Some (BeforeMask side path)
before_comma side path _ = None

abbrev pub before_mask : Side → Path → Token → Option Next
before_mask side path (Figure n) = Some (BehindMask side path n)
before_mask side path _ = None

abbrev pub behind_mask : Side → Path → ℕ → Token → Option Next
behind_mask side path n token = behind_call (BehindValue side (Band path n)) token

-- ---- conditions that end

-- what a condition in brackets is for what stands around them
abbrev pub closed_round : Around → Or → Option Next
closed_round Round or = Some (BehindUnit (Group or))
closed_round (Square place so_far step) or = None

abbrev pub closed_square : Around → Or → Option Next
closed_square Round or = None
closed_square (Square place so_far step) or = Some (BehindStep place so_far (with_predicate step (Whether or)))

-- a condition behind whose unit an operator stands
abbrev pub with_and_behind : Level → unit.Unit → Level
with_and_behind level last = record { around = level.around; alternatives = level.alternatives; units = Some (with_unit level.units last) }

abbrev pub with_or_behind : Level → unit.Unit → Level
with_or_behind level last = with_units_ended (with_and_behind level last)

abbrev pub joined : List Level → Level → List ℕ → Option (List Level × Next)
joined levels level name =
    if same name (codes "and") then Some (level ∷ levels, BeforeUnit)
    else (if same name (codes "or") then Some (with_units_ended level ∷ levels, BeforeUnit) else None)

-- the condition of a bracket that ends, for what stands around it
abbrev pub ended_in : (Around → Or → Option Next) → Level → Option Next
ended_in closed level = option_and_then (closed level.around) level.alternatives

-- what stands behind the units of a condition
abbrev pub behind_level : List Level → Level → Token → Option (List Level × Next)
behind_level levels level (Word name) = joined levels level name
behind_level levels level (Joint name) = joined levels level name
behind_level levels level CloseRound = inside levels (ended_in closed_round (with_units_ended level))
behind_level levels level CloseSquare = inside levels (ended_in closed_square (with_units_ended level))
behind_level levels level _ = None

abbrev pub behind_last : List Level → Level → unit.Unit → Token → Option (List Level × Next)
behind_last levels level last token = behind_level levels (with_and_behind level last) token

abbrev pub behind_unit : List Level → unit.Unit → Token → Option (List Level × Next)
behind_unit [] last token = None
behind_unit (level ∷ levels) last token = behind_last levels level last token

-- ---- values that end

abbrev pub is_position : Value → Bool
is_position Position = true
is_position _ = false

abbrev pub before_literal : Value → Operator → Token → Option Next
before_literal value operator (Figure n) = Some (BehindUnit (Compared value operator (Number n)))
before_literal value operator (Quote text) = if is_position value then None else Some (BehindUnit (Compared value operator (Quoted text)))
before_literal value operator _ = None

-- a value alone is a unit where it isn't `position()`
abbrev pub behind_alone : List Level → Value → Token → Option (List Level × Next)
behind_alone levels value token = if is_position value then None else behind_unit levels (Alone value) token

abbrev pub behind_left : List Level → Value → Token → Option (List Level × Next)
behind_left levels value (Compare operator) = Some (levels, BeforeLiteral value operator)
behind_left levels value token = behind_alone levels value token

abbrev pub behind_value : List Level → Side → Value → Token → Option (List Level × Next)
behind_value levels Left value token = behind_left levels value token
behind_value levels (Right literal operator) value token = behind_unit levels (Mirrored literal operator value) token

-- ---- paths that end

abbrev pub behind_path : List Level → Place → Path → Token → Option (List Level × Next)
behind_path levels Whole path token = None
behind_path levels (InValue side) path token = behind_value levels side (Nodes path) token
behind_path levels (InBand side) path token = inside levels (before_comma side path token)

-- an attribute step is the last of its path
abbrev pub behind_slash : Place → Option Path → Step → Option Next
behind_slash place so_far step = if goes_to_children step.axis then Some (BeforeStep place (Some (with_step so_far step))) else None

abbrev pub behind_step : List Level → Place → Option Path → Step → Token → Option (List Level × Next)
behind_step levels place so_far step OpenSquare = Some (levels, BeforePredicate place so_far step)
behind_step levels place so_far step Slash = inside levels (behind_slash place so_far step)
behind_step levels place so_far step token = behind_path levels place (with_step so_far step) token

-- ---- all of them

-- what a token makes of the open brackets and of what may come next, where it may
abbrev pub turn : List Level → Next → Token → Option (List Level × Next)
turn levels (BeforeStep place so_far) token = inside levels (before_step place so_far token)
turn levels (BeforeTest place so_far axis) token = inside levels (before_test place so_far axis token)
turn levels (BehindStep place so_far step) token = behind_step levels place so_far step token
turn levels (BeforePredicate place so_far step) token = before_predicate levels place so_far step token
turn levels (BehindCount place so_far step n) token = behind_count levels place so_far step n token
turn levels BeforeUnit token = before_unit levels token
turn levels (BehindLiteral literal) token = inside levels (behind_literal literal token)
turn levels (BeforeValue literal operator) token = inside levels (before_value (Right literal operator) token)
turn levels (BehindPosition side) token = inside levels (behind_position side token)
turn levels (InPosition side) token = inside levels (in_position side token)
turn levels (BehindBand side) token = inside levels (behind_band side token)
turn levels (BeforeMask side path) token = inside levels (before_mask side path token)
turn levels (BehindMask side path n) token = inside levels (behind_mask side path n token)
turn levels (BehindValue side value) token = behind_value levels side value token
turn levels (BeforeLiteral value operator) token = inside levels (before_literal value operator token)
turn levels (BehindUnit last) token = behind_unit levels last token

-- a path that is all of the text
abbrev pub whole_path : Place → Option Path → Step → Option Path
whole_path place so_far step = if is_whole place then Some (with_step so_far step) else None

-- the path, where the text may end and no bracket is open
abbrev pub ended : Next → Option Path
ended (BehindStep place so_far step) = whole_path place so_far step
ended _ = None

abbrev pub finished : List Level → Next → Option Path
finished [] next = ended next
finished (level ∷ levels) next = None
