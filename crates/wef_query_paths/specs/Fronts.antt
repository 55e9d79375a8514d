-- What the machine's state says of the tokens that it took.
use Rattle.std.specs.Prelude.{Bool, true, false, if◌then◌else◌, List, [], ◌∷◌, Option, Some, None}
use Rattle.std.specs.Option.{option_and_then}
use Rattle.wef_query_tokens.specs.declared.tokens.Token.{Token}
use Rattle.wef_query_tokens.specs.declared.tokens.Token.TheVariants.{OpenRound}
use Rattle.wef_query_tokens.specs.Calls.{is_call, is_position_call}
use Rattle.wef_query_tokens.specs.Steps.{goes_to_children}
use Rattle.wef_query_paths.specs.declared.conditions.Level.{Level}
use Rattle.wef_query_paths.specs.declared.path.Literal.TheVariants.{Quoted}
use Rattle.wef_query_paths.specs.declared.turns.Next.{Next}
use Rattle.wef_query_paths.specs.declared.turns.Next.TheVariants.{BeforeStep, BeforeTest, BehindStep, BeforePredicate, BeforeUnit, BeforeValue, BehindPosition, BehindBand}
use Rattle.wef_query_paths.specs.Allows.{sign}
use Rattle.wef_query_paths.specs.Turns.{turn}

-- what tokens make, one after the other, of the open brackets and of what may come next, where each may
abbrev pub turned : List Level → Next → List Token → Option (List Level × Next)
turned levels next [] = Some (levels, next)
turned levels next (token ∷ tokens) = option_and_then (λ t. turned t.0 t.1 tokens) (turn levels next token)

-- such a name where a step's name may stand and no such call: the name may come, and no `(` behind it
abbrev pub is_named_call : Next → Token → Bool
is_named_call (BeforeStep place so_far) token = is_call token
is_named_call (BeforeTest place so_far axis) token = is_call token
is_named_call (BeforeValue (Quoted text) operator) token = is_position_call token
is_named_call _ token = false

-- whether the last of some tokens is a function's name
abbrev pub ends_in_call : List Token → Bool
ends_in_call [] = false
ends_in_call (token ∷ []) = is_call token
ends_in_call (token ∷ tokens) = ends_in_call tokens

-- whether a function's name was read last
abbrev pub is_behind_call : Next → Bool
is_behind_call (BehindPosition side) = true
is_behind_call (BehindBand side) = true
is_behind_call _ = false

-- behind a function's name stands its `(`
abbrev pub opens_call : Next → Token → Bool
opens_call (BehindPosition side) token = sign OpenRound token
opens_call (BehindBand side) token = sign OpenRound token
opens_call _ token = true

-- whether a path may begin, none of whose steps stand before
abbrev pub begins_path : Next → Bool
begins_path (BeforeStep place None) = true
begins_path (BeforePredicate place so_far step) = true
begins_path BeforeUnit = true
begins_path (BeforeValue literal operator) = true
begins_path _ = false

-- whether the last step goes to attributes, so that none may follow
abbrev pub is_behind_attribute : Next → Bool
is_behind_attribute (BehindStep place so_far step) = if goes_to_children step.axis then false else true
is_behind_attribute _ = false
