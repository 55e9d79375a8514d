-- Which tokens are names of functions.
use Rattle.std.specs.Prelude.{Bool, true, false, ◌||◌}
use Rattle.wef_query_tokens.specs.declared.tokens.Token.{Token}
use Rattle.wef_query_tokens.specs.declared.tokens.Token.TheVariants.{PositionCall, BandCall}

-- the functions
abbrev pub is_position_call : Token → Bool
is_position_call PositionCall = true
is_position_call _ = false

abbrev pub is_band_call : Token → Bool
is_band_call BandCall = true
is_band_call _ = false

-- a function's name before its `(`
abbrev pub is_call : Token → Bool
is_call token = is_position_call token || is_band_call token
