-- Reading a path: token by token, until the text ends or a token can't follow.
use Rattle.std.specs.Prelude.{ℕ, ◌+◌, ◌-◌, nat_lt, List, [], ◌∷◌, Option, Some, None, if◌then◌else◌}
use Rattle.std.specs.Option.{option_map, option_and_then}
use Rattle.wef_query_tokens.specs.declared.tokens.Token.{Token}
use Rattle.wef_query_tokens.specs.declared.tokens.Token.TheVariants.{OpenSquare, CloseSquare, OpenRound, CloseRound}
use Rattle.wef_query_tokens.specs.Tokens.{tokens_in}
use Rattle.wef_query_paths.specs.declared.conditions.Level.{Level}
use Rattle.wef_query_paths.specs.declared.steps.Place.TheVariants.{Whole}
use Rattle.wef_query_paths.specs.declared.path.Path.{Path}
use Rattle.wef_query_paths.specs.declared.reading.Reader.{Reader}
use Rattle.wef_query_paths.specs.declared.turns.Next.{Next}
use Rattle.wef_query_paths.specs.declared.turns.Next.TheVariants.{BeforeStep}
use Rattle.wef_query_paths.specs.Turns.{finished, turn}

-- how many brackets may be open at once
abbrev pub greatest_depth : ℕ
greatest_depth = 32

-- one bracket more
abbrev pub deeper : ℕ → Option ℕ
deeper depth = if nat_lt depth greatest_depth then Some (depth + 1) else None

-- how many brackets are open behind a token, where they aren't too many
abbrev pub depth_behind : ℕ → Token → Option ℕ
depth_behind depth OpenSquare = deeper depth
depth_behind depth OpenRound = deeper depth
depth_behind depth CloseSquare = Some (depth - 1)
depth_behind depth CloseRound = Some (depth - 1)
depth_behind depth _ = Some depth

-- before the first token
abbrev pub start : Reader
start = record { levels = []; next = BeforeStep Whole None; depth = 0 }

abbrev pub reader_of : ℕ → List Level × Next → Reader
reader_of depth turned = record { levels = turned.0; next = turned.1; depth = depth }

-- what is read with a token more
abbrev pub taken : Reader → Token → Option Reader
taken r token = option_and_then (λ depth. option_map (reader_of depth) (turn r.levels r.next token)) (depth_behind r.depth token)

-- the path of all that is read and tokens behind it
abbrev pub read_on : Reader → List Token → Option Path
read_on r [] = finished r.levels r.next
read_on r (token ∷ tokens) = option_and_then (λ longer. read_on longer tokens) (taken r token)

-- the same of the tokens of a text that begins with no space
abbrev pub path_in : List ℕ → Reader → Option Path
path_in text r = option_and_then (read_on r) (tokens_in text)
