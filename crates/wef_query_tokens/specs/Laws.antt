-- The law of reading tokens.
use Rattle.std.specs.Prelude.{◌≡◌, ℕ, List, ◌∷◌}
use Rattle.std.specs.Option.{option_and_then}
use Rattle.wef_base.specs.Names.{without_start}
use Rattle.wef_query_tokens.specs.Tokens.{before, token_at, tokens_in}

-- The tokens of a text are the one that it begins with and those of what is left behind that and its spaces, however many there are.
abbrev pub IsTokenByToken : Type 0
IsTokenByToken = (c : ℕ) (cs : List ℕ) → tokens_in (c ∷ cs) ≡ option_and_then (λ read. before read.0 (tokens_in (without_start read.1))) (token_at (c ∷ cs))
