-- The machine without the count of its brackets, and where a value may stand.
use Rattle.std.proofs.Common.{◌≡◌, ℕ, Bool, true, false, if◌then◌else◌, List, [], ◌∷◌, Option, Some, None, refl}
use Rattle.std.specs.Option.{option_map, option_and_then}
use Rattle.wef_query_tokens.specs.declared.tokens.Token.{Token}
use Rattle.wef_query_paths.specs.declared.conditions.Level.{Level}
use Rattle.wef_query_paths.specs.declared.values.Side.{Side}
use Rattle.wef_query_paths.specs.declared.values.Side.TheVariants.{Left, Right}
use Rattle.wef_query_paths.specs.declared.path.Path.{Path}
use Rattle.wef_query_paths.specs.declared.path.Value.{Value}
use Rattle.wef_query_paths.specs.declared.turns.Next.{Next}
use Rattle.wef_query_paths.specs.Grammar.{is_shallow, may_compare}
use Rattle.wef_query_paths.specs.Reading.{depth_behind, read_on, reader_of}
use Rattle.wef_query_paths.specs.Turns.{finished, turn}

-- the path of what is read and tokens behind it, however many brackets they open
abbrev pub run : List Level → Next → List Token → Option Path
run levels next [] = finished levels next
run levels next (token ∷ tokens) = option_and_then (λ turned. run turned.0 turned.1 tokens) (turn levels next token)

-- the same behind a turn
abbrev pub on : List Token → Option (List Level × Next) → Option Path
on tokens turned = option_and_then (λ t. run t.0 t.1 tokens) turned

abbrev if_shallow : Bool → Option Path → Option Path
if_shallow b o = if b then o else None

none_either : (b : Bool) → None ≡ if_shallow b None
none_either true = refl
none_either false = refl

abbrev shallow_on : List Token → Option ℕ → Bool
shallow_on tokens o = elim o as (λ _. Bool) [ None ↦ false | Some deeper ↦ is_shallow deeper tokens ]

on_turn : (tokens : List Token) (deeper : ℕ) (turned : Option (List Level × Next)) → ((levels : List Level) (next : Next) → read_on (reader_of deeper (levels, next)) tokens ≡ if_shallow (is_shallow deeper tokens) (run levels next tokens))
    → option_and_then (λ longer. read_on longer tokens) (option_map (reader_of deeper) turned) ≡ if_shallow (is_shallow deeper tokens) (on tokens turned)
on_turn tokens deeper None h = none_either (is_shallow deeper tokens)
on_turn tokens deeper (Some t) h = h t.0 t.1

on_depth : (tokens : List Token) (o : Option ℕ) (turned : Option (List Level × Next)) → ((deeper : ℕ) (levels : List Level) (next : Next) → read_on (reader_of deeper (levels, next)) tokens ≡ if_shallow (is_shallow deeper tokens) (run levels next tokens))
    → option_and_then (λ longer. read_on longer tokens) (option_and_then (λ deeper. option_map (reader_of deeper) turned) o) ≡ if_shallow (shallow_on tokens o) (on tokens turned)
on_depth tokens None turned h = refl
on_depth tokens (Some deeper) turned h = on_turn tokens deeper turned (h deeper)

-- the count of the brackets is a test beside the machine
pub apart : (tokens : List Token) (depth : ℕ) (levels : List Level) (next : Next) → read_on (reader_of depth (levels, next)) tokens ≡ if is_shallow depth tokens then run levels next tokens else None
apart [] depth levels next = refl
apart (token ∷ tokens) depth levels next = on_depth tokens (depth_behind depth token) (turn levels next token) (λ deeper levels' next'. apart tokens deeper levels' next')

-- whether a value may stand on a side of a comparison
abbrev pub may_stand : Side → Value → Bool
may_stand Left v = true
may_stand (Right literal operator) v = may_compare v literal
