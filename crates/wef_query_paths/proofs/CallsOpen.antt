-- A text that is read token by token has the `(` behind a function's name, in each state.
use Rattle.std.proofs.Common.{◌≡◌, ℕ, true, List, ◌∷◌, Some, refl, sym, ap, ◌∙◌, subst}
use Rattle.wef_base.specs.Names.{without_start}
use Rattle.wef_query_tokens.specs.declared.tokens.Token.{Token}
use Rattle.wef_query_tokens.specs.declared.tokens.Token.TheVariants.{OpenRound}
use Rattle.wef_query_tokens.specs.Tokens.{token_at}
use Rattle.wef_query_tokens.proofs.Calls.{call_stands_before, round_token}
use Rattle.wef_query_paths.specs.declared.conditions.Level.{Level}
use Rattle.wef_query_paths.specs.declared.turns.Next.{Next}
use Rattle.wef_query_paths.specs.declared.turns.Next.TheVariants.{BehindPosition, BehindBand}
use Rattle.wef_query_paths.specs.Fronts.{is_behind_call, opens_call}
use Rattle.wef_query_paths.specs.Turns.{turn}
use Rattle.wef_query_paths.proofs.Ends.{turned_call}

-- where a function's name was read last, the text that is left begins with `(`
abbrev pub HasRound : Next → List ℕ → Type 0
HasRound next text = is_behind_call next ≡ true → (behind : List ℕ) × (text ≡ 40 ∷ behind)

-- so it is behind each token
pub round_is_next : (levels : List Level) (next : Next) (text : List ℕ) (k : Token) (rest : List ℕ) (t : List Level × Next) → token_at text ≡ Some (k, rest) → turn levels next k ≡ Some t → HasRound t.1 (without_start rest)
round_is_next levels next text k rest t e f = λ b. call_stands_before text k rest e (sym (turned_call levels next k t f) ∙ b)

same_read : (read read' : Token × List ℕ) → Some read ≡ Some read' → read'.0 ≡ read.0
same_read read read' e = let same_pair : read ≡ read' = cc in ap (λ (r : Token × List ℕ). r.0) (sym same_pair)

opening : (k : Token) (more : List ℕ) (text behind : List ℕ) → text ≡ 40 ∷ behind → token_at text ≡ Some (k, more) → k ≡ OpenRound
opening k more text behind e f = same_read (OpenRound, behind) (k, more) (sym (ap token_at e ∙ round_token behind) ∙ f)

opening_token : (k : Token) (more : List ℕ) (text : List ℕ) → (behind : List ℕ) × (text ≡ 40 ∷ behind) → token_at text ≡ Some (k, more) → k ≡ OpenRound
opening_token k more text (behind, e) f = opening k more text behind e f

-- and there the next token is that
pub next_opens : (next : Next) (text : List ℕ) (k : Token) (more : List ℕ) → HasRound next text → token_at text ≡ Some (k, more) → opens_call next k ≡ true
next_opens (BehindPosition side) text k more h e = subst (λ (t : Token). opens_call (BehindPosition side) t ≡ true) (sym (opening_token k more text (h refl) e)) refl
next_opens (BehindBand side) text k more h e = subst (λ (t : Token). opens_call (BehindBand side) t ≡ true) (sym (opening_token k more text (h refl) e)) refl
next_opens _ text k more h e = refl
