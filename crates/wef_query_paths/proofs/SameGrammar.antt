-- The grammar that may be cut, with nothing cut, and cut anywhere.
use Rattle.std.proofs.Common.{◌≡◌, Bool, true, false, List, [], ◌∷◌, ◌++◌, Option, Some, None, refl, subst}
use Rattle.wef_query_tokens.specs.declared.axis.Axis.TheVariants.{Child}
use Rattle.wef_query_tokens.specs.declared.tokens.Token.{Token}
use Rattle.wef_query_tokens.specs.Calls.{is_call}
use Rattle.wef_query_tokens.proofs.Calls.{AreCallsOpened, OpensRound, calls_opened}
use Rattle.wef_query_paths.specs.declared.conditions.Level.{Level}
use Rattle.wef_query_paths.specs.declared.path.Path.{Path}
use Rattle.wef_query_paths.specs.declared.steps.Place.TheVariants.{Whole, InValue}
use Rattle.wef_query_paths.specs.declared.turns.Next.{Next}
use Rattle.wef_query_paths.specs.declared.turns.Next.TheVariants.{BeforeStep}
use Rattle.wef_query_paths.specs.Allows.{Gives, IsPath, Part, again, done, ends, goes_on, opens, skips, stop, takes}
use Rattle.wef_query_paths.specs.Grammar.{Begins, the_path}
use Rattle.wef_query_paths.specs.Laws.{IsAllowedInFront, IsSameGrammar}
use Rattle.wef_query_paths.specs.Turns.{turn}
use Rattle.wef_query_paths.proofs.Allowed.{named_is_call, opened_refused}
use Rattle.wef_query_paths.proofs.Completes.{completed}
use Rattle.wef_query_paths.proofs.Ends.{end_is_path, path_is_end}
use Rattle.wef_query_paths.proofs.Forward.{Taken, forward, loosens, misnamed, misnames, named, names, turns}
use Rattle.wef_query_paths.proofs.Runs.{on, run}
use Rattle.wef_query_paths.proofs.Sound.{said}
use Rattle.wef_query_paths.proofs.Stacks.{Comes, OnComes, back}

-- ---- nothing cut

-- what the machine gives a path for
abbrev IsRun : Option Path → Type 0
IsRun o = (p : Path) × (o ≡ Some p)

on_run : (ks : List Token) (o : Option (List Level × Next)) → ((levels : List Level) (next : Next) → Comes false false levels next ks → IsRun (run levels next ks)) → OnComes false false ks o → IsRun (on ks o)
on_run ks None f h = absurd h
on_run ks (Some t) f h = f t.0 t.1 h

taken_run : (levels : List Level) (next : Next) (k : Token) (ks : List Token) → (is_call k ≡ true → OpensRound ks) → ((inner : List Level) (after : Next) → Comes false false inner after ks → IsRun (run inner after ks)) → Taken false false levels next k ks → IsRun (on ks (turn levels next k))
taken_run levels next k ks o f (turns h) = on_run ks (turn levels next k) f h
taken_run levels next k ks o f (names (named inner side e g) b) = absurd (opened_refused false false inner Child (InValue side) ks (o e) g)
taken_run levels next k ks o f (misnames (misnamed inner axis place e g)) = absurd (opened_refused false false inner axis place ks (o (named_is_call next k e)) g)
taken_run levels next k ks o f (loosens a b c) = cc

comes_run : (ks : List Token) (levels : List Level) (next : Next) → AreCallsOpened ks → Comes false false levels next ks → IsRun (run levels next ks)
comes_run [] levels next o g = end_is_path false levels next g
comes_run (k ∷ ks) levels next (o, more) g = taken_run levels next k ks o (λ inner after h. comes_run ks inner after more h) (forward false false levels next k ks g)

on_comes : (ks : List Token) (p : Path) (o : Option (List Level × Next)) → ((levels : List Level) (next : Next) → run levels next ks ≡ Some p → Comes false false levels next ks) → on ks o ≡ Some p → OnComes false false ks o
on_comes ks p None f e = cc
on_comes ks p (Some t) f e = f t.0 t.1 e

run_comes : (ks : List Token) (p : Path) (levels : List Level) (next : Next) → run levels next ks ≡ Some p → Comes false false levels next ks
run_comes [] p levels next e = path_is_end levels next p e
run_comes (k ∷ ks) p levels next e = back false false levels next k ks (on_comes ks p (turn levels next k) (λ inner after f. run_comes ks p inner after f) e)

run_said : (tokens : List Token) → IsRun (run [] (BeforeStep Whole None) tokens) → (p : Path) × Begins (the_path p) tokens []
run_said tokens (p, e) = (p, said p tokens e)

said_run : (tokens : List Token) → ((p : Path) × Begins (the_path p) tokens []) → IsPath tokens
said_run tokens (p, d) = run_comes tokens p [] (BeforeStep Whole None) (completed p tokens d)

pub same_grammar : IsSameGrammar
same_grammar text tokens e = (λ g. run_said tokens (comes_run tokens [] (BeforeStep Whole None) (calls_opened text tokens e) g), said_run tokens)

-- ---- cut anywhere

-- tokens that are given may be cut behind any of them
pub cut_behind : {cut : Bool} {parts : List Part} {ks : List Token} → Gives false cut parts ks → (front rest : List Token) → ks ≡ front ++ rest → Gives false true parts front
cut_behind g [] rest e = stop refl
cut_behind done (k ∷ front) rest e = cc
cut_behind (stop f) (k ∷ front) rest e = cc
cut_behind (takes {test = test} {k = l} {ks = ks} f g) (k ∷ front) rest e =
    let same_token : l ≡ k = cc in
    let same_rest : ks ≡ front ++ rest = cc in
    takes (subst (λ (t : Token). test t ≡ true) same_token f) (cut_behind g front rest same_rest)
cut_behind (opens s g) (k ∷ front) rest e = opens s (cut_behind g (k ∷ front) rest e)
cut_behind (ends g) (k ∷ front) rest e = ends (cut_behind g (k ∷ front) rest e)
cut_behind (again {test = test} {k = l} {ks = ks} f g) (k ∷ front) rest e =
    let same_token : l ≡ k = cc in
    let same_rest : ks ≡ front ++ rest = cc in
    again (subst (λ (t : Token). test t ≡ true) same_token f) (cut_behind g front rest same_rest)
cut_behind (skips g) (k ∷ front) rest e = skips (cut_behind g (k ∷ front) rest e)
cut_behind (goes_on {test = test} {k = l} {ks = ks} f g) (k ∷ front) rest e =
    let same_token : l ≡ k = cc in
    let same_rest : ks ≡ front ++ rest = cc in
    goes_on (subst (λ (t : Token). test t ≡ true) same_token f) (cut_behind g front rest same_rest)

pub in_front : IsAllowedInFront
in_front front rest g = cut_behind g front rest refl
