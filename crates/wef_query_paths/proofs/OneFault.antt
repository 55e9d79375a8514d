-- A text has no two faults, and none if it says a path.
use Rattle.std.proofs.Common.{◌≡◌, ℕ, zero, suc, Bool, true, false, List, [], ◌∷◌, ◌++◌, length, Option, Some, None, refl, ap, sym, ◌∙◌, subst, append_assoc, append-nil}
use Rattle.std.specs.Option.{option_and_then}
use Rattle.std.specs.Str.{chars}
use Rattle.wef_base.specs.Names.{without_start}
use Rattle.wef_query_tokens.specs.declared.tokens.Token.{Token}
use Rattle.wef_query_tokens.specs.Tokens.{before, token_at, tokens_in, tokens_within}
use Rattle.wef_query_paths.specs.declared.faults.FaultKind.{FaultKind}
use Rattle.wef_query_paths.specs.declared.faults.FaultKind.TheVariants.{Bad, Unsupported as Foreign, Deep}
use Rattle.wef_query_paths.specs.declared.path.Path.{Path}
use Rattle.wef_query_paths.specs.Allows.{Allows, IsPath}
use Rattle.wef_query_paths.specs.Faults.{FaultAt, HasKind, Refuses, Splits, before_all, behind}
use Rattle.wef_query_paths.specs.Grammar.{Says, is_shallow}
use Rattle.wef_query_paths.specs.Laws.{HasNoFault, HasOneFault}
use Rattle.wef_query_paths.specs.Reading.{depth_behind}
use Rattle.wef_query_paths.specs.Stops.{place}
use Rattle.wef_query_paths.proofs.SaidIsRead.{is_said}
use Rattle.wef_query_paths.proofs.SameGrammar.{cut_behind, in_front, same_grammar}
use Rattle.wef_query_paths.proofs.Stopped.{place_is}

-- ---- fronts

shallow_front : (front rest : List Token) (depth : ℕ) → is_shallow depth (front ++ rest) ≡ true → is_shallow depth front ≡ true
shallow_front [] rest depth e = refl
shallow_front (k ∷ front) rest depth e = by (depth_behind depth k) e (λ deeper f. shallow_front front rest deeper f)
  where
    by : (o : Option ℕ) → (elim o as (λ _. Bool) [ None ↦ false | Some deeper ↦ is_shallow deeper (front ++ rest) ]) ≡ true → ((deeper : ℕ) → is_shallow deeper (front ++ rest) ≡ true → is_shallow deeper front ≡ true)
        → (elim o as (λ _. Bool) [ None ↦ false | Some deeper ↦ is_shallow deeper front ]) ≡ true
    by None f more = f
    by (Some deeper) f more = more deeper f

-- what is refused behind tokens can't stand behind them where more is allowed
abbrev IsRefused : List Token → List ℕ → Type 0
IsRefused front left = Refuses front (token_at left)

no_more : (front more : List Token) (left rest : List ℕ) (k : Token) → token_at left ≡ Some (k, rest) → IsRefused front left → Allows (front ++ k ∷ more) → is_shallow 0 (front ++ k ∷ more) ≡ true → ⊥
no_more front more left rest k e refused allowed shallow =
    let P : Option (Token × List ℕ) → Type 0 = Refuses front in
    let parts : (front ++ k ∷ []) ++ more ≡ front ++ k ∷ more = append_assoc front (k ∷ []) more in
    subst P e refused (cut_behind allowed (front ++ k ∷ []) more (sym parts))
    (shallow_front (front ++ k ∷ []) more 0 (ap (is_shallow 0) parts ∙ shallow))

-- ---- one way to stop

-- tokens behind others, with what is left, and that nothing goes on there
record Ends (prefix : List Token) (front : List Token) (left : List ℕ) : Type 0 where
  allowed : Allows (prefix ++ front)
  shallow : is_shallow 0 (prefix ++ front) ≡ true
  refused : IsRefused (prefix ++ front) left

ends_behind : (prefix front : List Token) (k : Token) (left : List ℕ) → Ends prefix (k ∷ front) left → Ends (prefix ++ k ∷ []) front left
ends_behind prefix front k left h =
    let parts : prefix ++ k ∷ front ≡ (prefix ++ k ∷ []) ++ front = sym (append_assoc prefix (k ∷ []) front) in
    record {
      allowed = subst Allows parts h.allowed;
      shallow = subst (λ (ks : List Token). is_shallow 0 ks ≡ true) parts h.shallow;
      refused = subst (λ (ks : List Token). IsRefused ks left) parts h.refused;
    }

at_prefix : (prefix : List Token) (left : List ℕ) → Ends prefix [] left → IsRefused prefix left
at_prefix prefix left h = subst (λ (ks : List Token). IsRefused ks left) (append-nil prefix) h.refused

read_token : Token → Option (Token × List ℕ) → Token
read_token k None = k
read_token k (Some read) = read.0

read_left : List ℕ → Option (Token × List ℕ) → List ℕ
read_left left None = left
read_left left (Some read) = read.1

record AreSame (front front' : List Token) (left left' : List ℕ) : Type 0 where
  fronts : front ≡ front'
  lefts : left ≡ left'

same_ends : (prefix : List Token) {text : List ℕ} {front front' : List Token} {left left' : List ℕ} → Splits text front left → Splits text front' left' → Ends prefix front left → Ends prefix front' left' → AreSame front front' left left'
unfolding read_token read_left
same_ends prefix before_all before_all h g = record { fronts = refl; lefts = refl }
same_ends prefix {text = text} before_all (behind {rest = rest} {token = k} {tokens = tokens} e more) h g = absurd (no_more prefix tokens text rest k e (at_prefix prefix text h) g.allowed g.shallow)
same_ends prefix {text = text} (behind {rest = rest} {token = k} {tokens = tokens} e more) before_all h g = absurd (no_more prefix tokens text rest k e (at_prefix prefix text g) h.allowed h.shallow)
same_ends prefix {front' = front'} {left' = left'} (behind {rest = rest} {left = left} {token = k} {tokens = tokens} e more) (behind {rest = rest'} {token = k'} {tokens = tokens'} e' more') h g =
    let same_token : k' ≡ k = ap (read_token k) (sym e' ∙ e) in
    let same_rest : rest' ≡ rest = ap (read_left rest) (sym e' ∙ e) in
    let same = same_ends (prefix ++ k ∷ []) more (subst (λ (text : List ℕ). Splits (without_start text) tokens' left') same_rest more') (ends_behind prefix tokens k left h)
    (ends_behind prefix tokens' k left' (subst (λ (t : Token). Ends prefix (t ∷ tokens') left') same_token g)) in
    record { fronts = (λ i. sym same_token i ∷ same.fronts i); lefts = same.lefts }

-- ---- one kind

one_kind : (front : List Token) (left : List ℕ) (read : Option (Token × List ℕ)) (one other : FaultKind) → HasKind one front left read → HasKind other front left read → one ≡ other
one_kind front left read Bad Bad h g = refl
one_kind front left read Foreign Foreign h g = refl
one_kind front left read Deep Deep h g = refl
one_kind front left read Bad Foreign h g = absurd (h.1 g.1)
one_kind front left read Foreign Bad h g = absurd (g.1 h.1)
one_kind front left read Bad Deep h g = absurd (h.0 g)
one_kind front left read Foreign Deep h g = absurd (h.0 g)
one_kind front left read Deep Bad h g = absurd (g.0 h)
one_kind front left read Deep Foreign h g = absurd (g.0 h)

ends_of : (text : List ℕ) (kind : FaultKind) (at : ℕ) (h : FaultAt text kind at) → Ends [] h.front h.left
ends_of text kind at h = record { allowed = h.stops.allowed; shallow = h.stops.shallow; refused = h.stops.refused }

pub one_fault : HasOneFault
one_fault text one other here there h g =
    let same = same_ends [] h.stops.splits g.stops.splits (ends_of text one here h) (ends_of text other there g) in (
      one_kind h.front h.left (token_at h.left) one other h.kind_is
          (subst (λ (parts : List Token × List ℕ). HasKind other parts.0 parts.1 (token_at parts.1)) (λ i. (sym same.fronts i, sym same.lefts i)) g.kind_is),
      h.place ∙ sym (place_is (chars text) h.before h.left h.characters) ∙ ap (λ (left : List ℕ). place (chars text) (length left)) same.lefts ∙ place_is (chars text) g.before g.left g.characters ∙ sym g.place,
    )

-- ---- no fault where a path is said

only_list : (ks ks' : List Token) → Some ks ≡ Some ks' → ks ≡ ks'
only_list ks ks' e = cc

-- a text that has tokens is split by them all
splits_all : (n : ℕ) (text : List ℕ) (tokens : List Token) → tokens_within n text ≡ Some tokens → Splits text tokens []
splits_all n [] tokens e = subst (λ (ks : List Token). Splits [] ks []) (only_list [] tokens e) before_all
splits_all zero (c ∷ cs) tokens e = cc
splits_all (suc n) (c ∷ cs) tokens e = by (token_at (c ∷ cs)) refl e (λ text ks f. splits_all n text ks f)
  where
    by_more : (read : Token × List ℕ) (o : Option (List Token)) → token_at (c ∷ cs) ≡ Some read → tokens_within n (without_start read.1) ≡ o → before read.0 o ≡ Some tokens
        → ((text : List ℕ) (ks : List Token) → tokens_within n text ≡ Some ks → Splits text ks []) → Splits (c ∷ cs) tokens []
    by_more read None e g f more = cc
    by_more read (Some ks) e g f more = subst (λ (ts : List Token). Splits (c ∷ cs) ts []) (only_list (read.0 ∷ ks) tokens f) (behind e (more (without_start read.1) ks g))

    by : (o : Option (Token × List ℕ)) → token_at (c ∷ cs) ≡ o → option_and_then (λ read. before read.0 (tokens_within n (without_start read.1))) o ≡ Some tokens
        → ((text : List ℕ) (ks : List Token) → tokens_within n text ≡ Some ks → Splits text ks []) → Splits (c ∷ cs) tokens []
    by None e f more = cc
    by (Some read) e f more = by_more read (tokens_within n (without_start read.1)) e refl f more

said_splits : (text : List ℕ) (p : Path) (s : Says text p) → Splits (without_start (chars text)) s.tokens []
unfolding tokens_in
said_splits text p s = splits_all (length (without_start (chars text))) (without_start (chars text)) s.tokens s.are

said_ends : (text : List ℕ) (p : Path) (s : Says text p) → Ends [] s.tokens []
said_ends text p s = record {
  allowed = in_front s.tokens [] (subst IsPath (sym (append-nil s.tokens)) ((same_grammar text s.tokens s.are).1 (p, s.say)));
  shallow = s.shallow;
  refused = tt;
}

no_fault_said : (text : List ℕ) (p : Path) (kind : FaultKind) (at : ℕ) → Says text p → FaultAt text kind at → ⊥
no_fault_said text p kind at s h =
    let same = same_ends [] (said_splits text p s) h.stops.splits (said_ends text p s) (ends_of text kind at h) in
    h.stops.unfinished (sym same.lefts) (subst IsPath same.fronts ((same_grammar text s.tokens s.are).1 (p, s.say)))

pub no_fault : HasNoFault
no_fault text p kind at e h = no_fault_said text p kind at ((is_said text p).1 e) h
