-- Behind the name of a function stands its `(`, in a text and in the text's tokens.
use Rattle.std.proofs.Common.{◌≡◌, ℕ, zero, suc, ◌++◌, ◌==◌, Bool, true, false, ◌||◌, if◌then◌else◌, List, [], ◌∷◌, length, codes, encode_utf8, Option, Some, None, refl, sym, ap, ◌∙◌, subst, arith}
use Rattle.std.proofs.lemmas.Bool.Decides.{nat_tests}
use Rattle.std.specs.Option.{option_map, option_and_then}
use Rattle.std.specs.Str.{chars}
use Rattle.wef_base.specs.Names.{same, without_start}
use Rattle.wef_query_tokens.specs.declared.axis.Axis.TheVariants.{Child, Attribute}
use Rattle.wef_query_tokens.specs.declared.operator.Operator.{Operator}
use Rattle.wef_query_tokens.specs.declared.operator.Operator.TheVariants.{Equal, NotEqual, Less, LessOrEqual, Greater, GreaterOrEqual}
use Rattle.wef_query_tokens.specs.declared.tokens.Token.{Token}
use Rattle.wef_query_tokens.specs.declared.tokens.Token.TheVariants.{Along, Star, Word, Joint, Compare, Figure, Quote, OpenSquare, CloseSquare, OpenRound, CloseRound, Slash, Comma}
use Rattle.wef_query_tokens.specs.Calls.{is_call}
use Rattle.wef_query_tokens.specs.Tokens.{axis_at, axis_named, before, before_colon, behind_zero, call_named, decimal_digit, decimal_tail, hexadecimal, hexadecimal_tail, if_equals, is_joint, is_name_start, mark, name_tail, named, number_from, one_more, other_at, quoted, quoted_tail, sign_at, slash_at, token_at, token_from, tokens_in, tokens_of, tokens_within, unequal, whole, word_at}

-- if a token was read that is a function's name, a `(` is next
abbrev pub BeforeRound : Option (Token × List ℕ) → Type 0
BeforeRound None = Unit {0}
BeforeRound (Some read) = is_call read.0 ≡ true → (behind : List ℕ) × (without_start read.1 ≡ 40 ∷ behind)

either_round : (b : Bool) (x y : Option (Token × List ℕ)) → BeforeRound x → BeforeRound y → BeforeRound (if b then x else y)
either_round true x y p q = p
either_round false x y p q = q

digit_round : (o : Option ℕ) (x : Option (Token × List ℕ)) (f : ℕ → Option (Token × List ℕ)) → BeforeRound x → ((d : ℕ) → BeforeRound (f d)) → BeforeRound (elim o as (λ _. Option (Token × List ℕ)) [ None ↦ x | Some d ↦ f d ])
digit_round None x f p q = p
digit_round (Some d) x f p q = q d

then_round : {A : Type 0} (f : A → Option (Token × List ℕ)) (o : Option A) → ((a : A) → BeforeRound (f a)) → BeforeRound (option_and_then f o)
then_round f None q = tt
then_round f (Some a) q = q a

-- ---- names

axis_named_round : (name rest : List ℕ) → BeforeRound (axis_named name rest)
axis_named_round name rest =
    either_round (same name (codes "child")) (Some (Along Child, rest)) (if same name (codes "attribute") then Some (Along Attribute, rest) else None) (λ e. cc)
    (either_round (same name (codes "attribute")) (Some (Along Attribute, rest)) None (λ e. cc) tt)

axis_round : (name text : List ℕ) → BeforeRound (axis_at name text)
axis_round name [] = tt
axis_round name (c ∷ cs) = either_round (c == 58) (axis_named name cs) None (axis_named_round name cs) tt

colon_round : (name rest cs : List ℕ) → BeforeRound (before_colon name rest cs)
colon_round name rest cs = either_round (is_joint name) (Some (Joint name, rest)) (axis_at name cs) (λ e. cc) (axis_round name cs)

beside_round : (rest behind : List ℕ) (o : Option Token) → without_start rest ≡ 40 ∷ behind → BeforeRound (option_map (λ token. (token, rest)) o)
beside_round rest behind None e = tt
beside_round rest behind (Some token) e = λ f. (behind, e)

is_round : (c : ℕ) → (c == 40) ≡ true → c ≡ 40
is_round c e = grind (arith, nat_tests)

call_round : (name rest : List ℕ) (c : ℕ) (cs : List ℕ) (b : Bool) → (c == 40) ≡ b → without_start rest ≡ c ∷ cs → BeforeRound (if b then option_map (λ token. (token, rest)) (call_named name) else Some (Word name, rest))
call_round name rest c cs true e f = beside_round rest cs (call_named name) (f ∙ ap (λ d. d ∷ cs) (is_round c e))
call_round name rest c cs false e f = λ g. cc

named_round : (name rest behind : List ℕ) → without_start rest ≡ behind → BeforeRound (named name rest behind)
named_round name rest [] e = λ f. cc
named_round name rest (c ∷ cs) e =
    either_round (c == 58) (before_colon name rest cs) (if c == 40 then option_map (λ token. (token, rest)) (call_named name) else Some (Word name, rest))
    (colon_round name rest cs) (call_round name rest c cs (c == 40) refl e)

word_round : (c : ℕ) (cs : List ℕ) → BeforeRound (word_at c cs)
word_round c cs = named_round (encode_utf8 c ++ (name_tail cs).0) (name_tail cs).1 (without_start (name_tail cs).1) refl

-- ---- numbers, texts and signs

whole_round : (number : ℕ) (text : List ℕ) → BeforeRound (whole number text)
whole_round number [] = λ e. cc
whole_round number (c ∷ cs) = either_round (c == 46) None (Some (Figure number, c ∷ cs)) tt (λ e. cc)

decimal_round : (number : ℕ) (text : List ℕ) → BeforeRound (decimal_tail number text)
decimal_round number [] = λ e. cc
decimal_round number (c ∷ cs) =
    digit_round (decimal_digit c) (whole number (c ∷ cs)) (λ d. option_and_then (λ more. decimal_tail more cs) (one_more 10 number d)) (whole_round number (c ∷ cs))
    (λ d. then_round (λ more. decimal_tail more cs) (one_more 10 number d) (λ more. decimal_round more cs))

hexadecimal_round : (number : ℕ) (text : List ℕ) → BeforeRound (hexadecimal_tail number text)
hexadecimal_round number [] = λ e. cc
hexadecimal_round number (c ∷ cs) =
    digit_round (hexadecimal c) (Some (Figure number, c ∷ cs)) (λ d. option_and_then (λ more. hexadecimal_tail more cs) (one_more 16 number d)) (λ e. cc)
    (λ d. then_round (λ more. hexadecimal_tail more cs) (one_more 16 number d) (λ more. hexadecimal_round more cs))

zero_round : (text : List ℕ) → BeforeRound (behind_zero text)
zero_round [] = λ e. cc
zero_round (c ∷ []) = decimal_round 0 (c ∷ [])
zero_round (c ∷ d ∷ ds) =
    either_round (c == 120) (elim (hexadecimal d) as (λ _. Option (Token × List ℕ)) [ None ↦ Some (Figure 0, c ∷ d ∷ ds) | Some first ↦ hexadecimal_tail first ds ]) (decimal_tail 0 (c ∷ d ∷ ds))
    (digit_round (hexadecimal d) (Some (Figure 0, c ∷ d ∷ ds)) (λ first. hexadecimal_tail first ds) (λ e. cc) (λ first. hexadecimal_round first ds))
    (decimal_round 0 (c ∷ d ∷ ds))

number_round : (digit : ℕ) (rest : List ℕ) → BeforeRound (number_from digit rest)
number_round digit rest = either_round (digit == 0) (behind_zero rest) (decimal_tail digit rest) (zero_round rest) (decimal_round digit rest)

quote_round : (o : Option (List ℕ × List ℕ)) → BeforeRound (option_map (λ (read : List ℕ × List ℕ). (Quote read.0, read.1)) o)
quote_round None = tt
quote_round (Some read) = λ e. cc

compared_round : (with_equals without : Operator) (c : ℕ) (cs : List ℕ) (b : Bool) → BeforeRound (Some (if b then (Compare with_equals, cs) else (Compare without, c ∷ cs)))
compared_round with_equals without c cs true = λ e. cc
compared_round with_equals without c cs false = λ e. cc

equals_round : (with_equals without : Operator) (text : List ℕ) → BeforeRound (Some (if_equals with_equals without text))
equals_round with_equals without [] = λ e. cc
equals_round with_equals without (c ∷ cs) = compared_round with_equals without c cs (c == 61)

unequal_round : (text : List ℕ) → BeforeRound (unequal text)
unequal_round [] = tt
unequal_round (c ∷ cs) = either_round (c == 61) (Some (Compare NotEqual, cs)) None (λ e. cc) tt

slash_round : (text : List ℕ) → BeforeRound (slash_at text)
slash_round [] = λ e. cc
slash_round (c ∷ cs) = either_round (c == 47) None (Some (Slash, c ∷ cs)) tt (λ e. cc)

-- a sign is no function's name
abbrev NoCall : Option Token → Type 0
NoCall None = Unit {0}
NoCall (Some token) = is_call token ≡ false

either_no_call : (b : Bool) (k : Token) (o : Option Token) → is_call k ≡ false → NoCall o → NoCall (if b then Some k else o)
either_no_call true k o e f = e
either_no_call false k o e f = f

mark_no_call : (c : ℕ) → NoCall (mark c)
mark_no_call c =
    either_no_call (c == 42) Star _ refl
    (either_no_call (c == 64) (Along Attribute) _ refl
    (either_no_call (c == 91) OpenSquare _ refl
    (either_no_call (c == 93) CloseSquare _ refl
    (either_no_call (c == 40) OpenRound _ refl
    (either_no_call (c == 41) CloseRound _ refl
    (either_no_call (c == 44) Comma _ refl
    (either_no_call (c == 61) (Compare Equal) None refl tt)))))))

mark_round : (cs : List ℕ) (o : Option Token) → NoCall o → BeforeRound (option_map (λ token. (token, cs)) o)
mark_round cs None n = tt
mark_round cs (Some token) n = λ e. cc

sign_round : (c : ℕ) (cs : List ℕ) → BeforeRound (sign_at c cs)
sign_round c cs =
    either_round (c == 60) (Some (if_equals LessOrEqual Less cs)) (if c == 62 then Some (if_equals GreaterOrEqual Greater cs) else (if c == 33 then unequal cs else (if c == 47 then slash_at cs else option_map (λ token. (token, cs)) (mark c))))
    (equals_round LessOrEqual Less cs)
    (either_round (c == 62) (Some (if_equals GreaterOrEqual Greater cs)) (if c == 33 then unequal cs else (if c == 47 then slash_at cs else option_map (λ token. (token, cs)) (mark c)))
    (equals_round GreaterOrEqual Greater cs)
    (either_round (c == 33) (unequal cs) (if c == 47 then slash_at cs else option_map (λ token. (token, cs)) (mark c)) (unequal_round cs)
    (either_round (c == 47) (slash_at cs) (option_map (λ token. (token, cs)) (mark c)) (slash_round cs) (mark_round cs (mark c) (mark_no_call c)))))

other_round : (c : ℕ) (cs : List ℕ) → BeforeRound (other_at c cs)
other_round c cs = either_round (c == 34 || c == 39) (quoted c cs) (sign_at c cs) (quote_round (quoted_tail c cs)) (sign_round c cs)

token_round : (c : ℕ) (cs : List ℕ) → BeforeRound (token_from c cs)
unfolding token_from
token_round c cs =
    either_round (is_name_start c) (word_at c cs) (elim (decimal_digit c) as (λ _. Option (Token × List ℕ)) [ None ↦ other_at c cs | Some d ↦ number_from d cs ]) (word_round c cs)
    (digit_round (decimal_digit c) (other_at c cs) (λ d. number_from d cs) (other_round c cs) (λ d. number_round d cs))

-- ---- a text

-- a `(` is a token, whatever is behind it
pub round_token : (behind : List ℕ) → token_at (40 ∷ behind) ≡ Some (OpenRound, behind)
unfolding token_from
round_token behind = refl

call_before : (k : Token) (rest : List ℕ) (o : Option (Token × List ℕ)) → o ≡ Some (k, rest) → BeforeRound o → is_call k ≡ true → (behind : List ℕ) × (without_start rest ≡ 40 ∷ behind)
call_before k rest o e r c = let told : BeforeRound (Some (k, rest)) = subst BeforeRound e r in told c

-- behind a function's name a text goes on with a `(`
pub call_stands_before : (text : List ℕ) (k : Token) (rest : List ℕ) → token_at text ≡ Some (k, rest) → is_call k ≡ true → (behind : List ℕ) × (without_start rest ≡ 40 ∷ behind)
call_stands_before [] k rest e c = cc
call_stands_before (c ∷ cs) k rest e f = call_before k rest (token_from c cs) e (token_round c cs) f

-- ---- its tokens

some_is : {A : Type 0} {a b : A} → Some a ≡ Some b → a ≡ b
some_is e = cc

abbrev pub OpensRound : List Token → Type 0
OpensRound (OpenRound ∷ ks) = Unit {0}
OpensRound _ = ⊥

-- behind each function's name stands a `(`
abbrev pub AreCallsOpened : List Token → Type 0
AreCallsOpened [] = Unit {0}
AreCallsOpened (k ∷ ks) = (is_call k ≡ true → OpensRound ks) × AreCallsOpened ks

begins_round : (k : Token) (more : Option (List Token)) (tokens : List Token) → k ≡ OpenRound → before k more ≡ Some tokens → OpensRound tokens
begins_round k None tokens e f = cc
begins_round k (Some more) tokens e f = let same_tokens : OpenRound ∷ more ≡ tokens = ap (λ t. t ∷ more) (sym e) ∙ some_is f in subst OpensRound same_tokens tt

round_tokens : (n : ℕ) (behind : List ℕ) (tokens : List Token) → tokens_within n (40 ∷ behind) ≡ Some tokens → OpensRound tokens
round_tokens zero behind tokens e = cc
round_tokens (suc n) behind tokens e = begins_round OpenRound (tokens_within n (without_start behind)) tokens refl (sym (ap (λ o. option_and_then (λ read. before read.0 (tokens_within n (without_start read.1))) o) (round_token behind)) ∙ e)

calls_behind : (n : ℕ) (text : List ℕ) (tokens : List Token) → (behind : List ℕ) × (text ≡ 40 ∷ behind) → tokens_within n text ≡ Some tokens → OpensRound tokens
calls_behind n text tokens (behind, e) f = round_tokens n behind tokens (sym (ap (tokens_within n) e) ∙ f)

one_more_call : (k : Token) (more : Option (List Token)) (tokens : List Token) → ((ks : List Token) → more ≡ Some ks → (is_call k ≡ true → OpensRound ks) × AreCallsOpened ks) → before k more ≡ Some tokens → AreCallsOpened tokens
one_more_call k None tokens f e = cc
one_more_call k (Some ks) tokens f e = subst AreCallsOpened (some_is e) (f ks refl)

token_calls : (n : ℕ) (tokens : List Token) (o : Option (Token × List ℕ)) → BeforeRound o → ((text : List ℕ) (ks : List Token) → tokens_within n text ≡ Some ks → AreCallsOpened ks) → option_and_then (λ read. before read.0 (tokens_within n (without_start read.1))) o ≡ Some tokens → AreCallsOpened tokens
token_calls n tokens None r more e = cc
token_calls n tokens (Some read) r more e = one_more_call read.0 (tokens_within n (without_start read.1)) tokens (λ ks f. (λ g. calls_behind n (without_start read.1) ks (r g) f, more (without_start read.1) ks f)) e

calls_within : (n : ℕ) (text : List ℕ) (tokens : List Token) → tokens_within n text ≡ Some tokens → AreCallsOpened tokens
calls_within n [] tokens e = subst AreCallsOpened (some_is e) tt
calls_within zero (c ∷ cs) tokens e = cc
calls_within (suc n) (c ∷ cs) tokens e = token_calls n tokens (token_from c cs) (token_round c cs) (λ text ks f. calls_within n text ks f) e

pub calls_opened : (text : List ℕ) (tokens : List Token) → tokens_of (chars text) ≡ Some tokens → AreCallsOpened tokens
unfolding tokens_in
calls_opened text tokens e = calls_within (length (without_start (chars text))) (without_start (chars text)) tokens e
