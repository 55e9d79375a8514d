-- No reader of tokens leaves more than it was given, and a token takes at least one character.
use Rattle.std.proofs.Common.{◌≡◌, ℕ, zero, suc, ◌≤◌, ◌<◌, ◌++◌, ◌==◌, Bool, true, false, ◌||◌, if◌then◌else◌, List, [], ◌∷◌, length, codes, encode_utf8, Option, Some, None, refl, ap, ◌∙◌, subst, arith}
use Rattle.std.specs.Option.{option_map, option_and_then}
use Rattle.wef_base.specs.Names.{is_space, same, without_start}
use Rattle.wef_query_tokens.specs.declared.axis.Axis.TheVariants.{Child, Attribute}
use Rattle.wef_query_tokens.specs.declared.operator.Operator.{Operator}
use Rattle.wef_query_tokens.specs.declared.operator.Operator.TheVariants.{NotEqual, Less, LessOrEqual, Greater, GreaterOrEqual}
use Rattle.wef_query_tokens.specs.declared.tokens.Token.{Token}
use Rattle.wef_query_tokens.specs.declared.tokens.Token.TheVariants.{Along, Word, Joint, Slash, Compare, Figure, Quote}
use Rattle.wef_query_tokens.specs.Laws.{IsTokenByToken}
use Rattle.wef_query_tokens.specs.Tokens.{axis_at, axis_named, before, before_colon, behind_zero, call_named, decimal_digit, decimal_tail, hexadecimal, hexadecimal_tail, if_equals, is_joint, is_name_char, is_name_start, mark, name_tail, named, number_from, one_more, other_at, quoted, quoted_tail, sign_at, slash_at, token_at, token_from, tokens_in, tokens_within, unequal, whole, with_front, word_at}

-- what is left behind what was read, if anything, is such a text
abbrev pub Leaves : {A : Type 0} → (List ℕ → Type 0) → Option (A × List ℕ) → Type 0
Leaves P None = Unit {0}
Leaves P (Some read) = P read.1

-- what holds of a text holds of it without its first character
abbrev pub IsOfTails : (List ℕ → Type 0) → Type 0
IsOfTails P = (c : ℕ) (cs : List ℕ) → P (c ∷ cs) → P cs

either_of : {A : Type 0} (Q : A → Type 0) (b : Bool) (x y : A) → Q x → Q y → Q (if b then x else y)
either_of Q true x y p q = p
either_of Q false x y p q = q

module _ (P : List ℕ → Type 0) (tail : IsOfTails P) where
  if_leaves : {A : Type 0} (b : Bool) (x y : Option (A × List ℕ)) → Leaves P x → Leaves P y → Leaves P (if b then x else y)
  if_leaves true x y p q = p
  if_leaves false x y p q = q

  by_digit : {A : Type 0} (o : Option ℕ) (x : Option (A × List ℕ)) (f : ℕ → Option (A × List ℕ)) → Leaves P x → ((d : ℕ) → Leaves P (f d)) → Leaves P (elim o as (λ _. Option (A × List ℕ)) [ None ↦ x | Some d ↦ f d ])
  by_digit None x f p q = p
  by_digit (Some d) x f p q = q d

  any_then : {A B : Type 0} (f : A → Option (B × List ℕ)) (o : Option A) → ((a : A) → Leaves P (f a)) → Leaves P (option_and_then f o)
  any_then f None q = tt
  any_then f (Some a) q = q a

  beside_leaves : {A : Type 0} (rest : List ℕ) (o : Option A) → P rest → Leaves P (option_map (λ a. (a, rest)) o)
  beside_leaves rest None h = tt
  beside_leaves rest (Some a) h = h

  pub without_start_leaves : (text : List ℕ) → P text → P (without_start text)
  without_start_leaves [] h = h
  without_start_leaves (c ∷ cs) h = either_of P (is_space c) (without_start cs) (c ∷ cs) (without_start_leaves cs (tail c cs h)) h

  -- ---- names

  name_tail_leaves : (text : List ℕ) → P text → P (name_tail text).1
  name_tail_leaves [] h = h
  name_tail_leaves (c ∷ cs) h = either_of (λ (read : List ℕ × List ℕ). P read.1) (is_name_char c) (with_front (encode_utf8 c) (name_tail cs)) ([], c ∷ cs) (name_tail_leaves cs (tail c cs h)) h

  axis_named_leaves : (name rest : List ℕ) → P rest → Leaves P (axis_named name rest)
  axis_named_leaves name rest h =
      if_leaves (same name (codes "child")) (Some (Along Child, rest)) (if same name (codes "attribute") then Some (Along Attribute, rest) else None) h
      (if_leaves (same name (codes "attribute")) (Some (Along Attribute, rest)) None h tt)

  axis_leaves : (name text : List ℕ) → P text → Leaves P (axis_at name text)
  axis_leaves name [] h = tt
  axis_leaves name (c ∷ cs) h = if_leaves (c == 58) (axis_named name cs) None (axis_named_leaves name cs (tail c cs h)) tt

  colon_leaves : (name rest cs : List ℕ) → P rest → P cs → Leaves P (before_colon name rest cs)
  colon_leaves name rest cs h g = if_leaves (is_joint name) (Some (Joint name, rest)) (axis_at name cs) h (axis_leaves name cs g)

  named_leaves : (name rest behind : List ℕ) → P rest → P behind → Leaves P (named name rest behind)
  named_leaves name rest [] h g = h
  named_leaves name rest (c ∷ cs) h g =
      if_leaves (c == 58) (before_colon name rest cs) (if c == 40 then option_map (λ token. (token, rest)) (call_named name) else Some (Word name, rest))
      (colon_leaves name rest cs h (tail c cs g))
      (if_leaves (c == 40) (option_map (λ token. (token, rest)) (call_named name)) (Some (Word name, rest)) (beside_leaves rest (call_named name) h) h)

  word_leaves : (c : ℕ) (cs : List ℕ) → P cs → Leaves P (word_at c cs)
  word_leaves c cs h = named_leaves (encode_utf8 c ++ (name_tail cs).0) (name_tail cs).1 (without_start (name_tail cs).1) (name_tail_leaves cs h) (without_start_leaves (name_tail cs).1 (name_tail_leaves cs h))

  -- ---- numbers

  whole_leaves : (number : ℕ) (text : List ℕ) → P text → Leaves P (whole number text)
  whole_leaves number [] h = h
  whole_leaves number (c ∷ cs) h = if_leaves (c == 46) None (Some (Figure number, c ∷ cs)) tt h

  decimal_leaves : (number : ℕ) (text : List ℕ) → P text → Leaves P (decimal_tail number text)
  decimal_leaves number [] h = h
  decimal_leaves number (c ∷ cs) h =
      by_digit (decimal_digit c) (whole number (c ∷ cs)) (λ d. option_and_then (λ more. decimal_tail more cs) (one_more 10 number d)) (whole_leaves number (c ∷ cs) h)
      (λ d. any_then (λ more. decimal_tail more cs) (one_more 10 number d) (λ more. decimal_leaves more cs (tail c cs h)))

  hexadecimal_leaves : (number : ℕ) (text : List ℕ) → P text → Leaves P (hexadecimal_tail number text)
  hexadecimal_leaves number [] h = h
  hexadecimal_leaves number (c ∷ cs) h =
      by_digit (hexadecimal c) (Some (Figure number, c ∷ cs)) (λ d. option_and_then (λ more. hexadecimal_tail more cs) (one_more 16 number d)) h
      (λ d. any_then (λ more. hexadecimal_tail more cs) (one_more 16 number d) (λ more. hexadecimal_leaves more cs (tail c cs h)))

  zero_leaves : (text : List ℕ) → P text → Leaves P (behind_zero text)
  zero_leaves [] h = h
  zero_leaves (c ∷ []) h = decimal_leaves 0 (c ∷ []) h
  zero_leaves (c ∷ d ∷ ds) h =
      if_leaves (c == 120) (elim (hexadecimal d) as (λ _. Option (Token × List ℕ)) [ None ↦ Some (Figure 0, c ∷ d ∷ ds) | Some first ↦ hexadecimal_tail first ds ]) (decimal_tail 0 (c ∷ d ∷ ds))
      (by_digit (hexadecimal d) (Some (Figure 0, c ∷ d ∷ ds)) (λ first. hexadecimal_tail first ds) h (λ first. hexadecimal_leaves first ds (tail d ds (tail c (d ∷ ds) h))))
      (decimal_leaves 0 (c ∷ d ∷ ds) h)

  number_leaves : (digit : ℕ) (rest : List ℕ) → P rest → Leaves P (number_from digit rest)
  number_leaves digit rest h = if_leaves (digit == 0) (behind_zero rest) (decimal_tail digit rest) (zero_leaves rest h) (decimal_leaves digit rest h)

  -- ---- texts and signs

  front_leaves : (front : List ℕ) (o : Option (List ℕ × List ℕ)) → Leaves P o → Leaves P (option_map (with_front front) o)
  front_leaves front None h = h
  front_leaves front (Some read) h = h

  quoted_tail_leaves : (quote : ℕ) (text : List ℕ) → P text → Leaves P (quoted_tail quote text)
  quoted_tail_leaves quote [] h = tt
  quoted_tail_leaves quote (c ∷ cs) h =
      if_leaves (c == quote) (Some ([], cs)) (option_map (with_front (encode_utf8 c)) (quoted_tail quote cs)) (tail c cs h)
      (front_leaves (encode_utf8 c) (quoted_tail quote cs) (quoted_tail_leaves quote cs (tail c cs h)))

  quote_leaves : (o : Option (List ℕ × List ℕ)) → Leaves P o → Leaves P (option_map (λ (read : List ℕ × List ℕ). (Quote read.0, read.1)) o)
  quote_leaves None h = h
  quote_leaves (Some read) h = h

  equals_leaves : (with_equals without : Operator) (text : List ℕ) → P text → P (if_equals with_equals without text).1
  equals_leaves with_equals without [] h = h
  equals_leaves with_equals without (c ∷ cs) h = either_of (λ (read : Token × List ℕ). P read.1) (c == 61) (Compare with_equals, cs) (Compare without, c ∷ cs) (tail c cs h) h

  unequal_leaves : (text : List ℕ) → P text → Leaves P (unequal text)
  unequal_leaves [] h = tt
  unequal_leaves (c ∷ cs) h = if_leaves (c == 61) (Some (Compare NotEqual, cs)) None (tail c cs h) tt

  slash_leaves : (text : List ℕ) → P text → Leaves P (slash_at text)
  slash_leaves [] h = h
  slash_leaves (c ∷ cs) h = if_leaves (c == 47) None (Some (Slash, c ∷ cs)) tt h

  abbrev marked : ℕ → List ℕ → Option (Token × List ℕ)
  marked c cs = option_map (λ token. (token, cs)) (mark c)

  sign_leaves : (c : ℕ) (cs : List ℕ) → P cs → Leaves P (sign_at c cs)
  sign_leaves c cs h =
      if_leaves (c == 60) (Some (if_equals LessOrEqual Less cs)) (if c == 62 then Some (if_equals GreaterOrEqual Greater cs) else (if c == 33 then unequal cs else (if c == 47 then slash_at cs else marked c cs)))
      (equals_leaves LessOrEqual Less cs h)
      (if_leaves (c == 62) (Some (if_equals GreaterOrEqual Greater cs)) (if c == 33 then unequal cs else (if c == 47 then slash_at cs else marked c cs))
      (equals_leaves GreaterOrEqual Greater cs h)
      (if_leaves (c == 33) (unequal cs) (if c == 47 then slash_at cs else marked c cs)
      (unequal_leaves cs h)
      (if_leaves (c == 47) (slash_at cs) (marked c cs) (slash_leaves cs h) (beside_leaves cs (mark c) h))))

  other_leaves : (c : ℕ) (cs : List ℕ) → P cs → Leaves P (other_at c cs)
  other_leaves c cs h = if_leaves (c == 34 || c == 39) (quoted c cs) (sign_at c cs) (quote_leaves (quoted_tail c cs) (quoted_tail_leaves c cs h)) (sign_leaves c cs h)

  -- ---- tokens

  pub token_leaves : (c : ℕ) (cs : List ℕ) → P cs → Leaves P (token_from c cs)
  unfolding token_from
  token_leaves c cs h =
      if_leaves (is_name_start c) (word_at c cs) (elim (decimal_digit c) as (λ _. Option (Token × List ℕ)) [ None ↦ other_at c cs | Some d ↦ number_from d cs ])
      (word_leaves c cs h)
      (by_digit (decimal_digit c) (other_at c cs) (λ d. number_from d cs) (other_leaves c cs h) (λ d. number_leaves d cs h))

-- texts of a length, and the ends of a text
abbrev pub IsWithin : ℕ → List ℕ → Type 0
IsWithin n text = length text ≤ n

pub within_tails : (n : ℕ) → IsOfTails (IsWithin n)
within_tails n c cs h = omega arith

-- what a token and those behind it are
on_read : (List ℕ → Option (List Token)) → Option (Token × List ℕ) → Option (List Token)
on_read more o = option_and_then (λ read. before read.0 (more (without_start read.1))) o

on_same : (n : ℕ) (more most : List ℕ → Option (List Token)) (o : Option (Token × List ℕ)) → Leaves (IsWithin n) o → ((text : List ℕ) → length text ≤ n → more text ≡ most text) → on_read more o ≡ on_read most o
unfolding on_read
on_same n more most None h same = refl
on_same n more most (Some read) h same = ap (before read.0) (same (without_start read.1) (without_start_leaves (IsWithin n) (within_tails n) read.1 h))

-- more steps than there are characters change nothing
enough : (n m : ℕ) (text : List ℕ) → length text ≤ n → length text ≤ m → tokens_within n text ≡ tokens_within m text
unfolding on_read
enough n m [] h g = refl
enough zero m (c ∷ cs) h g = absurd (omega arith)
enough (suc n) zero (c ∷ cs) h g = absurd (omega arith)
enough (suc n) (suc m) (c ∷ cs) h g =
    on_same (length cs) (tokens_within n) (tokens_within m) (token_from c cs) (token_leaves (IsWithin (length cs)) (within_tails (length cs)) c cs (omega arith)) (λ text most. enough n m text (omega arith) (omega arith))

-- the tokens of a text are its first and those of what is left
pub tokens_begin : (text : List ℕ) (token : Token) (rest : List ℕ) → token_at text ≡ Some (token, rest) → tokens_in text ≡ before token (tokens_in (without_start rest))
unfolding on_read tokens_in
tokens_begin [] token rest e = cc
tokens_begin (c ∷ cs) token rest e =
    on_same (length cs) (tokens_within (length cs)) (λ left. tokens_within (length left) left) (token_from c cs) (token_leaves (IsWithin (length cs)) (within_tails (length cs)) c cs (omega arith)) (λ left most. enough (length cs) (length left) left most (omega arith))
    ∙ ap (on_read (λ left. tokens_within (length left) left)) e

-- where no token begins there are none
pub tokens_end : (c : ℕ) (cs : List ℕ) → token_at (c ∷ cs) ≡ None → tokens_in (c ∷ cs) ≡ None
unfolding on_read tokens_in
tokens_end c cs e = ap (on_read (tokens_within (length cs))) e

-- both in one
in_turn : (c : ℕ) (cs : List ℕ) (o : Option (Token × List ℕ)) → token_at (c ∷ cs) ≡ o → tokens_in (c ∷ cs) ≡ option_and_then (λ read. before read.0 (tokens_in (without_start read.1))) o
in_turn c cs None e = tokens_end c cs e
in_turn c cs (Some read) e = tokens_begin (c ∷ cs) read.0 read.1 e

pub token_by_token : IsTokenByToken
token_by_token c cs = in_turn c cs (token_at (c ∷ cs)) refl

-- a token takes a character or more
pub token_shorter : (text : List ℕ) (token : Token) (rest : List ℕ) → token_at text ≡ Some (token, rest) → length (without_start rest) < length text
token_shorter [] token rest e = cc
token_shorter (c ∷ cs) token rest e =
    let P : Option (Token × List ℕ) → Type 0 = Leaves (IsWithin (length cs)) in
    let most : length (without_start rest) ≤ length cs = without_start_leaves (IsWithin (length cs)) (within_tails (length cs)) rest (subst P e (token_leaves (IsWithin (length cs)) (within_tails (length cs)) c cs (omega arith))) in
    omega arith
