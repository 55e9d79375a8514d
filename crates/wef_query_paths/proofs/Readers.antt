-- What a token does to the path of a text, and where reading stops.
use Rattle.std.proofs.Common.{◌≡◌, ℕ, zero, suc, ◌<◌, ◌≤◌, List, [], ◌∷◌, length, Option, Some, None, refl, ap, ◌∙◌, sym, subst, arith}
use Rattle.std.specs.Prelude.{Result}
use Rattle.std.specs.Option.{option_and_then}
use Rattle.std.specs.Str.{chars}
use Rattle.std.specs.declared.result.Result.TheVariants.{Ok, Err}
use Rattle.wef_base.specs.Names.{without_start}
use Rattle.wef_query_tokens.specs.declared.halt.Halt.{Halt}
use Rattle.wef_query_tokens.specs.declared.halt.Halt.TheVariants.{NoMemory, Refused}
use Rattle.wef_query_tokens.specs.declared.tokens.Token.{Token}
use Rattle.wef_query_tokens.specs.Reads.{Reads, ReadsFront}
use Rattle.wef_query_tokens.specs.Tokens.{before, token_at, token_from, tokens_in}
use Rattle.wef_query_tokens.proofs.Shorter.{IsWithin, Leaves, token_leaves, token_shorter, tokens_begin, tokens_end, within_tails, without_start_leaves}
use Rattle.wef_query_paths.specs.declared.faults.Failure.{Failure}
use Rattle.wef_query_paths.specs.declared.faults.FaultKind.TheVariants.{Bad}
use Rattle.wef_query_paths.specs.declared.faults.PathFault.{PathFault}
use Rattle.wef_query_paths.specs.declared.faults.PathFault.TheVariants as faults
use Rattle.wef_query_paths.specs.declared.faults.Stop.{Stop}
use Rattle.wef_query_paths.specs.declared.path.Path.{Path}
use Rattle.wef_query_paths.specs.declared.reading.Reader.{Reader}
use Rattle.wef_query_paths.specs.Paths.{path_of}
use Rattle.wef_query_paths.specs.Reading.{path_in, read_on, start, taken}
use Rattle.wef_query_paths.specs.Reads.{Gives, ReadsOn, SaysPath}
use Rattle.wef_query_paths.specs.Stops.{GoesOn, at_end, failure_of, kind_at, on_read, on_taken, path_from, path_or_fault, path_within, placed, stop, stop_at}
use Rattle.wef_query_paths.specs.Turns.{finished}

-- a token that is taken
longer_on : (r longer : Reader) (token : Token) (more : Option (List Token)) → taken r token ≡ Some longer → option_and_then (read_on r) (before token more) ≡ option_and_then (read_on longer) more
longer_on r longer token None e = refl
longer_on r longer token (Some tokens) e = ap (option_and_then (λ s. read_on s tokens)) e

-- a token that is refused
refused_on : (r : Reader) (token : Token) (more : Option (List Token)) → taken r token ≡ None → option_and_then (read_on r) (before token more) ≡ None
refused_on r token None e = refl
refused_on r token (Some tokens) e = ap (option_and_then (λ s. read_on s tokens)) e

pub goes_on : (r longer : Reader) (text rest behind : List ℕ) (token : Token) → token_at text ≡ Some (token, rest) → taken r token ≡ Some longer → behind ≡ without_start rest → (path_in text r ≡ path_in behind longer) × (length behind < length text)
goes_on r longer text rest behind token e f g = (
  ap (option_and_then (read_on r)) (tokens_begin text token rest e) ∙ longer_on r longer token (tokens_in (without_start rest)) f ∙ ap (λ left. path_in left longer) (sym g),
  subst (λ (left : List ℕ). length left < length text) (sym g) (token_shorter text token rest e),
)

pub refused : (r : Reader) (text rest : List ℕ) (token : Token) → token_at text ≡ Some (token, rest) → taken r token ≡ None → path_in text r ≡ None
refused r text rest token e f = ap (option_and_then (read_on r)) (tokens_begin text token rest e) ∙ refused_on r token (tokens_in (without_start rest)) f

pub no_token : (r : Reader) (text : List ℕ) → length text ≡ 0 → path_in text r ≡ finished r.levels r.next
unfolding tokens_in
no_token r [] e = refl
no_token r (c ∷ cs) e = absurd (omega arith)

pub bad_token : (r : Reader) (text : List ℕ) → 0 < length text → token_at text ≡ None → path_in text r ≡ None
bad_token r [] h e = absurd (omega arith)
bad_token r (c ∷ cs) h e = ap (option_and_then (read_on r)) (tokens_end c cs e)

-- ---- where reading stops

same_taken : (n : ℕ) (more most : List ℕ → Reader → Result Path Stop) (refusal : Stop) (behind : List ℕ) (o : Option Reader) → length behind ≤ n
    → ((text : List ℕ) (r : Reader) → length text ≤ n → more text r ≡ most text r) → on_taken more refusal behind o ≡ on_taken most refusal behind o
same_taken n more most refusal behind None h same = refl
same_taken n more most refusal behind (Some longer) h same = same behind longer h

same_read : (n : ℕ) (more most : List ℕ → Reader → Result Path Stop) (r : Reader) (text : List ℕ) (o : Option (Token × List ℕ)) → Leaves (IsWithin n) o
    → ((text : List ℕ) (r : Reader) → length text ≤ n → more text r ≡ most text r) → on_read more r text o ≡ on_read most r text o
same_read n more most r text None h same = refl
same_read n more most r text (Some read) h same =
    same_taken n more most (stop_at r read.0 (length text) (length (without_start read.1))) (without_start read.1) (taken r read.0) (without_start_leaves (IsWithin n) (within_tails n) read.1 h) same

left_within : (c : ℕ) (cs : List ℕ) → Leaves (IsWithin (length cs)) (token_from c cs)
left_within c cs = token_leaves (IsWithin (length cs)) (within_tails (length cs)) c cs (omega arith)

-- more steps than there are characters change nothing
pub path_enough : (n m : ℕ) (text : List ℕ) (r : Reader) → length text ≤ n → length text ≤ m → path_within n text r ≡ path_within m text r
path_enough n m [] r h g = refl
path_enough zero m (c ∷ cs) r h g = absurd (omega arith)
path_enough (suc n) zero (c ∷ cs) r h g = absurd (omega arith)
path_enough (suc n) (suc m) (c ∷ cs) r h g =
    same_read (length cs) (λ behind longer. path_within n behind longer) (λ behind longer. path_within m behind longer) r (c ∷ cs) (token_from c cs) (left_within c cs)
    (λ text longer most. path_enough n m text longer (omega arith) (omega arith))

-- a text that begins with a token
pub path_begins : (r : Reader) (text rest : List ℕ) (token : Token) → token_at text ≡ Some (token, rest)
    → path_from text r ≡ on_taken path_from (stop_at r token (length text) (length (without_start rest))) (without_start rest) (taken r token)
path_begins r [] rest token e = cc
path_begins r (c ∷ cs) rest token e =
    same_read (length cs) (λ behind longer. path_within (length cs) behind longer) path_from r (c ∷ cs) (token_from c cs) (left_within c cs)
    (λ text longer most. path_enough (length cs) (length text) text longer most (omega arith))
    ∙ ap (on_read path_from r (c ∷ cs)) e

-- a text that begins with none
pub path_stops : (r : Reader) (text : List ℕ) → 0 < length text → token_at text ≡ None → path_from text r ≡ Err (stop (kind_at text) (length text))
path_stops r [] h e = absurd (omega arith)
path_stops r (c ∷ cs) h e = ap (on_read (λ behind longer. path_within (length cs) behind longer) r (c ∷ cs)) e

pub path_ends : (r : Reader) (text : List ℕ) → length text ≡ 0 → path_from text r ≡ at_end (finished r.levels r.next)
path_ends r [] e = refl
path_ends r (c ∷ cs) e = absurd (omega arith)

-- a token that is taken
pub goes_on_behind : (r longer : Reader) (text rest behind : List ℕ) (token : Token) → token_at text ≡ Some (token, rest) → taken r token ≡ Some longer → behind ≡ without_start rest
    → (path_from text r ≡ path_from behind longer) × (length behind < length text)
goes_on_behind r longer text rest behind token e f g = (
  path_begins r text rest token e ∙ ap (on_taken path_from (stop_at r token (length text) (length (without_start rest))) (without_start rest)) f ∙ ap (λ left. path_from left longer) (sym g),
  subst (λ (left : List ℕ). length left < length text) (sym g) (token_shorter text token rest e),
)

-- a text whose first token isn't there
pub stops_before : (r : Reader) (text : List ℕ) (halt : Halt) (failure : Failure) (s : Stop) → 0 < length text → ReadsFront {A = Token} (Err halt) (token_at text)
    → failure ≡ failure_of halt s → s ≡ stop (kind_at text) (length text) → GoesOn r text (Err failure)
stops_before r text NoMemory failure s h e is at = subst (λ (f : Failure). GoesOn r text (Err f)) (sym is) tt
stops_before r text Refused failure s h e is at = subst (λ (f : Failure). GoesOn r text (Err f)) (sym is) (path_stops r text h e ∙ ap Err (sym at))

-- a text whose first token isn't good in its place
pub stops_at : (r : Reader) (text rest behind : List ℕ) (token : Token) (halt : Halt) (failure : Failure) (s : Stop) → token_at text ≡ Some (token, rest) → Reads {A = Reader} (Err halt) (taken r token)
    → behind ≡ without_start rest → failure ≡ failure_of halt s → s ≡ stop_at r token (length text) (length behind) → GoesOn r text (Err failure)
stops_at r text rest behind token NoMemory failure s e f b is at = subst (λ (f : Failure). GoesOn r text (Err f)) (sym is) tt
stops_at r text rest behind token Refused failure s e f b is at =
    subst (λ (f : Failure). GoesOn r text (Err f)) (sym is)
    (path_begins r text rest token e ∙ ap (on_taken path_from (stop_at r token (length text) (length (without_start rest))) (without_start rest)) f
    ∙ ap (λ left. Err (stop_at r token (length text) (length left))) (sym b) ∙ ap Err (sym at))

-- at the end of the text
pub ends_path : (r : Reader) (text : List ℕ) (path : Path) (o : Result Path Stop) → path_from text r ≡ o → length text ≡ 0 → finished r.levels r.next ≡ Some path → o ≡ Ok path
ends_path r text path o e h f = sym e ∙ path_ends r text h ∙ ap at_end f

pub ends_short : (r : Reader) (text : List ℕ) (halt : Halt) (failure : Failure) (s : Stop) (o : Result Path Stop) → path_from text r ≡ o → length text ≡ 0 → Reads {A = Path} (Err halt) (finished r.levels r.next)
    → failure ≡ failure_of halt s → s ≡ stop Bad 0 → ReadsOn {A = Path} (Err failure) o
ends_short r text NoMemory failure s o e h f is at = subst (λ (f : Failure). ReadsOn {A = Path} (Err f) o) (sym is) tt
ends_short r text Refused failure s o e h f is at =
    subst (λ (f : Failure). ReadsOn {A = Path} (Err f) o) (sym is) (sym e ∙ path_ends r text h ∙ ap at_end f ∙ ap Err (sym at))

-- ---- the path that is read is the one of the tokens

abbrev pub if_read : {E : Type 0} → Result Path E → Option Path
if_read (Ok path) = Some path
if_read (Err e) = None

read_end : (o : Option Path) → if_read (at_end o) ≡ o
read_end None = refl
read_end (Some path) = refl

pub same_path : (n : ℕ) (text : List ℕ) (r : Reader) → length text ≤ n → if_read (path_within n text r) ≡ path_in text r
same_path n [] r h = read_end (finished r.levels r.next) ∙ sym (no_token r [] refl)
same_path zero (c ∷ cs) r h = absurd (omega arith)
same_path (suc n) (c ∷ cs) r h = by (token_at (c ∷ cs)) refl (λ text longer most. same_path n text longer (omega arith))
  where
    by_taken : (rest : List ℕ) (token : Token) (o : Option Reader) → token_at (c ∷ cs) ≡ Some (token, rest) → taken r token ≡ o
        → ((text : List ℕ) (longer : Reader) → length text ≤ length cs → if_read (path_within n text longer) ≡ path_in text longer)
        → if_read (on_taken (λ behind longer. path_within n behind longer) (stop_at r token (length (c ∷ cs)) (length (without_start rest))) (without_start rest) o) ≡ path_in (c ∷ cs) r
    by_taken rest token None e f more = sym (refused r (c ∷ cs) rest token e f)
    by_taken rest token (Some longer) e f more =
        let on = goes_on r longer (c ∷ cs) rest (without_start rest) token e f refl in
        more (without_start rest) longer (omega (arith, on.1)) ∙ sym on.0

    by : (o : Option (Token × List ℕ)) → token_at (c ∷ cs) ≡ o → ((text : List ℕ) (longer : Reader) → length text ≤ length cs → if_read (path_within n text longer) ≡ path_in text longer)
        → if_read (on_read (λ behind longer. path_within n behind longer) r (c ∷ cs) o) ≡ path_in (c ∷ cs) r
    by None e more = sym (bad_token r (c ∷ cs) (omega arith) e)
    by (Some read) e more = by_taken read.1 read.0 (taken r read.0) e refl more

read_placed : (characters : List ℕ) (given : Result Path Stop) → if_read (placed characters given) ≡ if_read given
read_placed characters (Ok path) = refl
read_placed characters (Err s) = refl

pub read_is_path : (text : List ℕ) → if_read (path_or_fault text) ≡ path_of text
unfolding path_or_fault path_of tokens_in
read_is_path text =
    let solid = without_start (chars text) in
    read_placed (chars text) (path_from solid start) ∙ same_path (length solid) solid start (omega arith)

-- what is given is the path of the text, or a fault where it says none
pub says_path : (text : List ℕ) (given : Result Path PathFault) → Gives given (path_or_fault text) → SaysPath given (path_of text)
says_path text (Ok path) e = sym (read_is_path text) ∙ ap if_read e
says_path text (Err faults.NoMemory) e = tt
says_path text (Err (faults.BadPath at)) e = sym (read_is_path text) ∙ ap if_read e
says_path text (Err (faults.Unsupported at)) e = sym (read_is_path text) ∙ ap if_read e
says_path text (Err (faults.TooDeep at)) e = sym (read_is_path text) ∙ ap if_read e
