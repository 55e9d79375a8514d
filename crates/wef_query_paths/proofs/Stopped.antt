-- Where reading stops is the fault that the grammar gives.
use Rattle.std.proofs.Common.{◌≡◌, ℕ, zero, suc, ◌+◌, ◌-◌, ◌≤◌, ◌<◌, nat_lt, Bool, true, false, ◌||◌, if◌then◌else◌, List, [], ◌∷◌, ◌++◌, length, take, encode_utf8_all, Option, Some, None, refl, ap, sym, ◌∙◌, subst, append_assoc, arith, ◌⊎◌, inl, inr}
use Rattle.std.specs.Prelude.{Result, IfErr, MatchResult, is_some}
use Rattle.std.specs.Option.{option_map, option_and_then}
use Rattle.std.specs.Str.{chars}
use Rattle.std.specs.declared.result.Result.TheVariants.{Ok, Err}
use Rattle.std.proofs.lemmas.List.{length-append, take_at}
use Rattle.wef_base.specs.Names.{without_start}
use Rattle.wef_query_tokens.specs.declared.tokens.Token.{Token}
use Rattle.wef_query_tokens.specs.declared.tokens.Token.TheVariants.{Along, Star, Word, Joint, PositionCall, BandCall, Compare, Figure, Quote, OpenSquare, CloseSquare, OpenRound, CloseRound, Slash, Comma}
use Rattle.wef_query_tokens.specs.Calls.{is_call}
use Rattle.wef_query_tokens.specs.Tokens.{token_at}
use Rattle.wef_query_tokens.proofs.Calls.{call_stands_before, round_token}
use Rattle.wef_query_tokens.proofs.Shorter.{IsOfTails, Leaves, token_leaves, token_shorter, without_start_leaves}
use Rattle.wef_query_paths.specs.declared.conditions.Level.{Level}
use Rattle.wef_query_paths.specs.declared.faults.FaultKind.{FaultKind}
use Rattle.wef_query_paths.specs.declared.faults.FaultKind.TheVariants.{Bad, Unsupported as Foreign, Deep}
use Rattle.wef_query_paths.specs.declared.faults.PathFault.{PathFault}
use Rattle.wef_query_paths.specs.declared.faults.PathFault.TheVariants.{NoMemory, BadPath, Unsupported, TooDeep}
use Rattle.wef_query_paths.specs.declared.faults.Stop.{Stop}
use Rattle.wef_query_paths.specs.declared.path.Path.{Path}
use Rattle.wef_query_paths.specs.declared.reading.Reader.{Reader}
use Rattle.wef_query_paths.specs.declared.steps.Place.TheVariants.{Whole}
use Rattle.wef_query_paths.specs.declared.turns.Next.{Next}
use Rattle.wef_query_paths.specs.declared.turns.Next.TheVariants.{BeforeStep, BeforeTest, BeforeValue}
use Rattle.wef_query_paths.specs.declared.path.Literal.TheVariants.{Number, Quoted}
use Rattle.wef_query_paths.specs.Allows.{Allows}
use Rattle.wef_query_paths.specs.Faults.{FaultAt, HasFault, HasKind, IsFault, IsForeign, Refuses, Splits, before_all, behind, is_foreign}
use Rattle.wef_query_paths.specs.Fronts.{begins_path, is_behind_attribute, is_named_call, opens_call, turned}
use Rattle.wef_query_paths.specs.Grammar.{is_shallow}
use Rattle.wef_query_paths.specs.Laws.{HasPathOrFault}
use Rattle.wef_query_paths.specs.Paths.{path_of}
use Rattle.wef_query_paths.specs.Reading.{deeper, depth_behind, greatest_depth, reader_of, start, taken}
use Rattle.wef_query_paths.specs.Reads.{Gives}
use Rattle.wef_query_paths.specs.Stops.{at_end, bracket_stop, fault_at, kind_at, kind_where, on_read, on_taken, path_from, path_or_fault, path_within, place, placed, stop, stop_at}
use Rattle.wef_query_paths.specs.Turns.{finished, turn}
use Rattle.wef_query_paths.proofs.Allowed.{allowed, behind_attribute, named_allowed, named_refused, path_is_whole, path_may_begin, refused}
use Rattle.wef_query_paths.proofs.CallsOpen.{HasRound, next_opens, round_is_next}
use Rattle.wef_query_paths.proofs.Readers.{if_read, read_is_path}

-- ---- the end of a text

abbrev IsEnd : List ℕ → List ℕ → Type 0
IsEnd all left = (before : List ℕ) × (all ≡ before ++ left)

end_tails : (all : List ℕ) → IsOfTails (IsEnd all)
end_tails all c cs (before, e) = (before ++ c ∷ [], e ∙ sym (append_assoc before (c ∷ []) cs))

end_behind : (all left rest : List ℕ) (token : Token) → token_at left ≡ Some (token, rest) → IsEnd all left → IsEnd all (without_start rest)
end_behind all [] rest token e h = cc
end_behind all (c ∷ cs) rest token e h =
    let P : Option (Token × List ℕ) → Type 0 = Leaves (IsEnd all) in
    without_start_leaves (IsEnd all) (end_tails all) rest (subst P e (token_leaves (IsEnd all) (end_tails all) c cs (end_tails all c cs h)))

pub place_is : (all before left : List ℕ) → all ≡ before ++ left → place all (length left) ≡ length (encode_utf8_all before)
place_is all before left e =
    let sum : length (before ++ left) ≡ length before + length left = length-append before left in
    let front : length before ≡ length (before ++ left) - length left = omega arith in
    ap (λ (xs : List ℕ). length (encode_utf8_all (take (length xs - length left) xs))) e
    ∙ ap (λ (xs : List ℕ). length (encode_utf8_all xs)) (take_at before left (length (before ++ left) - length left) front)

-- ---- a token more

splits_more : (text left rest : List ℕ) (front : List Token) (token : Token) → Splits text front left → token_at left ≡ Some (token, rest) → Splits text (front ++ token ∷ []) (without_start rest)
splits_more text left rest front token before_all e = behind e before_all
splits_more text left rest front token (behind {rest = r} {tokens = tokens} f more) e = behind f (splits_more (without_start r) left rest tokens token more e)

-- how many brackets are open behind tokens
abbrev depth_after : ℕ → List Token → Option ℕ
depth_after d [] = Some d
depth_after d (k ∷ ks) = option_and_then (λ e. depth_after e ks) (depth_behind d k)

one_depth : (o : Option ℕ) → option_and_then (λ e. Some e) o ≡ o
one_depth None = refl
one_depth (Some e) = refl

depth_more : (front : List Token) (d e : ℕ) (k : Token) → depth_after d front ≡ Some e → depth_after d (front ++ k ∷ []) ≡ depth_behind e k
depth_more [] d e k h = one_depth (depth_behind d k) ∙ (let same : d ≡ e = cc in ap (λ (n : ℕ). depth_behind n k) same)
depth_more (t ∷ front) d e k h = by (depth_behind d t) h (λ f g. depth_more front f e k g)
  where
    by : (o : Option ℕ) → option_and_then (λ f. depth_after f front) o ≡ Some e → ((f : ℕ) → depth_after f front ≡ Some e → depth_after f (front ++ k ∷ []) ≡ depth_behind e k)
        → option_and_then (λ f. depth_after f (front ++ k ∷ [])) o ≡ depth_behind e k
    by None h more = cc
    by (Some f) h more = more f h

shallow_is : (ks : List Token) (d : ℕ) → is_shallow d ks ≡ is_some (depth_after d ks)
shallow_is [] d = refl
shallow_is (k ∷ ks) d = by (depth_behind d k) (λ f. shallow_is ks f)
  where
    by : (o : Option ℕ) → ((f : ℕ) → is_shallow f ks ≡ is_some (depth_after f ks)) → (elim o as (λ _. Bool) [ None ↦ false | Some f ↦ is_shallow f ks ]) ≡ is_some (option_and_then (λ f. depth_after f ks) o)
    by None more = refl
    by (Some f) more = more f

turned_more : (front : List Token) (levels : List Level) (next : Next) (s : List Level × Next) (k : Token) → turned levels next front ≡ Some s → turned levels next (front ++ k ∷ []) ≡ turn s.0 s.1 k
turned_more [] levels next s k e = one_turn (turn levels next k) ∙ (let same : (levels, next) ≡ s = cc in ap (λ (t : List Level × Next). turn t.0 t.1 k) same)
  where
    one_turn : (o : Option (List Level × Next)) → option_and_then (λ t. Some (t.0, t.1)) o ≡ o
    one_turn None = refl
    one_turn (Some t) = refl
turned_more (x ∷ front) levels next s k e = by (turn levels next x) e (λ t f. turned_more front t.0 t.1 s k f)
  where
    by : (o : Option (List Level × Next)) → option_and_then (λ t. turned t.0 t.1 front) o ≡ Some s → ((t : List Level × Next) → turned t.0 t.1 front ≡ Some s → turned t.0 t.1 (front ++ k ∷ []) ≡ turn s.0 s.1 k)
        → option_and_then (λ t. turned t.0 t.1 (front ++ k ∷ [])) o ≡ turn s.0 s.1 k
    by None f more = cc
    by (Some t) f more = more t f

-- ---- what is read and what is left

record Reached (text : List ℕ) (r : Reader) (left : List ℕ) : Type 0 where
  front : List Token
  splits : Splits (without_start (chars text)) front left
  is_end : IsEnd (chars text) left
  state : turned [] (BeforeStep Whole None) front ≡ Some (r.levels, r.next)
  depth : depth_after 0 front ≡ Some r.depth
  call : HasRound r.next left

record IsTaken (r : Reader) (k : Token) (longer : Reader) : Type 0 where
  deep : depth_behind r.depth k ≡ Some longer.depth
  turns : turn r.levels r.next k ≡ Some (longer.levels, longer.next)

taken_parts : (r : Reader) (k : Token) (longer : Reader) → taken r k ≡ Some longer → IsTaken r k longer
taken_parts r k longer e = by (depth_behind r.depth k) (turn r.levels r.next k) refl refl e
  where
    by : (d : Option ℕ) (t : Option (List Level × Next)) → depth_behind r.depth k ≡ d → turn r.levels r.next k ≡ t → option_and_then (λ depth. option_map (reader_of depth) t) d ≡ Some longer → IsTaken r k longer
    by None t f g h = cc
    by (Some d) None f g h = cc
    by (Some d) (Some t) f g h =
        let same : reader_of d t ≡ longer = cc in
        record { deep = f ∙ ap (λ (x : Reader). Some x.depth) same; turns = g ∙ ap (λ (x : Reader). Some (x.levels, x.next)) same }

reached_more : (text : List ℕ) (r longer : Reader) (left rest : List ℕ) (k : Token) → Reached text r left → token_at left ≡ Some (k, rest) → taken r k ≡ Some longer → Reached text longer (without_start rest)
reached_more text r longer left rest k h e f =
    let parts = taken_parts r k longer f in
    record {
      front = h.front ++ k ∷ [];
      splits = splits_more (without_start (chars text)) left rest h.front k h.splits e;
      is_end = end_behind (chars text) left rest k e h.is_end;
      state = turned_more h.front [] (BeforeStep Whole None) (r.levels, r.next) k h.state ∙ parts.turns;
      depth = depth_more h.front 0 r.depth k h.depth ∙ parts.deep;
      call = round_is_next r.levels r.next left k rest (longer.levels, longer.next) e parts.turns;
    }

start_end : (text : List ℕ) → IsEnd text (without_start text)
start_end text = without_start_leaves (IsEnd text) (end_tails text) text ([], refl)

reached_start : (text : List ℕ) → Reached text start (without_start (chars text))
reached_start text = record { front = []; splits = before_all; is_end = start_end (chars text); state = refl; depth = refl; call = λ (e : false ≡ true). cc }

front_shallow : (text : List ℕ) (r : Reader) (left : List ℕ) (h : Reached text r left) → is_shallow 0 h.front ≡ true
front_shallow text r left h = shallow_is h.front 0 ∙ ap is_some h.depth

token_shallow : (text : List ℕ) (r : Reader) (left : List ℕ) (h : Reached text r left) (k : Token) → is_shallow 0 (h.front ++ k ∷ []) ≡ is_some (depth_behind r.depth k)
token_shallow text r left h k = shallow_is (h.front ++ k ∷ []) 0 ∙ ap is_some (depth_more h.front 0 r.depth k h.depth)

-- ---- where nothing is left, and where no token begins

not_both : (b : Bool) → b ≡ true → b ≡ false → ⊥
not_both b e f = cc

stopped_end : (text : List ℕ) (r : Reader) → Reached text r [] → finished r.levels r.next ≡ None → FaultAt text Bad (place (chars text) 0)
stopped_end text r h e = record {
  front = h.front;
  before = h.is_end.0;
  left = [];
  characters = h.is_end.1;
  place = place_is (chars text) h.is_end.0 [] h.is_end.1;
  stops = record {
    splits = h.splits;
    allowed = allowed h.front (r.levels, r.next) h.state;
    shallow = front_shallow text r [] h;
    refused = tt;
    unfinished = λ _ is. no_path ((path_is_whole h.front (r.levels, r.next) h.state).0 is);
  };
  kind_is = (λ many. many, λ foreign. not_both false foreign refl);
}
  where
    no_path : ((p : Path) × (finished r.levels r.next ≡ Some p)) → ⊥
    no_path (p, f) = cc

kind_without : (front : List Token) (left : List ℕ) (b : Bool) → is_foreign left ≡ b → HasKind (kind_where b) front left None
kind_without front left true e = (λ many. many, e)
kind_without front left false e = (λ many. many, λ foreign. not_both (is_foreign left) foreign e)

stopped_without : (text : List ℕ) (r : Reader) (c : ℕ) (cs : List ℕ) → Reached text r (c ∷ cs) → token_at (c ∷ cs) ≡ None → FaultAt text (kind_at (c ∷ cs)) (place (chars text) (length (c ∷ cs)))
stopped_without text r c cs h e = record {
  front = h.front;
  before = h.is_end.0;
  left = c ∷ cs;
  characters = h.is_end.1;
  place = place_is (chars text) h.is_end.0 (c ∷ cs) h.is_end.1;
  stops = record {
    splits = h.splits;
    allowed = allowed h.front (r.levels, r.next) h.state;
    shallow = front_shallow text r (c ∷ cs) h;
    refused = subst (Refuses h.front) (sym e) tt;
    unfinished = λ is _. cc;
  };
  kind_is = subst (HasKind (kind_at (c ∷ cs)) h.front (c ∷ cs)) (sym e) (kind_without h.front (c ∷ cs) (is_foreign (c ∷ cs)) refl);
}

-- ---- where a token is refused

-- a fault at a token
at_token : (text : List ℕ) (r : Reader) (left rest : List ℕ) (k : Token) (kind : FaultKind) (h : Reached text r left) → token_at left ≡ Some (k, rest)
    → (Allows (h.front ++ k ∷ []) → is_shallow 0 (h.front ++ k ∷ []) ≡ true → ⊥) → HasKind kind h.front left (Some (k, rest)) → FaultAt text kind (place (chars text) (length left))
at_token text r left rest k kind h e refuses is = record {
  front = h.front;
  before = h.is_end.0;
  left = left;
  characters = h.is_end.1;
  place = place_is (chars text) h.is_end.0 left h.is_end.1;
  stops = record {
    splits = h.splits;
    allowed = allowed h.front (r.levels, r.next) h.state;
    shallow = front_shallow text r left h;
    refused = subst (Refuses h.front) (sym e) refuses;
    unfinished = λ f _. (let none : token_at left ≡ None = ap token_at f in cc);
  };
  kind_is = subst (HasKind kind h.front left) (sym e) is;
}

-- a token is refused for its bracket, or in its place
refused_for : (r : Reader) (k : Token) → taken r k ≡ None → (depth_behind r.depth k ≡ None) ⊎ (turn r.levels r.next k ≡ None)
refused_for r k e = by (depth_behind r.depth k) (turn r.levels r.next k) e
  where
    by : (d : Option ℕ) (t : Option (List Level × Next)) → option_and_then (λ depth. option_map (reader_of depth) t) d ≡ None → (d ≡ None) ⊎ (t ≡ None)
    by None t h = inl refl
    by (Some d) None h = inr refl
    by (Some d) (Some t) h = cc

no_turn : (r : Reader) (k : Token) (d : ℕ) → depth_behind r.depth k ≡ Some d → (depth_behind r.depth k ≡ None) ⊎ (turn r.levels r.next k ≡ None) → turn r.levels r.next k ≡ None
no_turn r k d e (inl f) = cc
no_turn r k d e (inr f) = f

-- a token that opens no bracket too many, in its place
place_refused : (text : List ℕ) (r : Reader) (left rest : List ℕ) (k : Token) (d : ℕ) (h : Reached text r left) → token_at left ≡ Some (k, rest) → taken r k ≡ None → depth_behind r.depth k ≡ Some d → is_named_call r.next k ≡ false
    → Allows (h.front ++ k ∷ []) → is_shallow 0 (h.front ++ k ∷ []) ≡ true → ⊥
place_refused text r left rest k d h e f g unnamed a _ =
    refused h.front (r.levels, r.next) h.state k (no_turn r k d g (refused_for r k f)) unnamed (next_opens r.next left k rest h.call e) a

not_many : (text : List ℕ) (r : Reader) (left rest : List ℕ) (k : Token) (d : ℕ) (h : Reached text r left) → depth_behind r.depth k ≡ Some d → is_shallow 0 (h.front ++ k ∷ []) ≡ false → ⊥
not_many text r left rest k d h g = λ many. not_both (is_shallow 0 (h.front ++ k ∷ [])) (token_shallow text r left h k ∙ ap is_some g) many

unnamed : (next : Next) (k : Token) → is_call k ≡ false → is_named_call next k ≡ false
unnamed (BeforeStep place so_far) k e = e
unnamed (BeforeTest place so_far axis) k e = e
unnamed (BeforeValue (Quoted text) operator) k e = no_position k e
  where
    no_position : (k : Token) → is_call k ≡ false → is_named_call (BeforeValue (Quoted text) operator) k ≡ false
    no_position PositionCall e = cc
    no_position _ e = refl
unnamed (BeforeValue (Number n) operator) k e = refl
unnamed _ k e = refl

-- a bracket
stopped_bracket : (text : List ℕ) (r : Reader) (left rest : List ℕ) (k : Token) (h : Reached text r left) → token_at left ≡ Some (k, rest) → taken r k ≡ None → is_call k ≡ false
    → depth_behind r.depth k ≡ deeper r.depth → (IsForeign h.front k → ⊥) → FaultAt text (bracket_stop r.depth (length left)).kind (place (chars text) (length left))
stopped_bracket text r left rest k h e f c opens plain = by (nat_lt r.depth greatest_depth) opens
  where
    by : (b : Bool) → depth_behind r.depth k ≡ (if b then Some (r.depth + 1) else None) → FaultAt text (if b then Bad else Deep) (place (chars text) (length left))
    by true g = at_token text r left rest k Bad h e (place_refused text r left rest k (r.depth + 1) h e f g (unnamed r.next k c)) (not_many text r left rest k (r.depth + 1) h g, plain)
    by false g =
        let many : is_shallow 0 (h.front ++ k ∷ []) ≡ false = token_shallow text r left h k ∙ ap is_some g in
        at_token text r left rest k Deep h e (λ _ shallow. not_both (is_shallow 0 (h.front ++ k ∷ [])) shallow many) many

-- a token that opens none and is no function's name
stopped_plain : (text : List ℕ) (r : Reader) (left rest : List ℕ) (k : Token) (kind : FaultKind) (h : Reached text r left) → token_at left ≡ Some (k, rest) → taken r k ≡ None → is_named_call r.next k ≡ false
    → (d : ℕ) → depth_behind r.depth k ≡ Some d → ((is_shallow 0 (h.front ++ k ∷ []) ≡ false → ⊥) → HasKind kind h.front left (Some (k, rest))) → FaultAt text kind (place (chars text) (length left))
stopped_plain text r left rest k kind h e f c d g is =
    at_token text r left rest k kind h e (place_refused text r left rest k d h e f g c) (is (not_many text r left rest k d h g))

stopped_bad : (text : List ℕ) (r : Reader) (left rest : List ℕ) (k : Token) (h : Reached text r left) → token_at left ≡ Some (k, rest) → taken r k ≡ None → is_named_call r.next k ≡ false
    → (d : ℕ) → depth_behind r.depth k ≡ Some d → (IsForeign h.front k → ⊥) → FaultAt text Bad (place (chars text) (length left))
stopped_bad text r left rest k h e f c d g plain = stopped_plain text r left rest k Bad h e f c d g (λ many. (many, plain))

-- a `/`
stopped_slash : (text : List ℕ) (r : Reader) (left rest : List ℕ) (h : Reached text r left) → token_at left ≡ Some (Slash, rest) → taken r Slash ≡ None
    → FaultAt text (kind_where (begins_path r.next || is_behind_attribute r.next)) (place (chars text) (length left))
stopped_slash text r left rest h e f = by (begins_path r.next) (is_behind_attribute r.next) refl refl
  where
    s : List Level × Next
    s = (r.levels, r.next)

    call : opens_call r.next Slash ≡ true
    call = next_opens r.next left Slash rest h.call e

    of : (kind : FaultKind) → ((is_shallow 0 (h.front ++ Slash ∷ []) ≡ false → ⊥) → HasKind kind h.front left (Some (Slash, rest))) → FaultAt text kind (place (chars text) (length left))
    of kind is = stopped_plain text r left rest Slash kind h e f (unnamed r.next Slash refl) r.depth refl is

    neither : begins_path r.next ≡ false → is_behind_attribute r.next ≡ false → IsForeign h.front Slash → ⊥
    neither g i (inl a) = not_both (begins_path r.next) ((path_may_begin h.front s h.state).0 a) g
    neither g i (inr a) = not_both (is_behind_attribute r.next) ((behind_attribute h.front s h.state call).0 a) i

    by : (b d : Bool) → begins_path r.next ≡ b → is_behind_attribute r.next ≡ d → FaultAt text (kind_where (b || d)) (place (chars text) (length left))
    by true d g i = of Foreign (λ many. (many, inl ((path_may_begin h.front s h.state).1 g)))
    by false true g i = of Foreign (λ many. (many, inr ((behind_attribute h.front s h.state call).1 i)))
    by false false g i = of Bad (λ many. (many, neither g i))

-- The name of a function that can only be that of a step: its `(` is refused.
stopped_named : (text : List ℕ) (r : Reader) (left rest : List ℕ) (k : Token) (h : Reached text r left) → token_at left ≡ Some (k, rest) → is_call k ≡ true → is_named_call r.next k ≡ true → depth_behind r.depth k ≡ Some r.depth
    → FaultAt text (bracket_stop r.depth (length (without_start rest))).kind (place (chars text) (length (without_start rest)))
stopped_named text r left rest k h e c n g = at_round (call_stands_before left k rest e c)
  where
    s : List Level × Next
    s = (r.levels, r.next)

    front : List Token
    front = h.front ++ k ∷ []

    ended : IsEnd (chars text) (without_start rest)
    ended = end_behind (chars text) left rest k e h.is_end

    deep : depth_after 0 (h.front ++ k ∷ []) ≡ Some r.depth
    deep = depth_more h.front 0 r.depth k h.depth ∙ g

    round_shallow : is_shallow 0 ((h.front ++ k ∷ []) ++ OpenRound ∷ []) ≡ is_some (deeper r.depth)
    round_shallow = shallow_is ((h.front ++ k ∷ []) ++ OpenRound ∷ []) 0 ∙ ap is_some (depth_more (h.front ++ k ∷ []) 0 r.depth OpenRound deep)

    refuses : Allows ((h.front ++ k ∷ []) ++ OpenRound ∷ []) → is_shallow 0 ((h.front ++ k ∷ []) ++ OpenRound ∷ []) ≡ true → ⊥
    refuses a _ = named_refused h.front s h.state k n (subst Allows (append_assoc h.front (k ∷ []) (OpenRound ∷ [])) a)

    made : (kind : FaultKind) (more : List ℕ) → token_at (without_start rest) ≡ Some (OpenRound, more) → HasKind kind (h.front ++ k ∷ []) (without_start rest) (Some (OpenRound, more)) → FaultAt text kind (place (chars text) (length (without_start rest)))
    made kind more f is = record {
      front = h.front ++ k ∷ [];
      before = ended.0;
      left = without_start rest;
      characters = ended.1;
      place = place_is (chars text) ended.0 (without_start rest) ended.1;
      stops = record {
        splits = splits_more (without_start (chars text)) left rest h.front k h.splits e;
        allowed = named_allowed h.front s h.state k n;
        shallow = shallow_is (h.front ++ k ∷ []) 0 ∙ ap is_some deep;
        refused = subst (Refuses (h.front ++ k ∷ [])) (sym f) refuses;
        unfinished = λ i _. (let none : token_at (without_start rest) ≡ None = ap token_at i in cc);
      };
      kind_is = subst (HasKind kind (h.front ++ k ∷ []) (without_start rest)) (sym f) is;
    }

    by : (more : List ℕ) → token_at (without_start rest) ≡ Some (OpenRound, more) → (b : Bool) → is_shallow 0 ((h.front ++ k ∷ []) ++ OpenRound ∷ []) ≡ is_some (if b then Some (r.depth + 1) else None)
        → FaultAt text (if b then Bad else Deep) (place (chars text) (length (without_start rest)))
    by more f true i = made Bad more f (λ many. not_both (is_shallow 0 ((h.front ++ k ∷ []) ++ OpenRound ∷ [])) i many, λ foreign. foreign)
    by more f false i = made Deep more f i

    at_round : (more : List ℕ) × (without_start rest ≡ 40 ∷ more) → FaultAt text (bracket_stop r.depth (length (without_start rest))).kind (place (chars text) (length (without_start rest)))
    at_round (more, f) = by more (ap token_at f ∙ round_token more) (nat_lt r.depth greatest_depth) round_shallow

-- the name of a function
stopped_call : (text : List ℕ) (r : Reader) (left rest : List ℕ) (k : Token) (h : Reached text r left) → token_at left ≡ Some (k, rest) → taken r k ≡ None → is_call k ≡ true → depth_behind r.depth k ≡ Some r.depth → (IsForeign h.front k → ⊥)
    → (b : Bool) → is_named_call r.next k ≡ b
    → FaultAt text (if b then bracket_stop r.depth (length (without_start rest)) else stop Bad (length left)).kind (place (chars text) (if b then bracket_stop r.depth (length (without_start rest)) else stop Bad (length left)).left)
stopped_call text r left rest k h e f c g plain true n = stopped_named text r left rest k h e c n g
stopped_call text r left rest k h e f c g plain false n = stopped_bad text r left rest k h e f n r.depth g plain

-- any other token
stopped_other : (text : List ℕ) (r : Reader) (left rest : List ℕ) (k : Token) (h : Reached text r left) → token_at left ≡ Some (k, rest) → taken r k ≡ None → is_call k ≡ false → (d : ℕ) → depth_behind r.depth k ≡ Some d → (IsForeign h.front k → ⊥)
    → FaultAt text (if is_named_call r.next k then bracket_stop r.depth (length (without_start rest)) else stop Bad (length left)).kind
    (place (chars text) (if is_named_call r.next k then bracket_stop r.depth (length (without_start rest)) else stop Bad (length left)).left)
stopped_other text r left rest k h e f c d g plain =
    let n = unnamed r.next k c in
    subst (λ (b : Bool). FaultAt text (if b then bracket_stop r.depth (length (without_start rest)) else stop Bad (length left)).kind (place (chars text) (if b then bracket_stop r.depth (length (without_start rest)) else stop Bad (length left)).left))
    (sym n) (stopped_bad text r left rest k h e f n d g plain)

-- a fault where reading stops so
abbrev StopsSo : List ℕ → Stop → Type 0
StopsSo text s = FaultAt text s.kind (place (chars text) s.left)

stopped_at : (text : List ℕ) (r : Reader) (left rest : List ℕ) (k : Token) → Reached text r left → token_at left ≡ Some (k, rest) → taken r k ≡ None → StopsSo text (stop_at r k (length left) (length (without_start rest)))
stopped_at text r left rest OpenSquare h e f = stopped_bracket text r left rest OpenSquare h e f refl refl (λ x. x)
stopped_at text r left rest OpenRound h e f = stopped_bracket text r left rest OpenRound h e f refl refl (λ x. x)
stopped_at text r left rest (Joint name) h e f = stopped_plain text r left rest (Joint name) Foreign h e f (unnamed r.next (Joint name) refl) r.depth refl (λ many. (many, tt))
stopped_at text r left rest Slash h e f = stopped_slash text r left rest h e f
stopped_at text r left rest PositionCall h e f = stopped_call text r left rest PositionCall h e f refl refl (λ x. x) (is_named_call r.next PositionCall) refl
stopped_at text r left rest BandCall h e f = stopped_call text r left rest BandCall h e f refl refl (λ x. x) (is_named_call r.next BandCall) refl
stopped_at text r left rest (Along axis) h e f = stopped_other text r left rest (Along axis) h e f refl r.depth refl (λ x. x)
stopped_at text r left rest Star h e f = stopped_other text r left rest Star h e f refl r.depth refl (λ x. x)
stopped_at text r left rest (Word name) h e f = stopped_other text r left rest (Word name) h e f refl r.depth refl (λ x. x)
stopped_at text r left rest (Compare operator) h e f = stopped_other text r left rest (Compare operator) h e f refl r.depth refl (λ x. x)
stopped_at text r left rest (Figure n) h e f = stopped_other text r left rest (Figure n) h e f refl r.depth refl (λ x. x)
stopped_at text r left rest (Quote quoted) h e f = stopped_other text r left rest (Quote quoted) h e f refl r.depth refl (λ x. x)
stopped_at text r left rest CloseSquare h e f = stopped_other text r left rest CloseSquare h e f refl (r.depth - 1) refl (λ x. x)
stopped_at text r left rest CloseRound h e f = stopped_other text r left rest CloseRound h e f refl (r.depth - 1) refl (λ x. x)
stopped_at text r left rest Comma h e f = stopped_other text r left rest Comma h e f refl r.depth refl (λ x. x)

-- ---- the whole text

-- what is read, if not a path, is such a fault
abbrev Judged : List ℕ → Result Path Stop → Type 0
Judged text (Ok path) = Unit {0}
Judged text (Err s) = StopsSo text s

judged_end : (text : List ℕ) (r : Reader) → Reached text r [] → (o : Option Path) → finished r.levels r.next ≡ o → Judged text (at_end o)
judged_end text r h None e = stopped_end text r h e
judged_end text r h (Some path) e = tt

judged : (text : List ℕ) (n : ℕ) (left : List ℕ) (r : Reader) → length left ≤ n → Reached text r left → Judged text (path_within n left r)
judged text n [] r most h = judged_end text r h (finished r.levels r.next) refl
judged text zero (c ∷ cs) r most h = absurd (omega arith)
judged text (suc n) (c ∷ cs) r most h = by (token_at (c ∷ cs)) refl (λ left longer fits reached. judged text n left longer fits reached)
  where
    by_taken : (rest : List ℕ) (k : Token) (o : Option Reader) → token_at (c ∷ cs) ≡ Some (k, rest) → taken r k ≡ o
        → ((left : List ℕ) (longer : Reader) → length left ≤ n → Reached text longer left → Judged text (path_within n left longer))
        → Judged text (on_taken (λ behind longer. path_within n behind longer) (stop_at r k (length (c ∷ cs)) (length (without_start rest))) (without_start rest) o)
    by_taken rest k None e f more = stopped_at text r (c ∷ cs) rest k h e f
    by_taken rest k (Some longer) e f more =
        let shorter : length (without_start rest) < length (c ∷ cs) = token_shorter (c ∷ cs) k rest e in
        more (without_start rest) longer (omega arith) (reached_more text r longer (c ∷ cs) rest k h e f)

    by : (o : Option (Token × List ℕ)) → token_at (c ∷ cs) ≡ o → ((left : List ℕ) (longer : Reader) → length left ≤ n → Reached text longer left → Judged text (path_within n left longer))
        → Judged text (on_read (λ behind longer. path_within n behind longer) r (c ∷ cs) o)
    by None e more = stopped_without text r c cs h e
    by (Some read) e more = by_taken read.1 read.0 (taken r read.0) e refl more

fault_of : (text : List ℕ) (kind : FaultKind) (at : ℕ) → FaultAt text kind at → HasFault text (fault_at kind at)
fault_of text Bad at h = h
fault_of text Foreign at h = h
fault_of text Deep at h = h

abbrev pub IsJudged : List ℕ → Result Path PathFault → Type 0
IsJudged text (Ok path) = Unit {0}
IsJudged text (Err fault) = HasFault text fault

judged_placed : (text : List ℕ) (given : Result Path Stop) → Judged text given → IsJudged text (placed (chars text) given)
judged_placed text (Ok path) h = tt
judged_placed text (Err s) h = fault_of text s.kind (place (chars text) s.left) h

pub fault_is : (text : List ℕ) → IsJudged text (path_or_fault text)
unfolding path_or_fault
fault_is text =
    let solid = without_start (chars text) in
    judged_placed text (path_from solid start) (judged text (length solid) solid start (omega arith) (reached_start text))

-- what is given is no path only where such a fault is
pub faulty : (text : List ℕ) (given : Result Path PathFault) → Gives given (path_or_fault text) → IfErr given (IsFault text)
faulty text (Ok path) e = tt
faulty text (Err NoMemory) e = tt
faulty text (Err (BadPath at)) e = subst (IsJudged text) e (fault_is text)
faulty text (Err (Unsupported at)) e = subst (IsJudged text) e (fault_is text)
faulty text (Err (TooDeep at)) e = subst (IsJudged text) e (fault_is text)

path_or_so : (text : List ℕ) (given : Result Path PathFault) → path_or_fault text ≡ given → MatchResult given (λ path. path_of text ≡ Some path) (λ fault. (path_of text ≡ None) × HasFault text fault)
path_or_so text (Ok path) e = sym (read_is_path text) ∙ ap if_read e
path_or_so text (Err fault) e = (sym (read_is_path text) ∙ ap if_read e, subst (IsJudged text) e (fault_is text))

pub path_or_its_fault : HasPathOrFault
path_or_its_fault text = path_or_so text (path_or_fault text) refl
