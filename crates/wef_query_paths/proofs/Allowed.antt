-- What the machine's state says of which tokens allow a continuation.
use Rattle.std.proofs.Common.{◌≡◌, Bool, true, false, if◌then◌else◌, List, [], ◌∷◌, ◌++◌, Option, Some, None, refl, sym, ◌∙◌, subst, ◌↔◌, inl}
use Rattle.std.proofs.lemmas.List.{append-nil}
use Rattle.std.specs.Option.{option_and_then}
use Rattle.wef_query_tokens.specs.declared.axis.Axis.{Axis}
use Rattle.wef_query_tokens.specs.declared.axis.Axis.TheVariants.{Child, Attribute}
use Rattle.wef_query_tokens.specs.declared.tokens.Token.{Token}
use Rattle.wef_query_tokens.specs.declared.tokens.Token.TheVariants.{Star, PositionCall, BandCall, OpenSquare, OpenRound, Slash}
use Rattle.wef_query_tokens.specs.Calls.{is_call}
use Rattle.wef_query_tokens.specs.Steps.{goes_to_children}
use Rattle.wef_query_tokens.proofs.Calls.{OpensRound}
use Rattle.wef_query_paths.specs.declared.conditions.Level.{Level}
use Rattle.wef_query_paths.specs.declared.steps.Place.{Place}
use Rattle.wef_query_paths.specs.declared.steps.Place.TheVariants.{Whole, InValue}
use Rattle.wef_query_paths.specs.declared.values.Side.{Side}
use Rattle.wef_query_paths.specs.declared.values.Side.TheVariants.{Left, Right}
use Rattle.wef_query_paths.specs.declared.path.Literal.TheVariants.{Number, Quoted}
use Rattle.wef_query_paths.specs.declared.path.Path.{Path}
use Rattle.wef_query_paths.specs.declared.path.Unit.TheVariants.{Mirrored}
use Rattle.wef_query_paths.specs.declared.path.Value.{Value}
use Rattle.wef_query_paths.specs.declared.path.Value.TheVariants.{Nodes, Position, Band}
use Rattle.wef_query_paths.specs.declared.turns.Next.{Next}
use Rattle.wef_query_paths.specs.declared.turns.Next.TheVariants.{BeforeStep, BeforeTest, BehindStep, BeforePredicate, BehindCount, BeforeUnit, BeforeValue, BehindPosition, BehindBand, BehindValue, BehindUnit}
use Rattle.wef_query_paths.specs.Allows.{Allows, AllowsPath, EndsInAttribute, Gives, IsPath, Part, stop, takes, opens, ends, again, goes_on, says_child_first, says_child, says_nodes, sign, ends_in_path}
use Rattle.wef_query_paths.specs.Fronts.{begins_path, ends_in_call, is_behind_attribute, is_behind_call, is_named_call, opens_call, turned}
use Rattle.wef_query_paths.specs.Levels.{with_step}
use Rattle.wef_query_paths.specs.Paths.{any_path}
use Rattle.wef_query_paths.specs.Turns.{behind_value, finished, inside, turn}
use Rattle.wef_query_paths.proofs.Ends.{end_is_path, is_in_path, last_token, no_step_end, path_is_end}
use Rattle.wef_query_paths.proofs.Forward.{BehindCall, Further, Named, Taken, forward, further_in, behind_path_in, goes_behind, goes_further, goes_too_far, loosens, misnamed, misnames, named, names, path_refuses, turns, unit_refuses}
use Rattle.wef_query_paths.proofs.Stacks.{Comes, OnComes, all_back, back, path_parts, step_parts, unit_parts, whole_parts}

-- ---- behind the name of a function

-- neither `(` nor `*` stands behind a step
abbrev is_fresh : Token → Bool
is_fresh Star = true
is_fresh OpenRound = true
is_fresh _ = false

-- what may stand behind the name of a function, if anything does
abbrev Follows : Next → List Token → Type 0
Follows next [] = Unit {0}
Follows next (k ∷ ks) = is_behind_call next ≡ true → is_fresh k ≡ true

fresh_refused : (loose cut : Bool) (levels : List Level) (place : Place) (k : Token) (ks : List Token) → is_fresh k ≡ true → Gives loose cut (path_parts (unit_parts loose levels) (whole_parts levels) place) (k ∷ ks) → ⊥
fresh_refused loose cut levels place Star ks e g = path_refuses loose cut levels place any_path Star ks refl (behind_path_in loose cut levels place any_path Star ks g)
fresh_refused loose cut levels place OpenRound ks e g = path_refuses loose cut levels place any_path OpenRound ks refl (behind_path_in loose cut levels place any_path OpenRound ks g)
fresh_refused loose cut levels place _ ks e g = cc

fresh_no_slash : (k : Token) → is_fresh k ≡ true → k ≡ Slash → ⊥
fresh_no_slash k e f = let both : is_fresh Slash ≡ true = subst (λ (t : Token). is_fresh t ≡ true) f e in cc

fresh_no_bracket : (k : Token) → is_fresh k ≡ true → sign OpenSquare k ≡ true → ⊥
fresh_no_bracket OpenSquare e f = cc
fresh_no_bracket _ e f = cc

further_refused : (loose cut : Bool) (levels : List Level) (axis : Axis) (place : Place) (k : Token) (ks : List Token) → is_fresh k ≡ true → Further loose cut axis (path_parts (unit_parts loose levels) (whole_parts levels) place) k ks → ⊥
further_refused loose cut levels axis place k ks e (goes_further f h g) = fresh_no_slash k e h
further_refused loose cut levels axis place k ks e (goes_too_far f h i) = fresh_no_slash k e i
further_refused loose cut levels axis place k ks e (goes_behind g) = fresh_refused loose cut levels place k ks e g

step_refused : (loose cut : Bool) (levels : List Level) (axis : Axis) (place : Place) (k : Token) (ks : List Token) → is_fresh k ≡ true → Gives loose cut (step_parts loose (unit_parts loose levels) (whole_parts levels) axis place) (k ∷ ks) → ⊥
step_refused loose cut levels axis place k ks e (again f g) = fresh_no_bracket k e f
step_refused loose cut levels axis place k ks e (ends g) = further_refused loose cut levels axis place k ks e (further_in loose cut axis (path_parts (unit_parts loose levels) (whole_parts levels) place) k ks g)

pub opened_refused : (loose cut : Bool) (levels : List Level) (axis : Axis) (place : Place) (ks : List Token) → OpensRound ks → Gives loose cut (step_parts loose (unit_parts loose levels) (whole_parts levels) axis place) ks → ⊥
opened_refused loose cut levels axis place [] o g = absurd o
opened_refused loose cut levels axis place (OpenRound ∷ ks) o g = step_refused loose cut levels axis place OpenRound ks refl g
opened_refused loose cut levels axis place (_ ∷ ks) o g = absurd o

-- where the tokens may end, whatever is to come
cut_here : (loose : Bool) (levels : List Level) (next : Next) → Comes loose true levels next []
cut_here loose levels (BehindCount place so_far step n) = inl (stop refl)
cut_here loose levels _ = stop refl

-- the name of a function at the end
named_end : (loose cut : Bool) (levels inner : List Level) (next : Next) (side : Side) → Gives loose cut (step_parts loose (unit_parts loose inner) (whole_parts inner) Child (InValue side)) [] → Comes loose cut levels next []
named_end loose true levels inner next side g = cut_here loose levels next
named_end loose false levels inner next side g = absurd (no_step_end loose inner Child side g)

-- behind the name of a function comes what the machine expects there
named_comes : (loose cut : Bool) (levels : List Level) (next : Next) (k : Token) (ks : List Token) → is_behind_call next ≡ true → Follows next ks → Named loose cut k ks → Comes loose cut levels next ks
named_comes loose cut levels next k [] b f (named inner side e g) = named_end loose cut levels inner next side g
named_comes loose cut levels next k (l ∷ ks) b f (named inner side e g) = absurd (step_refused loose cut inner Child (InValue side) l ks (f b) g)

-- ---- states and the tokens that they refuse

named_none : (levels : List Level) (next : Next) (k : Token) → is_named_call next k ≡ true → turn levels next k ≡ None
named_none levels (BeforeStep place so_far) PositionCall e = refl
named_none levels (BeforeStep place so_far) BandCall e = refl
named_none levels (BeforeTest place so_far axis) PositionCall e = refl
named_none levels (BeforeTest place so_far axis) BandCall e = refl
named_none levels (BeforeValue (Quoted text) operator) PositionCall e = refl
named_none levels (BeforeValue (Number n) operator) k e = cc
named_none levels (BeforeStep place so_far) _ e = cc
named_none levels (BeforeTest place so_far axis) _ e = cc
named_none levels (BeforeValue (Quoted text) operator) _ e = cc
named_none levels _ k e = cc

pub named_is_call : (next : Next) (k : Token) → is_named_call next k ≡ true → is_call k ≡ true
named_is_call (BeforeStep place so_far) k e = e
named_is_call (BeforeTest place so_far axis) k e = e
named_is_call (BeforeValue (Quoted text) operator) PositionCall e = refl
named_is_call (BeforeValue (Quoted text) operator) _ e = cc
named_is_call (BeforeValue (Number n) operator) k e = cc
named_is_call _ k e = cc

no_further : (levels : List Level) (b : Bool) (next : Next) → (if b then false else true) ≡ true → inside levels (if b then Some next else None) ≡ None
no_further levels true next e = cc
no_further levels false next e = refl

slash_none : (levels : List Level) (next : Next) → is_behind_attribute next ≡ true → turn levels next Slash ≡ None
slash_none levels (BehindStep place so_far step) e = no_further levels (goes_to_children step.axis) (BeforeStep place (Some (with_step so_far step))) e
slash_none levels _ e = cc

loosened_none : (levels : List Level) (next : Next) (k : Token) → is_behind_attribute next ≡ true → k ≡ Slash → turn levels next k ≡ None
loosened_none levels next k e f = subst (λ (t : Token). turn levels next t ≡ None) (sym f) (slash_none levels next e)

-- ---- over all tokens

call_opens : (levels : List Level) (next : Next) (k : Token) (s : List Level × Next) (front : List Token) → is_behind_call next ≡ true → turned levels next (k ∷ front) ≡ Some s → is_fresh k ≡ true
call_opens levels (BehindPosition side) OpenRound s front b e = refl
call_opens levels (BehindPosition side) _ s front b e = cc
call_opens levels (BehindBand side) OpenRound s front b e = refl
call_opens levels (BehindBand side) _ s front b e = cc
call_opens levels _ k s front b e = cc

follows_on : (front ks : List Token) (s t : List Level × Next) → Follows s.1 ks → turned t.0 t.1 front ≡ Some s → Follows t.1 (front ++ ks)
follows_on [] ks s t f e = let same_state : s ≡ t = cc in subst (λ (r : List Level × Next). Follows r.1 ks) same_state f
follows_on (k ∷ front) ks s t f e = λ b. call_opens t.0 t.1 k s front b e

-- what comes behind a token comes in the state that it turns to
taken_on : (loose cut : Bool) (front ks : List Token) (s t : List Level × Next) (k : Token) (o : Option (List Level × Next)) → Follows s.1 ks → turn t.0 t.1 k ≡ o → option_and_then (λ r. turned r.0 r.1 front) o ≡ Some s → Taken loose cut t.0 t.1 k (front ++ ks)
    → ((r : List Level × Next) → turned r.0 r.1 front ≡ Some s → Comes loose cut r.0 r.1 (front ++ ks) → Comes loose cut s.0 s.1 ks) → Comes loose cut s.0 s.1 ks
taken_on loose cut front ks s t k None f q e taken more = cc
taken_on loose cut front ks s t k (Some r) f q e (turns h) more = more r e (subst (OnComes loose cut (front ++ ks)) q h)
taken_on loose cut front ks s t k (Some r) f q e (names found b) more = more r e (named_comes loose cut r.0 r.1 k (front ++ ks) (subst BehindCall q b) (follows_on front ks s r f e) found)
taken_on loose cut front ks s t k (Some r) f q e (misnames (misnamed inner axis place n g)) more = let never : None ≡ Some r = sym (named_none t.0 t.1 k n) ∙ q in cc
taken_on loose cut front ks s t k (Some r) f q e (loosens l b i) more = let never : None ≡ Some r = sym (loosened_none t.0 t.1 k b i) ∙ q in cc

-- what comes behind tokens comes in the state that they lead to
all_in : (loose cut : Bool) (front ks : List Token) (s : List Level × Next) → Follows s.1 ks → (t : List Level × Next) → turned t.0 t.1 front ≡ Some s → Comes loose cut t.0 t.1 (front ++ ks) → Comes loose cut s.0 s.1 ks
all_in loose cut [] ks s f t e g = let same_state : t ≡ s = cc in subst (λ (r : List Level × Next). Comes loose cut r.0 r.1 ks) same_state g
all_in loose cut (k ∷ front) ks s f t e g = taken_on loose cut front ks s t k (turn t.0 t.1 k) f refl e (forward loose cut t.0 t.1 k (front ++ ks) g) (λ r h c. all_in loose cut front ks s f r h c)

-- ---- the next token

-- a token that the machine refuses comes only as a step's name, or behind a step to attributes
refused_as : (loose cut : Bool) (levels : List Level) (next : Next) (k : Token) (ks : List Token) → turn levels next k ≡ None → is_named_call next k ≡ false → (loose ≡ true → is_behind_attribute next ≡ true → ⊥) → Taken loose cut levels next k ks → ⊥
refused_as loose cut levels next k ks n c l (turns h) = subst (OnComes loose cut ks) n h
refused_as loose cut levels next k ks n c l (names found b) = subst BehindCall n b
refused_as loose cut levels next k ks n c l (misnames (misnamed inner axis place e g)) = cc
refused_as loose cut levels next k ks n c l (loosens a b i) = l a b

named_behind : (loose cut : Bool) (levels : List Level) (next : Next) (k l : Token) (ks : List Token) → turn levels next k ≡ None → is_fresh l ≡ true → is_behind_attribute next ≡ false → Taken loose cut levels next k (l ∷ ks) → ⊥
named_behind loose cut levels next k l ks n f a (turns h) = subst (OnComes loose cut (l ∷ ks)) n h
named_behind loose cut levels next k l ks n f a (names found b) = subst BehindCall n b
named_behind loose cut levels next k l ks n f a (misnames (misnamed inner axis place e g)) = step_refused loose cut inner axis place l ks f g
named_behind loose cut levels next k l ks n f a (loosens b c i) = cc

opening_follows : (next : Next) (k : Token) → opens_call next k ≡ true → is_behind_call next ≡ true → is_fresh k ≡ true
opening_follows (BehindPosition side) OpenRound e b = refl
opening_follows (BehindPosition side) _ e b = cc
opening_follows (BehindBand side) OpenRound e b = refl
opening_follows (BehindBand side) _ e b = cc
opening_follows _ k e b = cc

named_follows : (next : Next) (k : Token) → is_named_call next k ≡ true → is_behind_call next ≡ true → is_fresh k ≡ true
named_follows (BehindPosition side) k e b = cc
named_follows (BehindBand side) k e b = cc
named_follows _ k e b = cc

named_no_attribute : (next : Next) (k : Token) → is_named_call next k ≡ true → is_behind_attribute next ≡ false
named_no_attribute (BehindStep place so_far step) k e = cc
named_no_attribute _ k e = refl

named_here : (levels : List Level) (next : Next) (k : Token) → is_named_call next k ≡ true → Comes false true levels next (k ∷ [])
named_here levels (BeforeStep place so_far) PositionCall e = opens says_child_first (opens says_child (takes refl (stop refl)))
named_here levels (BeforeStep place so_far) BandCall e = opens says_child_first (opens says_child (takes refl (stop refl)))
named_here levels (BeforeTest place so_far axis) PositionCall e = takes refl (stop refl)
named_here levels (BeforeTest place so_far axis) BandCall e = takes refl (stop refl)
named_here levels (BeforeValue (Quoted text) operator) PositionCall e = opens says_nodes (opens says_child_first (opens says_child (takes refl (stop refl))))
named_here levels (BeforeValue (Number n) operator) k e = cc
named_here levels (BeforeStep place so_far) _ e = cc
named_here levels (BeforeTest place so_far axis) _ e = cc
named_here levels (BeforeValue (Quoted text) operator) _ e = cc
named_here levels _ k e = cc

-- ---- where a path begins

begins_no_step : (next : Next) → begins_path next ≡ true → is_in_path next ≡ false
begins_no_step (BeforeStep place None) e = refl
begins_no_step (BeforeStep place (Some path)) e = cc
begins_no_step (BeforeTest place so_far axis) e = cc
begins_no_step _ e = refl

begins_here : (levels : List Level) (next : Next) → begins_path next ≡ true → Comes false true levels next (Star ∷ [])
begins_here levels (BeforeStep place None) e = opens says_child_first (opens says_child (takes refl (stop refl)))
begins_here levels (BeforeStep place (Some path)) e = cc
begins_here levels (BeforePredicate place so_far step) e = back false true levels (BeforePredicate place so_far step) Star [] (stop refl)
begins_here levels BeforeUnit e = back false true levels BeforeUnit Star [] (stop refl)
begins_here levels (BeforeValue literal operator) e = back false true levels (BeforeValue literal operator) Star [] (stop refl)
begins_here levels _ e = cc

worth_refuses : (levels : List Level) (side : Side) (v : Value) → OnComes false true [] (behind_value levels side v Star) → ⊥
worth_refuses levels Left Position h = h
worth_refuses levels Left (Nodes path) h = path_refuses false true levels (InValue Left) path Star [] refl h
worth_refuses [] Left (Band path n) h = h
worth_refuses (level ∷ levels) Left (Band path n) h = h
worth_refuses levels (Right literal operator) v h = unit_refuses false true levels (Mirrored literal operator v) Star [] refl h

star_begins : (levels : List Level) (next : Next) → is_in_path next ≡ false → OnComes false true [] (turn levels next Star) → begins_path next ≡ true
star_begins levels (BeforeStep place None) e h = refl
star_begins levels (BeforeStep place (Some path)) e h = cc
star_begins levels (BeforeTest place so_far axis) e h = cc
star_begins levels (BeforePredicate place so_far step) e h = refl
star_begins levels BeforeUnit e h = refl
star_begins levels (BeforeValue literal operator) e h = refl
star_begins levels (BehindStep place so_far step) e h = absurd (path_refuses false true levels place (with_step so_far step) Star [] refl h)
star_begins levels (BehindUnit u) e h = absurd (unit_refuses false true levels u Star [] refl h)
star_begins levels (BehindValue side v) e h = absurd (worth_refuses levels side v h)
star_begins levels _ e h = absurd h

-- a `*` that comes turns the machine
star_turns : (levels : List Level) (next : Next) → Taken false true levels next Star [] → OnComes false true [] (turn levels next Star)
star_turns levels next (turns h) = h
star_turns levels next (names (named inner side e g) b) = cc
star_turns levels next (misnames (misnamed inner axis place e g)) = let never : is_call Star ≡ true = named_is_call next Star e in cc
star_turns levels next (loosens a b c) = cc

starts_in_path : (front : List Token) (s : List Level × Next) → turned [] (BeforeStep Whole None) front ≡ Some s → is_in_path s.1 ≡ ends_in_path front
starts_in_path [] s e = let same_state : ([], BeforeStep Whole None) ≡ s = cc in subst (λ (r : List Level × Next). is_in_path r.1 ≡ false) same_state refl
starts_in_path (k ∷ front) s e = (last_token k front s ([], BeforeStep Whole None) e).step

starts_in_call : (front : List Token) (s : List Level × Next) → turned [] (BeforeStep Whole None) front ≡ Some s → is_behind_call s.1 ≡ ends_in_call front
starts_in_call [] s e = let same_state : ([], BeforeStep Whole None) ≡ s = cc in subst (λ (r : List Level × Next). is_behind_call r.1 ≡ false) same_state refl
starts_in_call (k ∷ front) s e = (last_token k front s ([], BeforeStep Whole None) e).call

-- ---- behind a step to attributes

attribute_goes_on : (axis : Axis) (K W : List Part) (place : Place) → (if goes_to_children axis then false else true) ≡ true → Gives true true (step_parts true K W axis place) (Slash ∷ [])
attribute_goes_on Child K W place e = cc
attribute_goes_on Attribute K W place e = ends (goes_on refl (stop refl))

attribute_here : (levels : List Level) (next : Next) → is_behind_attribute next ≡ true → Comes true true levels next (Slash ∷ [])
attribute_here levels (BehindStep place so_far step) e = attribute_goes_on step.axis (unit_parts true levels) (whole_parts levels) place e
attribute_here levels _ e = cc

cut_on : (o : Option (List Level × Next)) → OnComes true true [] o → OnComes false true [] o
cut_on None h = h
cut_on (Some t) h = cut_here false t.0 t.1

-- a `/` that comes turns the machine, or is behind a step to attributes
slash_comes : (levels : List Level) (next : Next) → Taken true true levels next Slash [] → (OnComes false true [] (turn levels next Slash) → ⊥) → is_behind_attribute next ≡ true
slash_comes levels next (turns h) f = absurd (f (cut_on (turn levels next Slash) h))
slash_comes levels next (names (named inner side e g) b) f = cc
slash_comes levels next (misnames (misnamed inner axis place e g)) f = let never : is_call Slash ≡ true = named_is_call next Slash e in cc
slash_comes levels next (loosens a b c) f = b

slash_unnamed : (next : Next) → is_behind_attribute next ≡ true → is_named_call next Slash ≡ false
slash_unnamed (BehindStep place so_far step) e = refl
slash_unnamed _ e = cc

-- ---- the laws

module _ (front : List Token) (s : List Level × Next) (e : turned [] (BeforeStep Whole None) front ≡ Some s) where
  -- what the machine takes allows a continuation
  pub allowed : Allows front
  allowed = subst Allows (append-nil front) (all_back false true front [] s (cut_here false s.0 s.1) ([], BeforeStep Whole None) e)

  -- what it refuses allows none, but for the name of a function where no call may stand
  pub refused : (k : Token) → turn s.0 s.1 k ≡ None → is_named_call s.1 k ≡ false → opens_call s.1 k ≡ true → Allows (front ++ k ∷ []) → ⊥
  refused k n c o a =
      refused_as false true s.0 s.1 k [] n c (λ (l : false ≡ true). cc)
      (forward false true s.0 s.1 k [] (all_in false true front (k ∷ []) s (opening_follows s.1 k o) ([], BeforeStep Whole None) e a))

  -- such a name is one of a step
  pub named_allowed : (k : Token) → is_named_call s.1 k ≡ true → Allows (front ++ k ∷ [])
  named_allowed k c = all_back false true front (k ∷ []) s (named_here s.0 s.1 k c) ([], BeforeStep Whole None) e

  -- behind which no `(` may stand
  pub named_refused : (k : Token) → is_named_call s.1 k ≡ true → Allows (front ++ k ∷ OpenRound ∷ []) → ⊥
  named_refused k c a =
      named_behind false true s.0 s.1 k OpenRound [] (named_none s.0 s.1 k c) refl (named_no_attribute s.1 k c)
      (forward false true s.0 s.1 k (OpenRound ∷ []) (all_in false true front (k ∷ OpenRound ∷ []) s (named_follows s.1 k c) ([], BeforeStep Whole None) e a))

  path_begins_there : AllowsPath front → begins_path s.1 ≡ true
  path_begins_there a =
      star_begins s.0 s.1 (starts_in_path front s e ∙ a.first)
      (star_turns s.0 s.1 (forward false true s.0 s.1 Star [] (all_in false true front (Star ∷ []) s (λ b. refl) ([], BeforeStep Whole None) e a.step)))

  there_path_begins : begins_path s.1 ≡ true → AllowsPath front
  there_path_begins b = record {
    step = all_back false true front (Star ∷ []) s (begins_here s.0 s.1 b) ([], BeforeStep Whole None) e;
    first = sym (starts_in_path front s e) ∙ begins_no_step s.1 b;
  }

  -- where a path may begin is told by the state
  pub path_may_begin : AllowsPath front ↔ (begins_path s.1 ≡ true)
  path_may_begin = (path_begins_there, there_path_begins)

  attribute_there : opens_call s.1 Slash ≡ true → EndsInAttribute front → is_behind_attribute s.1 ≡ true
  attribute_there o a =
      slash_comes s.0 s.1 (forward true true s.0 s.1 Slash [] (all_in true true front (Slash ∷ []) s (opening_follows s.1 Slash o) ([], BeforeStep Whole None) e a.loosely))
      (λ h. a.strictly (all_back false true front (Slash ∷ []) s (back false true s.0 s.1 Slash [] h) ([], BeforeStep Whole None) e))

  there_attribute : opens_call s.1 Slash ≡ true → is_behind_attribute s.1 ≡ true → EndsInAttribute front
  there_attribute o b = record {
    loosely = all_back true true front (Slash ∷ []) s (attribute_here s.0 s.1 b) ([], BeforeStep Whole None) e;
    strictly = refused Slash (slash_none s.0 s.1 b) (slash_unnamed s.1 b) o;
  }

  -- that the last step was one to attributes is told by the state
  pub behind_attribute : opens_call s.1 Slash ≡ true → EndsInAttribute front ↔ (is_behind_attribute s.1 ≡ true)
  behind_attribute o = (attribute_there o, there_attribute o)

  -- that the last token was a function's name is told by the state
  pub behind_call : is_behind_call s.1 ≡ ends_in_call front
  behind_call = starts_in_call front s e

  whole_there : IsPath front → (p : Path) × (finished s.0 s.1 ≡ Some p)
  whole_there a = end_is_path false s.0 s.1 (all_in false false front [] s tt ([], BeforeStep Whole None) e (subst IsPath (sym (append-nil front)) a))

  there_whole : ((p : Path) × (finished s.0 s.1 ≡ Some p)) → IsPath front
  there_whole (p, f) = subst IsPath (append-nil front) (all_back false false front [] s (path_is_end s.0 s.1 p f) ([], BeforeStep Whole None) e)

  -- tokens are a path where the machine has one behind them
  pub path_is_whole : IsPath front ↔ ((p : Path) × (finished s.0 s.1 ≡ Some p))
  path_is_whole = (whole_there, there_whole)
