-- What the grammar says, the machine reads.
use Rattle.std.proofs.Common.{◌≡◌, ℕ, true, false, if◌then◌else◌, List, [], ◌∷◌, codes, Option, Some, None, refl, sym, ap, ◌∙◌, subst}
use Rattle.wef_query_tokens.specs.declared.axis.Axis.{Axis}
use Rattle.wef_query_tokens.specs.declared.axis.Axis.TheVariants.{Child}
use Rattle.wef_query_tokens.specs.declared.operator.Operator.{Operator}
use Rattle.wef_query_tokens.specs.declared.tokens.Token.{Token}
use Rattle.wef_query_tokens.specs.declared.tokens.Token.TheVariants.{Along, Star, Word, Joint, PositionCall, BandCall, Compare, Figure, CloseSquare, OpenRound, CloseRound}
use Rattle.wef_query_tokens.specs.Steps.{goes_to_children}
use Rattle.wef_query_paths.specs.declared.conditions.Around.{Around}
use Rattle.wef_query_paths.specs.declared.conditions.Around.TheVariants.{Round, Square}
use Rattle.wef_query_paths.specs.declared.conditions.Level.{Level}
use Rattle.wef_query_paths.specs.declared.steps.Place.{Place}
use Rattle.wef_query_paths.specs.declared.steps.Place.TheVariants.{Whole, InValue, InBand}
use Rattle.wef_query_paths.specs.declared.values.Side.{Side}
use Rattle.wef_query_paths.specs.declared.values.Side.TheVariants.{Left, Right}
use Rattle.wef_query_paths.specs.declared.path.And.{And}
use Rattle.wef_query_paths.specs.declared.path.Literal.{Literal}
use Rattle.wef_query_paths.specs.declared.path.Literal.TheVariants.{Number, Quoted}
use Rattle.wef_query_paths.specs.declared.path.NameTest.{NameTest}
use Rattle.wef_query_paths.specs.declared.path.NameTest.TheVariants.{Any, Named}
use Rattle.wef_query_paths.specs.declared.path.Or.{Or, out-Or}
use Rattle.wef_query_paths.specs.declared.path.Path.{Path, out-Path}
use Rattle.wef_query_paths.specs.declared.path.Step.{Step}
use Rattle.wef_query_paths.specs.declared.path.Unit as unit
use Rattle.wef_query_paths.specs.declared.path.Unit.TheVariants.{Alone, Compared, Mirrored}
use Rattle.wef_query_paths.specs.declared.path.Value.{Value}
use Rattle.wef_query_paths.specs.declared.path.Value.TheVariants.{Nodes, Position, Band}
use Rattle.wef_query_paths.specs.declared.turns.Next.{Next}
use Rattle.wef_query_paths.specs.declared.turns.Next.TheVariants.{BeforeStep, BeforeTest, BehindStep, BeforePredicate, BehindCount, BeforeUnit, BehindLiteral, BeforeValue, BehindValue, BeforeLiteral, BehindUnit}
use Rattle.wef_query_paths.specs.Grammar.{Part, the_path, the_steps, the_step, the_test, the_predicates, the_predicate, the_or, the_ands, the_and, the_units, the_unit, the_value, the_literal, Begins, path_is, no_step, one_step, child_step, axis_step, any_name, one_name, no_predicate, one_predicate, at_place, whether, or_is, no_and, one_and, and_is, no_unit, one_unit, group, alone, compared, mirrored, number, quote, nodes, position, band, may_compare, Joins}
use Rattle.wef_query_paths.specs.Levels.{alternatives_in, square, with_and, with_predicate, with_step, with_unit}
use Rattle.wef_query_paths.specs.Turns.{behind_last, behind_unit, closed_round, closed_square, inside, is_position, joined, may_be_position, with_and_behind, with_or_behind}
use Rattle.wef_query_paths.proofs.Runs.{may_stand, on, run}
use Rattle.wef_query_paths.proofs.Trees.{and_whole, and_with, or_whole, or_with, path_whole, path_with, step_whole, step_with}

-- ---- how parts begin

-- a path begins with an axis, a `*` or a name
abbrev OpensPath : List Token → Type 0
OpensPath [] = ⊥
OpensPath (Along axis ∷ ks) = Unit {0}
OpensPath (Star ∷ ks) = Unit {0}
OpensPath (Word name ∷ ks) = Unit {0}
OpensPath _ = ⊥

-- a value begins so, or with a function
abbrev OpensValue : List Token → Type 0
OpensValue [] = ⊥
OpensValue (Along axis ∷ ks) = Unit {0}
OpensValue (Star ∷ ks) = Unit {0}
OpensValue (Word name ∷ ks) = Unit {0}
OpensValue (PositionCall ∷ ks) = Unit {0}
OpensValue (BandCall ∷ ks) = Unit {0}
OpensValue _ = ⊥

-- a condition that begins with a number goes on with an operator
abbrev OpensUnit : List Token → Type 0
OpensUnit [] = ⊥
OpensUnit (Figure n ∷ Compare operator ∷ ks) = Unit {0}
OpensUnit (Figure n ∷ ks) = ⊥
OpensUnit _ = Unit {0}

value_opens : (ks : List Token) → OpensPath ks → OpensValue ks
value_opens [] h = h
value_opens (Along axis ∷ ks) h = tt
value_opens (Star ∷ ks) h = tt
value_opens (Word name ∷ ks) h = tt
value_opens (_ ∷ ks) h = absurd h

unit_opens : (ks : List Token) → OpensValue ks → OpensUnit ks
unit_opens [] h = h
unit_opens (Along axis ∷ ks) h = tt
unit_opens (Star ∷ ks) h = tt
unit_opens (Word name ∷ ks) h = tt
unit_opens (PositionCall ∷ ks) h = tt
unit_opens (BandCall ∷ ks) h = tt
unit_opens (_ ∷ ks) h = absurd h

-- how each part begins, before what is left
abbrev Starts : Part → List Token → List Token → Type 0
Starts (the_path p) ks ms = OpensPath ks
Starts (the_step s) ks ms = OpensPath ks
Starts (the_test t) ks ms = OpensPath ks
Starts (the_or o) ks ms = OpensUnit ks
Starts (the_and a) ks ms = OpensUnit ks
Starts (the_unit u) ks ms = OpensUnit ks
Starts (the_value v) ks ms = OpensValue ks
Starts (the_literal l) ks ms = (operator : Operator) (ls : List Token) → ms ≡ Compare operator ∷ ls → OpensUnit ks
Starts _ ks ms = Unit {0}

starts : {part : Part} {ks ms : List Token} → Begins part ks ms → Starts part ks ms
starts (path_is s ss) = starts s
starts (child_step e t xs) = starts t
starts (or_is a more) = starts a
starts (and_is u us) = starts u
starts (alone {ks = ks} e v) = unit_opens ks (starts v)
starts (compared {ks = ks} c v l) = unit_opens ks (starts v)
starts (mirrored {operator = operator} {ls = ls} c l v) = starts l operator ls refl
starts (number {n = n}) = λ operator ls e. subst (λ (ms : List Token). OpensUnit (Figure n ∷ ms)) (sym e) tt
starts quote = λ operator ls e. tt
starts (nodes {ks = ks} p) = value_opens ks (starts p)
starts _ = tt

-- behind `[`, a condition that opens so is read as in a bracket that is there
opens_square : (levels : List Level) (place : Place) (so_far : Option Path) (s : Step) (ks : List Token) → OpensUnit ks
    → run levels (BeforePredicate place so_far s) ks ≡ run (square place so_far s ∷ levels) BeforeUnit ks
opens_square levels place so_far s [] h = absurd h
opens_square levels place so_far s (Figure n ∷ Compare operator ∷ ks) h = refl
opens_square levels place so_far s (Figure n ∷ _) h = absurd h
opens_square levels place so_far s (_ ∷ ks) h = refl

abbrev start_of : Side → Next
start_of Left = BeforeUnit
start_of (Right literal operator) = BeforeValue literal operator

opens_path : (levels : List Level) (side : Side) (ks : List Token) → OpensPath ks → run levels (start_of side) ks ≡ run levels (BeforeStep (InValue side) None) ks
opens_path levels side [] h = absurd h
opens_path levels Left (Along axis ∷ ks) h = refl
opens_path levels Left (Star ∷ ks) h = refl
opens_path levels Left (Word name ∷ ks) h = refl
opens_path levels (Right literal operator) (Along axis ∷ ks) h = refl
opens_path levels (Right literal operator) (Star ∷ ks) h = refl
opens_path levels (Right literal operator) (Word name ∷ ks) h = refl
opens_path levels side (_ ∷ ks) h = absurd h

-- ---- how parts end

-- behind a condition in brackets
abbrev EndsOr : List Token → Type 0
EndsOr (CloseRound ∷ ks) = Unit {0}
EndsOr (CloseSquare ∷ ks) = Unit {0}
EndsOr _ = ⊥

-- behind a unit
abbrev EndsUnit : List Token → Type 0
EndsUnit (Word name ∷ ks) = Unit {0}
EndsUnit (Joint name ∷ ks) = Unit {0}
EndsUnit ks = EndsOr ks

-- behind a value
abbrev EndsValue : List Token → Type 0
EndsValue (Compare operator ∷ ks) = Unit {0}
EndsValue ks = EndsUnit ks

or_unit : (ks : List Token) → EndsOr ks → EndsUnit ks
or_unit (Word name ∷ ks) h = absurd h
or_unit (Joint name ∷ ks) h = absurd h
or_unit ks h = h

unit_value : (ks : List Token) → EndsUnit ks → EndsValue ks
unit_value (Compare operator ∷ ks) h = absurd h
unit_value ks h = h

joins_unit : (token : Token) (operator : List ℕ) (ks : List Token) → Joins token operator → EndsUnit (token ∷ ks)
joins_unit (Word name) operator ks e = tt
joins_unit (Joint name) operator ks e = tt
joins_unit _ operator ks e = absurd e

-- what may stand before further parts
abbrev Precedes : Part → List Token → List Token → Type 0
Precedes (the_ands more) ks ms = EndsOr ms → EndsUnit ks
Precedes (the_units us) ks ms = EndsUnit ms → EndsUnit ks
Precedes _ ks ms = Unit {0}

precedes : {part : Part} {ks ms : List Token} → Begins part ks ms → Precedes part ks ms
precedes (no_and {ks = ks}) = or_unit ks
precedes (one_and {token = token} {ks = ks} e a more) = λ h. joins_unit token (codes "or") ks e
precedes no_unit = λ h. h
precedes (one_unit {token = token} {ks = ks} e u us) = λ h. joins_unit token (codes "and") ks e
precedes _ = tt

-- a path as a value, before what follows a value
nodes_end : (levels : List Level) (side : Side) (so_far : Option Path) (last : Step) (ks : List Token) → EndsValue ks
    → run levels (BehindStep (InValue side) so_far last) ks ≡ run levels (BehindValue side (Nodes (with_step so_far last))) ks
nodes_end levels side so_far last [] h = absurd h
nodes_end levels side so_far last (Word name ∷ ks) h = refl
nodes_end levels side so_far last (Joint name ∷ ks) h = refl
nodes_end levels side so_far last (CloseRound ∷ ks) h = refl
nodes_end levels side so_far last (CloseSquare ∷ ks) h = refl
nodes_end levels side so_far last (Compare operator ∷ ks) h = refl
nodes_end levels side so_far last (_ ∷ ks) h = absurd h

alone_end : (levels : List Level) (v : Value) (ks : List Token) → is_position v ≡ false → EndsUnit ks → run levels (BehindValue Left v) ks ≡ run levels (BehindUnit (Alone v)) ks
alone_end levels v [] e h = absurd h
alone_end levels v (Word name ∷ ks) e h = ap (λ b. on ks (if b then None else behind_unit levels (Alone v) (Word name))) e
alone_end levels v (Joint name ∷ ks) e h = ap (λ b. on ks (if b then None else behind_unit levels (Alone v) (Joint name))) e
alone_end levels v (CloseRound ∷ ks) e h = ap (λ b. on ks (if b then None else behind_unit levels (Alone v) CloseRound)) e
alone_end levels v (CloseSquare ∷ ks) e h = ap (λ b. on ks (if b then None else behind_unit levels (Alone v) CloseSquare)) e
alone_end levels v (_ ∷ ks) e h = absurd h

mirrored_end : (levels : List Level) (l : Literal) (operator : Operator) (v : Value) (ks : List Token) → EndsUnit ks → run levels (BehindValue (Right l operator) v) ks ≡ run levels (BehindUnit (Mirrored l operator v)) ks
mirrored_end levels l operator v [] h = absurd h
mirrored_end levels l operator v (_ ∷ ks) h = refl

-- ---- operators and literals

pub joined_or : (levels : List Level) (level : Level) (last : unit.Unit) (token : Token) → Joins token (codes "or") → behind_last levels level last token ≡ Some (with_or_behind level last ∷ levels, BeforeUnit)
joined_or levels level last (Word name) e = ap (joined levels (with_and_behind level last)) e
joined_or levels level last (Joint name) e = ap (joined levels (with_and_behind level last)) e
joined_or levels level last _ e = absurd e

pub joined_and : (levels : List Level) (level : Level) (last : unit.Unit) (token : Token) → Joins token (codes "and") → behind_last levels level last token ≡ Some (with_and_behind level last ∷ levels, BeforeUnit)
joined_and levels level last (Word name) e = ap (joined levels (with_and_behind level last)) e
joined_and levels level last (Joint name) e = ap (joined levels (with_and_behind level last)) e
joined_and levels level last _ e = absurd e

quoted_fits : (v : Value) (text : List ℕ) → may_compare v (Quoted text) ≡ true → is_position v ≡ false
quoted_fits (Nodes p) text e = refl
quoted_fits Position text e = cc
quoted_fits (Band p n) text e = refl

position_fits : (side : Side) → may_stand side Position ≡ true → may_be_position side ≡ true
position_fits Left e = refl
position_fits (Right (Number n) operator) e = refl
position_fits (Right (Quoted text) operator) e = e

-- ---- each part

-- What follows a part has what the machine makes of the part before it.
abbrev Claim : Part → List Token → List Token → Type 0
Claim (the_path p) ks ms = (levels : List Level) (place : Place) (r : Option Path) → ((so_far : Option Path) (last : Step) → with_step so_far last ≡ p → run levels (BehindStep place so_far last) ms ≡ r) → run levels (BeforeStep place None) ks ≡ r
Claim (the_steps axis ss) ks ms = (levels : List Level) (place : Place) (so_far : Option Path) (last : Step) (r : Option Path) → last.axis ≡ axis → ((so_far' : Option Path) (last' : Step) → with_step so_far' last' ≡ path_with (with_step so_far last) ss → run levels (BehindStep place so_far' last') ms ≡ r) → run levels (BehindStep place so_far last) ks ≡ r
Claim (the_step s) ks ms = (levels : List Level) (place : Place) (so_far : Option Path) (r : Option Path) → run levels (BehindStep place so_far s) ms ≡ r → run levels (BeforeStep place so_far) ks ≡ r
Claim (the_test t) ks ms = (levels : List Level) (place : Place) (so_far : Option Path) (axis : Axis) (r : Option Path) → run levels (BehindStep place so_far (record { axis = axis; test = t; predicates = [] })) ms ≡ r
    → (run levels (BeforeTest place so_far axis) ks ≡ r) × (axis ≡ Child → run levels (BeforeStep place so_far) ks ≡ r)
Claim (the_predicates xs) ks ms = (levels : List Level) (place : Place) (so_far : Option Path) (s : Step) (r : Option Path) → run levels (BehindStep place so_far (step_with s xs)) ms ≡ r → run levels (BehindStep place so_far s) ks ≡ r
Claim (the_predicate x) ks ms = (levels : List Level) (place : Place) (so_far : Option Path) (s : Step) (r : Option Path) (ns : List Token) → ms ≡ CloseSquare ∷ ns → run levels (BehindStep place so_far (with_predicate s x)) ns ≡ r → run levels (BeforePredicate place so_far s) ks ≡ r
Claim (the_or o) ks ms = (levels : List Level) (around : Around) (r : Option Path) → EndsOr ms → ((level : Level) (last : unit.Unit) → level.around ≡ around → alternatives_in level last ≡ o → run (level ∷ levels) (BehindUnit last) ms ≡ r)
    → run (record { around = around; alternatives = None; units = None } ∷ levels) BeforeUnit ks ≡ r
Claim (the_ands more) ks ms = (levels : List Level) (level : Level) (last : unit.Unit) (r : Option Path) → EndsOr ms → ((level' : Level) (last' : unit.Unit) → level'.around ≡ level.around → alternatives_in level' last' ≡ or_with (alternatives_in level last) more → run (level' ∷ levels) (BehindUnit last') ms ≡ r)
    → run (level ∷ levels) (BehindUnit last) ks ≡ r
Claim (the_and a) ks ms = (levels : List Level) (around : Around) (alternatives : Option Or) (r : Option Path) → EndsUnit ms → ((units : Option And) (last : unit.Unit) → with_unit units last ≡ a → run (record { around = around; alternatives = alternatives; units = units } ∷ levels) (BehindUnit last) ms ≡ r)
    → run (record { around = around; alternatives = alternatives; units = None } ∷ levels) BeforeUnit ks ≡ r
Claim (the_units us) ks ms = (levels : List Level) (around : Around) (alternatives : Option Or) (units : Option And) (last : unit.Unit) (r : Option Path) → EndsUnit ms → ((units' : Option And) (last' : unit.Unit) → with_unit units' last' ≡ and_with (with_unit units last) us → run (record { around = around; alternatives = alternatives; units = units' } ∷ levels) (BehindUnit last') ms ≡ r)
    → run (record { around = around; alternatives = alternatives; units = units } ∷ levels) (BehindUnit last) ks ≡ r
Claim (the_unit u) ks ms = (levels : List Level) (r : Option Path) → EndsUnit ms → run levels (BehindUnit u) ms ≡ r → run levels BeforeUnit ks ≡ r
Claim (the_value v) ks ms = (levels : List Level) (side : Side) (r : Option Path) → EndsValue ms → may_stand side v ≡ true → run levels (BehindValue side v) ms ≡ r → run levels (start_of side) ks ≡ r
Claim (the_literal l) ks ms = ((levels : List Level) (v : Value) (operator : Operator) (r : Option Path) → may_compare v l ≡ true → run levels (BehindUnit (Compared v operator l)) ms ≡ r → run levels (BeforeLiteral v operator) ks ≡ r)
    × ((levels : List Level) (operator : Operator) (ns : List Token) → ms ≡ Compare operator ∷ ns → run levels BeforeUnit ks ≡ run levels (BeforeValue l operator) ns)

test_claim : (levels : List Level) (place : Place) (so_far : Option Path) (axis : Axis) (t : NameTest) (ms : List Token) (r : Option Path) → run levels (BehindStep place so_far (record { axis = axis; test = t; predicates = [] })) ms ≡ r → axis ≡ Child → run levels (BehindStep place so_far (record { axis = Child; test = t; predicates = [] })) ms ≡ r
test_claim levels place so_far axis t ms r h e = ap (λ a. run levels (BehindStep place so_far (record { axis = a; test = t; predicates = [] })) ms) (sym e) ∙ h

position_claim : (levels : List Level) (side : Side) (ks : List Token) (r : Option Path) → may_stand side Position ≡ true → run levels (BehindValue side Position) ks ≡ r → run levels (start_of side) (PositionCall ∷ OpenRound ∷ CloseRound ∷ ks) ≡ r
position_claim levels Left ks r e h = h
position_claim levels (Right (Number n) operator) ks r e h = h
position_claim levels (Right (Quoted text) operator) ks r e h = cc

band_claim : (levels : List Level) (side : Side) (ks : List Token) → run levels (start_of side) (BandCall ∷ OpenRound ∷ ks) ≡ run levels (BeforeStep (InBand side) None) ks
band_claim levels Left ks = refl
band_claim levels (Right literal operator) ks = refl

pub complete : {part : Part} {ks ms : List Token} → Begins part ks ms → Claim part ks ms
complete (path_is {p = p} s ss) = λ levels place r k. complete s levels place None r (complete ss levels place None (out-Path p).first r refl (λ so_far last e. k so_far last (e ∙ path_whole p)))
complete no_step = λ levels place so_far last r e k. k so_far last refl
complete (one_step {axis = axis} {s = s} {ks = ks} g st ss) = λ levels place so_far last r e k.
    ap (λ b. on ks (inside levels (if b then Some (BeforeStep place (Some (with_step so_far last))) else None))) (ap goes_to_children e ∙ g)
    ∙ complete st levels place (Some (with_step so_far last)) r (complete ss levels place (Some (with_step so_far last)) s r refl k)
complete (child_step {s = s} {ns = ns} e t xs) = λ levels place so_far r h.
    (complete t levels place so_far s.axis r (complete xs levels place so_far (record { axis = s.axis; test = s.test; predicates = [] }) r (ap (λ w. run levels (BehindStep place so_far w) ns) (step_whole s) ∙ h))).1 e
complete (axis_step {s = s} {axis = axis} {ks = ks} {ns = ns} e t xs) = λ levels place so_far r h.
    ap (λ a. run levels (BeforeTest place so_far a) ks) (sym e)
    ∙ (complete t levels place so_far s.axis r (complete xs levels place so_far (record { axis = s.axis; test = s.test; predicates = [] }) r (ap (λ w. run levels (BehindStep place so_far w) ns) (step_whole s) ∙ h))).0
complete (any_name {ks = ks}) = λ levels place so_far axis r h. (h, test_claim levels place so_far axis Any ks r h)
complete (one_name {name = name} {ks = ks}) = λ levels place so_far axis r h. (h, test_claim levels place so_far axis (Named name) ks r h)
complete no_predicate = λ levels place so_far s r h. h
complete (one_predicate {x = x} {ms = ms} d ds) = λ levels place so_far s r h. complete d levels place so_far s r ms refl (complete ds levels place so_far (with_predicate s x) r h)
complete (at_place {n = n}) = λ levels place so_far s r ns e h. ap (run levels (BehindCount place so_far s n)) e ∙ h
complete (whether {o = o} {ks = ks} d) = λ levels place so_far s r ns e h.
    opens_square levels place so_far s ks (starts d)
    ∙ complete d levels (Square place so_far s) r (subst EndsOr (sym e) tt) (λ level last a b. ap (run (level ∷ levels) (BehindUnit last)) e ∙ (λ i. on ns (inside levels (closed_square (a i) (b i)))) ∙ h)
complete (or_is {o = o} {ms = ms} a more) = λ levels around r n k.
    complete a levels around None r (precedes more n) (λ units last e. complete more levels (record { around = around; alternatives = None; units = units }) last r n (λ level' last' a' b. k level' last' a' (b ∙ ap (λ w. or_with (with_and None w) (out-Or o).rest) e ∙ or_whole o)))
complete no_and = λ levels level last r n k. k level last refl refl
complete (one_and {token = token} {more = further} {ks = ks} e a more) = λ levels level last r n k.
    ap (on ks) (joined_or levels level last token e)
    ∙ complete a levels level.around (Some (alternatives_in level last)) r (precedes more n) (λ units last' e'. complete more levels (record { around = level.around; alternatives = Some (alternatives_in level last); units = units }) last' r n (λ level'' last'' a' b. k level'' last'' a' (b ∙ ap (λ w. or_with (with_and (Some (alternatives_in level last)) w) further) e')))
complete (and_is {a = a} u us) = λ levels around alternatives r n k.
    complete u (record { around = around; alternatives = alternatives; units = None } ∷ levels) r (precedes us n) (complete us levels around alternatives None a.first r n (λ units' last e. k units' last (e ∙ and_whole a)))
complete no_unit = λ levels around alternatives units last r n k. k units last refl
complete (one_unit {token = token} {u = u} {ks = ks} e d us) = λ levels around alternatives units last r n k.
    ap (on ks) (joined_and levels (record { around = around; alternatives = alternatives; units = units }) last token e)
    ∙ complete d (record { around = around; alternatives = alternatives; units = Some (with_unit units last) } ∷ levels) r (precedes us n) (complete us levels around alternatives (Some (with_unit units last)) u r n k)
complete (group {o = o} {ms = ms} d) = λ levels r n h. complete d levels Round r tt (λ level last a b. (λ i. on ms (inside levels (closed_round (a i) (b i)))) ∙ h)
complete (alone {v = v} {ms = ms} e d) = λ levels r n h. complete d levels Left r (unit_value ms n) refl (alone_end levels v ms e n ∙ h)
complete (compared {v = v} {operator = operator} c d l) = λ levels r n h. complete d levels Left r tt refl ((complete l).0 levels v operator r c h)
complete (mirrored {v = v} {operator = operator} {l = l} {ls = ls} {ms = ms} c d e) = λ levels r n h. (complete d).1 levels operator ls refl ∙ complete e levels (Right l operator) r (unit_value ms n) c (mirrored_end levels l operator v ms n ∙ h)
complete (number {n = n}) = (λ levels v operator r c h. h, λ levels operator ns e. ap (run levels (BehindLiteral (Number n))) e)
complete (quote {text = text} {ks = ks}) = (
  λ levels v operator r c h. ap (λ b. on ks (inside levels (if b then None else Some (BehindUnit (Compared v operator (Quoted text)))))) (quoted_fits v text c) ∙ h,
  λ levels operator ns e. ap (run levels (BehindLiteral (Quoted text))) e,
)
complete (nodes {p = p} {ks = ks} {ms = ms} d) = λ levels side r n m h.
    opens_path levels side ks (starts d) ∙ complete d levels (InValue side) r (λ so_far last e. nodes_end levels side so_far last ms n ∙ ap (λ q. run levels (BehindValue side (Nodes q)) ms) e ∙ h)
complete (position {ks = ks}) = λ levels side r n m h. position_claim levels side ks r m h
complete (band {n = n} {ks = ks} {ms = ms} d) = λ levels side r m f h.
    band_claim levels side ks ∙ complete d levels (InBand side) r (λ so_far last e. ap (λ q. run levels (BehindValue side (Band q n)) ms) e ∙ h)

-- the whole path
pub completed : (p : Path) (ks : List Token) → Begins (the_path p) ks [] → run [] (BeforeStep Whole None) ks ≡ Some p
completed p ks d = complete d [] Whole (Some p) (λ so_far last e. ap Some e)
