-- The grammar of a query's path, a rule a line: which tokens say which tree.
use Rattle.std.specs.Prelude.{◌≡◌, ℕ, Bool, true, false, List, [], ◌∷◌, codes, Some, None}
use Rattle.std.specs.Str.{chars}
use Rattle.wef_query_tokens.specs.declared.axis.Axis.{Axis}
use Rattle.wef_query_tokens.specs.declared.axis.Axis.TheVariants.{Child}
use Rattle.wef_query_tokens.specs.declared.operator.Operator.{Operator}
use Rattle.wef_query_tokens.specs.declared.tokens.Token.{Token}
use Rattle.wef_query_tokens.specs.declared.tokens.Token.TheVariants.{Along, Star, Word, Joint, PositionCall, BandCall, Compare, Figure, Quote, OpenSquare, CloseSquare, OpenRound, CloseRound, Slash, Comma}
use Rattle.wef_query_tokens.specs.Steps.{goes_to_children}
use Rattle.wef_query_tokens.specs.Tokens.{tokens_of}
use Rattle.wef_query_paths.specs.declared.path.And.{And}
use Rattle.wef_query_paths.specs.declared.path.Literal.{Literal}
use Rattle.wef_query_paths.specs.declared.path.Literal.TheVariants.{Number, Quoted}
use Rattle.wef_query_paths.specs.declared.path.NameTest.{NameTest}
use Rattle.wef_query_paths.specs.declared.path.NameTest.TheVariants.{Any, Named}
use Rattle.wef_query_paths.specs.declared.path.Or.{Or, out-Or}
use Rattle.wef_query_paths.specs.declared.path.Path.{Path, out-Path}
use Rattle.wef_query_paths.specs.declared.path.Predicate.{Predicate}
use Rattle.wef_query_paths.specs.declared.path.Predicate.TheVariants.{At, Whether}
use Rattle.wef_query_paths.specs.declared.path.Step.{Step}
use Rattle.wef_query_paths.specs.declared.path.Unit as unit
use Rattle.wef_query_paths.specs.declared.path.Unit.TheVariants.{Group, Alone, Compared, Mirrored}
use Rattle.wef_query_paths.specs.declared.path.Value.{Value}
use Rattle.wef_query_paths.specs.declared.path.Value.TheVariants.{Nodes, Position, Band}
use Rattle.wef_query_paths.specs.Reading.{depth_behind}
use Rattle.wef_query_paths.specs.Turns.{is_position}

-- a part of a path that a rule speaks of; lists are those of what a rule repeats
pub data Part : Type 0 where
  the_path : Path → Part
  the_steps : Axis → List Step → Part
  the_step : Step → Part
  the_test : NameTest → Part
  the_predicates : List Predicate → Part
  the_predicate : Predicate → Part
  the_or : Or → Part
  the_ands : List And → Part
  the_and : And → Part
  the_units : List unit.Unit → Part
  the_unit : unit.Unit → Part
  the_value : Value → Part
  the_literal : Literal → Part

-- whether a value may be compared with a literal: `position()` only with a number
abbrev pub may_compare : Value → Literal → Bool
may_compare Position (Quoted text) = false
may_compare _ _ = true

-- a token that may be the operator of this name, between conditions
abbrev pub Joins : Token → List ℕ → Type 0
Joins (Word name) operator = name ≡ operator
Joins (Joint name) operator = name ≡ operator
Joins _ operator = ⊥

-- Tokens begin with a part, and these are left.
pub data Begins : Part → List Token → List Token → Type 0 where
  -- path := step { "/" step }; an attribute step is the last
  path_is : {p : Path} {ks ms ns : List Token} → Begins (the_step (out-Path p).first) ks ms → Begins (the_steps (out-Path p).first.axis (out-Path p).rest) ms ns → Begins (the_path p) ks ns
  no_step : {axis : Axis} {ks : List Token} → Begins (the_steps axis []) ks ks
  one_step : {axis : Axis} {s : Step} {ss : List Step} {ks ms ns : List Token} → goes_to_children axis ≡ true → Begins (the_step s) ks ms → Begins (the_steps s.axis ss) ms ns → Begins (the_steps axis (s ∷ ss)) (Slash ∷ ks) ns
  -- step := [ axis ] ( name | "*" ) { "[" predicate "]" }; without an axis it goes to children
  child_step : {s : Step} {ks ms ns : List Token} → s.axis ≡ Child → Begins (the_test s.test) ks ms → Begins (the_predicates s.predicates) ms ns → Begins (the_step s) ks ns
  axis_step : {s : Step} {axis : Axis} {ks ms ns : List Token} → s.axis ≡ axis → Begins (the_test s.test) ks ms → Begins (the_predicates s.predicates) ms ns → Begins (the_step s) (Along axis ∷ ks) ns
  any_name : {ks : List Token} → Begins (the_test Any) (Star ∷ ks) ks
  one_name : {name : List ℕ} {ks : List Token} → Begins (the_test (Named name)) (Word name ∷ ks) ks
  no_predicate : {ks : List Token} → Begins (the_predicates []) ks ks
  one_predicate : {x : Predicate} {xs : List Predicate} {ks ms ns : List Token} → Begins (the_predicate x) ks (CloseSquare ∷ ms) → Begins (the_predicates xs) ms ns → Begins (the_predicates (x ∷ xs)) (OpenSquare ∷ ks) ns
  -- predicate := number | or
  at_place : {n : ℕ} {ks : List Token} → Begins (the_predicate (At n)) (Figure n ∷ ks) ks
  whether : {o : Or} {ks ms : List Token} → Begins (the_or o) ks ms → Begins (the_predicate (Whether o)) ks ms
  -- or := and { "or" and }
  or_is : {o : Or} {ks ms ns : List Token} → Begins (the_and (out-Or o).first) ks ms → Begins (the_ands (out-Or o).rest) ms ns → Begins (the_or o) ks ns
  no_and : {ks : List Token} → Begins (the_ands []) ks ks
  one_and : {token : Token} {a : And} {more : List And} {ks ms ns : List Token} → Joins token (codes "or") → Begins (the_and a) ks ms → Begins (the_ands more) ms ns → Begins (the_ands (a ∷ more)) (token ∷ ks) ns
  -- and := unit { "and" unit }
  and_is : {a : And} {ks ms ns : List Token} → Begins (the_unit a.first) ks ms → Begins (the_units a.rest) ms ns → Begins (the_and a) ks ns
  no_unit : {ks : List Token} → Begins (the_units []) ks ks
  one_unit : {token : Token} {u : unit.Unit} {us : List unit.Unit} {ks ms ns : List Token} → Joins token (codes "and") → Begins (the_unit u) ks ms → Begins (the_units us) ms ns → Begins (the_units (u ∷ us)) (token ∷ ks) ns
  -- unit := "(" or ")" | value [ operator literal ] | literal operator value
  group : {o : Or} {ks ms : List Token} → Begins (the_or o) ks (CloseRound ∷ ms) → Begins (the_unit (Group o)) (OpenRound ∷ ks) ms
  alone : {v : Value} {ks ms : List Token} → is_position v ≡ false → Begins (the_value v) ks ms → Begins (the_unit (Alone v)) ks ms
  compared : {v : Value} {operator : Operator} {l : Literal} {ks ls ms : List Token} → may_compare v l ≡ true → Begins (the_value v) ks (Compare operator ∷ ls) → Begins (the_literal l) ls ms → Begins (the_unit (Compared v operator l)) ks ms
  mirrored : {v : Value} {operator : Operator} {l : Literal} {ks ls ms : List Token} → may_compare v l ≡ true → Begins (the_literal l) ks (Compare operator ∷ ls) → Begins (the_value v) ls ms → Begins (the_unit (Mirrored l operator v)) ks ms
  number : {n : ℕ} {ks : List Token} → Begins (the_literal (Number n)) (Figure n ∷ ks) ks
  quote : {text : List ℕ} {ks : List Token} → Begins (the_literal (Quoted text)) (Quote text ∷ ks) ks
  -- value := path | "position" "(" ")" | "band" "(" path "," number ")"
  nodes : {p : Path} {ks ms : List Token} → Begins (the_path p) ks ms → Begins (the_value (Nodes p)) ks ms
  position : {ks : List Token} → Begins (the_value Position) (PositionCall ∷ OpenRound ∷ CloseRound ∷ ks) ks
  band : {p : Path} {n : ℕ} {ks ms : List Token} → Begins (the_path p) ks (Comma ∷ Figure n ∷ CloseRound ∷ ms) → Begins (the_value (Band p n)) (BandCall ∷ OpenRound ∷ ks) ms

-- never more than 32 brackets are open, where so many are before the tokens
abbrev pub is_shallow : ℕ → List Token → Bool
is_shallow depth [] = true
is_shallow depth (token ∷ tokens) = elim (depth_behind depth token) as (λ _. Bool) [ None ↦ false | Some deeper ↦ is_shallow deeper tokens ]

-- A text says a path: its tokens are that path and nothing more.
pub record Says (text : List ℕ) (p : Path) : Type 0 where
  pub tokens : List Token
  pub are : tokens_of (chars text) ≡ Some tokens
  pub say : Begins (the_path p) tokens []
  pub shallow : is_shallow 0 tokens ≡ true
