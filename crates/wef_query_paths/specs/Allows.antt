-- Which tokens a path may begin with. It is the grammar once more, as lists of parts and without its trees, so that a rule may be cut:
-- tokens allow a continuation where the rules give them with each rule that is still open at their end cut after some of its parts.
use Rattle.std.specs.Prelude.{◌≡◌, ℕ, Bool, true, false, ◌||◌, List, [], ◌∷◌, ◌++◌, codes}
use Rattle.wef_base.specs.Names.{same}
use Rattle.wef_query_tokens.specs.declared.axis.Axis.{Axis}
use Rattle.wef_query_tokens.specs.declared.axis.Axis.TheVariants.{Child, Attribute}
use Rattle.wef_query_tokens.specs.declared.tokens.Token.{Token}
use Rattle.wef_query_tokens.specs.declared.tokens.Token.TheVariants.{Along, Star, Word, Joint, PositionCall, BandCall, Compare, Figure, Quote, OpenSquare, CloseSquare, OpenRound, CloseRound, Slash, Comma}
use Rattle.wef_query_tokens.specs.Calls.{is_band_call, is_position_call}

-- ---- what a rule asks of one token

-- a name or `*`; `position` and `band` are names too, whatever stands behind them
abbrev pub is_name_test : Token → Bool
is_name_test Star = true
is_name_test (Word name) = true
is_name_test PositionCall = true
is_name_test BandCall = true
is_name_test _ = false

-- the axis of a step
abbrev pub along : Axis → Token → Bool
along Child (Along Child) = true
along Attribute (Along Attribute) = true
along _ _ = false

-- the operators between conditions
abbrev pub joins : List ℕ → Token → Bool
joins operator (Word name) = same name operator
joins operator (Joint name) = same name operator
joins operator _ = false

abbrev pub is_and : Token → Bool
is_and token = joins (codes "and") token

abbrev pub is_or : Token → Bool
is_or token = joins (codes "or") token

-- the literals: a number, or a text in quotes
abbrev pub is_figure : Token → Bool
is_figure (Figure n) = true
is_figure _ = false

abbrev pub is_quote : Token → Bool
is_quote (Quote text) = true
is_quote _ = false

abbrev pub is_literal : Token → Bool
is_literal token = is_figure token || is_quote token

-- an operator between a value and a literal
abbrev pub is_compare : Token → Bool
is_compare (Compare operator) = true
is_compare _ = false

-- such a sign
abbrev pub sign : Token → Token → Bool
sign OpenSquare OpenSquare = true
sign CloseSquare CloseSquare = true
sign OpenRound OpenRound = true
sign CloseRound CloseRound = true
sign Slash Slash = true
sign Comma Comma = true
sign _ _ = false

-- ---- the rules

pub data Rule : Type 0 where
  a_path : Rule
  a_child_step : Rule
  an_attribute_step : Rule
  -- behind a `[`: a predicate and its `]`
  a_predicate : Rule
  an_or : Rule
  an_and : Rule
  a_unit : Rule
  a_value : Rule
  -- a value that is compared with a number, as `position()` may be
  a_numeric_value : Rule
  a_literal : Rule

-- what a rule is made of: a token that passes a test, a rule, { token rule }, [ token rule ]
pub data Part : Type 0 where
  one : (Token → Bool) → Part
  the : Rule → Part
  many : (Token → Bool) → Rule → Part
  maybe : (Token → Bool) → Rule → Part

-- The alternatives of each rule. A step to attributes is the last of its path, but for where loose is true.
pub data Says (loose : Bool) : Rule → List Part → Type 0 where
  -- path := child step [ "/" path ] | attribute step, or behind that too [ "/" path ] where loose is true
  says_child_first : Says loose a_path (the a_child_step ∷ maybe (sign Slash) a_path ∷ [])
  says_attribute_last : loose ≡ false → Says loose a_path (the an_attribute_step ∷ [])
  says_attribute_first : loose ≡ true → Says loose a_path (the an_attribute_step ∷ maybe (sign Slash) a_path ∷ [])
  -- child step := [ "child::" ] ( name | "*" ) { "[" predicate "]" }
  says_child : Says loose a_child_step (one is_name_test ∷ many (sign OpenSquare) a_predicate ∷ [])
  says_along_child : Says loose a_child_step (one (along Child) ∷ one is_name_test ∷ many (sign OpenSquare) a_predicate ∷ [])
  -- attribute step := ( "@" | "attribute::" ) ( name | "*" ) { "[" predicate "]" }
  says_attribute : Says loose an_attribute_step (one (along Attribute) ∷ one is_name_test ∷ many (sign OpenSquare) a_predicate ∷ [])
  -- predicate := number | or
  says_place : Says loose a_predicate (one is_figure ∷ one (sign CloseSquare) ∷ [])
  says_condition : Says loose a_predicate (the an_or ∷ one (sign CloseSquare) ∷ [])
  -- or := and { "or" and }
  says_or : Says loose an_or (the an_and ∷ many is_or an_and ∷ [])
  -- and := unit { "and" unit }
  says_and : Says loose an_and (the a_unit ∷ many is_and a_unit ∷ [])
  -- unit := "(" or ")" | value [ operator literal ] | literal operator value, and `position()` only with an operator and a number
  says_group : Says loose a_unit (one (sign OpenRound) ∷ the an_or ∷ one (sign CloseRound) ∷ [])
  says_value : Says loose a_unit (the a_value ∷ maybe is_compare a_literal ∷ [])
  says_position : Says loose a_unit (one is_position_call ∷ one (sign OpenRound) ∷ one (sign CloseRound) ∷ one is_compare ∷ one is_figure ∷ [])
  says_behind_text : Says loose a_unit (one is_quote ∷ one is_compare ∷ the a_value ∷ [])
  says_behind_number : Says loose a_unit (one is_figure ∷ one is_compare ∷ the a_numeric_value ∷ [])
  -- value := path | "band" "(" path "," number ")"
  says_nodes : Says loose a_value (the a_path ∷ [])
  says_band : Says loose a_value (one is_band_call ∷ one (sign OpenRound) ∷ the a_path ∷ one (sign Comma) ∷ one is_figure ∷ one (sign CloseRound) ∷ [])
  says_numeric : Says loose a_numeric_value (the a_value ∷ [])
  says_numeric_position : Says loose a_numeric_value (one is_position_call ∷ one (sign OpenRound) ∷ one (sign CloseRound) ∷ [])
  says_literal : Says loose a_literal (one is_literal ∷ [])

-- These parts give these tokens, all of them and no more. Where cut is true the tokens may end anywhere, and what would come is cut.
pub data Gives (loose cut : Bool) : List Part → List Token → Type 0 where
  done : Gives loose cut [] []
  stop : {parts : List Part} → cut ≡ true → Gives loose cut parts []
  takes : {test : Token → Bool} {parts : List Part} {k : Token} {ks : List Token} → test k ≡ true → Gives loose cut parts ks → Gives loose cut (one test ∷ parts) (k ∷ ks)
  opens : {rule : Rule} {body parts : List Part} {ks : List Token} → Says loose rule body → Gives loose cut (body ++ parts) ks → Gives loose cut (the rule ∷ parts) ks
  ends : {test : Token → Bool} {rule : Rule} {parts : List Part} {ks : List Token} → Gives loose cut parts ks → Gives loose cut (many test rule ∷ parts) ks
  again : {test : Token → Bool} {rule : Rule} {parts : List Part} {k : Token} {ks : List Token} → test k ≡ true → Gives loose cut (the rule ∷ many test rule ∷ parts) ks → Gives loose cut (many test rule ∷ parts) (k ∷ ks)
  skips : {test : Token → Bool} {rule : Rule} {parts : List Part} {ks : List Token} → Gives loose cut parts ks → Gives loose cut (maybe test rule ∷ parts) ks
  goes_on : {test : Token → Bool} {rule : Rule} {parts : List Part} {k : Token} {ks : List Token} → test k ≡ true → Gives loose cut (the rule ∷ parts) ks → Gives loose cut (maybe test rule ∷ parts) (k ∷ ks)

-- tokens that are a path
abbrev pub IsPath : List Token → Type 0
IsPath ks = Gives false false (the a_path ∷ []) ks

-- tokens that allow a continuation
abbrev pub Allows : List Token → Type 0
Allows ks = Gives false true (the a_path ∷ []) ks

-- tokens that would allow one if paths went on behind steps to attributes
abbrev pub AllowsLoosely : List Token → Type 0
AllowsLoosely ks = Gives true true (the a_path ∷ []) ks

-- ---- where a path begins

-- whether tokens end with a `/` or an axis, so that a step is to come and no path
abbrev pub ends_in_path : List Token → Bool
ends_in_path [] = false
ends_in_path (Slash ∷ []) = true
ends_in_path (Along axis ∷ []) = true
ends_in_path (k ∷ ks) = ends_in_path ks

-- A path may begin behind these tokens: a step may come, and none of the same path stands before it.
pub record AllowsPath (front : List Token) : Type 0 where
  pub step : Allows (front ++ Star ∷ [])
  pub first : ends_in_path front ≡ false

-- A further step may not come behind these tokens just because the last was one to attributes.
pub record EndsInAttribute (front : List Token) : Type 0 where
  pub loosely : AllowsLoosely (front ++ Slash ∷ [])
  pub strictly : Allows (front ++ Slash ∷ []) → ⊥
