-- What is wrong with a text that says no path, and where: at its first token that no path goes on with.
use Rattle.std.specs.Prelude.{◌≡◌, ℕ, Bool, true, false, ◌||◌, ◌==◌, ◌⊎◌, List, [], ◌∷◌, ◌++◌, length, encode_utf8_all, Option, Some, None}
use Rattle.std.specs.Str.{chars}
use Rattle.wef_base.specs.Characters.{is_within}
use Rattle.wef_base.specs.Names.{without_start}
use Rattle.wef_query_tokens.specs.declared.tokens.Token.{Token}
use Rattle.wef_query_tokens.specs.declared.tokens.Token.TheVariants.{Joint, Slash}
use Rattle.wef_query_tokens.specs.Tokens.{is_name_start, token_at}
use Rattle.wef_query_paths.specs.declared.faults.FaultKind.{FaultKind}
use Rattle.wef_query_paths.specs.declared.faults.FaultKind.TheVariants.{Bad, Unsupported as Foreign, Deep}
use Rattle.wef_query_paths.specs.declared.faults.PathFault.{PathFault}
use Rattle.wef_query_paths.specs.declared.faults.PathFault.TheVariants.{NoMemory, BadPath, Unsupported, TooDeep}
use Rattle.wef_query_paths.specs.Allows.{Allows, AllowsPath, EndsInAttribute, IsPath}
use Rattle.wef_query_paths.specs.Grammar.{is_shallow}

-- A text that begins with no space begins with these tokens, and this is left of it behind them and their spaces.
pub data Splits : List ℕ → List Token → List ℕ → Type 0 where
  before_all : {text : List ℕ} → Splits text [] text
  behind : {text rest left : List ℕ} {token : Token} {tokens : List Token} → token_at text ≡ Some (token, rest) → Splits (without_start rest) tokens left → Splits text (token ∷ tokens) left

-- ---- what may not come

-- No path goes on with what stands behind these tokens: no token begins there, or one that allows no continuation or opens
-- a bracket too many.
abbrev pub Refuses : List Token → Option (Token × List ℕ) → Type 0
Refuses front None = Unit {0}
Refuses front (Some read) = Allows (front ++ read.0 ∷ []) → is_shallow 0 (front ++ read.0 ∷ []) ≡ true → ⊥

-- A text stops behind these tokens: they allow a continuation, and no path goes on with what is left, or ends where nothing is.
pub record Stops (text : List ℕ) (front : List Token) (left : List ℕ) : Type 0 where
  pub splits : Splits text front left
  pub allowed : Allows front
  pub shallow : is_shallow 0 front ≡ true
  pub refused : Refuses front (token_at left)
  pub unfinished : left ≡ [] → IsPath front → ⊥

-- ---- what it is

-- the token opens a bracket where 32 are open
abbrev pub OpensTooMany : List Token → Option (Token × List ℕ) → Type 0
OpensTooMany front None = ⊥
OpensTooMany front (Some read) = is_shallow 0 (front ++ read.0 ∷ []) ≡ false

-- A sign with which tokens of XPath begin that paths of event queries lack: `.` and `..`, `+`, `-`, `|`, `$`, and `/`, which
-- where it is no token begins `//`.
abbrev pub is_foreign_sign : ℕ → Bool
is_foreign_sign c = c == 46 || c == 47 || c == 43 || c == 45 || c == 124 || c == 36

-- What XPath has and these paths lack, where no token begins, begins as a name, as a number or with such a sign. A name that
-- is no token stands before `(` and isn't a function's, before a single `:`, or before `::` and isn't an axis; a number that
-- is no token has a fraction, or is too great.
abbrev pub is_foreign_start : ℕ → Bool
is_foreign_start c = is_name_start c || is_within 48 57 c || is_foreign_sign c

-- the same of a text
abbrev pub is_foreign : List ℕ → Bool
is_foreign [] = false
is_foreign (c ∷ cs) = is_foreign_start c

-- A token that can't follow is unsupported if it is `and` or `or` before `(` or `:`, the name of no function and no axis; or a
-- `/` where a path may begin, or behind a step to attributes.
abbrev pub IsForeign : List Token → Token → Type 0
IsForeign front (Joint name) = Unit {0}
IsForeign front Slash = AllowsPath front ⊎ EndsInAttribute front
IsForeign front _ = ⊥

-- what stands behind tokens isn't supported
abbrev pub IsUnsupported : List Token → List ℕ → Option (Token × List ℕ) → Type 0
IsUnsupported front left None = is_foreign left ≡ true
IsUnsupported front left (Some read) = IsForeign front read.0

-- what is wrong with what stands behind tokens, the bracket too many first
abbrev pub HasKind : FaultKind → List Token → List ℕ → Option (Token × List ℕ) → Type 0
HasKind Deep front left read = OpensTooMany front read
HasKind Foreign front left read = (OpensTooMany front read → ⊥) × IsUnsupported front left read
HasKind Bad front left read = (OpensTooMany front read → ⊥) × (IsUnsupported front left read → ⊥)

-- ---- where it is

-- A text has a fault of this kind in front of the byte at this place.
pub record FaultAt (text : List ℕ) (kind : FaultKind) (at : ℕ) : Type 0 where
  pub front : List Token
  pub before : List ℕ
  pub left : List ℕ
  pub characters : chars text ≡ before ++ left
  pub place : at ≡ length (encode_utf8_all before)
  pub stops : Stops (without_start (chars text)) front left
  pub kind_is : HasKind kind front left (token_at left)

-- the fault of a text; want of memory is none
abbrev pub HasFault : List ℕ → PathFault → Type 0
HasFault text NoMemory = ⊥
HasFault text (BadPath at) = FaultAt text Bad at
HasFault text (Unsupported at) = FaultAt text Foreign at
HasFault text (TooDeep at) = FaultAt text Deep at

-- what a reader may tell of a text that says no path: its fault, or want of memory
abbrev pub IsFault : List ℕ → PathFault → Type 0
IsFault text NoMemory = Unit {0}
IsFault text fault = HasFault text fault
