-- Laws of reading a path.
use Rattle.std.specs.Prelude.{◌≡◌, ℕ, List, [], ◌++◌, Some, ◌↔◌, None, MatchResult}
use Rattle.std.specs.Str.{chars}
use Rattle.wef_query_tokens.specs.declared.tokens.Token.{Token}
use Rattle.wef_query_tokens.specs.Tokens.{tokens_of}
use Rattle.wef_query_paths.specs.declared.path.Path.{Path}
use Rattle.wef_query_paths.specs.Allows.{Allows, IsPath}
use Rattle.wef_query_paths.specs.Grammar.{Begins, Says, the_path}
use Rattle.wef_query_paths.specs.Faults.{FaultAt, HasFault}
use Rattle.wef_query_paths.specs.Paths.{path_of}
use Rattle.wef_query_paths.specs.Stops.{path_or_fault}
use Rattle.wef_query_paths.specs.declared.faults.FaultKind.{FaultKind}

-- The path that the function gives is the one that the text says by the grammar.
abbrev pub IsSaid : Type 0
IsSaid = (text : List ℕ) (p : Path) → Says text p ↔ (path_of text ≡ Some p)

-- One list of tokens has one tree.
abbrev pub IsOnlyOne : Type 0
IsOnlyOne = (tokens : List Token) (p q : Path) → Begins (the_path p) tokens [] → Begins (the_path q) tokens [] → p ≡ q

-- Of a text's tokens, the grammar that may be cut says the same as the one with trees where nothing is cut.
abbrev pub IsSameGrammar : Type 0
IsSameGrammar = (text : List ℕ) (tokens : List Token) → tokens_of (chars text) ≡ Some tokens → IsPath tokens ↔ ((p : Path) × Begins (the_path p) tokens [])

-- What a path begins with allows a continuation.
abbrev pub IsAllowedInFront : Type 0
IsAllowedInFront = (front rest : List Token) → IsPath (front ++ rest) → Allows front

-- A text says the path that is given, or no path and has the fault that is given.
abbrev pub HasPathOrFault : Type 0
HasPathOrFault = (text : List ℕ) → MatchResult (path_or_fault text) (λ path. path_of text ≡ Some path) (λ fault. (path_of text ≡ None) × HasFault text fault)

-- A text has no two faults.
abbrev pub HasOneFault : Type 0
HasOneFault = (text : List ℕ) (one other : FaultKind) (here there : ℕ) → FaultAt text one here → FaultAt text other there → (one ≡ other) × (here ≡ there)

-- A text that says a path has no fault.
abbrev pub HasNoFault : Type 0
HasNoFault = (text : List ℕ) (p : Path) (kind : FaultKind) (at : ℕ) → path_of text ≡ Some p → FaultAt text kind at → ⊥
