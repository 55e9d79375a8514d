-- Where reading a path stops, and why: the same as the path that is read, with what is left of the text where there is none.
use Rattle.std.specs.Prelude.{◌≡◌, ℕ, zero, suc, ◌-◌, ◌<◌, nat_lt, Bool, ◌||◌, List, [], ◌∷◌, length, take, encode_utf8_all, Option, Some, None, Result, if◌then◌else◌}
use Rattle.std.specs.Borrow.{Bor}
use Rattle.std.specs.Str.{chars}
use Rattle.std.specs.declared.result.Result.TheVariants.{Ok, Err}
use Rattle.wef_base.specs.Names.{without_start}
use Rattle.wef_query_tokens.specs.declared.halt.Halt.{Halt}
use Rattle.wef_query_tokens.specs.declared.halt.Halt.TheVariants as halts
use Rattle.wef_query_tokens.specs.declared.tokens.Token.{Token}
use Rattle.wef_query_tokens.specs.declared.tokens.Token.TheVariants.{Joint, OpenSquare, OpenRound, Slash}
use Rattle.wef_query_tokens.specs.Tokens.{token_at}
use Rattle.wef_query_paths.specs.declared.faults.Failure.{Failure}
use Rattle.wef_query_paths.specs.declared.faults.Failure.TheVariants as failures
use Rattle.wef_query_paths.specs.declared.faults.FaultKind.{FaultKind}
use Rattle.wef_query_paths.specs.declared.faults.FaultKind.TheVariants.{Bad, Unsupported as Foreign, Deep}
use Rattle.wef_query_paths.specs.declared.faults.PathFault.{PathFault}
use Rattle.wef_query_paths.specs.declared.faults.PathFault.TheVariants.{BadPath, Unsupported, TooDeep}
use Rattle.wef_query_paths.specs.declared.faults.Stop.{Stop}
use Rattle.wef_query_paths.specs.declared.path.Path.{Path}
use Rattle.wef_query_paths.specs.declared.reading.Reader.{Reader}
use Rattle.wef_query_paths.specs.Faults.{is_foreign}
use Rattle.wef_query_paths.specs.Fronts.{begins_path, is_behind_attribute, is_named_call}
use Rattle.wef_query_paths.specs.Reading.{greatest_depth, start, taken}
use Rattle.wef_query_paths.specs.Reads.{ReadsOn}
use Rattle.wef_query_paths.specs.Turns.{finished}

-- ---- what is wrong

-- what is no path, as it is supported or not
abbrev pub kind_where : Bool → FaultKind
kind_where is_foreign = if is_foreign then Foreign else Bad

-- where no token begins
abbrev pub kind_at : List ℕ → FaultKind
kind_at text = kind_where (is_foreign text)

-- why reading failed where a token wasn't there or wasn't taken
abbrev pub failure_of : Halt → Stop → Failure
failure_of halts.NoMemory s = failures.NoMemory
failure_of halts.Refused s = failures.Stopped s

-- with so many characters left
abbrev pub stop : FaultKind → ℕ → Stop
stop kind left = record { kind = kind; left = left }

-- at a bracket, where so many are open
abbrev pub bracket_stop : ℕ → ℕ → Stop
bracket_stop depth left = stop (if nat_lt depth greatest_depth then Bad else Deep) left

-- At a token that can't follow what is read: how many characters are left from the token on, and how many behind it. A
-- function's name may be a step's; then it is its bracket that can't follow.
abbrev pub stop_at : Reader → Token → ℕ → ℕ → Stop
stop_at r OpenSquare left behind = bracket_stop r.depth left
stop_at r OpenRound left behind = bracket_stop r.depth left
stop_at r (Joint name) left behind = stop Foreign left
stop_at r Slash left behind = stop (kind_where (begins_path r.next || is_behind_attribute r.next)) left
stop_at r token left behind = if is_named_call r.next token then bracket_stop r.depth behind else stop Bad left

-- ---- reading on

-- behind a token, where it was taken
abbrev pub on_taken : (List ℕ → Reader → Result Path Stop) → Stop → List ℕ → Option Reader → Result Path Stop
on_taken more refusal behind None = Err refusal
on_taken more refusal behind (Some longer) = more behind longer

-- at what a text begins with
abbrev pub on_read : (List ℕ → Reader → Result Path Stop) → Reader → List ℕ → Option (Token × List ℕ) → Result Path Stop
on_read more r text None = Err (stop (kind_at text) (length text))
on_read more r text (Some read) = on_taken more (stop_at r read.0 (length text) (length (without_start read.1))) (without_start read.1) (taken r read.0)

-- where the text ends
abbrev pub at_end : Option Path → Result Path Stop
at_end None = Err (stop Bad 0)
at_end (Some path) = Ok path

-- the path of all that is read and a text behind it that begins with no space, where its tokens are at most so many
abbrev pub path_within : ℕ → List ℕ → Reader → Result Path Stop
path_within n [] r = at_end (finished r.levels r.next)
path_within zero (c ∷ cs) r = Err (stop Bad (length (c ∷ cs)))
path_within (suc n) (c ∷ cs) r = on_read (λ behind longer. path_within n behind longer) r (c ∷ cs) (token_at (c ∷ cs))

-- the same; each token has a character or more
abbrev pub path_from : List ℕ → Reader → Result Path Stop
path_from text r = path_within (length text) text r

-- One token is taken, and what is left is shorter; or reading stops there.
abbrev pub GoesOn : Reader → List ℕ → Result (Reader × Bor (List ℕ)) Failure → Type 0
GoesOn r text (Ok read) = (path_from text r ≡ path_from read.1.now read.0) × (length read.1.now < length text)
GoesOn r text (Err failure) = ReadsOn {A = Path} (Err failure) (path_from text r)

-- ---- places

-- how many bytes stand before the last so many characters
abbrev pub place : List ℕ → ℕ → ℕ
place characters left = length (encode_utf8_all (take (length characters - left) characters))

-- a fault of this kind at this byte
abbrev pub fault_at : FaultKind → ℕ → PathFault
fault_at Bad at = BadPath at
fault_at Foreign at = Unsupported at
fault_at Deep at = TooDeep at

-- what is read of these characters, with the place in bytes
abbrev pub placed : List ℕ → Result Path Stop → Result Path PathFault
placed characters (Ok path) = Ok path
placed characters (Err s) = Err (fault_at s.kind (place characters s.left))

-- the path that a text says, or its fault
unfoldable pub path_or_fault : List ℕ → Result Path PathFault
path_or_fault text = placed (chars text) (path_from (without_start (chars text)) start)
