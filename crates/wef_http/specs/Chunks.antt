-- The body of a message in chunks (RFC 9112, 7.1).
use Rattle.std.specs.Prelude.{◌≡◌, ℕ, ◌+◌, ◌<◌, ◌≤◌, ◌⊎◌, Bool, true, false, List, [], ◌∷◌, ◌++◌, length, take, Some, None}
use Rattle.std.specs.List.{concat}
use Rattle.httparse.specs.Grammar.{ChunkLine, ReadsChunkLine, HasNoChunkLine, NeverHasChunkLine, MayBecomeChunkLine, print_chunk_line, chunk_size}
use Rattle.wef_http_heads.specs.Ends.{behind_empty_line, Start}
use Rattle.wef_http_heads.specs.declared.ends.HttpEnd.{HttpEnd}
use Rattle.wef_http_heads.specs.declared.ends.HttpEnd.TheVariants.{BadHead, TooLarge, Cut}
use Rattle.wef_http_heads.specs.declared.heads.TheConstants.{BODY_LIMIT, HEAD_LIMIT}

-- bytes are malformed, or they end too soon
abbrev pub BadOrCut : Type 0 → Type 0 → HttpEnd → Type 0
BadOrCut Bad Waits BadHead = Bad
BadOrCut Bad Waits Cut = Waits
BadOrCut Bad Waits _ = ⊥

-- Bytes are the line of a chunk of this size, and then a rest. The line has the limit of a head.
abbrev pub ReadsSize : List ℕ → ℕ → List ℕ → Type 0
ReadsSize bytes size rest = (line : ChunkLine) × ReadsChunkLine bytes line rest × (length (print_chunk_line line) ≤ HEAD_LIMIT) × (chunk_size line ≡ size)

-- no line ends within the limit
abbrev pub IsLongLine : List ℕ → Type 0
IsLongLine bytes = (HEAD_LIMIT ≤ length bytes) × HasNoChunkLine (take HEAD_LIMIT bytes)

-- a line may still become of the bytes
abbrev pub IsOpenLine : List ℕ → Type 0
IsOpenLine bytes = (length bytes < HEAD_LIMIT) × HasNoChunkLine bytes × MayBecomeChunkLine bytes

-- Bytes don't begin with the line of a chunk, for this.
abbrev pub RefusesLine : List ℕ → HttpEnd → Type 0
RefusesLine bytes e = BadOrCut (NeverHasChunkLine bytes ⊎ IsLongLine bytes) (IsOpenLine bytes) e

-- CR LF, and then a rest
abbrev pub EndsLine : List ℕ → List ℕ → Type 0
EndsLine bytes rest = bytes ≡ 13 ∷ 10 ∷ rest

-- no continuation of the bytes begins with CR LF
abbrev pub NeverEndsLine : List ℕ → Type 0
NeverEndsLine bytes = (more rest : List ℕ) → EndsLine (bytes ++ more) rest → ⊥

-- the bytes end in front of CR LF or inside of it
abbrev pub IsOpenEnd : List ℕ → Type 0
IsOpenEnd bytes = (bytes ≡ []) ⊎ (bytes ≡ 13 ∷ [])

-- Bytes don't begin with CR LF, for this.
abbrev pub RefusesLineEnd : List ℕ → HttpEnd → Type 0
RefusesLineEnd bytes e = BadOrCut (NeverEndsLine bytes) (IsOpenEnd bytes) e

-- Bytes are a piece and CR LF, and then a rest.
abbrev pub IsPiece : List ℕ → List ℕ → List ℕ → Type 0
IsPiece bytes piece rest = (middle : List ℕ) × (bytes ≡ piece ++ middle) × EndsLine middle rest

-- Bytes don't begin with a piece of a size and CR LF, for this.
abbrev pub RefusesPiece : ℕ → List ℕ → HttpEnd → Type 0
RefusesPiece size bytes e =
    ((e ≡ Cut) × (length bytes < size))
    ⊎ ((piece : List ℕ) × (middle : List ℕ) × (bytes ≡ piece ++ middle) × (length piece ≡ size) × RefusesLineEnd middle e)

-- Bytes are a chunk that isn't the last, and then a rest, where so many bytes of the body stand before.
abbrev pub IsChunk : ℕ → List ℕ → List ℕ → List ℕ → Type 0
IsChunk before bytes piece rest =
    (middle : List ℕ) × ReadsSize bytes (length piece) middle × (0 < length piece) × (before + length piece ≤ BODY_LIMIT) × IsPiece middle piece rest

-- Bytes don't begin with a chunk, for this. That the body gets too large is judged behind the line.
abbrev pub RefusesChunk : ℕ → List ℕ → HttpEnd → Type 0
RefusesChunk before bytes e =
    RefusesLine bytes e
    ⊎ ((size : ℕ) × (middle : List ℕ) × ReadsSize bytes size middle × (e ≡ TooLarge) × (BODY_LIMIT < before + size))
    ⊎ ((size : ℕ) × (middle : List ℕ) × ReadsSize bytes size middle × (0 < size) × (before + size ≤ BODY_LIMIT) × RefusesPiece size middle e)

-- Bytes are these chunks, and then a rest.
abbrev pub AreChunks : ℕ → List (List ℕ) → List ℕ → List ℕ → Type 0
AreChunks before [] bytes rest = rest ≡ bytes
AreChunks before (piece ∷ pieces) bytes rest = (middle : List ℕ) × IsChunk before bytes piece middle × AreChunks (before + length piece) pieces middle rest

-- Bytes are chunks with this body, the last and empty one, and trailers up to an empty line, and then a rest.
abbrev pub IsChunked : List ℕ → List ℕ → List ℕ → Type 0
IsChunked bytes body rest =
    (pieces : List (List ℕ)) × (middle : List ℕ) × (behind : List ℕ)
    × AreChunks 0 pieces bytes middle × (body ≡ concat pieces) × ReadsSize middle 0 behind × (behind_empty_line Start behind ≡ Some rest)

-- Bytes aren't a body in chunks, for this: a chunk is refused, or the trailers are cut.
abbrev pub RefusesChunks : List ℕ → HttpEnd → Type 0
RefusesChunks bytes e =
    (pieces : List (List ℕ)) × (middle : List ℕ) × AreChunks 0 pieces bytes middle
    × (RefusesChunk (length (concat pieces)) middle e
    ⊎ ((behind : List ℕ) × ReadsSize middle 0 behind × (e ≡ Cut) × (behind_empty_line Start behind ≡ None)))

-- Bytes are a chunk that isn't the last, which the body has now behind what it had; or they are the line of the last one.
abbrev pub LastOrMore : List ℕ → List ℕ → List ℕ → List ℕ → Bool → Type 0
LastOrMore before now bytes rest true = (piece : List ℕ) × IsChunk (length before) bytes piece rest × (now ≡ before ++ piece)
LastOrMore before now bytes rest false = ReadsSize bytes 0 rest × (now ≡ before)
