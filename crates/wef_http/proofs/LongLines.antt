-- The line of a chunk has something, and one that is too long stays so.
use Rattle.std.proofs.Common.{ℕ, ◌<◌, ◌≤◌, List, ◌++◌, length, take, drop, sym, ap, subst, arith, length-append}
use Rattle.std.proofs.lemmas.List.{length-take, take-append-drop, take-append-le}
use Rattle.httparse.specs.Grammar.{ChunkLine, IsChunkLine, ReadsChunkLine, HasNoChunkLine, print_chunk_line}
use Rattle.httparse.specs.Spans.{IsChunkLineAt}
use Rattle.httparse.proofs.ChunkLemmas.{ReadsChunkLine-append, chunk_line_unique}
use Rattle.wef_http_heads.specs.declared.heads.TheConstants.{HEAD_LIMIT}
use Rattle.wef_http.specs.Chunks.{IsLongLine, ReadsSize}

digits_first : (digits pad extension end : List ℕ) → 0 < length digits → 0 < length (digits ++ pad ++ extension ++ end)
digits_first digits pad extension end some =
    omega (arith, length-append (digits ++ pad ++ extension) end, length-append (digits ++ pad) extension, length-append digits pad)

-- a line has at least its digits
pub some_line : (line : ChunkLine) → IsChunkLine line → 0 < length (print_chunk_line line)
unfolding print_chunk_line
some_line line good = digits_first line.digits line.pad _ _ good.digits.0

-- a line that is read in a front of the bytes is read in all of them
in_all : (n : ℕ) (bytes rest : List ℕ) (line : ChunkLine) → ReadsChunkLine (take n bytes) line rest → ReadsChunkLine bytes line (rest ++ drop n bytes)
in_all n bytes rest line reads =
    subst (λ (all : List ℕ). ReadsChunkLine all line (rest ++ drop n bytes)) (take-append-drop n bytes) (ReadsChunkLine-append (take n bytes) line rest (drop n bytes) reads)

short_line : (n : ℕ) (bytes rest : List ℕ) (line : ChunkLine) → ReadsChunkLine (take n bytes) line rest → length (print_chunk_line line) ≤ n
short_line n bytes rest line reads =
    omega (arith, ap length reads.1, length-append (print_chunk_line line) rest, length-take n bytes)

-- a line past the limit is the only one
pub long_line : (bytes : List ℕ) (len size : ℕ) (line : ChunkLine) → IsChunkLineAt bytes len size line → HEAD_LIMIT < len → (more : List ℕ) → IsLongLine (bytes ++ more)
long_line bytes len size line at long more =
    let all = bytes ++ more in
    let found = ReadsChunkLine-append bytes line (drop len bytes) more at.reads in (
      omega (arith, at.len_is, long, ap length at.reads.1, length-append (print_chunk_line line) (drop len bytes), length-append bytes more),
      λ other rest reads.
          let same = chunk_line_unique all line other _ _ found (in_all HEAD_LIMIT all rest other reads) in
          absurd (omega (arith, at.len_is, long, ap (λ l. length (print_chunk_line l)) same.0, short_line HEAD_LIMIT all rest other reads)),
    )

-- bytes past the limit that have no line yet have none within it
pub no_line : (bytes : List ℕ) → HasNoChunkLine bytes → HEAD_LIMIT ≤ length bytes → (more : List ℕ) → IsLongLine (bytes ++ more)
no_line bytes none long more = (
  omega (arith, long, length-append bytes more),
  λ line rest reads.
      none line _ (in_all HEAD_LIMIT bytes rest line (subst (λ (front : List ℕ). ReadsChunkLine front line rest) (take-append-le HEAD_LIMIT bytes more long) reads)),
)

-- a line that is found is there whatever follows
pub size_found : (bytes : List ℕ) (len size : ℕ) (line : ChunkLine) → IsChunkLineAt bytes len size line → len ≤ HEAD_LIMIT
    → (0 < len) × (len ≤ length bytes) × Unit {0} × ((more : List ℕ) → ReadsSize (bytes ++ more) size (drop len bytes ++ more))
size_found bytes len size line at short = (
  omega (arith, at.len_is, some_line line at.reads.0),
  omega (arith, at.len_is, ap length at.reads.1, length-append (print_chunk_line line) (drop len bytes)),
  tt,
  λ more. (line, ReadsChunkLine-append bytes line (drop len bytes) more at.reads, omega (arith, at.len_is, short), sym at.size_is),
)
