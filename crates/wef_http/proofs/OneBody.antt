-- One body at most, and no refusal beside it.
use Rattle.std.proofs.Common.{◌≡◌, ℕ, ◌+◌, ◌-◌, ◌<◌, ◌≤◌, ◌⊎◌, List, [], ◌∷◌, ◌++◌, length, take, drop, refl, sym, ap, ◌∙◌, subst, arith, length-append, append-nil, inl, inr, Some, None}
use Rattle.std.proofs.Math.Seq.{drop-append_seam, take-append-add, take-append_seam}
use Rattle.std.specs.List.{concat}
use Rattle.httparse.specs.Grammar.{ChunkLine, NeverHasChunkLine, ReadsChunkLine, chunk_size, print_chunk_line}
use Rattle.httparse.proofs.ChunkLemmas.{chunk_line_unique}
use Rattle.wef_http_heads.specs.Ends.{behind_empty_line, Start}
use Rattle.wef_http_heads.specs.declared.ends.HttpEnd.{HttpEnd}
use Rattle.wef_http_heads.specs.declared.ends.HttpEnd.TheVariants.{Cut}
use Rattle.wef_http_heads.specs.declared.heads.TheConstants.{BODY_LIMIT, HEAD_LIMIT}
use Rattle.wef_http_heads.specs.declared.plans.Framing as framing
use Rattle.wef_http_heads.specs.declared.plans.Framing.TheVariants.{Length, Chunks}
use Rattle.wef_http.specs.Bodies.{IsBody, RefusesBody}
use Rattle.wef_http.specs.Chunks.{AreChunks, EndsLine, IsChunk, IsLongLine, IsOpenEnd, IsPiece, ReadsSize, RefusesChunk, RefusesLine, RefusesLineEnd, RefusesPiece}
use Rattle.wef_http.proofs.BadParts.{neither}

-- ---- fronts of a length

front_is : (bytes front rest : List ℕ) → bytes ≡ front ++ rest → (take (length front) bytes ≡ front) × (drop (length front) bytes ≡ rest)
front_is bytes front rest parts = (
  ap (take (length front)) parts ∙ take-append_seam front rest,
  ap (drop (length front)) parts ∙ drop-append_seam front rest,
)

pub one_front : (bytes front other rest behind : List ℕ) → bytes ≡ front ++ rest → bytes ≡ other ++ behind → length front ≡ length other → (front ≡ other) × (rest ≡ behind)
one_front bytes front other rest behind parts others size =
    let here = front_is bytes front rest parts in
    let there = front_is bytes other behind others in (
      sym here.0 ∙ ap (λ (n : ℕ). take n bytes) size ∙ there.0,
      sym here.1 ∙ ap (λ (n : ℕ). drop n bytes) size ∙ there.1,
    )

pub no_shorter : (bytes front rest : List ℕ) → bytes ≡ front ++ rest → length bytes < length front → ⊥
no_shorter bytes front rest parts short = omega (arith, short, ap length parts, length-append front rest)

-- ---- the line of a chunk

pub one_size : (bytes : List ℕ) (n m : ℕ) (r s : List ℕ) → ReadsSize bytes n r → ReadsSize bytes m s → (n ≡ m) × (r ≡ s)
one_size bytes n m r s (line, reads, short, size) (other, others, shorter, sizes) =
    let same = chunk_line_unique bytes line other r s reads others in
    (sym size ∙ ap chunk_size same.0 ∙ sizes, same.1)

in_front : (n : ℕ) (bytes rest : List ℕ) (line : ChunkLine) → ReadsChunkLine bytes line rest → length (print_chunk_line line) ≤ n → ReadsChunkLine (take n bytes) line (take (n - length (print_chunk_line line)) rest)
in_front n bytes rest line reads within =
    let text = print_chunk_line line in
    let size : n ≡ length text + (n - length text) = omega arith in
    (reads.0, ap (take n) reads.1 ∙ ap (λ (k : ℕ). take k (text ++ rest)) size ∙ take-append-add text rest (n - length text))

pub size_stands : (bytes : List ℕ) (n : ℕ) (r : List ℕ) (e : HttpEnd) → ReadsSize bytes n r → RefusesLine bytes e → ⊥
size_stands bytes n r e (line, reads, short, size) refused = neither e good (λ waits. waits.1 line r reads) refused
  where
    good : NeverHasChunkLine bytes ⊎ IsLongLine bytes → ⊥
    good (inl never) = never [] line r (subst (λ (all : List ℕ). ReadsChunkLine all line r) (sym (append-nil bytes)) reads)
    good (inr long) = long.1 line _ (in_front HEAD_LIMIT bytes r line reads short)

-- ---- a piece

end_stands : (bytes rest : List ℕ) (e : HttpEnd) → EndsLine bytes rest → RefusesLineEnd bytes e → ⊥
end_stands bytes rest e ends refused = neither e (λ never. never [] rest (append-nil bytes ∙ ends)) whole refused
  where
    whole : IsOpenEnd bytes → ⊥
    whole (inl none) = cc
    whole (inr one) = cc

one_piece : (bytes piece other rest behind : List ℕ) → IsPiece bytes piece rest → IsPiece bytes other behind → length piece ≡ length other → (piece ≡ other) × (rest ≡ behind)
one_piece bytes piece other rest behind (middle, parts, ends) (next, others, closes) size =
    let same = one_front bytes piece other middle next parts others size in
    (same.0, cc)

piece_stands : (bytes piece rest : List ℕ) (e : HttpEnd) → IsPiece bytes piece rest → RefusesPiece (length piece) bytes e → ⊥
piece_stands bytes piece rest e (middle, parts, ends) (inl cut) = no_shorter bytes piece middle parts cut.1
piece_stands bytes piece rest e (middle, parts, ends) (inr (other, next, others, size, bad)) =
    let same = one_front bytes piece other middle next parts others (sym size) in
    end_stands middle rest e ends (subst (λ (xs : List ℕ). RefusesLineEnd xs e) (sym same.1) bad)

-- ---- a chunk

pub one_chunk : (before : ℕ) (bytes piece other rest behind : List ℕ) → IsChunk before bytes piece rest → IsChunk before bytes other behind → (piece ≡ other) × (rest ≡ behind)
one_chunk before bytes piece other rest behind (middle, line, some, fits, whole) (next, lines, there, within, wholes) =
    let same = one_size bytes (length piece) (length other) middle next line lines in
    one_piece middle piece other rest behind whole (subst (λ (xs : List ℕ). IsPiece xs other behind) (sym same.1) wholes) same.0

-- a chunk isn't the last one
pub not_last : (before : ℕ) (bytes piece rest behind : List ℕ) → IsChunk before bytes piece rest → ReadsSize bytes 0 behind → ⊥
not_last before bytes piece rest behind (middle, line, some, fits, whole) last =
    omega (arith, some, (one_size bytes (length piece) 0 middle behind line last).0)

chunk_stands : (before : ℕ) (bytes piece rest : List ℕ) (e : HttpEnd) → IsChunk before bytes piece rest → RefusesChunk before bytes e → ⊥
chunk_stands before bytes piece rest e (middle, line, some, fits, whole) (inl bad) = size_stands bytes (length piece) middle e line bad
chunk_stands before bytes piece rest e (middle, line, some, fits, whole) (inr (inl (size, next, sizes, large, past))) =
    let same = one_size bytes (length piece) size middle next line sizes in
    omega (arith, past, fits, same.0)
chunk_stands before bytes piece rest e (middle, line, some, fits, whole) (inr (inr (size, next, sizes, any, within, bad))) =
    let same = one_size bytes (length piece) size middle next line sizes in
    let here = subst (λ (xs : List ℕ). RefusesPiece size xs e) (sym same.1) bad in
    piece_stands middle piece rest e whole (subst (λ (n : ℕ). RefusesPiece n middle e) (sym same.0) here)

-- ---- chunks

-- the last chunk, or the trailers behind it, are refused
abbrev pub Stops : ℕ → List ℕ → HttpEnd → Type 0
Stops before bytes e = RefusesChunk before bytes e ⊎ ((behind : List ℕ) × ReadsSize bytes 0 behind × (e ≡ Cut) × (behind_empty_line Start behind ≡ None))

pub last_chunk_stands : (before : ℕ) (bytes behind : List ℕ) (e : HttpEnd) → before ≤ BODY_LIMIT → ReadsSize bytes 0 behind → RefusesChunk before bytes e → ⊥
last_chunk_stands before bytes behind e fits last (inl bad) = size_stands bytes 0 behind e last bad
last_chunk_stands before bytes behind e fits last (inr (inl (size, next, sizes, large, past))) =
    let same = one_size bytes 0 size behind next last sizes in
    omega (arith, past, fits, same.0)
last_chunk_stands before bytes behind e fits last (inr (inr (size, next, sizes, any, within, bad))) =
    let same = one_size bytes 0 size behind next last sizes in
    omega (arith, any, same.0)

last_stands : (before : ℕ) (bytes behind rest : List ℕ) (e : HttpEnd) → before ≤ BODY_LIMIT → ReadsSize bytes 0 behind → behind_empty_line Start behind ≡ Some rest → Stops before bytes e → ⊥
last_stands before bytes behind rest e fits last trailers (inl bad) = last_chunk_stands before bytes behind e fits last bad
last_stands before bytes behind rest e fits last trailers (inr (other, again, cut, none)) =
    let same = one_size bytes 0 0 behind other last again in
    let both = sym trailers ∙ ap (behind_empty_line Start) same.1 ∙ none in
    cc

pub chunk_stops : (before : ℕ) (bytes piece rest : List ℕ) (e : HttpEnd) → IsChunk before bytes piece rest → Stops before bytes e → ⊥
chunk_stops before bytes piece rest e chunk (inl bad) = chunk_stands before bytes piece rest e chunk bad
chunk_stops before bytes piece rest e chunk (inr (other, last, cut, none)) = not_last before bytes piece rest other chunk last

pub fits_more : (before : ℕ) (bytes piece rest : List ℕ) → IsChunk before bytes piece rest → before + length piece ≤ BODY_LIMIT
fits_more before bytes piece rest chunk = chunk.3

-- the same chunks, and the same place behind them
one_list : (before : ℕ) (ps qs : List (List ℕ)) (bytes middle next behind after : List ℕ) → AreChunks before ps bytes middle → ReadsSize middle 0 behind
    → AreChunks before qs bytes next → ReadsSize next 0 after → (ps ≡ qs) × (behind ≡ after)
one_list before [] [] bytes middle next behind after here last there again =
    (refl, (one_size middle 0 0 behind after last (subst (λ (xs : List ℕ). ReadsSize xs 0 after) (there ∙ sym here) again)).1)
one_list before [] (q ∷ qs) bytes middle next behind after here last there again =
    absurd (not_last before bytes q there.0 behind there.1 (subst (λ (xs : List ℕ). ReadsSize xs 0 behind) here last))
one_list before (p ∷ ps) [] bytes middle next behind after here last there again =
    absurd (not_last before bytes p here.0 after here.1 (subst (λ (xs : List ℕ). ReadsSize xs 0 after) there again))
one_list before (p ∷ ps) (q ∷ qs) bytes middle next behind after here last there again =
    let same = one_chunk before bytes p q here.0 there.0 here.1 there.1 in
    let moved = subst (λ (xs : List ℕ). AreChunks (before + length q) qs xs next) (sym same.1) there.2 in
    let counted = subst (λ (xs : List ℕ). AreChunks (before + length xs) qs here.0 next) (sym same.0) moved in
    let others = one_list (before + length p) ps qs here.0 middle next behind after here.2 last counted again in
    (λ i. same.0 i ∷ others.0 i, others.1)

list_stands : (before : ℕ) (ps qs : List (List ℕ)) (bytes middle next behind rest : List ℕ) (e : HttpEnd) → before ≤ BODY_LIMIT → AreChunks before ps bytes middle → ReadsSize middle 0 behind
    → behind_empty_line Start behind ≡ Some rest → AreChunks before qs bytes next → Stops (before + length (concat qs)) next e → ⊥
list_stands before [] [] bytes middle next behind rest e fits here last trailers there bad =
    let now = subst (λ (n : ℕ). Stops n next e) (omega arith) bad in
    last_stands before middle behind rest e fits last trailers (subst (λ (xs : List ℕ). Stops before xs e) (there ∙ sym here) now)
list_stands before [] (q ∷ qs) bytes middle next behind rest e fits here last trailers there bad =
    not_last before bytes q there.0 behind there.1 (subst (λ (xs : List ℕ). ReadsSize xs 0 behind) here last)
list_stands before (p ∷ ps) [] bytes middle next behind rest e fits here last trailers there bad =
    let now = subst (λ (n : ℕ). Stops n next e) (omega arith) bad in
    chunk_stops before bytes p here.0 e here.1 (subst (λ (xs : List ℕ). Stops before xs e) there now)
list_stands before (p ∷ ps) (q ∷ qs) bytes middle next behind rest e fits here last trailers there bad =
    let same = one_chunk before bytes p q here.0 there.0 here.1 there.1 in
    let moved = subst (λ (xs : List ℕ). AreChunks (before + length q) qs xs next) (sym same.1) there.2 in
    let counted = subst (λ (xs : List ℕ). AreChunks (before + length xs) qs here.0 next) (sym same.0) moved in
    let sum : before + length (concat (q ∷ qs)) ≡ (before + length p) + length (concat qs) = omega (arith, length-append q (concat qs), ap length same.0) in
    list_stands (before + length p) ps qs here.0 middle next behind rest e (fits_more before bytes p here.0 here.1) here.2 last trailers counted (subst (λ (n : ℕ). Stops n next e) sum bad)

-- ---- bodies

pub one_body : (by : framing.Framing) (bytes body other rest behind : List ℕ) → IsBody by bytes body rest → IsBody by bytes other behind → (body ≡ other) × (rest ≡ behind)
one_body (Length size) bytes body other rest behind here there = one_front bytes body other rest behind here.0 there.0 (here.1 ∙ sym there.1)
one_body Chunks bytes body other rest behind (ps, middle, trailer, chunks, all, last, ends) (qs, next, lines, others, joined, again, closes) =
    let same = one_list 0 ps qs bytes middle next trailer lines chunks last others again in
    let left : Some rest ≡ Some behind = sym ends ∙ ap (behind_empty_line Start) same.1 ∙ closes in
    (all ∙ ap concat same.0 ∙ sym joined, cc)

pub body_stands : (by : framing.Framing) (bytes body rest : List ℕ) (e : HttpEnd) → IsBody by bytes body rest → RefusesBody by bytes e → ⊥
body_stands (Length size) bytes body rest e here bad = no_shorter bytes body rest here.0 (omega (arith, bad.1, here.1))
body_stands Chunks bytes body rest e (ps, middle, trailer, chunks, all, last, ends) (qs, next, others, bad) =
    list_stands 0 ps qs bytes middle next trailer rest e (omega arith) chunks last ends others (subst (λ (n : ℕ). Stops n next e) (omega arith) bad)
