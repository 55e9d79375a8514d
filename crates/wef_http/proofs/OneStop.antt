-- One reason at most for which a body is refused.
use Rattle.std.proofs.Common.{◌≡◌, ℕ, ◌+◌, ◌≤◌, ◌⊎◌, List, [], ◌∷◌, ◌++◌, length, sym, ap, ◌∙◌, subst, arith, length-append, inl, inr}
use Rattle.std.specs.List.{concat}
use Rattle.httparse.specs.Grammar.{NeverHasChunkLine}
use Rattle.wef_http_heads.specs.declared.ends.HttpEnd.{HttpEnd}
use Rattle.wef_http_heads.specs.declared.heads.TheConstants.{BODY_LIMIT}
use Rattle.wef_http_heads.specs.declared.plans.Framing as framing
use Rattle.wef_http_heads.specs.declared.plans.Framing.TheVariants.{Length, Chunks}
use Rattle.wef_http.specs.Bodies.{RefusesBody}
use Rattle.wef_http.specs.Chunks.{AreChunks, IsLongLine, IsOpenEnd, IsOpenLine, NeverEndsLine, RefusesChunk, RefusesLineEnd, RefusesPiece}
use Rattle.wef_http.proofs.BadParts.{one_of_two}
use Rattle.wef_http.proofs.OneBody.{Stops, chunk_stops, fits_more, last_chunk_stands, no_shorter, one_chunk, one_front, one_size, size_stands}

-- ---- a chunk

line_apart : (bytes : List ℕ) → NeverHasChunkLine bytes ⊎ IsLongLine bytes → IsOpenLine bytes → ⊥
line_apart bytes (inl never) waits = never waits.2.0 waits.2.1 [] waits.2.2
line_apart bytes (inr long) waits = omega (arith, long.0, waits.0)

end_apart : (bytes : List ℕ) → NeverEndsLine bytes → IsOpenEnd bytes → ⊥
end_apart bytes never (inl none) = never (13 ∷ 10 ∷ []) [] (ap (λ (xs : List ℕ). xs ++ 13 ∷ 10 ∷ []) none)
end_apart bytes never (inr one) = never (10 ∷ []) [] (ap (λ (xs : List ℕ). xs ++ 10 ∷ []) one)

piece_reason : (size : ℕ) (bytes : List ℕ) (e f : HttpEnd) → RefusesPiece size bytes e → RefusesPiece size bytes f → e ≡ f
piece_reason size bytes e f (inl (is, short)) (inl (are, also)) = is ∙ sym are
piece_reason size bytes e f (inl (is, short)) (inr (piece, middle, parts, long, bad)) = absurd (no_shorter bytes piece middle parts (omega (arith, short, long)))
piece_reason size bytes e f (inr (piece, middle, parts, long, bad)) (inl (are, short)) = absurd (no_shorter bytes piece middle parts (omega (arith, short, long)))
piece_reason size bytes e f (inr (piece, middle, parts, long, bad)) (inr (other, next, others, size_is, also)) =
    let same = one_front bytes piece other middle next parts others (long ∙ sym size_is) in
    one_of_two e f (end_apart middle) bad (subst (λ (xs : List ℕ). RefusesLineEnd xs f) (sym same.1) also)

chunk_reason : (before : ℕ) (bytes : List ℕ) (e f : HttpEnd) → RefusesChunk before bytes e → RefusesChunk before bytes f → e ≡ f
chunk_reason before bytes e f (inl bad) (inl also) = one_of_two e f (line_apart bytes) bad also
chunk_reason before bytes e f (inl bad) (inr (inl (size, middle, line, large, past))) = absurd (size_stands bytes size middle e line bad)
chunk_reason before bytes e f (inl bad) (inr (inr (size, middle, line, some, fits, also))) = absurd (size_stands bytes size middle e line bad)
chunk_reason before bytes e f (inr (inl (size, middle, line, large, past))) (inl also) = absurd (size_stands bytes size middle f line also)
chunk_reason before bytes e f (inr (inl (size, middle, line, large, past))) (inr (inl (other, next, lines, too, over))) = large ∙ sym too
chunk_reason before bytes e f (inr (inl (size, middle, line, large, past))) (inr (inr (other, next, lines, some, fits, also))) =
    absurd (omega (arith, past, fits, (one_size bytes size other middle next line lines).0))
chunk_reason before bytes e f (inr (inr (size, middle, line, some, fits, bad))) (inl also) = absurd (size_stands bytes size middle f line also)
chunk_reason before bytes e f (inr (inr (size, middle, line, some, fits, bad))) (inr (inl (other, next, lines, large, past))) =
    absurd (omega (arith, past, fits, (one_size bytes size other middle next line lines).0))
chunk_reason before bytes e f (inr (inr (size, middle, line, some, fits, bad))) (inr (inr (other, next, lines, any, within, also))) =
    let same = one_size bytes size other middle next line lines in
    let here = subst (λ (xs : List ℕ). RefusesPiece other xs f) (sym same.1) also in
    piece_reason size middle e f bad (subst (λ (n : ℕ). RefusesPiece n middle f) (sym same.0) here)

stop_reason : (before : ℕ) (bytes : List ℕ) (e f : HttpEnd) → before ≤ BODY_LIMIT → Stops before bytes e → Stops before bytes f → e ≡ f
stop_reason before bytes e f fits (inl bad) (inl also) = chunk_reason before bytes e f bad also
stop_reason before bytes e f fits (inl bad) (inr (behind, last, are, none)) = absurd (last_chunk_stands before bytes behind e fits last bad)
stop_reason before bytes e f fits (inr (behind, last, is, none)) (inl also) = absurd (last_chunk_stands before bytes behind f fits last also)
stop_reason before bytes e f fits (inr (behind, last, is, none)) (inr (other, again, are, also)) = is ∙ sym are

-- ---- chunks, and bodies

list_reason : (before : ℕ) (ps qs : List (List ℕ)) (bytes middle next : List ℕ) (e f : HttpEnd) → before ≤ BODY_LIMIT
    → AreChunks before ps bytes middle → Stops (before + length (concat ps)) middle e → AreChunks before qs bytes next → Stops (before + length (concat qs)) next f → e ≡ f
list_reason before [] [] bytes middle next e f fits here bad there also =
    let first = subst (λ (n : ℕ). Stops n middle e) (omega arith) bad in
    let second = subst (λ (n : ℕ). Stops n next f) (omega arith) also in
    stop_reason before bytes e f fits (subst (λ (xs : List ℕ). Stops before xs e) here first) (subst (λ (xs : List ℕ). Stops before xs f) there second)
list_reason before [] (q ∷ qs) bytes middle next e f fits here bad there also =
    let first = subst (λ (n : ℕ). Stops n middle e) (omega arith) bad in
    absurd (chunk_stops before bytes q there.0 e there.1 (subst (λ (xs : List ℕ). Stops before xs e) here first))
list_reason before (p ∷ ps) [] bytes middle next e f fits here bad there also =
    let second = subst (λ (n : ℕ). Stops n next f) (omega arith) also in
    absurd (chunk_stops before bytes p here.0 f here.1 (subst (λ (xs : List ℕ). Stops before xs f) there second))
list_reason before (p ∷ ps) (q ∷ qs) bytes middle next e f fits here bad there also =
    let same = one_chunk before bytes p q here.0 there.0 here.1 there.1 in
    let moved = subst (λ (xs : List ℕ). AreChunks (before + length q) qs xs next) (sym same.1) there.2 in
    let counted = subst (λ (xs : List ℕ). AreChunks (before + length xs) qs here.0 next) (sym same.0) moved in
    let first : before + length (concat (p ∷ ps)) ≡ (before + length p) + length (concat ps) = omega (arith, length-append p (concat ps)) in
    let second : before + length (concat (q ∷ qs)) ≡ (before + length p) + length (concat qs) = omega (arith, length-append q (concat qs), ap length same.0) in
    list_reason (before + length p) ps qs here.0 middle next e f (fits_more before bytes p here.0 here.1)
    here.2 (subst (λ (n : ℕ). Stops n middle e) first bad) counted (subst (λ (n : ℕ). Stops n next f) second also)

pub body_reason : (by : framing.Framing) (bytes : List ℕ) (e f : HttpEnd) → RefusesBody by bytes e → RefusesBody by bytes f → e ≡ f
body_reason (Length size) bytes e f refused also = refused.0 ∙ sym also.0
body_reason Chunks bytes e f (ps, middle, chunks, bad) (qs, next, others, also) =
    list_reason 0 ps qs bytes middle next e f (omega arith)
    chunks (subst (λ (n : ℕ). Stops n middle e) (omega arith) bad) others (subst (λ (n : ℕ). Stops n next f) (omega arith) also)
