-- A chunk behind others.
use Rattle.std.proofs.Common.{◌≡◌, ℕ, ◌+◌, List, [], ◌∷◌, ◌++◌, length, sym, ap, ◌∙◌, subst, true, refl, arith, length-append, append-nil, inl, Option, Some, None}
use Rattle.std.specs.Prelude.{IfSome}
use Rattle.std.specs.List.{concat}
use Rattle.std.proofs.lemmas.List.Folds.{concat-append}
use Rattle.wef_http_heads.specs.declared.ends.HttpEnd.{HttpEnd}
use Rattle.wef_http.specs.Chunks.{AreChunks, IsChunk, LastOrMore, RefusesChunk, RefusesChunks, RefusesLine}
use Rattle.wef_http_heads.specs.Laws.{IsByBytes}
use Rattle.wef_http.specs.Reading.{Leads}

-- so far these bytes were chunks with this body
abbrev pub HasChunks : List ℕ → List ℕ → List ℕ → Type 0
HasChunks body bytes rest = (pieces : List (List ℕ)) × AreChunks 0 pieces bytes rest × (body ≡ concat pieces)

one_more : (before : ℕ) (pieces : List (List ℕ)) (bytes middle piece rest : List ℕ) → AreChunks before pieces bytes middle → IsChunk (before + length (concat pieces)) middle piece rest
    → AreChunks before (pieces ++ piece ∷ []) bytes rest
one_more before [] bytes middle piece rest same chunk =
    (rest, subst (λ (k : ℕ). IsChunk k bytes piece rest) (omega arith) (subst (λ (xs : List ℕ). IsChunk (before + 0) xs piece rest) same chunk), refl)
one_more before (first ∷ pieces) bytes middle piece rest chunks chunk =
    let sum : before + length (concat (first ∷ pieces)) ≡ (before + length first) + length (concat pieces) = omega (arith, length-append first (concat pieces)) in (
      chunks.0,
      chunks.1,
      one_more (before + length first) pieces chunks.0 middle piece rest chunks.2 (subst (λ (k : ℕ). IsChunk k middle piece rest) sum chunk),
    )

joined_more : (pieces : List (List ℕ)) (piece body now : List ℕ) → body ≡ concat pieces → now ≡ body ++ piece → now ≡ concat (pieces ++ piece ∷ [])
joined_more pieces piece body now joined grown =
    grown ∙ ap (λ (xs : List ℕ). xs ++ piece) joined ∙ sym (concat-append pieces (piece ∷ []) ∙ ap (λ (xs : List ℕ). concat pieces ++ xs) (append-nil piece))

-- one more chunk was read
pub next_chunk : (first middle last : Option (List ℕ)) (body now : List ℕ) → Leads first middle (HasChunks body) → Leads middle last (λ bytes rest. LastOrMore body now bytes rest true)
    → Leads first last (HasChunks now)
next_chunk None middle last body now before chunk = tt
next_chunk (Some bytes) None last body now before chunk = absurd before
next_chunk (Some bytes) (Some middle) None body now before chunk = absurd chunk
next_chunk (Some bytes) (Some middle) (Some rest) body now before chunk =
    let pieces = before.0 in
    let piece = chunk.0 in (
      pieces ++ piece ∷ [],
      one_more 0 pieces bytes middle piece rest before.1 (subst (λ (k : ℕ). IsChunk k middle piece rest) (ap length before.2 ∙ omega arith) chunk.1),
      joined_more pieces piece body now before.2 chunk.2,
    )

-- the chunk behind others is refused
pub chunk_refused : (first middle : Option (List ℕ)) (body : List ℕ) (e : HttpEnd) → Leads first middle (HasChunks body) → IfSome middle (λ bytes. IsByBytes e → RefusesChunk (length body) bytes e)
    → IfSome first (λ bytes. IsByBytes e → RefusesChunks bytes e)
chunk_refused None middle body e before refused = tt
chunk_refused (Some bytes) None body e before refused = absurd before
chunk_refused (Some bytes) (Some middle) body e before refused =
    λ fault. (before.0, middle, before.1, inl (subst (λ (xs : List ℕ). RefusesChunk (length xs) middle e) before.2 (refused fault)))

-- the line of a chunk is refused
pub line_refused : (told : Option (List ℕ)) (before : ℕ) (e : HttpEnd) → IfSome told (λ bytes. IsByBytes e → RefusesLine bytes e) → IfSome told (λ bytes. IsByBytes e → RefusesChunk before bytes e)
line_refused None before e refused = tt
line_refused (Some bytes) before e refused = λ fault. inl (refused fault)
