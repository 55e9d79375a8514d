-- What is looked for at the front of bytes.
use Rattle.std.specs.Prelude.{◌≡◌, ℕ, ◌<◌, ◌≤◌, List, ◌++◌, length, drop, Option, Some, None}
use Rattle.wef_http_heads.specs.Ends.{behind_head}
use Rattle.wef_http_heads.specs.declared.heads.TheConstants.{HEAD_LIMIT}
use Rattle.wef_http_heads.specs.declared.plans.Found.{Found}
use Rattle.wef_http_heads.specs.declared.plans.Found.TheVariants.{Whole, Partial}

-- A part that was found stands in front, whatever follows. Where none was found, one may still become of the bytes, and there is room for more.
abbrev pub FindsPart : {V : Type 0} → (List ℕ → V → List ℕ → Type 0) → (V → Type 0) → (List ℕ → Type 0) → List ℕ → Found V → Type 0
FindsPart Reads Fits IsOpen bytes (Whole value len) =
    (0 < len) × (len ≤ length bytes) × Fits value × ((more : List ℕ) → Reads (bytes ++ more) value (drop len bytes ++ more))
FindsPart Reads Fits IsOpen bytes Partial = IsOpen bytes × (length bytes < HEAD_LIMIT)

-- A part was taken from the front of bytes; or nothing was, and one may still become of them.
abbrev pub TakesPart : {V : Type 0} → (List ℕ → V → List ℕ → Type 0) → (V → Type 0) → (List ℕ → Type 0) → List ℕ → List ℕ → Option V → Type 0
TakesPart Reads Fits IsOpen before now (Some value) = (length now < length before) × Fits value × ((more : List ℕ) → Reads (before ++ more) value (now ++ more))
TakesPart Reads Fits IsOpen before now None = (now ≡ before) × IsOpen before × (length before < HEAD_LIMIT)

-- no head has ended in the bytes
abbrev pub HasNotEnded : List ℕ → Type 0
HasNotEnded bytes = behind_head bytes ≡ None
