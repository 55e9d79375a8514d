-- A front of the bytes that are held is one of the bytes ahead.
use Rattle.std.proofs.Common.{◌≡◌, ℕ, ◌≤◌, List, ◌++◌, length, take, drop, sym, ap, ◌∙◌, append_assoc, length-take-le, Option, Some, None}
use Rattle.std.proofs.lemmas.List.{take-append-drop}
use Rattle.std.specs.Io.KnownBytes.{prepend_known}
use Rattle.wef_http.specs.Bodies.{IsFront}
use Rattle.wef_http.specs.Reading.{Leads}

pub front_held : (held : List ℕ) (coming : Option (List ℕ)) (count : ℕ) (before now : List ℕ) → count ≤ length held → now ≡ before ++ take count held
    → Leads (prepend_known held coming) (prepend_known (drop count held) coming) (λ bytes rest. (piece : List ℕ) × IsFront count bytes piece rest × (now ≡ before ++ piece))
front_held held None count before now within same = tt
front_held held (Some coming) count before now within same = (
  take count held,
  (ap (λ (all : List ℕ). all ++ coming) (sym (take-append-drop count held)) ∙ append_assoc (take count held) (drop count held) coming, length-take-le count held within),
  same,
)
