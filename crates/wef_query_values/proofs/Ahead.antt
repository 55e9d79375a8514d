-- The nodes that a step takes of the first children or attributes.
use Rattle.std.proofs.Common.{◌≡◌, ℕ, ◌+◌, ◌≤◌, List, [], ◌∷◌, ◌++◌, length, take, drop, get_or, Option, Some, None, inl, inr, sym, ◌∙◌, ap, arith}
use Rattle.std.proofs.lemmas.List.{append-nil, get_or_past, length-take, take_all, take_more, take-append-drop}
use Rattle.std.proofs.lemmas.List.Elements.{filter_map-append}
use Rattle.std.proofs.lemmas.Bool.{cases_lt}
use Rattle.wef_query_paths.specs.declared.path.Step.{Step, out-Step}
use Rattle.wef_query_values.specs.Places.{Place}
use Rattle.wef_query_values.specs.Meaning.{slots, somes}
use Rattle.wef_query_values.specs.Walk.{ahead}

somes_more : (os : List (Option Place)) (at : ℕ) (o : Option Place) → o ≡ get_or os at None → somes (take (at + 1) os) ≡ somes (take at os) ++ somes (o ∷ [])
somes_more os at o is = elim (cases_lt at (length os)) [
  | inl h ↦ ap somes (take_more os at None h) ∙ filter_map-append (λ o. o) (take at os) (get_or os at None ∷ []) ∙ ap (λ p. somes (take at os) ++ somes (p ∷ [])) (sym is)
  | inr h ↦
      let all : take (at + 1) os ≡ take at os = take_all (at + 1) os (omega arith) ∙ sym (take_all at os h) in
      let none : o ≡ None = is ∙ get_or_past os at None h in
      ap somes all ∙ sym (append-nil (somes (take at os))) ∙ ap (λ p. somes (take at os) ++ somes (p ∷ [])) (sym none)
]

-- all slots of a step at a node
abbrev pub slots_of : Step → Place → List (Option Place)
slots_of s x = slots (out-Step s).axis (out-Step s).test x

pub ahead_none : (s : Step) (x : Place) (at : ℕ) → None ≡ get_or (slots_of s x) at None → ahead s x (at + 1) ≡ ahead s x at
ahead_none s x at is = somes_more (slots_of s x) at None is ∙ append-nil (ahead s x at)

pub ahead_some : (s : Step) (x : Place) (at : ℕ) (y : Place) → Some y ≡ get_or (slots_of s x) at None → ahead s x (at + 1) ≡ ahead s x at ++ (y ∷ [])
ahead_some s x at y is = somes_more (slots_of s x) at (Some y) is

pub ahead_all : (s : Step) (x : Place) (at : ℕ) → length (slots_of s x) ≤ at → ahead s x at ≡ somes (slots_of s x)
ahead_all s x at h = ap somes (take_all at (slots_of s x) h)

pub ahead_front : (s : Step) (x : Place) (at : ℕ) → ahead s x at ++ somes (drop at (slots_of s x)) ≡ somes (slots_of s x)
ahead_front s x at = sym (filter_map-append (λ o. o) (take at (slots_of s x)) (drop at (slots_of s x))) ∙ ap somes (take-append-drop at (slots_of s x))

somes_within : (os : List (Option Place)) → length (somes os) ≤ length os
somes_within [] = omega arith
somes_within (None ∷ os) = omega (arith, somes_within os)
somes_within (Some x ∷ os) = omega (arith, somes_within os)

pub ahead_within : (s : Step) (x : Place) (at : ℕ) → length (ahead s x at) ≤ at
ahead_within s x at = omega (arith, somes_within (take at (slots_of s x)), length-take at (slots_of s x))
