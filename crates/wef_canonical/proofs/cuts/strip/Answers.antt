use Rattle.std.proofs.Common.{◌≡◌, ℕ, true, nat_eq, List, ◌++◌, length, take, drop, sym, ◌∙◌, ap, subst, IfSome, Bor}
use Rattle.std.specs.Prelude.{Option, Some, None, slice_range}
use Rattle.std.specs.Cmp.Lexicographic.{bytes_decides, pointwise}
use Rattle.std.specs.Str.Pattern.{GetsRange}
use Rattle.std.proofs.lemmas.List.{take-append-drop, length-drop}
use Rattle.std.proofs.Math.Seq.{take-length}
use Rattle.wef_canonical.proofs.cuts.strip.Goals as goal

-- a text that begins so is that and what is left
whole : (front text : List ℕ) → pointwise nat_eq (take (length front) text) front ≡ true → text ≡ front ++ drop (length front) text
whole front text same =
    sym (take-append-drop (length front) text) ∙ ap (λ (begin : List ℕ). begin ++ drop (length front) text) ((bytes_decides (take (length front) text) front).0 same)

left : (front text : List ℕ) (r : Option (Bor (List ℕ))) → text ≡ front ++ drop (length front) text → GetsRange text (length front) (length text) r → IfSome r (λ rest. text ≡ front ++ rest.now)
left front text None parts gets = tt
left front text (Some rest) parts gets =
    parts ∙ ap (λ (behind : List ℕ). front ++ behind) (sym (gets.0 ∙ all))
  where
    all : slice_range text (length front) (length text) ≡ drop (length front) text
    all = ap (λ (n : ℕ). take n (drop (length front) text)) (sym (length-drop (length front) text)) ∙ take-length (drop (length front) text)

pub returns : goal.returns
returns c =
    left c.args.front.now c.args.text.now c.get.result
    (whole c.args.front.now c.args.text.now (subst (λ (bytes : List ℕ). pointwise nat_eq (take (length c.args.front.now) bytes) c.args.front.now ≡ true) c.as_bytes.ensures.value c.in_ok-_behind.ensures.cases.0))
    c.get.ensures.cases
