-- Ranges of numbers: those of items, and what of them lies above a bookmark.
use Rattle.std.proofs.Common.{◌≡◌, ℕ, ◌+◌, ◌<◌, ◌≤◌, Bool, true, false, ◌&&◌, ◌||◌, cond, List, [], ◌∷◌, ◌++◌, refl, ap, sym, ◌∙◌, Option, Some, None, nat_lt, nat_le, arith, if◌then◌else◌}
use Rattle.std.proofs.lemmas.Bool.{and_parts}
use Rattle.std.proofs.lemmas.Bool.Decides.{nat_tests}
use Rattle.std.specs.Prelude.{max}
use Rattle.wef_base.specs.Names.{same}
use Rattle.wef_batch.specs.Reach.{later, span_in}
use Rattle.wef_batch.specs.WellFormed.{follows, rises}
use Rattle.wef_batch.specs.declared.items.Item.{Item}
use Rattle.wef_batch.specs.declared.items.Item.TheVariants.{Event, Dropped, Loose}
use Rattle.wef_building.specs.Fits.{ranges_in}
use Rattle.wef_building.specs.Wanted.{AreRising, EndBy, Range, in_ranges}
use Rattle.wef_pairs.proofs.Numbered.{le_is, lt_is, not_below}

-- what of the ranges lies above a number
abbrev pub clip : ℕ → List Range → List Range
clip b [] = []
clip b (r ∷ rs) = if nat_lt b r.1 then (max r.0 (b + 1), r.1) ∷ clip b rs else clip b rs

-- ---- numbers in ranges

in_parts : (a b d : Bool) → (a || b) || d ≡ a || (b || d)
in_parts true b d = refl
in_parts false b d = refl

pub in_ranges-append : (rs ss : List Range) (n : ℕ) → in_ranges (rs ++ ss) n ≡ in_ranges rs n || in_ranges ss n
in_ranges-append [] ss n = refl
in_ranges-append (r ∷ rs) ss n = ap (λ (t : Bool). (nat_le r.0 n && nat_le n r.1) || t) (in_ranges-append rs ss n) ∙ sym (in_parts (nat_le r.0 n && nat_le n r.1) (in_ranges rs n) (in_ranges ss n))

clipped_first : (b first last n : ℕ) → nat_lt b last ≡ true → (nat_le (max first (b + 1)) n && nat_le n last) ≡ (nat_lt b n && (nat_le first n && nat_le n last))
clipped_first b first last n e = grind (arith, nat_tests)

clipped_away : (b first last n : ℕ) → nat_lt b last ≡ false → (nat_lt b n && (nat_le first n && nat_le n last)) ≡ false
clipped_away b first last n e = grind (arith, nat_tests)

and_or : (a b d : Bool) → a && (b || d) ≡ (a && b) || (a && d)
and_or true b d = refl
and_or false b d = refl

pub in_clip : (b : ℕ) (rs : List Range) (n : ℕ) → in_ranges (clip b rs) n ≡ nat_lt b n && in_ranges rs n
in_clip b [] n = by_case (nat_lt b n)
  where
    by_case : (t : Bool) → false ≡ t && false
    by_case true = refl
    by_case false = refl
in_clip b (r ∷ rs) n =
    elim (nat_lt b r.1) as (λ t. nat_lt b r.1 ≡ t → in_ranges (cond t ((max r.0 (b + 1), r.1) ∷ clip b rs) (clip b rs)) n ≡ nat_lt b n && in_ranges (r ∷ rs) n) [
      | true ↦ λ is. (λ i. clipped_first b r.0 r.1 n is i || in_clip b rs n i) ∙ sym (and_or (nat_lt b n) (nat_le r.0 n && nat_le n r.1) (in_ranges rs n))
      | false ↦ λ is. in_clip b rs n ∙ ap (λ (t : Bool). t || (nat_lt b n && in_ranges rs n)) (sym (clipped_away b r.0 r.1 n is))
          ∙ sym (and_or (nat_lt b n) (nat_le r.0 n && nat_le n r.1) (in_ranges rs n))
    ] refl

past : (last n : ℕ) → last < n → nat_le n last ≡ false
past last n h = grind (arith, nat_tests)

neither : (a b d : Bool) → b ≡ false → d ≡ false → (a && b) || d ≡ false
neither true b d e f = cc
neither false b d e f = f

-- no number past the end is in them
pub in_none_past : (t : ℕ) (rs : List Range) (n : ℕ) → EndBy t rs → t < n → in_ranges rs n ≡ false
in_none_past t [] n h p = refl
in_none_past t (r ∷ rs) n h p = let end = h.0 in neither (nat_le r.0 n) (nat_le n r.1) (in_ranges rs n) (past r.1 n (omega arith)) (in_none_past t rs n h.1 p)

-- ---- ranges in order

-- ranges above a number are above a lower one
pub rising_above : (j k : ℕ) (rs : List Range) → j ≤ k → AreRising k rs → AreRising j rs
rising_above j k [] le h = tt
rising_above j k (r ∷ rs) le h = let first = h.0 in (omega arith, h.1, h.2)

pub rising-append : (k b : ℕ) (rs ss : List Range) → k ≤ b → AreRising k rs → EndBy b rs → AreRising b ss → AreRising k (rs ++ ss)
rising-append k b [] ss le rising ends after = rising_above k b ss le after
rising-append k b (r ∷ rs) ss le rising ends after = (rising.0, rising.1, rising-append r.1 b rs ss ends.0 rising.2 ends.1 after)

pub ends-append : (t : ℕ) (rs ss : List Range) → EndBy t rs → EndBy t ss → EndBy t (rs ++ ss)
ends-append t [] ss h g = g
ends-append t (r ∷ rs) ss h g = (h.0, ends-append t rs ss h.1 g)

pub ends_later : (t u : ℕ) (rs : List Range) → t ≤ u → EndBy t rs → EndBy u rs
ends_later t u [] le h = tt
ends_later t u (r ∷ rs) le h = let end = h.0 in (omega arith, ends_later t u rs le h.1)

pub clip_ends : (b t : ℕ) (rs : List Range) → EndBy t rs → EndBy t (clip b rs)
clip_ends b t [] h = tt
clip_ends b t (r ∷ rs) h =
    elim (nat_lt b r.1) as (λ x. EndBy t (cond x ((max r.0 (b + 1), r.1) ∷ clip b rs) (clip b rs))) [
      | true ↦ (h.0, clip_ends b t rs h.1)
      | false ↦ clip_ends b t rs h.1
    ]

-- ranges that begin at a number or later, and rise
abbrev pub RiseFrom : ℕ → List Range → Type 0
RiseFrom k [] = Unit {0}
RiseFrom k (r ∷ rs) = (k ≤ r.0) × (r.0 ≤ r.1) × RiseFrom (r.1 + 1) rs

rise_sooner : (j k : ℕ) (rs : List Range) → j ≤ k → RiseFrom k rs → RiseFrom j rs
rise_sooner j k [] le h = tt
rise_sooner j k (r ∷ rs) le h = let first = h.0 in (omega arith, h.1, h.2)

pub clip_rises : (j k b : ℕ) (rs : List Range) → j < max k (b + 1) → RiseFrom k rs → AreRising j (clip b rs)
clip_rises j k b [] le h = tt
clip_rises j k b (r ∷ rs) le h =
    let first : k ≤ r.0 = h.0 in
    let size : r.0 ≤ r.1 = h.1 in
    elim (nat_lt b r.1) as (λ x. nat_lt b r.1 ≡ x → AreRising j (cond x ((max r.0 (b + 1), r.1) ∷ clip b rs) (clip b rs))) [
      | true ↦ λ is. let above : b < r.1 = lt_is b r.1 is in (omega arith, omega arith, clip_rises r.1 (r.1 + 1) b rs (omega arith) h.2)
      | false ↦ λ is. let within : r.1 ≤ b = not_below b r.1 is in clip_rises j (r.1 + 1) b rs (omega arith) h.2
    ] refl

-- ---- the ranges of items

-- the least number that may follow
abbrev pub after_last : Option ℕ → ℕ
after_last None = 0
after_last (Some n) = n + 1

pub follows_parts : (previous : Option ℕ) (first last : ℕ) → follows previous (Some (first, last)) ≡ true → (after_last previous ≤ first) × (first ≤ last)
follows_parts None first last e = (omega arith, le_is first last e)
follows_parts (Some n) first last e =
    let parts = and_parts (nat_lt n first) (nat_le first last) e in
    let above = lt_is n first parts.0 in
    (omega arith, le_is first last parts.1)

pub follow_later : (previous : Option ℕ) (span : Option (ℕ × ℕ)) → follows previous span ≡ true → after_last previous ≤ after_last (later previous span)
follow_later previous None e = omega arith
follow_later previous (Some span) e = let parts = follows_parts previous span.0 span.1 e in let first = parts.0 in let size = parts.1 in omega arith

pub ranges_rise : (c : List ℕ) (previous : Option ℕ) (items : List Item) → rises c previous items ≡ true → RiseFrom (after_last previous) (ranges_in c items)
ranges_rise c previous [] h = tt
ranges_rise c previous (Event e ∷ items) h =
    let parts = and_parts (follows previous (span_in c (Event e))) (rises c (later previous (span_in c (Event e))) items) h in
    rise_sooner (after_last previous) _ (ranges_in c items) (follow_later previous (span_in c (Event e)) parts.0) (ranges_rise c (later previous (span_in c (Event e))) items parts.1)
ranges_rise c previous (Dropped channel first last ∷ items) h =
    elim (same channel c) as (λ t. follows previous (cond t (Some (first, last)) None) && rises c (later previous (cond t (Some (first, last)) None)) items ≡ true
    → RiseFrom (after_last previous) (cond t ((first, last) ∷ ranges_in c items) (ranges_in c items))) [
      | true ↦ λ g.
          let parts = and_parts (follows previous (Some (first, last))) (rises c (Some last) items) g in
          let spans = follows_parts previous first last parts.0 in
          (spans.0, spans.1, ranges_rise c (Some last) items parts.1)
      | false ↦ λ g. ranges_rise c previous items g
    ] h
ranges_rise c previous (Loose count ∷ items) h = ranges_rise c previous items h
