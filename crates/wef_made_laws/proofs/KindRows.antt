-- The rows of a kind are those of all pairs of a source and a channel, where no other row of the kind stands.
use Rattle.std.proofs.Common.{◌≡◌, ℕ, ◌+◌, Bool, true, false, not, ◌&&◌, ◌||◌, cond, List, [], ◌∷◌, map, refl, ap, sym, ◌∙◌, None, arith}
use Rattle.std.proofs.lemmas.Bool.{and_parts, eqb-true}
use Rattle.std.specs.Cmp.Lexicographic.{bytes_decides, pointwise}
use Rattle.std.specs.FinMap as finite
use Rattle.std.specs.FinMap.{find}
use Rattle.std.specs.FinMap.Entries.{find-where_key, is_sorted-where_key, same_entries, where_key}
use Rattle.std.specs.List.{AllByRecursion, filter, list_any}
use Rattle.std.specs.Prelude.{nat_eq}
use Rattle.wef_base.specs.Names.{same}
use Rattle.wef_collector_rows.specs.Keys.{key}
use Rattle.wef_keeper.proofs.Sections.{tested_alike}
use Rattle.wef_keeper.specs.Rows.{Rows, is_after, key_cmp, key_cmp_exact, key_cmp_total, row_of}
use Rattle.wef_keeper.specs.Sections.{is_under, rows_under}
use Rattle.wef_keeper.specs.declared.keys.Cell.{Cell}
use Rattle.wef_keeper.specs.declared.keys.Depth.{Depth}
use Rattle.wef_keeper.specs.declared.keys.Depth.TheVariants.{Channel}
use Rattle.wef_keeper.specs.declared.keys.Key.{Key}
use Rattle.wef_keeper.specs.declared.keys.Row.{Row}
use Rattle.wef_summary.specs.Summary.{sum_of}
use Rattle.wef_made_laws.proofs.Sums.{sum_alike, sum_both, sum_cons, sum_filter, sum_swapped}

-- ---- rows under a key

-- whether a key is one of a section
abbrev pub is_in_section : Depth → Key → Key → Bool
is_in_section depth a q = is_after a q && is_under depth a q

-- what an entry counts, where it passes a test
abbrev counted : (Row → ℕ) → (Key → Bool) → Key × Cell → ℕ
counted weight test e = cond (test e.0) (weight (row_of e)) 0

nested : (a b : Bool) (w : ℕ) → cond a (cond b w 0) 0 ≡ cond (a && b) w 0
nested true b w = refl
nested false b w = refl

section_sum : (weight : Row → ℕ) (depth : Depth) (a : Key) (entries : List (Key × Cell)) →
    sum_of weight (filter (λ row. is_under depth a row.key) (map row_of (filter (λ e. is_after a e.0) entries))) ≡ sum_of (counted weight (is_in_section depth a)) entries
section_sum weight depth a [] = refl
section_sum weight depth a (e ∷ entries) = by (section_sum weight depth a entries) (is_after a e.0) (is_under depth a e.0) refl refl
  where
    rest : List Row
    rest = filter (λ row. is_under depth a row.key) (map row_of (filter (λ e. is_after a e.0) entries))

    first : sum_of weight rest ≡ sum_of (counted weight (is_in_section depth a)) entries → counted weight (is_in_section depth a) e ≡ weight (row_of e) →
        sum_of weight (row_of e ∷ rest) ≡ sum_of (counted weight (is_in_section depth a)) (e ∷ entries)
    first more is =
        let one = sum_cons weight (row_of e) rest in
        let other = sum_cons (counted weight (is_in_section depth a)) e entries in
        omega arith

    skipped : sum_of weight rest ≡ sum_of (counted weight (is_in_section depth a)) entries → counted weight (is_in_section depth a) e ≡ 0 →
        sum_of weight rest ≡ sum_of (counted weight (is_in_section depth a)) (e ∷ entries)
    skipped more is = let other = sum_cons (counted weight (is_in_section depth a)) e entries in omega arith

    by : sum_of weight rest ≡ sum_of (counted weight (is_in_section depth a)) entries → (s t : Bool) → is_after a e.0 ≡ s → is_under depth a e.0 ≡ t →
        sum_of weight (filter (λ row. is_under depth a row.key) (map row_of (cond s (e ∷ filter (λ e. is_after a e.0) entries) (filter (λ e. is_after a e.0) entries))))
        ≡ sum_of (counted weight (is_in_section depth a)) (e ∷ entries)
    by more true true after under = ap (λ (t : Bool). sum_of weight (cond t (row_of e ∷ rest) rest)) under ∙ first more (λ i. cond (after i && under i) (weight (row_of e)) 0)
    by more true false after under = ap (λ (t : Bool). sum_of weight (cond t (row_of e ∷ rest) rest)) under ∙ skipped more (λ i. cond (after i && under i) (weight (row_of e)) 0)
    by more false t after under = skipped more (λ i. cond (after i && is_under depth a e.0) (weight (row_of e)) 0)

-- ---- keys that are nowhere

-- where no key that passes a test is in a map, no entry passes
none_there : (test : Key → Bool) (rows : Rows) → ((q : Key) → test q ≡ true → finite.get rows q ≡ None) → where_key key_cmp test (finite.entries rows) ≡ []
none_there test rows none =
    same_entries key_cmp key_cmp_total key_cmp_exact (where_key key_cmp test (finite.entries rows)) [] (is_sorted-where_key key_cmp test (finite.entries rows) (finite.entries_sorted rows)) tt
    (λ q. find-where_key key_cmp test q (tested_alike test q) (finite.entries rows) ∙ by q (test q) refl)
  where
    by : (q : Key) (t : Bool) → test q ≡ t → cond t (find key_cmp q (finite.entries rows)) None ≡ None
    by q true is = sym (finite.get-entries rows q) ∙ none q is
    by q false is = refl

-- ---- pairs of a source and a channel

abbrev pub Pair : Type 0
Pair = List ℕ × List ℕ

abbrev same_pair : Pair → Pair → Bool
same_pair p r = same p.0 r.0 && same p.1 r.1

-- no pair stands twice
abbrev pub are_distinct : List Pair → Bool
are_distinct [] = true
are_distinct (p ∷ ps) = not (list_any (same_pair p) ps) && are_distinct ps

module _ (kind : ℕ) (u : List ℕ) where
  -- whether a key is that of a row of a pair
  abbrev pub hits : Pair → Key → Bool
  hits p q = is_in_section Channel (key kind u p.0 p.1 0) q

  -- the names in it
  hit_pair : (p : Pair) (q : Key) → hits p q ≡ true → (p.0 ≡ q.source) × (p.1 ≡ q.channel)
  hit_pair p q e =
      let under = (and_parts (is_after (key kind u p.0 p.1 0) q) (is_under Channel (key kind u p.0 p.1 0) q) e).1 in
      let outer = and_parts (nat_eq kind q.kind && pointwise nat_eq u q.sub && pointwise nat_eq p.0 q.source) (pointwise nat_eq p.1 q.channel) under in
      let middle = and_parts (nat_eq kind q.kind && pointwise nat_eq u q.sub) (pointwise nat_eq p.0 q.source) outer.0 in
      ((bytes_decides p.0 q.source).0 middle.1, (bytes_decides p.1 q.channel).0 outer.1)

  -- the kind and the subscription
  pub hit_kind : (p : Pair) (q : Key) → hits p q ≡ true → (kind ≡ q.kind) × (u ≡ q.sub)
  hit_kind p q e =
      let under = (and_parts (is_after (key kind u p.0 p.1 0) q) (is_under Channel (key kind u p.0 p.1 0) q) e).1 in
      let outer = and_parts (nat_eq kind q.kind && pointwise nat_eq u q.sub && pointwise nat_eq p.0 q.source) (pointwise nat_eq p.1 q.channel) under in
      let middle = and_parts (nat_eq kind q.kind && pointwise nat_eq u q.sub) (pointwise nat_eq p.0 q.source) outer.0 in
      let inner = and_parts (nat_eq kind q.kind) (pointwise nat_eq u q.sub) middle.0 in
      (eqb-true kind q.kind inner.0, (bytes_decides u q.sub).0 inner.1)

  -- a key is not of two pairs
  others_miss : (p : Pair) (ps : List Pair) (q : Key) → hits p q ≡ true → not (list_any (same_pair p) ps) ≡ true → AllByRecursion (λ (r : Pair). hits r q ≡ false) ps
  others_miss p [] q e apart = tt
  others_miss p (r ∷ ps) q e apart = by (others_miss p ps q e) (hits r q) refl (same_pair p r) refl apart
    where
      is_same : hits r q ≡ true → same_pair p r ≡ true
      is_same f =
          let one = hit_pair p q e in
          let other = hit_pair r q f in
          let source = (bytes_decides p.0 r.0).1 (one.0 ∙ sym other.0) in
          let channel = (bytes_decides p.1 r.1).1 (one.1 ∙ sym other.1) in
          λ i. source i && channel i

      by : (not (list_any (same_pair p) ps) ≡ true → AllByRecursion (λ (r : Pair). hits r q ≡ false) ps) → (t : Bool) → hits r q ≡ t → (d : Bool) → same_pair p r ≡ d →
          not (d || list_any (same_pair p) ps) ≡ true → AllByRecursion (λ (r : Pair). hits r q ≡ false) (r ∷ ps)
      by rest t f true d apart = cc
      by rest false f false d apart = (f, rest apart)
      by rest true f false d apart = let both = sym d ∙ is_same f in cc

  none_hit : (w : ℕ) (ps : List Pair) (q : Key) → AllByRecursion (λ (r : Pair). hits r q ≡ false) ps → (sum_of (λ (r : Pair). cond (hits r q) w 0) ps ≡ 0) × (list_any (λ (r : Pair). hits r q) ps ≡ false)
  none_hit w [] q all = (refl, refl)
  none_hit w (r ∷ ps) q all =
      let rest = none_hit w ps q all.1 in
      let first : cond (hits r q) w 0 ≡ 0 = ap (λ (t : Bool). cond t w 0) all.0 in
      let cons = sum_cons (λ (r : Pair). cond (hits r q) w 0) r ps in
      let zero = rest.0 in
      (omega arith, λ i. all.0 i || rest.1 i)

  -- what a key counts that passes a test: at one of the pairs, or at none
  counted_once : (passes : Key → Bool) (w : ℕ) (ps : List Pair) (q : Key) → are_distinct ps ≡ true → ((p : Pair) → hits p q ≡ true → passes q ≡ true) →
      cond (passes q) w 0 ≡ sum_of (λ (p : Pair). cond (hits p q) w 0) ps + cond (passes q && not (list_any (λ (p : Pair). hits p q) ps)) w 0
  counted_once passes w [] q apart pass = by (passes q)
    where
      by : (t : Bool) → cond t w 0 ≡ 0 + cond (t && true) w 0
      by true = let same : w ≡ 0 + w = omega arith in same
      by false = refl
  counted_once passes w (p ∷ ps) q apart pass = by (counted_once passes w ps q (and_parts (not (list_any (same_pair p) ps)) (are_distinct ps) apart).1 pass) (hits p q) refl
    where
      parts : (not (list_any (same_pair p) ps) ≡ true) × (are_distinct ps ≡ true)
      parts = and_parts (not (list_any (same_pair p) ps)) (are_distinct ps) apart

      any : Bool
      any = list_any (λ (p : Pair). hits p q) ps

      sum : ℕ
      sum = sum_of (λ (p : Pair). cond (hits p q) w 0) ps

      by : cond (passes q) w 0 ≡ sum + cond (passes q && not any) w 0 → (t : Bool) → hits p q ≡ t →
          cond (passes q) w 0 ≡ sum_of (λ (p : Pair). cond (hits p q) w 0) (p ∷ ps) + cond (passes q && not (list_any (λ (p : Pair). hits p q) (p ∷ ps))) w 0
      by rest true e =
          let none = none_hit w ps q (others_miss p ps q e parts.0) in
          let zero = none.0 in
          let cons = sum_cons (λ (p : Pair). cond (hits p q) w 0) p ps in
          let first : cond (hits p q) w 0 ≡ w = ap (λ (t : Bool). cond t w 0) e in
          let whole : cond (passes q) w 0 ≡ w = ap (λ (t : Bool). cond t w 0) (pass p e) in
          let left : cond (passes q && not (hits p q || any)) w 0 ≡ 0 = λ i. cond (pass p e i && not (e i || any)) w 0 in
          omega arith
      by rest false e =
          let cons = sum_cons (λ (p : Pair). cond (hits p q) w 0) p ps in
          let first : cond (hits p q) w 0 ≡ 0 = ap (λ (t : Bool). cond t w 0) e in
          let left : cond (passes q && not (hits p q || any)) w 0 ≡ cond (passes q && not any) w 0 = λ i. cond (passes q && not (e i || any)) w 0 in
          omega arith

  -- the rows of a section that all stand at these pairs
  pub all_in_pairs : (weight : Row → ℕ) (depth : Depth) (a : Key) (ps : List Pair) (rows : Rows) → are_distinct ps ≡ true →
      ((p : Pair) (q : Key) → hits p q ≡ true → is_in_section depth a q ≡ true) →
      ((q : Key) → (is_in_section depth a q && not (list_any (λ (p : Pair). hits p q) ps)) ≡ true → finite.get rows q ≡ None) →
      sum_of weight (rows_under depth a rows) ≡ sum_of (λ (p : Pair). sum_of weight (rows_under Channel (key kind u p.0 p.1 0) rows)) ps
  all_in_pairs weight depth a ps rows apart pass none =
      section_sum weight depth a (finite.entries rows)
      ∙ sum_alike (counted weight passes) (λ e. by_pairs e + counted weight left e) (finite.entries rows) (each (finite.entries rows))
      ∙ sum_both by_pairs (counted weight left) (finite.entries rows)
      ∙ no_more
      ∙ sum_swapped (λ e p. counted weight (hits p) e) (finite.entries rows) ps
      ∙ sum_alike (λ p. sum_of (counted weight (hits p)) (finite.entries rows)) (λ p. sum_of weight (rows_under Channel (key kind u p.0 p.1 0) rows)) ps (sections ps)
    where
      passes : Key → Bool
      passes q = is_in_section depth a q

      left : Key → Bool
      left q = passes q && not (list_any (λ (p : Pair). hits p q) ps)

      by_pairs : Key × Cell → ℕ
      by_pairs e = sum_of (λ (p : Pair). counted weight (hits p) e) ps

      each : (entries : List (Key × Cell)) → AllByRecursion (λ e. counted weight passes e ≡ by_pairs e + counted weight left e) entries
      each [] = tt
      each (e ∷ entries) = (counted_once passes (weight (row_of e)) ps e.0 apart (λ p hit. pass p e.0 hit), each entries)

      no_more : sum_of by_pairs (finite.entries rows) + sum_of (counted weight left) (finite.entries rows) ≡ sum_of by_pairs (finite.entries rows)
      no_more =
          let nothing : sum_of (counted weight left) (finite.entries rows) ≡ 0 =
          sym (sum_filter (λ (e : Key × Cell). left e.0) (λ e. weight (row_of e)) (finite.entries rows)) ∙ ap (sum_of (λ (e : Key × Cell). weight (row_of e))) (none_there left rows none) in
          omega arith

      sections : (ps : List Pair) → AllByRecursion (λ (p : Pair). sum_of (counted weight (hits p)) (finite.entries rows) ≡ sum_of weight (rows_under Channel (key kind u p.0 p.1 0) rows)) ps
      sections [] = tt
      sections (p ∷ ps) = (sym (section_sum weight Channel (key kind u p.0 p.1 0) (finite.entries rows)), sections ps)
