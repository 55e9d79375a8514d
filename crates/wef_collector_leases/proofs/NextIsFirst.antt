-- The next source that is to be asked for something is the first, by the names of the subscription and then of the source.
use Rattle.std.proofs.Common.{◌≡◌, ℕ, Bool, true, false, List, [], ◌∷◌, refl, ap, sym, subst, ◌∙◌, inl, inr, if◌then◌else◌}
use Rattle.std.specs.Cmp.{tied_itself}
use Rattle.std.specs.Cmp.Lexicographic.{slice_cmp, nat_list_cmp_total}
use Rattle.std.specs.List.{AllByRecursion}
use Rattle.std.specs.Ordering.{nat_cmp, is_lt, ordering_reverse}
use Rattle.std.specs.Prelude.{Option, Some, None, IfSome, ◌⊎◌}
use Rattle.std.specs.declared.cmp.Ordering.{Ordering}
use Rattle.std.specs.declared.cmp.Ordering.TheVariants.{Less, Equal, Greater}
use Rattle.wef_eventing.specs.declared.subscriptions.SourceAt.{SourceAt}
use Rattle.wef_keeper.specs.Rows.{Rows}
use Rattle.wef_collector_reports.specs.Listing.{listed}
use Rattle.wef_collector_reports.specs.declared.listing.Listed.{Listed}
use Rattle.wef_collector_leases.specs.Laws.{Has, IsAllIdle, IsDue, IsFirstOf, IsIdle, IsNextOf, IsNoEarlier, NextIsFirst, wanted}
use Rattle.wef_collector_leases.specs.Next.{begins_here, due_at, due_of, due_with, earlier, earlier_than, first_due, least_due, or_next, wanted_at}
use Rattle.wef_collector_leases.specs.Waiting.{is_waiting}
use Rattle.wef_collector_leases.specs.declared.leases.Wants.{Wants}
use Rattle.wef_collector_leases.specs.declared.next.Due.{Due}
use Rattle.wef_collector_leases.specs.declared.next.DueSource.{DueSource}
use Rattle.wef_collector_leases.specs.declared.waiting.Waiting.{Waiting}

-- ---- names, and which comes first

abbrev below : List ℕ → List ℕ → Bool
below a b = is_lt (slice_cmp nat_cmp a b)

less_where : (r : Ordering) → is_lt r ≡ true → r ≡ Less
less_where Less lt = refl
less_where Equal lt = cc
less_where Greater lt = cc

none_below_itself : (a : List ℕ) → below a a ≡ false
none_below_itself a = ap is_lt (tied_itself nat_list_cmp_total a)

joined : (a b c : List ℕ) → below a b ≡ true → below b c ≡ true → below a c ≡ true
joined a b c first second = ap is_lt (nat_list_cmp_total.trans a b c (less_where (slice_cmp nat_cmp a b) first) (less_where (slice_cmp nat_cmp b c) second))

-- what is above a name is above what isn't above that
over : (x b d : List ℕ) → below x b ≡ true → below x d ≡ false → below b d ≡ false
over x b d low apart = by (below b d) refl
  where
    by : (t : Bool) → below b d ≡ t → below b d ≡ false
    by true is = let through : below x d ≡ true = joined x b d low is in let bad : ⊥ = cc in absurd bad
    by false is = is

-- what isn't below a name isn't below what that isn't below
not_joined : (a b c : List ℕ) → below a b ≡ false → below b c ≡ false → below a c ≡ false
not_joined a b c first second = by (slice_cmp nat_cmp a b) refl
  where
    by : (r : Ordering) → slice_cmp nat_cmp a b ≡ r → below a c ≡ false
    by Less is = let low : below a b ≡ true = ap is_lt is in let bad : ⊥ = cc in absurd bad
    by Equal is = ap is_lt (nat_list_cmp_total.congr a b c is) ∙ second
    by Greater is =
        let low : below b a ≡ true = ap is_lt (nat_list_cmp_total.antisymm b a ∙ ap ordering_reverse is) in
        over b a c low second

-- ---- what is due at one source

abbrev OneOf : Rows → List Waiting → ℕ → Listed → SourceAt → Type 0
OneOf rows waiting now l s =
    ((due_at rows waiting now l s ≡ None) × IsIdle rows waiting now l s)
    ⊎ ((wants : Wants) × (due_at rows waiting now l s ≡ Some (record { source = s; wants = wants })) × IsDue rows waiting now l s wants)

at_one : (rows : Rows) (waiting : List Waiting) (now : ℕ) (l : Listed) (s : SourceAt) → OneOf rows waiting now l s
at_one rows waiting now l s = by (is_waiting waiting l.subscription.name s.name) (wanted rows now l s) refl refl
  where
    by : (w : Bool) (o : Option Wants) → is_waiting waiting l.subscription.name s.name ≡ w → wanted rows now l s ≡ o → OneOf rows waiting now l s
    by true o waits is = inl (ap (λ (b : Bool). if b then None else wanted_at s (wanted rows now l s)) waits, (λ free. let bad : ⊥ = cc in absurd bad))
    by false None waits is = inl ((λ i. if waits i then None else wanted_at s (is i)), (λ free. is))
    by false (Some wants) waits is = inr (wants, (λ i. if waits i then None else wanted_at s (is i)), (waits, is))

-- ---- the first of sources, and of one that was found before

module _ (rows : Rows) (waiting : List Waiting) (now : ℕ) (l : Listed) where
  abbrev Comes : Option DueSource → List SourceAt → DueSource → Type 0
  Comes before ss d = (before ≡ Some d) ⊎ (Has d.source ss × IsDue rows waiting now l d.source d.wants)

  abbrev IsLeast : Option DueSource → List SourceAt → Option DueSource → Type 0
  IsLeast before ss None = (before ≡ None) × AllByRecursion (IsIdle rows waiting now l) ss
  IsLeast before ss (Some d) =
      Comes before ss d × IfSome before (λ b. below b.source.name d.source.name ≡ false) × AllByRecursion (IsNoEarlier rows waiting now l d.source) ss

  alone : (before : Option DueSource) → IsLeast before [] before
  alone None = (refl, tt)
  alone (Some d) = (inl refl, none_below_itself d.source.name, tt)

  -- with a source in front
  later_too : (before : Option DueSource) (s : SourceAt) (ss : List SourceAt) (d : DueSource) → Comes before ss d → Comes before (s ∷ ss) d
  later_too before s ss d (inl is) = inl is
  later_too before s ss d (inr found) = inr (inr found.0, found.1)

  -- at which nothing is due
  passed : (before after : Option DueSource) (s : SourceAt) (ss : List SourceAt) → IsIdle rows waiting now l s → IsLeast before ss after → IsLeast before (s ∷ ss) after
  passed before None s ss idle least = (least.0, (idle, least.1))
  passed before (Some d) s ss idle least = (later_too before s ss d least.0, least.1, ((λ _. idle), least.2))

  found_here : (before : Option DueSource) (x d : DueSource) (ss : List SourceAt) → IsDue rows waiting now l x.source x.wants → Comes (Some x) ss d → Comes before (x.source ∷ ss) d
  found_here before x d ss due (inl is) =
      let same : x ≡ d = cc in
      subst (λ (d : DueSource). Comes before (x.source ∷ ss) d) same (inr (inl refl, due))
  found_here before x d ss due (inr later) = inr (inr later.0, later.1)

  no_earlier : (x d : DueSource) → below x.source.name d.source.name ≡ false → IsNoEarlier rows waiting now l d.source x.source
  no_earlier x d apart = λ low. let bad : ⊥ = cc in absurd bad

  -- with one at which something is due
  taken : (before after : Option DueSource) (x : DueSource) (ss : List SourceAt) → IsDue rows waiting now l x.source x.wants → IsLeast (earlier_than x before) ss after → IsLeast before (x.source ∷ ss) after
  taken None None x ss due least = let is = least.0 in let bad : ⊥ = cc in absurd bad
  taken None (Some d) x ss due least = (found_here None x d ss due least.0, tt, (no_earlier x d least.1, least.2))
  taken (Some b) after x ss due least = by (below x.source.name b.source.name) refl after least
    where
      by : (t : Bool) → below x.source.name b.source.name ≡ t → (after : Option DueSource) → IsLeast (Some (if t then x else b)) ss after → IsLeast (Some b) (x.source ∷ ss) after
      by t is None least = let none = least.0 in let bad : ⊥ = cc in absurd bad
      by true is (Some d) least = (found_here (Some b) x d ss due least.0, over x.source.name b.source.name d.source.name is least.1, (no_earlier x d least.1, least.2))
      by false is (Some d) least =
          (later_too (Some b) x.source ss d least.0, least.1, (no_earlier x d (not_joined x.source.name b.source.name d.source.name is least.1), least.2))

  least_is : (before : Option DueSource) (ss : List SourceAt) → IsLeast before ss (least_due rows waiting now l before ss)
  least_is before [] = alone before
  least_is before (s ∷ ss) = by (at_one rows waiting now l s) (λ b. least_is b ss)
    where
      by : OneOf rows waiting now l s → ((b : Option DueSource) → IsLeast b ss (least_due rows waiting now l b ss)) → IsLeast before (s ∷ ss) (least_due rows waiting now l (earlier before (due_at rows waiting now l s)) ss)
      by (inl idle) rest =
          subst (λ (o : Option DueSource). IsLeast before (s ∷ ss) (least_due rows waiting now l (earlier before o) ss)) (sym idle.0)
          (passed before (least_due rows waiting now l before ss) s ss idle.1 (rest before))
      by (inr due) rest =
          let x : DueSource = record { source = s; wants = due.0 } in
          subst (λ (o : Option DueSource). IsLeast before (s ∷ ss) (least_due rows waiting now l (earlier before o) ss)) (sym due.1)
          (taken before (least_due rows waiting now l (earlier_than x before) ss) x ss due.2 (rest (earlier_than x before)))

  -- ---- the first of a subscription

  abbrev IsOf : Option Due → Type 0
  IsOf None = IsAllIdle rows waiting now l
  IsOf (Some due) = IsFirstOf rows waiting now l due

  not_before : (ss : List SourceAt) (d : DueSource) → Comes None ss d → Has d.source ss × IsDue rows waiting now l d.source d.wants
  not_before ss d (inl is) = let bad : ⊥ = cc in absurd bad
  not_before ss d (inr found) = found

  of_sources : (o : Option DueSource) → begins_here l.subscription.kind ≡ true → IsLeast None l.subscription.sources o → IsOf (due_with l.subscription o)
  of_sources None begins least = λ _. least.1
  of_sources (Some d) begins least =
      let comes = not_before l.subscription.sources d least.0 in
      record { begins = begins; subscription = refl; has = comes.0; is_due = comes.1; first = least.2 }

  of_one : IsOf (due_of rows waiting now l)
  of_one = by (begins_here l.subscription.kind) refl
    where
      by : (t : Bool) → begins_here l.subscription.kind ≡ t → IsOf (if t then due_with l.subscription (least_due rows waiting now l None l.subscription.sources) else None)
      by true is = of_sources (least_due rows waiting now l None l.subscription.sources) is (least_is None l.subscription.sources)
      by false is = λ begins. let bad : ⊥ = cc in absurd bad

-- ---- the first of all

with_next : (rows : Rows) (waiting : List Waiting) (now : ℕ) (l : Listed) (ls : List Listed) (o next : Option Due) → IsOf rows waiting now l o → IsNextOf rows waiting now ls next → IsNextOf rows waiting now (l ∷ ls) (or_next o next)
with_next rows waiting now l ls None None idle rest = (idle, rest)
with_next rows waiting now l ls None (Some due) idle rest = inr (idle, rest)
with_next rows waiting now l ls (Some due) next first rest = inl first

of_all : (rows : Rows) (waiting : List Waiting) (now : ℕ) (ls : List Listed) → IsNextOf rows waiting now ls (first_due rows waiting now ls)
of_all rows waiting now [] = tt
of_all rows waiting now (l ∷ ls) = with_next rows waiting now l ls (due_of rows waiting now l) (first_due rows waiting now ls) (of_one rows waiting now l) (of_all rows waiting now ls)

pub next_is_first : NextIsFirst
next_is_first rows waiting now = of_all rows waiting now (listed rows)
