-- What is due is of a pair that the rows list; and how much is left to be requested once it is answered.
use Rattle.std.proofs.Common.{◌≡◌, ℕ, Bool, true, false, cond, List, [], ◌∷◌, ◌++◌, map, inl, inr, refl, ap, sym, ◌∙◌, subst}
use Rattle.std.proofs.lemmas.Bool.{cond_both}
use Rattle.std.proofs.lemmas.List.Elements.{All-head, All-tail}
use Rattle.std.proofs.lemmas.Option.{none-some, same_Some}
use Rattle.std.specs.Cmp.Lexicographic.{slice_cmp}
use Rattle.std.specs.FinMap as finite
use Rattle.std.specs.List.{All, AllByRecursion, flat_map}
use Rattle.std.specs.Ordering.{is_lt, nat_cmp}
use Rattle.std.specs.Prelude.{Option, Some, None, IfSome, is_some}
use Rattle.wef_collector.proofs.ListedThere.{listed_are_there}
use Rattle.wef_collector.specs.There.{HaveOwnKeys, IsOwnKey, standing_as}
use Rattle.wef_collector_leases.specs.Due.{due_for}
use Rattle.wef_collector_leases.specs.Leases.{lease_at}
use Rattle.wef_collector_leases.specs.Next.{begins_here, due_at, due_of, due_with, earlier, first_due, least_due, next_due, or_next, wanted_at}
use Rattle.wef_collector_leases.specs.Waiting.{is_waiting}
use Rattle.wef_collector_leases.specs.declared.leases.Wants.{Wants}
use Rattle.wef_collector_leases.specs.declared.next.Due.{Due}
use Rattle.wef_collector_leases.specs.declared.next.DueSource.{DueSource}
use Rattle.wef_collector_leases.specs.declared.waiting.Waiting.{Waiting}
use Rattle.wef_collector_reports.specs.Listing.{listed}
use Rattle.wef_collector_reports.specs.declared.listing.Listed.{Listed}
use Rattle.wef_collector_rows.specs.Standing.{standing}
use Rattle.wef_eventing.specs.declared.subscriptions.SourceAt.{SourceAt}
use Rattle.wef_keeper.specs.Rows.{Rows}
use Rattle.wef_keeper.specs.declared.keys.Cell.{Cell}
use Rattle.wef_safety.proofs.Offering.{reads_subscription}
use Rattle.wef_safety.proofs.RowMoves.{AreRowsKept}
use Rattle.wef_safety.proofs.Sent.{all_joined}
use Rattle.wef_machine.specs.Measures.{Pair, pair_with, pairs, pairs_of}
use Rattle.wef_settling.specs.Settles.{IsAmong}
use Rattle.wef_settling.proofs.Counting.{among_first, among_second}

-- ---- listed subscriptions are those of their names

own_keys : (rows : Rows) → AreRowsKept rows → HaveOwnKeys rows
own_keys rows keys key kind there = by_cell (finite.get rows key) refl there
  where
    by_cell : (o : Option Cell) → finite.get rows key ≡ o → is_some o ≡ true → IsOwnKey key
    by_cell None e some = cc
    by_cell (Some cell) e some =
        let form = keys key cell e in
        record { own = form.subscription kind; reads_back = (reads_subscription key.sub (form.name kind)).1 }

-- a listed subscription stands as it is listed
abbrev pub StandsSo : Rows → Listed → Type 0
StandsSo rows l = standing rows l.subscription.name ≡ standing_as l

by_recursion : {X : Type 0} (P : X → Type 0) (xs : List X) → All P xs → AllByRecursion P xs
by_recursion P [] all = tt
by_recursion P (x ∷ xs) all = (All-head P x xs all, by_recursion P xs (All-tail P x xs all))

pub all_stand_so : (rows : Rows) → AreRowsKept rows → AllByRecursion (StandsSo rows) (listed rows)
all_stand_so rows keys = by_recursion (StandsSo rows) (listed rows) (listed_are_there rows (own_keys rows keys))

-- ---- pairs

-- so does that of each pair
abbrev pub PairStandsSo : Rows → Pair → Type 0
PairStandsSo rows pair = StandsSo rows pair.0

all_with : (rows : Rows) (l : Listed) (sources : List SourceAt) → StandsSo rows l → AllByRecursion (PairStandsSo rows) (map (pair_with l) sources)
all_with rows l [] is = tt
all_with rows l (source ∷ sources) is = (is, all_with rows l sources is)

all_pairs_of : (rows : Rows) (ls : List Listed) → AllByRecursion (StandsSo rows) ls → AllByRecursion (PairStandsSo rows) (flat_map pairs_of ls)
all_pairs_of rows [] all = tt
all_pairs_of rows (l ∷ ls) all =
    all_joined (PairStandsSo rows) (pairs_of l) (flat_map pairs_of ls)
    (cond_both (begins_here l.subscription.kind) (map (pair_with l) l.subscription.sources) [] (AllByRecursion (PairStandsSo rows)) (λ here. all_with rows l l.subscription.sources all.0) (λ other. tt))
    (all_pairs_of rows ls all.1)

pub all_pairs : (rows : Rows) → AreRowsKept rows → AllByRecursion (PairStandsSo rows) (pairs rows)
all_pairs rows keys = all_pairs_of rows (listed rows) (all_stand_so rows keys)

-- ---- what is due is of a pair

-- What is due of a subscription is at one of these sources.
record IsSourceDue (rows : Rows) (waiting : List Waiting) (now : ℕ) (l : Listed) (sources : List SourceAt) (due : DueSource) : Type 0 where
  among : IsAmong due.source sources
  is : due_at rows waiting now l due.source ≡ Some due

-- What is due is of a pair of these.
pub record IsPairDue (rows : Rows) (waiting : List Waiting) (now : ℕ) (all : List Pair) (due : Due) : Type 0 where
  pub listed : Listed
  pub subscription : due.subscription ≡ listed.subscription
  pub among : IsAmong (listed, due.source) all
  pub is : due_at rows waiting now listed due.source ≡ Some (record { source = due.source; wants = due.wants })

module _ (rows : Rows) (waiting : List Waiting) (now : ℕ) where
  -- what is due at a source is at that source
  own_source : (l : Listed) (source : SourceAt) (due : DueSource) → due_at rows waiting now l source ≡ Some due → due.source ≡ source
  own_source l source due is = by_test (is_waiting waiting l.subscription.name source.name) is
    where
      wish : Option Wants
      wish = due_for l.live now l.subscription.expires (lease_at rows l.subscription.name source.name)

      by_wish : (wants : Option Wants) → wanted_at source wants ≡ Some due → due.source ≡ source
      by_wish None e = absurd (none-some due e)
      by_wish (Some wants) e = sym (ap (λ (x : DueSource). x.source) (same_Some (record { source = source; wants = wants }) due e))

      by_test : (t : Bool) → cond t None (wanted_at source (due_for l.live now l.subscription.expires (lease_at rows l.subscription.name source.name))) ≡ Some due → due.source ≡ source
      by_test true e = absurd (none-some due e)
      by_test false e = by_wish wish e

  one_due : (l : Listed) (source : SourceAt) (sources : List SourceAt) → IsAmong source sources → IfSome (due_at rows waiting now l source) (IsSourceDue rows waiting now l sources)
  one_due l source sources among = by (due_at rows waiting now l source) refl
    where
      by : (found : Option DueSource) → due_at rows waiting now l source ≡ found → IfSome found (IsSourceDue rows waiting now l sources)
      by None is = tt
      by (Some due) is =
          let own = own_source l source due is in
          record { among = subst (λ (x : SourceAt). IsAmong x sources) (sym own) among; is = ap (due_at rows waiting now l) own ∙ is }

  earlier_due : (P : DueSource → Type 0) (least due : Option DueSource) → IfSome least P → IfSome due P → IfSome (earlier least due) P
  earlier_due P least None before is = before
  earlier_due P None (Some due) before is = is
  earlier_due P (Some least) (Some due) before is = cond_both (is_lt (slice_cmp nat_cmp due.source.name least.source.name)) due least P (λ _. is) (λ _. before)

  least_is_due : (l : Listed) (all sources : List SourceAt) (least : Option DueSource) → ((source : SourceAt) → IsAmong source sources → IsAmong source all) →
      IfSome least (IsSourceDue rows waiting now l all) → IfSome (least_due rows waiting now l least sources) (IsSourceDue rows waiting now l all)
  least_is_due l all [] least among before = before
  least_is_due l all (source ∷ sources) least among before =
      least_is_due l all sources (earlier least (due_at rows waiting now l source)) (λ x x_among. among x (inr x_among))
      (earlier_due (IsSourceDue rows waiting now l all) least (due_at rows waiting now l source) before (one_due l source all (among source (inl refl))))

  paired : (l : Listed) (source : SourceAt) (sources : List SourceAt) → IsAmong source sources → IsAmong (l, source) (map (pair_with l) sources)
  paired l source [] among = absurd among
  paired l source (x ∷ sources) (inl is) = inl (ap (pair_with l) is)
  paired l source (x ∷ sources) (inr among) = inr (paired l source sources among)

  listed_due : (l : Listed) → IfSome (due_of rows waiting now l) (IsPairDue rows waiting now (pairs_of l))
  listed_due l = by_test (begins_here l.subscription.kind)
    where
      by_source : (found : Option DueSource) → IfSome found (IsSourceDue rows waiting now l l.subscription.sources) →
          IfSome (due_with l.subscription found) (IsPairDue rows waiting now (map (pair_with l) l.subscription.sources))
      by_source None is = tt
      by_source (Some found) is = record { listed = l; subscription = refl; among = paired l found.source l.subscription.sources is.among; is = is.is }

      by_test : (t : Bool) →
          IfSome (cond t (due_with l.subscription (least_due rows waiting now l None l.subscription.sources)) None) (IsPairDue rows waiting now (cond t (map (pair_with l) l.subscription.sources) []))
      by_test true = by_source (least_due rows waiting now l None l.subscription.sources) (least_is_due l l.subscription.sources l.subscription.sources None (λ source among. among) tt)
      by_test false = tt

  wider : (some all : List Pair) (due : Due) → ((pair : Pair) → IsAmong pair some → IsAmong pair all) → IsPairDue rows waiting now some due → IsPairDue rows waiting now all due
  wider some all due more is = record { listed = is.listed; subscription = is.subscription; among = more (is.listed, due.source) is.among; is = is.is }

  first_is_due : (ls : List Listed) → IfSome (first_due rows waiting now ls) (IsPairDue rows waiting now (flat_map pairs_of ls))
  first_is_due [] = tt
  first_is_due (l ∷ ls) = by (due_of rows waiting now l) (listed_due l) (first_due rows waiting now ls) (first_is_due ls)
    where
      by : (here : Option Due) → IfSome here (IsPairDue rows waiting now (pairs_of l)) → (rest : Option Due) → IfSome rest (IsPairDue rows waiting now (flat_map pairs_of ls)) →
          IfSome (or_next here rest) (IsPairDue rows waiting now (pairs_of l ++ flat_map pairs_of ls))
      by None is None later = tt
      by None is (Some due) later = wider (flat_map pairs_of ls) (pairs_of l ++ flat_map pairs_of ls) due (λ pair. among_second pair (pairs_of l) (flat_map pairs_of ls)) later
      by (Some due) is rest later = wider (pairs_of l) (pairs_of l ++ flat_map pairs_of ls) due (λ pair. among_first pair (pairs_of l) (flat_map pairs_of ls)) is

pub next_is_due : (rows : Rows) (waiting : List Waiting) (now : ℕ) → IfSome (next_due rows waiting now) (IsPairDue rows waiting now (pairs rows))
next_is_due rows waiting now = first_is_due rows waiting now (listed rows)
