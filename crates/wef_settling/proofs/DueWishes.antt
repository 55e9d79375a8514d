-- What is due where no request waits, no lease is due, and none stands of a subscription that has ended: nothing, or a session that the
-- collector is to begin.
use Rattle.std.proofs.Common.{◌≡◌, ℕ, ◌||◌, Bool, true, false, cond, List, [], ◌∷◌, map, inl, inr, refl, ap, sym, ◌∙◌, subst}
use Rattle.std.proofs.lemmas.Bool.{cond_both}
use Rattle.std.proofs.lemmas.Option.{none-some, same_Some}
use Rattle.std.specs.List.{AllByRecursion, flat_map, list_any}
use Rattle.std.specs.Prelude.{Option, Some, None, IfSome}
use Rattle.wef_building.proofs.Cases.{or_true}
use Rattle.wef_collector.proofs.Hits.{one_name, same_self}
use Rattle.wef_collector_leases.specs.Due.{due_for}
use Rattle.wef_collector_leases.specs.Leases.{lease_at}
use Rattle.wef_collector_leases.specs.Next.{begins_here, due_at, due_of, due_with, earlier, first_due, least_due, next_due, or_next, wanted_at}
use Rattle.wef_collector_leases.specs.declared.leases.Lease.{Lease}
use Rattle.wef_collector_leases.specs.declared.leases.Wants.TheVariants.{Subscribes}
use Rattle.wef_collector_leases.specs.declared.next.Due.{Due}
use Rattle.wef_collector_leases.specs.declared.next.DueSource.{DueSource}
use Rattle.wef_collector_leases.specs.declared.waiting.Waiting.{Waiting}
use Rattle.wef_collector_reports.specs.Listing.{listed}
use Rattle.wef_collector_reports.specs.declared.listing.Listed.{Listed}
use Rattle.wef_collector_rows.specs.Standing.{standing}
use Rattle.wef_collector_rows.specs.declared.standings.Standing.TheVariants as stands
use Rattle.wef_eventing.specs.declared.subscriptions.SourceAt.{SourceAt}
use Rattle.wef_eventing.specs.declared.subscriptions.SubKind.{SubKind}
use Rattle.wef_eventing.specs.declared.subscriptions.SubKind.TheVariants.{BySource, ByCollector}
use Rattle.wef_eventing.specs.declared.subscriptions.Subscription.{Subscription}
use Rattle.wef_keeper.specs.Rows.{Rows}
use Rattle.wef_machine.specs.States.{State}
use Rattle.wef_safety.proofs.RowMoves.{AreRowsKept}
use Rattle.wef_safety.proofs.Sent.{all_joined}
use Rattle.wef_settling.proofs.DuePairs.{IsPairDue, StandsSo, all_stand_so, next_is_due}
use Rattle.wef_settling.proofs.Facts.{HasSession, IsLeased, IsLent}
use Rattle.wef_settling.proofs.LessDue.{wish_due}
use Rattle.wef_settling.proofs.LiveListed.{as_live, live_listed, live_name}
use Rattle.wef_machine.specs.Measures.{Pair, pair_with, pairs, pairs_of}
use Rattle.wef_settling.specs.Settled.{has_name, is_lent, lists}
use Rattle.wef_settling.specs.Settles.{IsAmong}

some_none : {X : Type 0} (x : X) → Some x ≡ None → ⊥
some_none x e = none-some x (sym e)

pick : {X : Type 0} (P : X → Type 0) (xs : List X) (x : X) → AllByRecursion P xs → IsAmong x xs → P x
pick P [] x all among = absurd among
pick P (y ∷ xs) x all (inl is) = subst P is all.0
pick P (y ∷ xs) x all (inr among) = pick P xs x all.1 among

any_among : {X : Type 0} (test : X → Bool) (xs : List X) (x : X) → test x ≡ true → IsAmong x xs → list_any test xs ≡ true
any_among test [] x passes among = absurd among
any_among test (y ∷ xs) x passes (inl is) = ap (λ (t : Bool). t || list_any test xs) (ap test is ∙ passes)
any_among test (y ∷ xs) x passes (inr among) = or_true (test y) (list_any test xs) (any_among test xs x passes among)

-- ---- where nothing is due

module _ (rows : Rows) (waiting : List Waiting) (now : ℕ) where
  -- nothing is due at a source
  abbrev pub IsUndue : Listed → SourceAt → Type 0
  IsUndue l source = due_at rows waiting now l source ≡ None

  none_earlier : (least due : Option DueSource) → earlier least due ≡ None → (least ≡ None) × (due ≡ None)
  none_earlier least None e = (e, refl)
  none_earlier None (Some due) e = absurd (some_none due e)
  none_earlier (Some least) (Some due) e = absurd (some_none _ e)

  none_least : (l : Listed) (least : Option DueSource) (sources : List SourceAt) → least_due rows waiting now l least sources ≡ None → (least ≡ None) × AllByRecursion (IsUndue l) sources
  none_least l least [] e = (e, tt)
  none_least l least (source ∷ sources) e =
      let rest = none_least l (earlier least (due_at rows waiting now l source)) sources e in
      let here = none_earlier least (due_at rows waiting now l source) rest.0 in
      (here.0, (here.1, rest.1))

  none_with : (about : Subscription) (found : Option DueSource) → due_with about found ≡ None → found ≡ None
  none_with about None e = refl
  none_with about (Some found) e = absurd (some_none _ e)

  none_next : (here rest : Option Due) → or_next here rest ≡ None → (here ≡ None) × (rest ≡ None)
  none_next None rest e = (refl, e)
  none_next (Some due) rest e = absurd (some_none due e)

  none_first : (ls : List Listed) → first_due rows waiting now ls ≡ None → AllByRecursion (λ l. due_of rows waiting now l ≡ None) ls
  none_first [] e = tt
  none_first (l ∷ ls) e = let parts = none_next (due_of rows waiting now l) (first_due rows waiting now ls) e in (parts.0, none_first ls parts.1)

  -- nothing is due at any source of a subscription that the collector begins
  pub all_undue : (l : Listed) → next_due rows waiting now ≡ None → IsAmong l (listed rows) → begins_here l.subscription.kind ≡ true → AllByRecursion (IsUndue l) l.subscription.sources
  all_undue l none among begins =
      let here = pick (λ (x : Listed). due_of rows waiting now x ≡ None) (listed rows) l (none_first (listed rows) none) among in
      let inside = ap (λ (t : Bool). cond t (due_with l.subscription (least_due rows waiting now l None l.subscription.sources)) None) (sym begins) ∙ here in
      (none_least l None l.subscription.sources (none_with l.subscription (least_due rows waiting now l None l.subscription.sources) inside)).1

-- ---- pairs

-- A pair's subscription stands as it is listed, is one that the collector begins, and lists the source.
pub record IsPair (rows : Rows) (pair : Pair) : Type 0 where
  pub stands : StandsSo rows pair.0
  pub begins : begins_here pair.0.subscription.kind ≡ true
  pub lists : lists pair.1.name pair.0.subscription.sources ≡ true

all_listing : (rows : Rows) (l : Listed) (sources : List SourceAt) → StandsSo rows l → begins_here l.subscription.kind ≡ true →
    ((source : SourceAt) → IsAmong source sources → IsAmong source l.subscription.sources) → AllByRecursion (IsPair rows) (map (pair_with l) sources)
all_listing rows l [] so begins among = tt
all_listing rows l (source ∷ sources) so begins among = (
  record { stands = so; begins = begins; lists = any_among (has_name source.name) l.subscription.sources source (same_self source.name) (among source (inl refl)) },
  all_listing rows l sources so begins (λ x x_among. among x (inr x_among)),
)

are_pairs : (rows : Rows) (ls : List Listed) → AllByRecursion (StandsSo rows) ls → AllByRecursion (IsPair rows) (flat_map pairs_of ls)
are_pairs rows [] all = tt
are_pairs rows (l ∷ ls) all =
    all_joined (IsPair rows) (pairs_of l) (flat_map pairs_of ls)
    (cond_both (begins_here l.subscription.kind) (map (pair_with l) l.subscription.sources) [] (AllByRecursion (IsPair rows))
    (λ here. all_listing rows l l.subscription.sources all.0 here (λ source among. among)) (λ other. tt))
    (are_pairs rows ls all.1)

-- ---- what is due

-- the wish for a session that the collector is to begin
abbrev pub wish_of : Subscription → SourceAt → Due
wish_of about source = record { subscription = about; source = source; wants = Subscribes }

-- What is due is to begin a live subscription at a source that it lists.
pub record IsWished (state : State) (due : Due) : Type 0 where
  pub about : Subscription
  pub source : SourceAt
  pub is : due ≡ wish_of about source
  pub live : standing state.collector.rows about.name ≡ stands.Live about
  pub kind : about.kind ≡ ByCollector
  pub at : lists source.name about.sources ≡ true
  pub lent : list_any is_lent (listed state.collector.rows) ≡ true

here_kind : (kind : SubKind) → begins_here kind ≡ true → kind ≡ ByCollector
here_kind BySource e = cc
here_kind ByCollector e = refl

live_is_wished : (state : State) (l : Listed) (due : Due) → AreRowsKept state.collector.rows → IsLeased state → IsPair state.collector.rows (l, due.source) → due.subscription ≡ l.subscription →
    l.live ≡ true → due_for true state.moment l.subscription.expires (lease_at state.collector.rows l.subscription.name due.source.name) ≡ Some due.wants → IsWished state due
live_is_wished state l due keys leased pair same live wish = by_lease (lease_at state.collector.rows l.subscription.name due.source.name) refl wish
  where
    own : standing state.collector.rows l.subscription.name ≡ stands.Live l.subscription
    own = pair.stands ∙ ap (λ (t : Bool). cond t (stands.Live l.subscription) (stands.Ended l.subscription)) live

    kind : l.subscription.kind ≡ ByCollector
    kind = here_kind l.subscription.kind pair.begins

    by_lease : (found : Option Lease) → lease_at state.collector.rows l.subscription.name due.source.name ≡ found → due_for true state.moment l.subscription.expires found ≡ Some due.wants →
        IsWished state due
    by_lease None stood wants =
        let subscribes = sym (same_Some Subscribes due.wants wants) in
        record {
          about = l.subscription;
          source = due.source;
          is = λ i. record { subscription = same i; source = due.source; wants = subscribes i };
          live = own;
          kind = kind;
          at = pair.lists;
          lent =
              any_among is_lent (listed state.collector.rows) (as_live l.subscription) pair.begins
              (live_listed state.collector.rows l.subscription.name l.subscription keys own);
        }
    by_lease (Some lease) stood wants =
        let served = leased.live l.subscription.name due.source.name l.subscription lease own kind pair.lists stood in
        absurd (none-some due.wants (sym served.lasts ∙ wants))

ended_is_none : (state : State) (l : Listed) (due : Due) → IsLeased state → StandsSo state.collector.rows l → l.live ≡ false →
    due_for false state.moment l.subscription.expires (lease_at state.collector.rows l.subscription.name due.source.name) ≡ Some due.wants → ⊥
ended_is_none state l due leased so ended wish =
    let own = so ∙ ap (λ (t : Bool). cond t (stands.Live l.subscription) (stands.Ended l.subscription)) ended in
    none-some due.wants (sym (ap (due_for false state.moment l.subscription.expires) (leased.ended l.subscription.name due.source.name l.subscription own)) ∙ wish)

-- what is due where none waits is such a wish
pub is_wished : (state : State) (due : Due) → AreRowsKept state.collector.rows → IsLeased state → next_due state.collector.rows [] state.moment ≡ Some due → IsWished state due
is_wished state due keys leased next =
    let rows = state.collector.rows in
    let is = subst (λ (o : Option Due). IfSome o (IsPairDue rows [] state.moment (pairs rows))) next (next_is_due rows [] state.moment) in
    let pair = pick (IsPair rows) (pairs rows) (is.listed, due.source) (are_pairs rows (listed rows) (all_stand_so rows keys)) is.among in
    let wish = wish_due rows [] state.moment is.listed due.source due.wants is.is in
    by_live is.listed is.subscription pair is.listed.live refl wish.is
  where
    by_live : (l : Listed) → due.subscription ≡ l.subscription → IsPair state.collector.rows (l, due.source) → (live : Bool) → l.live ≡ live →
        due_for live state.moment l.subscription.expires (lease_at state.collector.rows l.subscription.name due.source.name) ≡ Some due.wants → IsWished state due
    by_live l same pair true live wish = live_is_wished state l due keys leased pair same live wish
    by_live l same pair false ended wish = absurd (ended_is_none state l due leased pair.stands ended wish)

-- ---- where nothing is due, each pair is served

-- A lease stands, and isn't due.
record Stands (now expires : ℕ) (found : Option Lease) : Type 0 where
  lease : Lease
  is : found ≡ Some lease

undue_stands : (source : SourceAt) (now expires : ℕ) (found : Option Lease) → wanted_at source (due_for true now expires found) ≡ None → Stands now expires found
undue_stands source now expires None e = absurd (some_none _ e)
undue_stands source now expires (Some lease) e = record { lease = lease; is = refl }

listed_stands : (rows : Rows) (now : ℕ) (l : Listed) (s : List ℕ) (sources : List SourceAt) → l.live ≡ true → lists s sources ≡ true → AllByRecursion (IsUndue rows [] now l) sources →
    Stands now l.subscription.expires (lease_at rows l.subscription.name s)
listed_stands rows now l s [] live listing all = cc
listed_stands rows now l s (source ∷ sources) live listing all = by_test (has_name s source) refl listing (λ later. listed_stands rows now l s sources live later all.1)
  where
    by_test : (t : Bool) → has_name s source ≡ t → (t || list_any (has_name s) sources) ≡ true →
        (lists s sources ≡ true → Stands now l.subscription.expires (lease_at rows l.subscription.name s)) → Stands now l.subscription.expires (lease_at rows l.subscription.name s)
    by_test true is some rest =
        subst (λ (r : List ℕ). Stands now l.subscription.expires (lease_at rows l.subscription.name r)) (one_name source.name s is)
        (undue_stands source now l.subscription.expires (lease_at rows l.subscription.name source.name)
        (ap (λ (t : Bool). wanted_at source (due_for t now l.subscription.expires (lease_at rows l.subscription.name source.name))) (sym live) ∙ all.0))
    by_test false is some rest = rest some

pub all_served : (state : State) (s u : List ℕ) → AreRowsKept state.collector.rows → IsLeased state → next_due state.collector.rows [] state.moment ≡ None → IsLent state s u → HasSession state s u
all_served state s u keys leased none lent =
    let rows = state.collector.rows in
    let about = lent.about in
    let undue = all_undue rows [] state.moment (as_live about) none (live_listed rows u about keys lent.live) (ap begins_here lent.kind) in
    let lease = listed_stands rows state.moment (as_live about) s about.sources refl lent.listed undue in
    (leased.live u s about lease.lease lent.live lent.kind lent.listed (ap (λ (v : List ℕ). lease_at rows v s) (sym (live_name rows u about lent.live)) ∙ lease.is)).session
