-- What is due stands in the rows, and the request for it asks for what a source may be asked.
use Rattle.std.proofs.Common.{◌≡◌, ℕ, ◌+◌, ◌/◌, nat_le, Bool, true, false, cond, List, [], ◌∷◌, ◌≤◌, refl, sym, subst}
use Rattle.std.proofs.lemmas.Bool.{cond_both}
use Rattle.std.specs.Cmp.Lexicographic.{slice_cmp}
use Rattle.std.specs.FinMap as finite
use Rattle.std.specs.List.{AllByRecursion}
use Rattle.std.specs.Option.{option_map}
use Rattle.std.specs.Ordering.{is_lt, nat_cmp}
use Rattle.std.specs.Prelude.{Option, Some, None, IfSome}
use Rattle.wef_bodies.specs.declared.bodies.Body.{Body}
use Rattle.wef_collector.specs.Asking.{body_for, identifier_of, next_request, request_for, waiting_of, wants_by}
use Rattle.wef_collector.specs.declared.asking.Request.{Request}
use Rattle.wef_collector_leases.specs.Due.{due_for}
use Rattle.wef_collector_leases.specs.Leases.{lease_at, lease_of}
use Rattle.wef_collector_leases.specs.Next.{begins_here, due_at, due_of, due_with, earlier, first_due, least_due, next_due, or_next, wanted_at}
use Rattle.wef_collector_leases.specs.Waiting.{is_waiting}
use Rattle.wef_collector_leases.specs.declared.leases.Lease.{Lease}
use Rattle.wef_collector_leases.specs.declared.leases.Wants.{Wants}
use Rattle.wef_collector_leases.specs.declared.leases.Wants.TheVariants.{Subscribes, Renews, Unsubscribes}
use Rattle.wef_collector_leases.specs.declared.next.Due.{Due}
use Rattle.wef_collector_leases.specs.declared.next.DueSource.{DueSource}
use Rattle.wef_collector_leases.specs.declared.waiting.Waiting.{Waiting}
use Rattle.wef_collector_reports.specs.Listing.{listed}
use Rattle.wef_collector_reports.specs.declared.listing.Listed.{Listed}
use Rattle.wef_collector_rows.specs.Forms.{is_subscription_name}
use Rattle.wef_collector_rows.specs.Keys.{lease_key}
use Rattle.wef_eventing.specs.declared.subscriptions.SourceAt.{SourceAt}
use Rattle.wef_eventing.specs.declared.subscriptions.Subscription.{Subscription}
use Rattle.wef_front_source.specs.Sending.{IsPlainText}
use Rattle.wef_ids.specs.IdTexts.{id_of_value}
use Rattle.wef_ids.specs.Ids.{next_id}
use Rattle.wef_ids.specs.declared.MessageId.{MessageId}
use Rattle.wef_ids.specs.declared.ids.Ids.{Ids}
use Rattle.wef_keeper.specs.Rows.{Rows}
use Rattle.wef_keeper.specs.declared.keys.Cell.{Cell}
use Rattle.wef_machine.specs.States.{host}
use Rattle.wef_replay.specs.Good.{is_source}
use Rattle.wef_times.specs.declared.durations.TheConstants.{LIMIT}
use Rattle.wef_safety.specs.Kept.{IsAddressed, IsAsked, IsAskedFor}
use Rattle.wef_safety.proofs.KeptChannels.{known_addressed}
use Rattle.wef_safety.proofs.LowerFacts.{source_named, subscription_named}
use Rattle.wef_safety.proofs.Offerable.{host_there, known_said}
use Rattle.wef_safety.proofs.Offering.{IsListed, all_listed, wish_is_offered}
use Rattle.wef_safety.proofs.RowMoves.{AreRowsKept}

-- ---- leases

-- what names the session of a lease is a text that a header says as it is
lease_plain : (rows : Rows) (u s : List ℕ) → AreRowsKept rows → IfSome (lease_at rows u s) (λ lease. IsPlainText lease.identifier)
lease_plain rows u s keys = by (finite.get rows (lease_key u s)) refl
  where
    by : (o : Option Cell) → finite.get rows (lease_key u s) ≡ o → IfSome (option_map lease_of o) (λ lease. IsPlainText lease.identifier)
    by None there = tt
    by (Some cell) there = (keys (lease_key u s) cell there).lease refl

-- ---- what is due

-- A wish names a session in such a text, if it names one.
abbrev pub IsPlainWish : Wants → Type 0
IsPlainWish wants = IfSome (identifier_of wants) IsPlainText

-- it has the name from the lease
due_plain : (live : Bool) (now expires : ℕ) (lease : Option Lease) → IfSome lease (λ lease. IsPlainText lease.identifier) → IfSome (due_for live now expires lease) IsPlainWish
due_plain true now expires None plain = tt
due_plain true now expires (Some lease) plain =
    let further : Option Wants = cond (nat_le lease.expiry (now + expires / 2)) (Some (Renews lease.identifier)) None in
    cond_both (nat_le lease.expiry now) (Some Subscribes) further (λ (o : Option Wants). IfSome o IsPlainWish) (λ _. tt)
    (λ _. cond_both (nat_le lease.expiry (now + expires / 2)) (Some (Renews lease.identifier)) None (λ (o : Option Wants). IfSome o IsPlainWish) (λ _. plain) (λ _. tt))
due_plain false now expires None plain = tt
due_plain false now expires (Some lease) plain = plain

-- A source that is due is found by its name, and is asked in such texts.
record IsWellDue (due : DueSource) : Type 0 where
  source : IsAddressed due.source
  wants : IsPlainWish due.wants

-- What is due is of a subscription that is listed, at a source that is found by its name.
pub record IsDueOf (rows : Rows) (due : Due) : Type 0 where
  pub listed : Listed
  pub is : IsListed rows listed
  pub subscription : due.subscription ≡ listed.subscription
  pub source : IsAddressed due.source
  pub wants : IsPlainWish due.wants

module _ (rows : Rows) (waiting : List Waiting) (now : ℕ) where
  one_due : (l : Listed) (source : SourceAt) → AreRowsKept rows → IsAddressed source → IfSome (due_at rows waiting now l source) IsWellDue
  one_due l source keys is =
      cond_both (is_waiting waiting l.subscription.name source.name) None
      (wanted_at source (due_for l.live now l.subscription.expires (lease_at rows l.subscription.name source.name))) (λ (o : Option DueSource). IfSome o IsWellDue) (λ _. tt)
      (λ _. by (due_for l.live now l.subscription.expires (lease_at rows l.subscription.name source.name))
      (due_plain l.live now l.subscription.expires (lease_at rows l.subscription.name source.name) (lease_plain rows l.subscription.name source.name keys)))
    where
      by : (o : Option Wants) → IfSome o IsPlainWish → IfSome (wanted_at source o) IsWellDue
      by None plain = tt
      by (Some wants) plain = record { source = is; wants = plain }

  earlier_due : (least due : Option DueSource) → IfSome least IsWellDue → IfSome due IsWellDue → IfSome (earlier least due) IsWellDue
  earlier_due least None before is = before
  earlier_due None (Some due) before is = is
  earlier_due (Some least) (Some due) before is = cond_both (is_lt (slice_cmp nat_cmp due.source.name least.source.name)) due least IsWellDue (λ _. is) (λ _. before)

  least_is_due : (l : Listed) (least : Option DueSource) (sources : List SourceAt) → AreRowsKept rows → IfSome least IsWellDue → AllByRecursion IsAddressed sources →
      IfSome (least_due rows waiting now l least sources) IsWellDue
  least_is_due l least [] keys before all = before
  least_is_due l least (source ∷ sources) keys before all =
      least_is_due l (earlier least (due_at rows waiting now l source)) sources keys
      (earlier_due least (due_at rows waiting now l source) before (one_due l source keys all.0)) all.1

  listed_due : (l : Listed) → AreRowsKept rows → IsListed rows l → IfSome (due_of rows waiting now l) (IsDueOf rows)
  listed_due l keys is =
      cond_both (begins_here l.subscription.kind) (due_with l.subscription (least_due rows waiting now l None l.subscription.sources)) None (λ (o : Option Due). IfSome o (IsDueOf rows))
      (λ _. by (least_due rows waiting now l None l.subscription.sources)
      (least_is_due l None l.subscription.sources keys tt (known_addressed rows l.subscription.name l.subscription keys is.known))) (λ _. tt)
    where
      by : (o : Option DueSource) → IfSome o IsWellDue → IfSome (due_with l.subscription o) (IsDueOf rows)
      by None well = tt
      by (Some found) well = record { listed = l; is = is; subscription = refl; source = well.source; wants = well.wants }

  first_is_due : (ls : List Listed) → AreRowsKept rows → AllByRecursion (IsListed rows) ls → IfSome (first_due rows waiting now ls) (IsDueOf rows)
  first_is_due [] keys all = tt
  first_is_due (l ∷ ls) keys all = by (due_of rows waiting now l) (listed_due l keys all.0) (first_is_due ls keys all.1)
    where
      by : (o : Option Due) → IfSome o (IsDueOf rows) → IfSome (first_due rows waiting now ls) (IsDueOf rows) → IfSome (or_next o (first_due rows waiting now ls)) (IsDueOf rows)
      by None here rest = rest
      by (Some due) here rest = here

next_is_due : (rows : Rows) (waiting : List Waiting) (now : ℕ) → AreRowsKept rows → IfSome (next_due rows waiting now) (IsDueOf rows)
next_is_due rows waiting now keys = first_is_due rows waiting now (listed rows) keys (all_listed rows keys)

-- ---- the request for it

-- what holds of the request for whatever is due holds of the next request
pub next_has : (P : Request → Type 0) (rows : Rows) (waiting : List Waiting) (ids : Ids) (now : ℕ) → AreRowsKept rows →
    ((due : Due) → IsDueOf rows due → P (request_for rows host (id_of_value (next_id ids)) due)) → IfSome (next_request rows waiting ids host now) P
next_has P rows waiting ids now keys holds = by (next_due rows waiting now) (next_is_due rows waiting now keys)
  where
    by : (o : Option Due) → IfSome o (IsDueOf rows) → IfSome (option_map (request_for rows host (id_of_value (next_id ids))) o) P
    by None is = tt
    by (Some due) is = holds due is

-- what holds of the body of a request for a listed subscription holds of that for whatever is due
pub due_body : (P : Body → Type 0) (rows : Rows) (due : Due) (is : IsDueOf rows due) →
    P (body_for rows host is.listed.subscription due.source.name due.wants) → P (body_for rows host due.subscription due.source.name due.wants)
due_body P rows due is holds = subst (λ (about : Subscription). P (body_for rows host about due.source.name due.wants)) (sym is.subscription) holds

-- a source may be asked for what a listed subscription wants of it
may_be_asked : (rows : Rows) (s : List ℕ) (l : Listed) → AreRowsKept rows → is_source s ≡ true → IsListed rows l → (wants : Wants) → IsAskedFor rows s (body_for rows host l.subscription s wants)
may_be_asked rows s l keys good is wants = by wants
  where
    lasting : l.subscription.expires ≤ LIMIT
    lasting = (known_said rows l.subscription.name l.subscription is.known).plain.expires.1

    by : (wants : Wants) → IsAskedFor rows s (body_for rows host l.subscription s wants)
    by Subscribes = (wish_is_offered rows s host (Some l.subscription.expires) host_there.0 keys good l is, lasting)
    by (Renews identifier) = lasting
    by (Unsubscribes identifier) = tt

pub due_is_asked : (rows : Rows) (due : Due) → AreRowsKept rows → IsDueOf rows due → IsAskedFor rows due.source.name (body_for rows host due.subscription due.source.name due.wants)
due_is_asked rows due keys is =
    due_body (IsAskedFor rows due.source.name) rows due is (may_be_asked rows due.source.name is.listed keys is.source.name is.is due.wants)

-- the request waits for its answer under names that read back
pub due_waits : (rows : Rows) (id : MessageId) (due : Due) → IsDueOf rows due → IsAsked (waiting_of (request_for rows host id due))
due_waits rows id due is = record {
  subscription = subst (λ (about : Subscription). is_subscription_name about.name ≡ true) (sym is.subscription) (subscription_named is.listed.subscription.name is.is.name);
  source = source_named due.source.name is.source.name;
  identifier = by due.wants is.wants;
}
  where
    by : (wants : Wants) → IsPlainWish wants → IsPlainWish (wants_by (identifier_of wants) (body_for rows host due.subscription due.source.name wants))
    by Subscribes plain = plain
    by (Renews identifier) plain = plain
    by (Unsubscribes identifier) plain = plain
