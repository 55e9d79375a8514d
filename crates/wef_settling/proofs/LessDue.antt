-- A lease that was just put isn't due: so less is due behind it.
use Rattle.std.proofs.Common.{◌≡◌, ℕ, ◌+◌, ◌/◌, ◌<◌, ◌≤◌, ◌&&◌, Bool, true, false, cond, List, [], ◌∷◌, length, nat_le, inl, inr, refl, ap, sym, ◌∙◌, subst, arith}
use Rattle.std.proofs.lemmas.Bool.{and_parts}
use Rattle.std.proofs.lemmas.Bool.Decides.{nat_tests}
use Rattle.std.proofs.lemmas.Option.{none-some, same_Some}
use Rattle.std.specs.List.{AllByRecursion, filter, flat_map}
use Rattle.std.specs.Prelude.{Option, Some, None, is_some}
use Rattle.wef_base.specs.Names.{same}
use Rattle.wef_collector.proofs.Hits.{one_name}
use Rattle.wef_collector.specs.There.{standing_as}
use Rattle.wef_collector.specs.declared.responses.Leasing.TheVariants.{Leases}
use Rattle.wef_collector_leases.specs.Changes.{replace_lease}
use Rattle.wef_collector_leases.specs.Due.{due_for, due_leased}
use Rattle.wef_collector_leases.specs.Leases.{lease_at}
use Rattle.wef_collector_leases.specs.Next.{due_at, wanted_at}
use Rattle.wef_collector_leases.specs.Waiting.{is_waiting}
use Rattle.wef_collector_leases.specs.declared.leases.Lease.{Lease}
use Rattle.wef_collector_leases.specs.declared.leases.Wants.{Wants}
use Rattle.wef_collector_leases.specs.declared.leases.Wants.TheVariants.{Subscribes, Renews, Unsubscribes}
use Rattle.wef_collector_leases.specs.declared.next.DueSource.{DueSource}
use Rattle.wef_collector_leases.specs.declared.waiting.Waiting.{Waiting}
use Rattle.wef_collector_reports.specs.declared.listing.Listed.{Listed}
use Rattle.wef_collector_rows.specs.Standing.{standing}
use Rattle.wef_collector_rows.specs.declared.standings.Standing.TheVariants as stands
use Rattle.wef_eventing.specs.declared.subscriptions.SourceAt.{SourceAt}
use Rattle.wef_eventing.specs.declared.subscriptions.Subscription.{Subscription}
use Rattle.wef_keeper.specs.Rows.{Rows, applied}
use Rattle.wef_pairs.specs.Pairs.{about_of}
use Rattle.wef_safety.proofs.Offerable.{known_said}
use Rattle.wef_safety.proofs.RowMoves.{AreRowsKept}
use Rattle.wef_safety.proofs.Sent.{all_map}
use Rattle.wef_machine.specs.Measures.{Pair, due_pairs, is_pair_due, pairs, pairs_of}
use Rattle.wef_settling.specs.Settles.{IsAmong}
use Rattle.wef_settling.proofs.Counting.{Implies, counts_fall}
use Rattle.wef_settling.proofs.DuePairs.{PairStandsSo, all_pairs}
use Rattle.wef_settling.proofs.LaterRows.{leasing_later}
use Rattle.wef_settling.proofs.LeasesPut.{lease_put, lease_stays}

-- ---- times

half : (n : ℕ) → 1 ≤ n → n / 2 < n
half n some = omega arith

past : (expiry now expires : ℕ) → 1 ≤ expires → expiry ≡ now + expires → nat_le expiry now ≡ false
past expiry now expires some is = grind (arith, nat_tests, is, some)

past_half : (expiry now expires part : ℕ) → part < expires → expiry ≡ now + expires → nat_le expiry (now + part) ≡ false
past_half expiry now expires part less is = grind (arith, nat_tests, is, less)

-- a lease that stands so long isn't due
pub not_due : (now expires : ℕ) (lease : Lease) → 1 ≤ expires → lease.expiry ≡ now + expires → due_leased now expires lease ≡ None
not_due now expires lease some is =
    λ i. cond (past lease.expiry now expires some is i) (Some Subscribes) (cond (past_half lease.expiry now expires (expires / 2) (half expires some) is i) (Some (Renews lease.identifier)) None)

-- ---- what is due

-- a wish for which a lease is put
abbrev pub IsLeasing : Wants → Type 0
IsLeasing Subscribes = Unit {0}
IsLeasing (Renews identifier) = Unit {0}
IsLeasing (Unsubscribes identifier) = ⊥

live_wish : (live : Bool) (now expires : ℕ) (lease : Option Lease) (wants : Wants) → due_for live now expires lease ≡ Some wants → IsLeasing wants → live ≡ true
live_wish true now expires lease wants is leasing = refl
live_wish false now expires None wants is leasing = absurd (none-some wants is)
live_wish false now expires (Some lease) wants is leasing = absurd (subst IsLeasing (sym (same_Some (Unsubscribes lease.identifier) wants is)) leasing)

-- What is due at a source is no request for which one waits, and is what the lease wants.
pub record IsWish (rows : Rows) (waiting : List Waiting) (now : ℕ) (l : Listed) (source : SourceAt) (wants : Wants) : Type 0 where
  pub free : is_waiting waiting l.subscription.name source.name ≡ false
  pub is : due_for l.live now l.subscription.expires (lease_at rows l.subscription.name source.name) ≡ Some wants

pub wish_due : (rows : Rows) (waiting : List Waiting) (now : ℕ) (l : Listed) (source : SourceAt) (wants : Wants) →
    due_at rows waiting now l source ≡ Some (record { source = source; wants = wants }) → IsWish rows waiting now l source wants
wish_due rows waiting now l source wants is = by_test (is_waiting waiting l.subscription.name source.name) refl is
  where
    by_wish : (found : Option Wants) → wanted_at source found ≡ Some (record { source = source; wants = wants }) → found ≡ Some wants
    by_wish None e = absurd (none-some _ e)
    by_wish (Some other) e = ap (λ (x : DueSource). Some x.wants) (same_Some (record { source = source; wants = other }) (record { source = source; wants = wants }) e)

    by_test : (t : Bool) → is_waiting waiting l.subscription.name source.name ≡ t →
        cond t None (wanted_at source (due_for l.live now l.subscription.expires (lease_at rows l.subscription.name source.name))) ≡ Some (record { source = source; wants = wants }) →
        IsWish rows waiting now l source wants
    by_test true waits e = absurd (none-some _ e)
    by_test false free e = record { free = free; is = by_wish (due_for l.live now l.subscription.expires (lease_at rows l.subscription.name source.name)) e }

-- what stands live is listed so
live_so : (l : Listed) (about : Subscription) → standing_as l ≡ stands.Live about → (l.live ≡ true) × (l.subscription ≡ about)
live_so l about is = by l.live refl is
  where
    by : (live : Bool) → l.live ≡ live → cond live (stands.Live l.subscription) (stands.Ended l.subscription) ≡ stands.Live about → (l.live ≡ true) × (l.subscription ≡ about)
    by true own e = (own, same_Some l.subscription about (ap about_of e))
    by false own e = cc

pick : {X : Type 0} (P : X → Type 0) (xs : List X) (x : X) → AllByRecursion P xs → IsAmong x xs → P x
pick P [] x all among = absurd among
pick P (y ∷ xs) x all (inl is) = subst P is all.0
pick P (y ∷ xs) x all (inr among) = pick P xs x all.1 among

none_there : (t : Bool) (source : SourceAt) → is_some (cond t None (wanted_at source None)) ≡ false
none_there true source = refl
none_there false source = refl

-- ---- a lease that was put

module _ (rows : Rows) (waiting : List Waiting) (now : ℕ) (keys : AreRowsKept rows) (l : Listed) (source : SourceAt) (lease : Lease) where
  -- it is due no longer
  its_own : 1 ≤ l.subscription.expires → lease.expiry ≡ now + l.subscription.expires → l.live ≡ true → PairStandsSo rows (l, source) → (pair : Pair) → PairStandsSo rows pair →
      pair.0.subscription.name ≡ l.subscription.name → pair.1.name ≡ source.name →
      is_pair_due (applied (replace_lease rows l.subscription.name source.name lease) rows) waiting now pair ≡ false
  its_own some lasts live own pair stands_so name at =
      let so = live_so pair.0 l.subscription
      (sym stands_so ∙ ap (standing rows) name ∙ own ∙ ap (λ (t : Bool). cond t (stands.Live l.subscription) (stands.Ended l.subscription)) live) in
      let left : lease_at (applied (replace_lease rows l.subscription.name source.name lease) rows) pair.0.subscription.name pair.1.name ≡ Some lease =
      ap (λ (x : List ℕ × List ℕ). lease_at (applied (replace_lease rows l.subscription.name source.name lease) rows) x.0 x.1) (λ i. (name i, at i))
      ∙ lease_put rows l.subscription.name source.name lease in
      (λ i. is_some (cond (is_waiting waiting pair.0.subscription.name pair.1.name) None (wanted_at pair.1 (due_for (so.0 i) now (so.1 i).expires (left i)))))
      ∙ ap (λ (o : Option Wants). is_some (cond (is_waiting waiting pair.0.subscription.name pair.1.name) None (wanted_at pair.1 o))) (not_due now l.subscription.expires lease some lasts)
      ∙ none_there (is_waiting waiting pair.0.subscription.name pair.1.name) pair.1

  implied : 1 ≤ l.subscription.expires → lease.expiry ≡ now + l.subscription.expires → l.live ≡ true → PairStandsSo rows (l, source) → (pair : Pair) → PairStandsSo rows pair →
      Implies (is_pair_due (applied (replace_lease rows l.subscription.name source.name lease) rows) waiting now pair) (is_pair_due rows waiting now pair)
  implied some lasts live own pair stands_so due = by_test (same l.subscription.name pair.0.subscription.name && same source.name pair.1.name) refl
    where
      by_test : (t : Bool) → (same l.subscription.name pair.0.subscription.name && same source.name pair.1.name) ≡ t → is_pair_due rows waiting now pair ≡ true
      by_test true is =
          let both = and_parts (same l.subscription.name pair.0.subscription.name) (same source.name pair.1.name) is in
          let never = its_own some lasts live own pair stands_so (sym (one_name l.subscription.name pair.0.subscription.name both.0)) (sym (one_name source.name pair.1.name both.1)) in
          let wrong : true ≡ false = sym due ∙ never in
          cc
      by_test false other =
          let stays = lease_stays rows l.subscription.name source.name pair.0.subscription.name pair.1.name lease other in
          ap (λ (o : Option Lease). is_some (cond (is_waiting waiting pair.0.subscription.name pair.1.name) None (wanted_at pair.1 (due_for pair.0.live now pair.0.subscription.expires o))))
          (sym stays) ∙ due

  -- so fewer pairs are due
  pub fewer_due : (wants : Wants) → IsAmong (l, source) (pairs rows) → due_at rows waiting now l source ≡ Some (record { source = source; wants = wants }) → IsLeasing wants →
      lease.expiry ≡ now + l.subscription.expires →
      due_pairs (applied (replace_lease rows l.subscription.name source.name lease) rows) waiting now < due_pairs rows waiting now
  fewer_due wants among due leasing lasts =
      let wish = wish_due rows waiting now l source wants due in
      let live = live_wish l.live now l.subscription.expires (lease_at rows l.subscription.name source.name) wants wish.is leasing in
      let all = all_pairs rows keys in
      let own = pick (PairStandsSo rows) (pairs rows) (l, source) all among in
      let known = ap about_of own ∙ ap (λ (t : Bool). about_of (cond t (stands.Live l.subscription) (stands.Ended l.subscription))) live in
      let some = (known_said rows l.subscription.name l.subscription known).plain.expires.0 in
      let less = is_pair_due (applied (replace_lease rows l.subscription.name source.name lease) rows) waiting now in
      let fell : length (filter less (pairs rows)) < due_pairs rows waiting now =
      counts_fall less (is_pair_due rows waiting now) (pairs rows) (l, source)
      (all_map (PairStandsSo rows) (λ pair. Implies (less pair) (is_pair_due rows waiting now pair)) (implied some lasts live own) (pairs rows) all) among (ap is_some due)
      (its_own some lasts live own (l, source) own refl refl) in
      subst (λ (ps : List Pair). length (filter less ps) < due_pairs rows waiting now)
      (sym (ap (flat_map pairs_of) (leasing_later rows l.subscription.name source.name (Leases lease)).listed)) fell
