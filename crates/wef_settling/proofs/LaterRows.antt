-- Rows of the collector that go on: what it commits while nothing subscribes leaves what stands of subscriptions, and lets neither a
-- bookmark nor the boot number fall.
use Rattle.std.proofs.Common.{◌≡◌, ℕ, ◌+◌, ◌<◌, ◌≤◌, ◌||◌, Bool, false, List, [], ◌∷◌, refl, ap, sym, ◌∙◌, arith}
use Rattle.std.proofs.lemmas.Bool.{cond_both, eqb-true}
use Rattle.std.specs.FinMap as finite
use Rattle.std.specs.List.{AllByRecursion, filter, filter_map}
use Rattle.std.specs.Option.{option_map}
use Rattle.std.specs.Prelude.{Option, Some, None, unwrap_or}
use Rattle.wef_base.specs.Names.{same}
use Rattle.wef_batch.specs.declared.items.Batch.{Batch}
use Rattle.wef_collector.specs.Boots.{boot_of}
use Rattle.wef_collector.specs.Responses.{lease_changes}
use Rattle.wef_collector.specs.Taken.{heard_changes, is_later, put, taken}
use Rattle.wef_collector.specs.declared.responses.Leasing.{Leasing}
use Rattle.wef_collector.specs.declared.responses.Leasing.TheVariants.{Leases, Clears, Stays}
use Rattle.wef_collector_leases.specs.Changes.{delete_kept, delete_lease, delete_named, deletes, end_lease, is_lease, put_lease, put_over, release_changes}
use Rattle.wef_collector_leases.specs.Leases.{lease_at, lease_rows}
use Rattle.wef_collector_leases.specs.declared.leases.Lease as leases
use Rattle.wef_collector_reports.specs.Listing.{listed, listed_of}
use Rattle.wef_collector_rows.specs.Bookmarks.{bookmark_at}
use Rattle.wef_collector_rows.specs.Keys.{bookmark_key, boot_key, heard_key, held_key, lease_key, loose_key, mark_key, subscription_key}
use Rattle.wef_collector_rows.specs.Standing.{standing}
use Rattle.wef_keeper.proofs.Sections.{same_under}
use Rattle.wef_keeper.specs.Kinds.{number_of}
use Rattle.wef_keeper.specs.Laws.{get-unnamed}
use Rattle.wef_keeper.specs.Rows.{Rows, applied, is_named, key_cmp_total, key_of, rows_after}
use Rattle.wef_keeper.specs.Sections.{is_under}
use Rattle.wef_keeper.specs.declared.keys.Cell.{Cell}
use Rattle.wef_keeper.specs.declared.keys.Change.{Change}
use Rattle.wef_keeper.specs.declared.keys.Change.TheVariants.{Delete}
use Rattle.wef_keeper.specs.declared.keys.Depth.TheVariants.{Kind}
use Rattle.wef_keeper.specs.declared.keys.Key.{Key}
use Rattle.wef_keeper.specs.declared.keys.Row.{Row}
use Rattle.wef_keeper.specs.declared.kinds.RowKind.TheVariants.{CollectorBoot, Lease, Loose}
use Rattle.wef_pairs.proofs.Spared.{IsMissed, spared}
use Rattle.wef_pairs.proofs.Takes.{kind_apart, standing_by_taking}
use Rattle.wef_safety.proofs.Aside.{AreAside, IsAside, booted_aside, changed_aside, grows_aside, listed_aside, standing_aside}
use Rattle.wef_safety.proofs.RowMoves.{taking_grows}
use Rattle.wef_safety.proofs.Sent.{all_map}

pub record AreLaterRows (old new : Rows) : Type 0 where
  pub bookmarks : (u s c : List ℕ) → bookmark_at old u s c ≤ bookmark_at new u s c
  pub standings : (u : List ℕ) → standing new u ≡ standing old u
  pub listed : listed new ≡ listed old
  pub boot : boot_of old ≤ boot_of new

pub same_later : (rows : Rows) → AreLaterRows rows rows
same_later rows = record { bookmarks = λ u s c. omega arith; standings = λ u. refl; listed = refl; boot = omega arith }

-- where the rows of subscriptions and pairs are as they were
aside_later : (after before : Rows) → AreAside after before → boot_of before ≤ boot_of after → AreLaterRows before after
aside_later after before aside boot = record {
  bookmarks = (grows_aside after before aside).bookmarks;
  standings = λ u. standing_aside after before u aside;
  listed = listed_aside after before aside;
  boot = boot;
}

boot_stays : (after before : Rows) → finite.get after boot_key ≡ finite.get before boot_key → boot_of before ≤ boot_of after
boot_stays after before same =
    let boot : boot_of after ≡ boot_of before = ap (λ (o : Option Cell). unwrap_or (option_map (λ (cell : Cell). cell.value) o) 0) same in
    omega (arith, boot)

-- ---- a start

boot_put : (rows : Rows) (cell : Cell) → boot_of (finite.insert rows boot_key cell) ≡ cell.value
boot_put rows cell = ap (λ (o : Option Cell). unwrap_or (option_map (λ (k : Cell). k.value) o) 0) (finite.get-insert key_cmp_total rows boot_key cell boot_key)

pub booting_later : (rows : Rows) → AreLaterRows rows (applied (put boot_key (boot_of rows + 1) [] ∷ []) rows)
booting_later rows =
    let more : boot_of (applied (put boot_key (boot_of rows + 1) [] ∷ []) rows) ≡ boot_of rows + 1 = boot_put rows (record { value = boot_of rows + 1; body = [] }) in
    aside_later (applied (put boot_key (boot_of rows + 1) [] ∷ []) rows) rows (booted_aside rows (boot_of rows + 1)) (omega (arith, more))

-- ---- leases, and when sources were heard

-- A change is of a row of a lease, or of when a source was heard.
pub record IsBeside (change : Change) : Type 0 where
  pub above : number_of Loose < (key_of change).kind
  pub below : (key_of change).kind < number_of CollectorBoot

abbrev pub AreBeside : List Change → Type 0
AreBeside changes = AllByRecursion IsBeside changes

unlike : (m n : ℕ) → m < n → m ≡ n → ⊥
unlike m n less e = omega arith

boot_unnamed : (changes : List Change) → AreBeside changes → is_named changes boot_key ≡ false
boot_unnamed [] all = refl
boot_unnamed (change ∷ changes) all =
    ap (λ (t : Bool). t || is_named changes boot_key) (kind_apart (key_of change) boot_key (unlike (key_of change).kind (number_of CollectorBoot) all.0.below)) ∙ boot_unnamed changes all.1

pub beside_later : (changes : List Change) (rows : Rows) → AreBeside changes → AreLaterRows rows (applied changes rows)
beside_later changes rows all =
    aside_later (applied changes rows) rows (changed_aside changes rows (all_map IsBeside IsAside (λ change is. is.above) changes all))
    (boot_stays (applied changes rows) rows (get-unnamed changes rows boot_key (boot_unnamed changes all)))

heard_beside : (rows : Rows) (u s : List ℕ) (now : ℕ) → AreBeside (heard_changes rows u s now)
heard_beside rows u s now =
    cond_both (is_later now (finite.get rows (heard_key u s))) (put (heard_key u s) now [] ∷ []) [] AreBeside (λ later. (record { above = omega arith; below = omega arith }, tt)) (λ known. tt)

pub hearing_later : (rows : Rows) (u s : List ℕ) (now : ℕ) → AreLaterRows rows (applied (heard_changes rows u s now) rows)
hearing_later rows u s now = beside_later (heard_changes rows u s now) rows (heard_beside rows u s now)

put_beside : (u s : List ℕ) (lease : leases.Lease) → IsBeside (put_lease u s lease)
put_beside u s lease = record { above = omega arith; below = omega arith }

delete_beside : (u s : List ℕ) → IsBeside (delete_lease u s)
delete_beside u s = record { above = omega arith; below = omega arith }

over_beside : (u s : List ℕ) (lease : leases.Lease) (kept : Option leases.Lease) → AreBeside (put_over u s lease kept)
over_beside u s lease None = (put_beside u s lease, tt)
over_beside u s lease (Some kept) = cond_both (is_lease lease kept) [] (put_lease u s lease ∷ []) AreBeside (λ same. tt) (λ new. (put_beside u s lease, tt))

kept_beside : (u s : List ℕ) (kept : Option leases.Lease) → AreBeside (delete_kept u s kept)
kept_beside u s None = tt
kept_beside u s (Some kept) = (delete_beside u s, tt)

named_beside : (u s identifier : List ℕ) (kept : Option leases.Lease) → AreBeside (delete_named u s identifier kept)
named_beside u s identifier None = tt
named_beside u s identifier (Some kept) = cond_both (same kept.identifier identifier) (delete_lease u s ∷ []) [] AreBeside (λ own. (delete_beside u s, tt)) (λ other. tt)

leasing_beside : (rows : Rows) (u s : List ℕ) (leasing : Leasing) → AreBeside (lease_changes rows u s leasing)
leasing_beside rows u s (Leases lease) = over_beside u s lease (lease_at rows u s)
leasing_beside rows u s Clears = kept_beside u s (lease_at rows u s)
leasing_beside rows u s Stays = tt

pub leasing_later : (rows : Rows) (u s : List ℕ) (leasing : Leasing) → AreLaterRows rows (applied (lease_changes rows u s leasing) rows)
leasing_later rows u s leasing = beside_later (lease_changes rows u s leasing) rows (leasing_beside rows u s leasing)

pub noting_later : (rows : Rows) (u s identifier : List ℕ) → AreLaterRows rows (applied (end_lease rows u s identifier) rows)
noting_later rows u s identifier = beside_later (end_lease rows u s identifier) rows (named_beside u s identifier (lease_at rows u s))

-- ---- all leases

-- a row is that of a lease
abbrev pub IsLeaseRow : Row → Type 0
IsLeaseRow row = row.key.kind ≡ number_of Lease

lease_kept : (found : List Row) → AllByRecursion IsLeaseRow (filter (λ row. is_under Kind (lease_key [] []) row.key) found)
lease_kept [] = tt
lease_kept (row ∷ found) =
    let rest = filter (λ (r : Row). is_under Kind (lease_key [] []) r.key) found in
    cond_both (is_under Kind (lease_key [] []) row.key) (row ∷ rest) rest (AllByRecursion IsLeaseRow) (λ own. (sym (eqb-true (number_of Lease) row.key.kind own), lease_kept found)) (λ other. lease_kept found)

pub leases_are_rows : (rows : Rows) → AllByRecursion IsLeaseRow (lease_rows rows)
leases_are_rows rows = lease_kept (rows_after (lease_key [] []) rows)

-- what holds of each deletion of such a row holds of all
pub all_released : (P : Change → Type 0) → ((key : Key) → key.kind ≡ number_of Lease → P (Delete key)) → (found : List Row) → AllByRecursion IsLeaseRow found → AllByRecursion P (deletes found)
all_released P gives [] all = tt
all_released P gives (row ∷ found) all = (gives row.key all.0, all_released P gives found all.1)

row_beside : (key : Key) → key.kind ≡ number_of Lease → IsBeside (Delete key)
row_beside key kind = record { above = omega (arith, kind); below = omega (arith, kind) }

pub releasing_later : (rows : Rows) → AreLaterRows rows (applied (release_changes rows) rows)
releasing_later rows = beside_later (release_changes rows) rows (all_released IsBeside row_beside (lease_rows rows) (leases_are_rows rows))

-- ---- batches

-- a key is of no row that a batch changes
spared_by_taking : (rows : Rows) (u s : List ℕ) (channels : List (List ℕ)) (batch : Batch) (now : ℕ) (q : Key) → (2 ≤ q.kind → q.kind ≤ 6 → ⊥) →
    finite.get (taken rows u s channels batch now) q ≡ finite.get rows q
spared_by_taking rows u s channels batch now q apart = spared rows u s channels batch now q (λ d here. missed d) (kind_apart (heard_key u s) q (other 6 (omega arith) (omega arith)))
  where
    other : (kind : ℕ) → 2 ≤ kind → kind ≤ 6 → kind ≡ q.kind → ⊥
    other kind least greatest e = apart (omega (arith, e)) (omega (arith, e))

    missed : (d : List ℕ) → IsMissed u s d q
    missed d = record {
      bookmark = kind_apart (bookmark_key u s d) q (other 2 (omega arith) (omega arith));
      held = λ n. kind_apart (held_key u s d n) q (other 3 (omega arith) (omega arith));
      marks = λ n. kind_apart (mark_key u s d n) q (other 4 (omega arith) (omega arith));
      loose = λ n. kind_apart (loose_key u s d n) q (other 5 (omega arith) (omega arith));
    }

pub taking_later : (rows : Rows) (u s : List ℕ) (channels : List (List ℕ)) (batch : Batch) (now : ℕ) → AreLaterRows rows (taken rows u s channels batch now)
taking_later rows u s channels batch now = record {
  bookmarks = (taking_grows rows u s channels batch now).bookmarks;
  standings = λ v. standing_by_taking rows u s channels batch now v;
  listed = ap (filter_map listed_of) (same_under Kind (subscription_key []) (taken rows u s channels batch now) rows (λ q is.
      let kind = eqb-true 1 q.kind is in
      spared_by_taking rows u s channels batch now q (λ least greatest. omega (arith, kind))));
  boot = boot_stays (taken rows u s channels batch now) rows (spared_by_taking rows u s channels batch now boot_key (λ least greatest. omega arith));
}
