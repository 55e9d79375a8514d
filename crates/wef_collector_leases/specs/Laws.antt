-- Which source is the next that is to be asked for something, said without how it is found; and what lies in rows after changes of
-- leases.
use Rattle.std.specs.Prelude.{◌≡◌, ℕ, ◌<◌, nat_eq, Bool, true, false, ◌⊎◌, List, [], ◌∷◌, length, Option, Some, None, if◌then◌else◌}
use Rattle.std.specs.Cmp.Lexicographic.{slice_cmp}
use Rattle.std.specs.List.{AllByRecursion}
use Rattle.std.specs.FinMap as map
use Rattle.std.specs.Ordering.{eq_by_cmp, nat_cmp, is_lt}
use Rattle.wef_base.specs.Names.{same}
use Rattle.wef_eventing.specs.declared.subscriptions.SourceAt.{SourceAt}
use Rattle.wef_keeper.specs.Kinds.{number_of}
use Rattle.wef_keeper.specs.Rows.{Rows, applied, key_cmp}
use Rattle.wef_keeper.specs.declared.keys.Key.{Key}
use Rattle.wef_keeper.specs.declared.kinds.RowKind.TheVariants as kinds
use Rattle.wef_collector_rows.specs.Keys.{lease_key}
use Rattle.wef_collector_reports.specs.Listing.{listed}
use Rattle.wef_collector_reports.specs.declared.listing.Listed.{Listed}
use Rattle.wef_collector_leases.specs.Changes.{clear_lease, end_lease, release_changes, replace_lease}
use Rattle.wef_collector_leases.specs.Due.{due_for}
use Rattle.wef_collector_leases.specs.Leases.{lease_at}
use Rattle.wef_collector_leases.specs.Next.{begins_here, next_due}
use Rattle.wef_collector_leases.specs.Waiting.{is_waiting}
use Rattle.wef_collector_leases.specs.declared.leases.Lease.{Lease}
use Rattle.wef_collector_leases.specs.declared.leases.Wants.{Wants}
use Rattle.wef_collector_leases.specs.declared.next.Due.{Due}
use Rattle.wef_collector_leases.specs.declared.waiting.Waiting.{Waiting}

-- what a subscription wants of a source
abbrev pub wanted : Rows → ℕ → Listed → SourceAt → Option Wants
wanted rows now l source = due_for l.live now l.subscription.expires (lease_at rows l.subscription.name source.name)

-- a request waits for the pair, or nothing is due
abbrev pub IsIdle : Rows → List Waiting → ℕ → Listed → SourceAt → Type 0
IsIdle rows waiting now l source = is_waiting waiting l.subscription.name source.name ≡ false → wanted rows now l source ≡ None

-- none waits, and this is due
abbrev pub IsDue : Rows → List Waiting → ℕ → Listed → SourceAt → Wants → Type 0
IsDue rows waiting now l source wants = (is_waiting waiting l.subscription.name source.name ≡ false) × (wanted rows now l source ≡ Some wants)

-- nothing is due for a subscription, or the sources begin it
abbrev pub IsAllIdle : Rows → List Waiting → ℕ → Listed → Type 0
IsAllIdle rows waiting now l = begins_here l.subscription.kind ≡ true → AllByRecursion (IsIdle rows waiting now l) l.subscription.sources

abbrev pub Has : SourceAt → List SourceAt → Type 0
Has source [] = ⊥
Has source (other ∷ sources) = (source ≡ other) ⊎ Has source sources

-- where a source's name comes before that of the first one, nothing is due there
abbrev pub IsNoEarlier : Rows → List Waiting → ℕ → Listed → SourceAt → SourceAt → Type 0
IsNoEarlier rows waiting now l first source = is_lt (slice_cmp nat_cmp source.name first.name) ≡ true → IsIdle rows waiting now l source

-- It is the first source of a subscription, by its name, at which something is due.
pub record IsFirstOf (rows : Rows) (waiting : List Waiting) (now : ℕ) (l : Listed) (due : Due) : Type 0 where
  pub begins : begins_here l.subscription.kind ≡ true
  pub subscription : due.subscription ≡ l.subscription
  pub has : Has due.source l.subscription.sources
  pub is_due : IsDue rows waiting now l due.source due.wants
  pub first : AllByRecursion (IsNoEarlier rows waiting now l due.source) l.subscription.sources

-- of the first subscription for which something is due; and there is none where nothing is due
abbrev pub IsNextOf : Rows → List Waiting → ℕ → List Listed → Option Due → Type 0
IsNextOf rows waiting now [] None = Unit {0}
IsNextOf rows waiting now [] (Some due) = ⊥
IsNextOf rows waiting now (l ∷ ls) None = IsAllIdle rows waiting now l × IsNextOf rows waiting now ls None
IsNextOf rows waiting now (l ∷ ls) (Some due) = IsFirstOf rows waiting now l due ⊎ (IsAllIdle rows waiting now l × IsNextOf rows waiting now ls (Some due))

-- The next is the first by the names of the subscription and then of the source.
abbrev pub NextIsFirst : Type 0
NextIsFirst = (rows : Rows) (waiting : List Waiting) (now : ℕ) → IsNextOf rows waiting now (listed rows) (next_due rows waiting now)

-- ---- what lies in rows

-- no lease where it is of the session that is named so
abbrev pub unless_named : List ℕ → Option Lease → Option Lease
unless_named identifier None = None
unless_named identifier (Some kept) = if same kept.identifier identifier then None else Some kept

-- whether a key is that of the lease of a subscription and a source
abbrev pub is_its_key : List ℕ → List ℕ → Key → Bool
is_its_key u s key = eq_by_cmp key_cmp (lease_key u s) key

abbrev pub Stays : Rows → Rows → Key → Type 0
Stays before after key = map.get after key ≡ map.get before key

-- A lease that is put is the one that is kept, one that ends isn't kept, and each other row stays. Where all end, none of a name is
-- kept, and each row of another kind stays.
pub record LeasesAreChanged : Type 0 where
  pub replaced : (rows : Rows) (u s : List ℕ) (lease : Lease) → lease_at (applied (replace_lease rows u s lease) rows) u s ≡ Some lease
  pub cleared : (rows : Rows) (u s : List ℕ) → lease_at (applied (clear_lease rows u s) rows) u s ≡ None
  pub ended : (rows : Rows) (u s identifier : List ℕ) → lease_at (applied (end_lease rows u s identifier) rows) u s ≡ unless_named identifier (lease_at rows u s)
  pub others_replaced : (rows : Rows) (u s : List ℕ) (lease : Lease) (key : Key) → is_its_key u s key ≡ false → Stays rows (applied (replace_lease rows u s lease) rows) key
  pub others_cleared : (rows : Rows) (u s : List ℕ) (key : Key) → is_its_key u s key ≡ false → Stays rows (applied (clear_lease rows u s) rows) key
  pub others_ended : (rows : Rows) (u s identifier : List ℕ) (key : Key) → is_its_key u s key ≡ false → Stays rows (applied (end_lease rows u s identifier) rows) key
  pub released : (rows : Rows) (u s : List ℕ) → 0 < length u → lease_at (applied (release_changes rows) rows) u s ≡ None
  pub others_released : (rows : Rows) (key : Key) → nat_eq (number_of kinds.Lease) key.kind ≡ false → Stays rows (applied (release_changes rows) rows) key
