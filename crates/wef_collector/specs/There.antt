-- Subscriptions that are listed are those that their names lead to.
use Rattle.std.specs.Prelude.{◌≡◌, ℕ, List, true, is_some, Some, if◌then◌else◌}
use Rattle.std.specs.FinMap as map
use Rattle.std.specs.List.{All}
use Rattle.wef_base.specs.Names.{subscription_name}
use Rattle.wef_batch.specs.declared.items.Batch.{Batch}
use Rattle.wef_eventing.specs.declared.subscriptions.Subscription.{Subscription}
use Rattle.wef_keeper.specs.Rows.{Rows, applied}
use Rattle.wef_keeper.specs.declared.keys.Key.{Key}
use Rattle.wef_collector_rows.specs.Answers.{added_rows, ended_rows}
use Rattle.wef_collector_rows.specs.Keys.{subscription_key}
use Rattle.wef_collector_reports.specs.Listing.{listed}
use Rattle.wef_collector_rows.specs.Standing.{standing}
use Rattle.wef_collector.specs.Taken.{heard_changes, taken}
use Rattle.wef_keeper.specs.Kinds.{number_of}
use Rattle.wef_keeper.specs.declared.kinds.RowKind.TheVariants as kinds
use Rattle.wef_collector_reports.specs.declared.listing.Listed.{Listed}
use Rattle.wef_collector_rows.specs.declared.standings.Standing.{Standing}
use Rattle.wef_collector_rows.specs.declared.standings.Standing.TheVariants.{Ended, Live}

-- The key of a subscription whose name reads back as itself.
pub record IsOwnKey (key : Key) : Type 0 where
  pub own : key ≡ subscription_key key.sub
  pub reads_back : subscription_name key.sub ≡ Some key.sub

-- Each row of a subscription stands at its key, and the name there reads back as itself.
abbrev pub HaveOwnKeys : Rows → Type 0
HaveOwnKeys rows = (key : Key) → key.kind ≡ number_of kinds.Subscription → is_some (map.get rows key) ≡ true → IsOwnKey key

-- how a listed subscription stands
abbrev pub standing_as : Listed → Standing
standing_as l = if l.live then Live l.subscription else Ended l.subscription

-- Each subscription that is listed is the one that its name leads to, live or ended as listed.
abbrev pub ListedAreThere : Type 0
ListedAreThere = (rows : Rows) → HaveOwnKeys rows → All (λ (l : Listed). standing rows l.subscription.name ≡ standing_as l) (listed rows)

-- The keys stay so, whatever the collector does: it begins without a row, and a subscription's name is one that reads back.
pub record OwnKeysStay : Type 0 where
  pub start : HaveOwnKeys map.empty
  pub add : (rows : Rows) (s : Subscription) → subscription_name s.name ≡ Some s.name → HaveOwnKeys rows → HaveOwnKeys (added_rows rows s)
  pub end : (rows : Rows) (u : List ℕ) → subscription_name u ≡ Some u → HaveOwnKeys rows → HaveOwnKeys (ended_rows rows u)
  pub take : (rows : Rows) (u s : List ℕ) (channels : List (List ℕ)) (batch : Batch) (now : ℕ) → HaveOwnKeys rows → HaveOwnKeys (taken rows u s channels batch now)
  pub hear : (rows : Rows) (u s : List ℕ) (now : ℕ) → HaveOwnKeys rows → HaveOwnKeys (applied (heard_changes rows u s now) rows)
