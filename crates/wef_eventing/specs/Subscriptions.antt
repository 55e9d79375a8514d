-- The subscriptions that ask for all events of some channels.
use Rattle.std.specs.Prelude.{◌≡◌, ℕ, ◌<◌, ◌≤◌, List, [], length, map}
use Rattle.wef_query.specs.Queries.{all_events_of}
use Rattle.wef_query.specs.Items.{QueryItem}
use Rattle.wef_eventing.specs.declared.subscriptions.Subscription.{Subscription}
use Rattle.wef_eventing.specs.declared.subscriptions.SubKind.TheVariants.{BySource}

-- the subscription of this name to all events of the channels, begun by the sources, in version 1 and for an hour
abbrev pub all_events : List ℕ → List (List ℕ) → ℕ → ℕ → ℕ → Subscription
all_events name channels max_items max_bytes heartbeat = record {
  name = name;
  kind = BySource;
  query = record { items = all_events_of channels };
  max_items = max_items;
  max_bytes = max_bytes;
  heartbeat = heartbeat;
  expires = 3600000;
  sources = [];
  version = 1;
}

-- what a subscription's limits may be
abbrev pub AreLimits : ℕ → ℕ → ℕ → Type 0
AreLimits max_items max_bytes heartbeat =
    ((1 ≤ max_items) × (max_items ≤ 10000)) × ((8192 ≤ max_bytes) × (max_bytes ≤ 4194304)) × ((1 ≤ heartbeat) × (heartbeat ≤ 86400000))

-- the channels of a subscription's queries, in order
abbrev pub channels_named : Subscription → List (List ℕ)
channels_named s = map (λ (item : QueryItem). item.channel) s.query.items

-- It asks for all events of one channel or more, within the limits, and is in all else as such a subscription is made.
pub record IsAllEvents (s : Subscription) : Type 0 where
  pub form : s ≡ all_events s.name (channels_named s) s.max_items s.max_bytes s.heartbeat
  pub some_channel : 0 < length (channels_named s)
  pub limits : AreLimits s.max_items s.max_bytes s.heartbeat
