-- A subscription that is made for all events is one.
use Rattle.std.proofs.Common.{◌≡◌, ℕ, ◌<◌, List, [], ◌∷◌, length, map, refl, ap, sym, subst}
use Rattle.wef_query.specs.Items.{QueryItem}
use Rattle.wef_query.specs.declared.QueryList.{QueryList}
use Rattle.wef_eventing.specs.declared.subscriptions.SourceAt.{SourceAt}
use Rattle.wef_eventing.specs.declared.subscriptions.SubKind.TheVariants.{BySource}
use Rattle.wef_query.specs.Queries.{all_events_of}
use Rattle.wef_eventing.specs.Subscriptions.{AreLimits, IsAllEvents, all_events}

named : (channels : List (List ℕ)) → map (λ (item : QueryItem). item.channel) (all_events_of channels) ≡ channels
named [] = refl
named (c ∷ cs) = ap (λ (rest : List (List ℕ)). c ∷ rest) (named cs)

pub made_is_one : (name : List ℕ) (channels : List (List ℕ)) (max_items max_bytes heartbeat : ℕ) → 0 < length channels → AreLimits max_items max_bytes heartbeat
    → IsAllEvents (all_events name channels max_items max_bytes heartbeat)
made_is_one name channels max_items max_bytes heartbeat some limits = record {
  form = ap (λ (cs : List (List ℕ)). all_events name cs max_items max_bytes heartbeat) (sym (named channels));
  some_channel = subst (λ (cs : List (List ℕ)). 0 < length cs) (sym (named channels)) some;
  limits = limits;
}

-- and so is one of these parts
pub parts_are_one : (name : List ℕ) (channels : List (List ℕ)) (max_items max_bytes heartbeat : ℕ) (query : QueryList) (sources : List SourceAt) → query.items ≡ all_events_of channels → sources ≡ []
    → 0 < length channels → AreLimits max_items max_bytes heartbeat
    → IsAllEvents (record { name = name; kind = BySource; query = query; max_items = max_items; max_bytes = max_bytes; heartbeat = heartbeat; expires = 3600000; sources = sources; version = 1 })
parts_are_one name channels max_items max_bytes heartbeat query sources q s some limits =
    subst IsAllEvents (λ i. record { name = name; kind = BySource; query = record { items = sym q i }; max_items = max_items; max_bytes = max_bytes; heartbeat = heartbeat; expires = 3600000; sources = sym s i; version = 1 })
    (made_is_one name channels max_items max_bytes heartbeat some limits)
